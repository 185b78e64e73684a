-- Euclid's algorithm, step by step, and the greatest common divisor of a list.
use Rattle.std.proofs.Common.{◌≡◌, ℕ, suc, zero, ◌+◌, ◌*◌, ◌-◌, ◌/◌, ◌%◌, ◌<◌, ◌≤◌, ℤ, pos, List, [], ◌∷◌, length, drop, get_or, unsigned_abs, arith, ap, sym, refl, subst, drop-cons, add-one, drop_of_length-le}
use Rattle.std.proofs.lemmas.Nat.Gcd.{dvd_refl, dvd-zero, dvd_trans, le_of_dvd, dvd_of_mod-eq-zero, mod-eq-zero_of_dvd}
use Rattle.std.proofs.lemmas.Nat.{div-add-mod'}
use native.Mathlib.Nat.{dvd-mod_iff, dvd-sub, dvd-mul_right_of_dvd, one-mul, one-dvd, eq-one_of_dvd-one, pos_of_dvd_of_pos}
use Prim.Native.Nat.{◌∣◌}
use Rattle.dual_simplex.specs.Equation.{mixed, mixed_all}
use Rattle.std.proofs.Common.{Bool, true, false, cond, ◌&&◌, nat_eq, ◌⊎◌, inl, inr}
use Rattle.dual_simplex.specs.Division.{divides_all, greatest_up_to, common_divisor, DividesAll}
use Rattle.dual_simplex.specs.Multiples.{IsGreatestCommon, SharesWith}

pub greatest_from_zero : (a b : ℕ) → b ≡ 0 → IsGreatestCommon a b a
greatest_from_zero a b e = record {
  left = dvd_refl a;
  right = subst (λ n. a ∣ n) (sym e) (dvd-zero a);
  greatest = λ h v p q. p;
}

-- one step by a remainder
pub greatest_from_mod : (a b g : ℕ) → IsGreatestCommon b (a % b) g → IsGreatestCommon a b g
greatest_from_mod a b g s = record {
  left = (dvd-mod_iff g s.left).0 s.right;
  right = s.left;
  greatest = λ h v p q.
      let r : h ∣ (v * a - v * b * (a / b)) = dvd-sub h p (dvd-mul_right_of_dvd h q (a / b)) in
      let e : v * a - v * b * (a / b) ≡ v * (a % b) = omega (arith, ap (λ n. v * n) (div-add-mod' a b)) in
      s.greatest h v q (subst (λ n. h ∣ n) e r);
}

pub common_divides : (a b g h : ℕ) → IsGreatestCommon a b g → h ∣ a → h ∣ b → h ∣ g
common_divides a b g h s p q =
    subst (λ n. h ∣ n) (one-mul g) (s.greatest h 1 (subst (λ n. h ∣ n) (sym (one-mul a)) p) (subst (λ n. h ∣ n) (sym (one-mul b)) q))

pub common_positive : (a b g : ℕ) → 0 < a → IsGreatestCommon a b g → 0 < g
common_positive a b g some s = pos_of_dvd_of_pos s.left some

-- ---- of a list
pub one_divides_all : (xs : List ℤ) → DividesAll 1 xs
one_divides_all [] = tt
one_divides_all (x ∷ xs) = (one-dvd (unsigned_abs x), one_divides_all xs)

pub shares_one : (xs : List ℤ) → SharesWith 1 xs 1
shares_one xs = record {
  divides = λ h p. (p, subst (λ n. DividesAll n xs) (sym (eq-one_of_dvd-one p)) (one_divides_all xs));
  greatest = λ h p q. p;
}

pub shares_none : (g : ℕ) → SharesWith g [] g
shares_none g = record { divides = λ h p. (p, tt); greatest = λ h p q. p }

shares_cons : (g next k : ℕ) (x : ℤ) (xs : List ℤ) → IsGreatestCommon g (unsigned_abs x) next → SharesWith next xs k → SharesWith g (x ∷ xs) k
shares_cons g next k x xs s w = record {
  divides = λ h p. let d = w.divides h p in (dvd_trans h d.0 s.left, (dvd_trans h d.0 s.right, d.1));
  greatest = λ h p q. w.greatest h (common_divides g (unsigned_abs x) next h s p q.0) q.1;
}

pub mixed_drop : (s t : ℤ) (os us : List ℤ) (i : ℕ) → i < length os → i < length us
    → mixed_all s t (drop i os) (drop i us) ≡ mixed s t (get_or os i (pos 0)) (get_or us i (pos 0)) ∷ mixed_all s t (drop (i + 1) os) (drop (i + 1) us)
mixed_drop s t os us i p q = rw (add-one, drop-cons os i (pos 0), drop-cons us i (pos 0))

pub shares_turn : (s t : ℤ) (os us : List ℤ) (i start shared next : ℕ) → i < length os → i < length us
    → IsGreatestCommon shared (unsigned_abs (mixed s t (get_or os i (pos 0)) (get_or us i (pos 0)))) next
    → ((k : ℕ) → SharesWith shared (mixed_all s t (drop i os) (drop i us)) k → SharesWith start (mixed_all s t os us) k)
    → (k : ℕ) → SharesWith next (mixed_all s t (drop (i + 1) os) (drop (i + 1) us)) k → SharesWith start (mixed_all s t os us) k
shares_turn s t os us i start shared next p q c before k w =
    before k (subst (λ xs. SharesWith shared xs k) (sym (mixed_drop s t os us i p q))
    (shares_cons shared next k (mixed s t (get_or os i (pos 0)) (get_or us i (pos 0))) (mixed_all s t (drop (i + 1) os) (drop (i + 1) us)) c w))

-- the end of the loop
pub shares_done : (s t : ℤ) (os us : List ℤ) (i start shared : ℕ) → length os ≤ i
    → ((k : ℕ) → SharesWith shared (mixed_all s t (drop i os) (drop i us)) k → SharesWith start (mixed_all s t os us) k)
    → SharesWith start (mixed_all s t os us) shared
shares_done s t os us i start shared p before =
    before shared (rw (drop_of_length-le os p) (shares_none shared))

pub shares_at_one : (s t : ℤ) (os us : List ℤ) (i start shared : ℕ) → shared ≡ 1
    → ((k : ℕ) → SharesWith shared (mixed_all s t (drop i os) (drop i us)) k → SharesWith start (mixed_all s t os us) k)
    → SharesWith start (mixed_all s t os us) 1
shares_at_one s t os us i start shared e before =
    before 1 (subst (λ n. SharesWith n (mixed_all s t (drop i os) (drop i us)) 1) (sym e) (shares_one (mixed_all s t (drop i os) (drop i us))))

-- ---- the same for a list as it stands
shares_next : (xs : List ℤ) (i : ℕ) → i < length xs → drop i xs ≡ get_or xs i (pos 0) ∷ drop (i + 1) xs
shares_next xs i p = rw (add-one, drop-cons xs i (pos 0))

pub list_turn : (xs : List ℤ) (i start shared next : ℕ) → i < length xs → IsGreatestCommon shared (unsigned_abs (get_or xs i (pos 0))) next
    → ((k : ℕ) → SharesWith shared (drop i xs) k → SharesWith start xs k)
    → (k : ℕ) → SharesWith next (drop (i + 1) xs) k → SharesWith start xs k
list_turn xs i start shared next p c before k w =
    before k (subst (λ ys. SharesWith shared ys k) (sym (shares_next xs i p)) (shares_cons shared next k (get_or xs i (pos 0)) (drop (i + 1) xs) c w))

pub list_done : (xs : List ℤ) (i start shared : ℕ) → length xs ≤ i
    → ((k : ℕ) → SharesWith shared (drop i xs) k → SharesWith start xs k) → SharesWith start xs shared
list_done xs i start shared p before = before shared (rw (drop_of_length-le xs p) (shares_none shared))

pub list_at_one : (xs : List ℤ) (i start shared : ℕ) → shared ≡ 1
    → ((k : ℕ) → SharesWith shared (drop i xs) k → SharesWith start xs k) → SharesWith start xs 1
list_at_one xs i start shared e before = before 1 (subst (λ n. SharesWith n (drop i xs) 1) (sym e) (shares_one (drop i xs)))

pub greatest_swapped : (a b g : ℕ) → IsGreatestCommon a b g → IsGreatestCommon b a g
greatest_swapped a b g s = record { left = s.right; right = s.left; greatest = λ h v p q. s.greatest h v q p }

pub common_positive_right : (a b g : ℕ) → 0 < b → IsGreatestCommon a b g → 0 < g
common_positive_right a b g some s = pos_of_dvd_of_pos s.right some

-- ---- the greatest common divisor as a search finds it
and_both : (a b : Bool) → a ≡ true → b ≡ true → (a && b) ≡ true
and_both true true p q = refl
and_both true false p q = q
and_both false b p q = p

and_left : (a b : Bool) → (a && b) ≡ true → a ≡ true
and_left true b p = refl
and_left false b p = p

and_right : (a b : Bool) → (a && b) ≡ true → b ≡ true
and_right true b p = p
and_right false b p = absurd cc

pub to_test : (h : ℕ) (xs : List ℤ) → DividesAll h xs → divides_all h xs ≡ true
to_test h [] d = refl
to_test h (x ∷ xs) d =
    let z : unsigned_abs x % h ≡ 0 = mod-eq-zero_of_dvd h d.0 in
    and_both (nat_eq (unsigned_abs x % h) 0) (divides_all h xs) (grind arith) (to_test h xs d.1)

pub from_test : (h : ℕ) (xs : List ℤ) → divides_all h xs ≡ true → DividesAll h xs
from_test h [] e = tt
from_test h (x ∷ xs) e =
    let t = and_left (nat_eq (unsigned_abs x % h) 0) (divides_all h xs) e in
    let z : unsigned_abs x % h ≡ 0 = grind arith in
    (dvd_of_mod-eq-zero h z, from_test h xs (and_right (nat_eq (unsigned_abs x % h) 0) (divides_all h xs) e))

greatest_by : (b : Bool) (n : ℕ) (xs : List ℤ) (g : ℕ) → divides_all (suc n) xs ≡ b → (g ≡ suc n → ⊥) ⊎ (g ≡ suc n)
    → ((h : ℕ) → DividesAll h xs → h ≤ g) → g ≤ suc n → DividesAll g xs → (g ≤ n → greatest_up_to n xs ≡ g)
    → cond b (suc n) (greatest_up_to n xs) ≡ g
greatest_by true n xs g e split most le d ih = let k : suc n ≤ g = most (suc n) (from_test (suc n) xs e) in omega arith
greatest_by false n xs g e (inl other) most le d ih = ih (omega arith)
greatest_by false n xs g e (inr same) most le d ih =
    let t : divides_all (suc n) xs ≡ true = subst (λ m. divides_all m xs ≡ true) same (to_test g xs d) in absurd cc

pub greatest_is : (n : ℕ) (xs : List ℤ) (g : ℕ) → 0 < g → g ≤ n → DividesAll g xs → ((h : ℕ) → DividesAll h xs → h ≤ g) → greatest_up_to n xs ≡ g
greatest_is zero xs g some le d most = absurd (omega arith)
greatest_is (suc n) xs g some le d most =
    greatest_by (divides_all (suc n) xs) n xs g refl (same_or_not g (suc n)) most le d (λ k. greatest_is n xs g some k d most)
  where
    same_or_not : (a b : ℕ) → (a ≡ b → ⊥) ⊎ (a ≡ b)
    same_or_not a b = elim (lt_or a b) [ inl p ↦ inl (λ e. omega arith) | inr q ↦ below a b q ]
      where
        lt_or : (a b : ℕ) → (a < b) ⊎ (b ≤ a)
        lt_or a b = grind arith

        below : (a b : ℕ) → b ≤ a → (a ≡ b → ⊥) ⊎ (a ≡ b)
        below a b q = elim (lt_or b a) [ inl p ↦ inl (λ e. omega arith) | inr r ↦ inr (omega arith) ]

-- what the code takes in three steps is the greatest common divisor
pub shared_is : (first second : ℤ) (rest : List ℤ) (one shared : ℕ) → 0 < unsigned_abs first
    → IsGreatestCommon (unsigned_abs first) (unsigned_abs second) one → SharesWith one rest shared
    → common_divisor first (second ∷ rest) ≡ shared
shared_is first second rest one shared some s w =
    let v = shares_cons (unsigned_abs first) one shared second rest s w in
    let d = v.divides shared (dvd_refl shared) in
    let positive : 0 < shared = pos_of_dvd_of_pos d.0 some in
    greatest_is (unsigned_abs first) (first ∷ second ∷ rest) shared positive (le_of_dvd some d.0) (d.0, d.1)
    (λ h q. le_of_dvd positive (v.greatest h q.0 q.1))

pub shared_bound : (first second : ℤ) (rest : List ℤ) (one shared : ℕ) → 0 < unsigned_abs first
    → IsGreatestCommon (unsigned_abs first) (unsigned_abs second) one → SharesWith one rest shared → shared ≤ unsigned_abs first
shared_bound first second rest one shared some s w =
    le_of_dvd some ((shares_cons (unsigned_abs first) one shared second rest s w).divides shared (dvd_refl shared)).0

pub common_bound : (a b g : ℕ) → 0 < a → IsGreatestCommon a b g → g ≤ a
common_bound a b g some s = le_of_dvd some s.left

pub shares_bound : (start : ℕ) (xs : List ℤ) (g : ℕ) → 0 < start → SharesWith start xs g → g ≤ start
shares_bound start xs g some s = le_of_dvd some (s.divides g (dvd_refl g)).0
