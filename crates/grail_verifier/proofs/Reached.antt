-- The first constructor of which a value has fewer units, in the list of those that its kind reaches.
use Rattle.std.proofs.Common.{◌≡◌, ℕ, ◌<◌, ◌≤◌, Bool, true, false, List, [], ◌∷◌, map, Some, None, refl, sym, ap, subst, arith}
use Rattle.std.specs.Prelude.{◌==◌, ◌||◌, if◌then◌else◌, nat_lt}
use Rattle.std.proofs.lemmas.Bool.Decides.{nat_tests}
use Rattle.camelot_values.specs.Kinds.{DataType}
use Rattle.camelot_values.specs.Heap.{reached}
use Rattle.camelot_values.specs.ReachLaws.{reached_is, reached_ascends}
use Rattle.camelot_values.specs.Lists.{is_among, Ascend}
use Rattle.camelot_values.specs.declared.kinds.Kind.{Kind}
use Rattle.annotations.specs.Vectors.{Vector, at, AtLeast, IsFirstBelow}
use Rattle.licence.specs.Checks.{Check, Site}
use Rattle.grail_verifier.specs.Walk.{first_short, value_short}

-- the check of one constructor
abbrev pub check_on : {A : Type 0} → Site → (have need : ℕ → A) → ℕ → Check A
check_on s have need c = record { func = s.func; block = s.block; place = s.place; con = Some c; have = have c; need = need c }

pub here_among : (d : ℕ) (cs : List ℕ) → is_among (d ∷ cs) d ≡ true
here_among d cs = let t : (d == d) ≡ true = grind (arith, nat_tests) in ap (λ b. b || is_among cs d) t

pub later_among : (d c : ℕ) (cs : List ℕ) → is_among cs c ≡ true → is_among (d ∷ cs) c ≡ true
later_among d c cs m = by_test (d == c)
  where
    by_test : (b : Bool) → (b || is_among cs c) ≡ true
    by_test true = refl
    by_test false = m

others_ascend : (c : ℕ) (cs : List ℕ) → Ascend (c ∷ cs) → Ascend cs
others_ascend c [] h = tt
others_ascend c (d ∷ cs) h = h.1

-- what stands behind is above
pub above : (c x : ℕ) (cs : List ℕ) → Ascend (c ∷ cs) → is_among cs x ≡ true → c < x
above c x [] h m = absurd cc
above c x (d ∷ cs) h m = by_test (above d x cs h.1) (d == x) refl m
  where
    by_test : (is_among cs x ≡ true → d < x) → (b : Bool) → (d == x) ≡ b → (b || is_among cs x) ≡ true → c < x
    by_test rec true e k = let same : d ≡ x = grind (arith, nat_tests, e) in omega (arith, h.0, same)
    by_test rec false e k = omega (arith, h.0, rec k)

all_enough : (s : Site) (have need : ℕ → ℕ) (cs : List ℕ) → ((c : ℕ) → is_among cs c ≡ true → need c ≤ have c)
    → first_short (map (λ c. check_on s have need c) cs) ≡ None
all_enough s have need [] h = refl
all_enough s have need (c ∷ cs) h = by_test (all_enough s have need cs (λ x m. h x (later_among c x cs m))) (nat_lt (have c) (need c)) refl
  where
    by_test : first_short (map (λ c. check_on s have need c) cs) ≡ None → (b : Bool) → nat_lt (have c) (need c) ≡ b
        → (if b then Some (check_on s have need c) else first_short (map (λ c. check_on s have need c) cs)) ≡ None
    by_test rec true e = let k : need c ≤ have c = h c (here_among c cs) in absurd (grind (arith, nat_tests, e, k))
    by_test rec false e = rec

first_fewer : (s : Site) (have need : ℕ → ℕ) (cs : List ℕ) (x : ℕ) → Ascend cs → is_among cs x ≡ true → have x < need x
    → ((c : ℕ) → c < x → is_among cs c ≡ true → need c ≤ have c)
    → first_short (map (λ c. check_on s have need c) cs) ≡ Some (check_on s have need x)
first_fewer s have need [] x a m less before = absurd cc
first_fewer s have need (c ∷ cs) x a m less before =
    by_test (λ k. first_fewer s have need cs x (others_ascend c cs a) k less (λ d l n. before d l (later_among c d cs n))) (c == x) refl m
  where
    found : c ≡ x → (b : Bool) → nat_lt (have c) (need c) ≡ b
        → (if b then Some (check_on s have need c) else first_short (map (λ c. check_on s have need c) cs)) ≡ Some (check_on s have need x)
    found same true e = ap (λ d. Some (check_on s have need d)) same
    found same false e = let k : have c < need c = subst (λ d. have d < need d) (sym same) less in absurd (grind (arith, nat_tests, e, k))

    passed : first_short (map (λ c. check_on s have need c) cs) ≡ Some (check_on s have need x) → need c ≤ have c → (b : Bool) → nat_lt (have c) (need c) ≡ b
        → (if b then Some (check_on s have need c) else first_short (map (λ c. check_on s have need c) cs)) ≡ Some (check_on s have need x)
    passed rec k true e = absurd (grind (arith, nat_tests, e, k))
    passed rec k false e = rec

    by_test : (is_among cs x ≡ true → first_short (map (λ c. check_on s have need c) cs) ≡ Some (check_on s have need x)) → (b : Bool) → (c == x) ≡ b
        → (b || is_among cs x) ≡ true
        → first_short (map (λ c. check_on s have need c) (c ∷ cs)) ≡ Some (check_on s have need x)
    by_test rec true e k = let same : c ≡ x = grind (arith, nat_tests, e) in found same (nat_lt (have c) (need c)) refl
    by_test rec false e k = passed (rec k) (before c (above c x cs a k) (here_among c cs)) (nat_lt (have c) (need c)) refl

pub enough : (types : List DataType) (s : Site) (q : Kind) (have need : Vector) → AtLeast types q (at have) (at need) → value_short types s q have need ≡ None
unfolding AtLeast value_short
enough types s q have need h = all_enough s (at have) (at need) (reached types q) (λ c m. h c ((reached_is types q c).0 m))

pub fewer : (types : List DataType) (s : Site) (q : Kind) (have need : Vector) (con : ℕ) → IsFirstBelow types q (at have) (at need) con
    → value_short types s q have need ≡ Some (check_on s (at have) (at need) con)
unfolding value_short
fewer types s q have need con h = first_fewer s (at have) (at need) (reached types q) con (reached_ascends types q) ((reached_is types q con).1 h.reached) h.below (λ c l m. h.before c l ((reached_is types q c).0 m))
