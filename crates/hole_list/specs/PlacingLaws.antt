-- Laws, for the proofs of this crate and of those above it.
-- What taking and giving do to the cells of runs: how many of them have a cell, how many cells they have, and that
-- holes stay apart.
use Rattle.std.proofs.Common.{◌≡◌, ℕ, ◌+◌, ◌-◌, ◌<◌, ◌≤◌, ◌==◌, nat_le, nat_lt, Bool, true, false, if◌then◌else◌, ◌⊎◌, inl, inr, List, [], ◌∷◌, Option, Some, None, refl, sym, ap, subst, arith}
use Rattle.std.specs.Option.{option_map}
use Rattle.std.proofs.lemmas.Bool.{cases_lt, cases_order}
use Rattle.hole_list.specs.declared.run.Run.{Run}
use Rattle.hole_list.specs.Placing.{run, end_of, Taken, taken, rest_of_run, behind, take_run, largest, both, give_run, AreApart, IsPartOf, AreFreeOf, in_run, times_in, total}

-- ---- which cells a run has

pub in_split : (h : Run) (size i : ℕ) → size ≤ h.size → in_run h i ≡ in_run (run h.first size) i + in_run (run (h.first + size) (h.size - size)) i
unfolding in_run
in_split h size i few = grind arith

pub in_yes : (r : Run) (i : ℕ) → r.first ≤ i → i < r.first + r.size → in_run r i ≡ 1
unfolding in_run
in_yes r i h k = grind arith

pub in_before : (r : Run) (i : ℕ) → i < r.first → in_run r i ≡ 0
unfolding in_run
in_before r i h = grind arith

pub in_behind : (r : Run) (i : ℕ) → r.first + r.size ≤ i → in_run r i ≡ 0
unfolding in_run
in_behind r i h = grind arith

pub in_within : (r : Run) (i : ℕ) → 1 ≤ in_run r i → (r.first ≤ i) × (i < r.first + r.size)
unfolding in_run
in_within r i h = (grind arith, grind arith)

pub at_most_one : (r : Run) (i : ℕ) → in_run r i ≤ 1
unfolding in_run
at_most_one r i = grind arith

pub in_joined : (h r : Run) (i : ℕ) → end_of h ≡ r.first → in_run (both h r) i ≡ in_run h i + in_run r i
unfolding in_run
in_joined h r i e = grind (arith, e)

-- ---- taking

pub some_same : {A : Type 0} (x y : A) → Some x ≡ Some y → x ≡ y
some_same x y e = grind arith

-- what taking so many cells gives
pub record TakenOf (hs : List Run) (size : ℕ) (t : Taken) : Type 0 where
  pub sized : t.run.size ≡ size
  pub times : (i : ℕ) → times_in t.holes i + in_run t.run i ≡ times_in hs i
  pub sum : total t.holes + size ≡ total hs

rest_times : (h : Run) (size : ℕ) (hs : List Run) (i : ℕ) → size ≤ h.size
    → times_in (rest_of_run h size hs) i + in_run (run h.first size) i ≡ in_run h i + times_in hs i
rest_times h size hs i k = by_test (h.size == size) refl
  where
    by_test : (b : Bool) → (h.size == size) ≡ b
        → times_in (if b then hs else run (h.first + size) (h.size - size) ∷ hs) i + in_run (run h.first size) i ≡ in_run h i + times_in hs i
    by_test true e = grind arith
    by_test false e = omega (arith, in_split h size i k)

rest_total : (h : Run) (size : ℕ) (hs : List Run) → size ≤ h.size → total (rest_of_run h size hs) + size ≡ h.size + total hs
rest_total h size hs k = by_test (h.size == size) refl
  where
    by_test : (b : Bool) → (h.size == size) ≡ b → total (if b then hs else run (h.first + size) (h.size - size) ∷ hs) + size ≡ h.size + total hs
    by_test true e = grind arith
    by_test false e = grind arith

behind_of : (h : Run) (hs : List Run) (size : ℕ) (t : Taken) → TakenOf hs size t → TakenOf (h ∷ hs) size (behind h t)
behind_of h hs size t k = record {
  sized = k.sized;
  times = λ i. omega (arith, k.times i);
  sum = omega (arith, k.sum);
}

pub taken_of : (hs : List Run) (size : ℕ) (t : Taken) → take_run hs size ≡ Some t → TakenOf hs size t
taken_of [] size t e = absurd (grind arith)
taken_of (h ∷ hs) size t e = by_test (λ u is. taken_of hs size u is) (nat_le size h.size) refl e
  where
    by_rest : (o : Option Taken) → ((u : Taken) → o ≡ Some u → TakenOf hs size u) → option_map (behind h) o ≡ Some t → TakenOf (h ∷ hs) size t
    by_rest None k is = absurd (grind arith)
    by_rest (Some u) k is = subst (TakenOf (h ∷ hs) size) (some_same (behind h u) t is) (behind_of h hs size u (k u refl))

    by_test : ((u : Taken) → take_run hs size ≡ Some u → TakenOf hs size u) → (b : Bool) → nat_le size h.size ≡ b
        → (if b then Some (taken (run h.first size) (rest_of_run h size hs)) else option_map (behind h) (take_run hs size)) ≡ Some t
        → TakenOf (h ∷ hs) size t
    by_test next true fits is =
        let few : size ≤ h.size = grind arith in
        subst (TakenOf (h ∷ hs) size) (some_same (taken (run h.first size) (rest_of_run h size hs)) t is)
        (record { sized = refl; times = λ i. rest_times h size hs i few; sum = rest_total h size hs few })
    by_test next false fits is = by_rest (take_run hs size) next is

-- holes that are all behind this index, and apart
abbrev pub AreBehind : ℕ → List Run → Type 0
AreBehind n [] = Unit {0}
AreBehind n (h ∷ hs) = n < h.first

pub apart_front : (h : Run) (hs : List Run) → AreApart (h ∷ hs) → (1 ≤ h.size) × AreBehind (end_of h) hs × AreApart hs
apart_front h [] a = (a, tt, tt)
apart_front h (k ∷ hs) a = (a.0, a.1, a.2)

pub apart_from : (h : Run) (hs : List Run) → 1 ≤ h.size → AreBehind (end_of h) hs → AreApart hs → AreApart (h ∷ hs)
apart_from h [] some b a = some
apart_from h (k ∷ hs) some b a = (some, b, a)

behind_rest : (n : ℕ) (h : Run) (size : ℕ) (hs : List Run) → n < h.first → AreApart (h ∷ hs) → AreBehind n (rest_of_run h size hs)
behind_rest n h size hs k a = by_test (h.size == size) hs (apart_front h hs a).1
  where
    by_test : (b : Bool) (ks : List Run) → AreBehind (end_of h) ks → AreBehind n (if b then ks else run (h.first + size) (h.size - size) ∷ ks)
    by_test true [] q = tt
    by_test true (j ∷ ks) q = omega (arith, q)
    by_test false ks q = omega arith

apart_rest : (h : Run) (size : ℕ) (hs : List Run) → size ≤ h.size → AreApart (h ∷ hs) → AreApart (rest_of_run h size hs)
apart_rest h size hs few a = by_test (h.size == size) refl
  where
    by_test : (b : Bool) → (h.size == size) ≡ b → AreApart (if b then hs else run (h.first + size) (h.size - size) ∷ hs)
    by_test true e = (apart_front h hs a).2
    by_test false e =
        let ne : (h.size ≡ size) → ⊥ = λ q. grind arith in
        let f = apart_front h hs a in
        let same : end_of (run (h.first + size) (h.size - size)) ≡ end_of h = omega (arith, few) in
        apart_from (run (h.first + size) (h.size - size)) hs (omega (arith, few, ne)) (subst (λ n. AreBehind n hs) (sym same) f.1) f.2

-- holes stay apart, and none begins before the first one did
pub taken_apart : (hs : List Run) (size : ℕ) (t : Taken) → take_run hs size ≡ Some t → AreApart hs
    → AreApart t.holes × ((n : ℕ) → AreBehind n hs → AreBehind n t.holes)
taken_apart [] size t e a = absurd (grind arith)
taken_apart (h ∷ hs) size t e a = by_test (λ u is. taken_apart hs size u is (apart_front h hs a).2) (nat_le size h.size) refl e
  where
    by_rest : (o : Option Taken) → ((u : Taken) → o ≡ Some u → AreApart u.holes × ((n : ℕ) → AreBehind n hs → AreBehind n u.holes))
        → option_map (behind h) o ≡ Some t
        → AreApart t.holes × ((n : ℕ) → n < h.first → AreBehind n t.holes)
    by_rest None k is = absurd (grind arith)
    by_rest (Some u) k is =
        let f = apart_front h hs a in
        let q = k u refl in
        subst (λ (v : Taken). AreApart v.holes × ((n : ℕ) → n < h.first → AreBehind n v.holes)) (some_same (behind h u) t is)
        (apart_from h u.holes f.0 (q.1 (end_of h) f.1) q.0, λ n below. below)

    by_test : ((u : Taken) → take_run hs size ≡ Some u → AreApart u.holes × ((n : ℕ) → AreBehind n hs → AreBehind n u.holes)) → (b : Bool)
        → nat_le size h.size ≡ b
        → (if b then Some (taken (run h.first size) (rest_of_run h size hs)) else option_map (behind h) (take_run hs size)) ≡ Some t → AreApart t.holes × ((n : ℕ) → n < h.first → AreBehind n t.holes)
    by_test next true fits is =
        let few : size ≤ h.size = grind arith in
        subst (λ (v : Taken). AreApart v.holes × ((n : ℕ) → n < h.first → AreBehind n v.holes)) (some_same (taken (run h.first size) (rest_of_run h size hs)) t is)
        (apart_rest h size hs few a, λ n below. behind_rest n h size hs below a)
    by_test next false fits is = by_rest (take_run hs size) next is

-- where nothing is taken, each hole is too small
pub none_taken : (hs : List Run) (size : ℕ) → 1 ≤ size → take_run hs size ≡ None → largest hs < size
none_taken [] size some e = omega (arith, some)
none_taken (h ∷ hs) size some e = by_test (λ is. none_taken hs size some is) (nat_le size h.size) refl e
  where
    by_rest : (o : Option Taken) → option_map (behind h) o ≡ None → o ≡ None
    by_rest None is = refl
    by_rest (Some u) is = absurd (grind arith)

    by_test : (take_run hs size ≡ None → largest hs < size) → (b : Bool) → nat_le size h.size ≡ b
        → (if b then Some (taken (run h.first size) (rest_of_run h size hs)) else option_map (behind h) (take_run hs size)) ≡ None
        → largest (h ∷ hs) < size
    by_test next true fits is = absurd (grind arith)
    by_test next false fits is =
        let big : h.size < size = grind arith in
        let rest = next (by_rest (take_run hs size) is) in
        omega (arith, big, rest)

-- and where each is too small nothing is taken
pub too_small_all : (hs : List Run) (size : ℕ) → largest hs < size → take_run hs size ≡ None
too_small_all [] size k = refl
too_small_all (h ∷ hs) size k = by_test (too_small_all hs size (omega (arith, k))) (nat_le size h.size) refl
  where
    by_test : take_run hs size ≡ None → (b : Bool) → nat_le size h.size ≡ b
        → (if b then Some (taken (run h.first size) (rest_of_run h size hs)) else option_map (behind h) (take_run hs size)) ≡ None
    by_test next true e = let big : size ≤ h.size = grind arith in absurd (omega (arith, big, k))
    by_test next false e = ap (option_map (behind h)) next

-- ---- giving back

pub give_times : (hs : List Run) (r : Run) (i : ℕ) → times_in (give_run hs r) i ≡ times_in hs i + in_run r i
give_times [] r i = omega arith
give_times (h ∷ hs) r i = by_tests (λ s. give_times hs s i) (nat_lt (end_of r) h.first) (end_of r == h.first) (end_of h == r.first) refl refl refl
  where
    by_tests : ((s : Run) → times_in (give_run hs s) i ≡ times_in hs i + in_run s i) → (b c d : Bool) → nat_lt (end_of r) h.first ≡ b
        → (end_of r == h.first) ≡ c → (end_of h == r.first) ≡ d
        → times_in (if b then r ∷ h ∷ hs else if c then both r h ∷ hs else if d then give_run hs (both h r) else h ∷ give_run hs r) i ≡ times_in (h ∷ hs) i + in_run r i
    by_tests next true c d p q s = omega arith
    by_tests next false true d p q s =
        let e : end_of r ≡ h.first = grind arith in
        let k : in_run (both r h) i ≡ in_run r i + in_run h i = in_joined r h i e in
        omega (arith, k)
    by_tests next false false true p q s =
        let e : end_of h ≡ r.first = grind arith in
        let k : in_run (both h r) i ≡ in_run h i + in_run r i = in_joined h r i e in
        omega (arith, k, next (both h r))
    by_tests next false false false p q s = omega (arith, next r)

pub give_total : (hs : List Run) (r : Run) → total (give_run hs r) ≡ total hs + r.size
give_total [] r = omega arith
give_total (h ∷ hs) r = by_tests (λ s. give_total hs s) (nat_lt (end_of r) h.first) (end_of r == h.first) (end_of h == r.first)
  where
    by_tests : ((s : Run) → total (give_run hs s) ≡ total hs + s.size) → (b c d : Bool)
        → total (if b then r ∷ h ∷ hs else if c then both r h ∷ hs else if d then give_run hs (both h r) else h ∷ give_run hs r) ≡ total (h ∷ hs) + r.size
    by_tests next true c d = omega arith
    by_tests next false true d = omega arith
    by_tests next false false true = omega (arith, next (both h r))
    by_tests next false false false = omega (arith, next r)

-- two runs with cells of which no cell is in both
pub apart_runs : (r h : Run) → 1 ≤ r.size → 1 ≤ h.size → ((i : ℕ) → in_run h i + in_run r i ≤ 1) → (end_of r ≤ h.first) ⊎ (end_of h ≤ r.first)
apart_runs r h some some' k = by_order (cases_lt r.first h.first)
  where
    by_order : (r.first < h.first) ⊎ (h.first ≤ r.first) → (end_of r ≤ h.first) ⊎ (end_of h ≤ r.first)
    by_order (inl before) = by_end (cases_lt h.first (end_of r))
      where
        by_end : (h.first < end_of r) ⊎ (end_of r ≤ h.first) → (end_of r ≤ h.first) ⊎ (end_of h ≤ r.first)
        by_end (inl over) = absurd (omega (arith, k h.first, in_yes h h.first (omega arith) (omega (arith, some')), in_yes r h.first (omega (arith, before)) (omega (arith, over))))
        by_end (inr under) = inl under
    by_order (inr behind) = by_end (cases_lt r.first (end_of h))
      where
        by_end : (r.first < end_of h) ⊎ (end_of h ≤ r.first) → (end_of r ≤ h.first) ⊎ (end_of h ≤ r.first)
        by_end (inl over) = absurd (omega (arith, k r.first, in_yes r r.first (omega arith) (omega (arith, some)), in_yes h r.first (omega (arith, behind)) (omega (arith, over))))
        by_end (inr under) = inr under

pub free_of : (hs : List Run) (r : Run) → 1 ≤ r.size → AreApart hs → ((i : ℕ) → times_in hs i + in_run r i ≤ 1) → AreFreeOf hs r
free_of [] r some a k = tt
free_of (h ∷ hs) r some a k =
    let f = apart_front h hs a in
    (apart_runs r h some f.0 (λ i. omega (arith, k i)), free_of hs r some f.2 (λ i. omega (arith, k i)))

-- joined with a hole before the others, it has no cell of them
free_joined : (h : Run) (hs : List Run) (r : Run) → AreBehind (end_of h) hs → AreApart hs → end_of h ≡ r.first → 1 ≤ r.size → AreFreeOf hs r
    → AreFreeOf hs (both h r)
free_joined h [] r b a e some f = tt
free_joined h (k ∷ hs) r b a e some f = (by_side f.0, free_joined h hs r (later hs (apart_front k hs a).1) (apart_front k hs a).2 e some f.1)
  where
    by_side : (end_of r ≤ k.first) ⊎ (end_of k ≤ r.first) → (end_of (both h r) ≤ k.first) ⊎ (end_of k ≤ h.first)
    by_side (inl before) = inl (omega (arith, before, e))
    by_side (inr behind) = absurd (omega (arith, behind, e, b, (apart_front k hs a).0))

    later : (js : List Run) → AreBehind (end_of k) js → AreBehind (end_of h) js
    later [] q = tt
    later (j ∷ js) q = omega (arith, q, b)

pub give_apart : (hs : List Run) (r : Run) → 1 ≤ r.size → AreApart hs → AreFreeOf hs r
    → AreApart (give_run hs r) × ((n : ℕ) → AreBehind n hs → n < r.first → AreBehind n (give_run hs r))
give_apart [] r some a f = (some, λ n b k. k)
give_apart (h ∷ hs) r some a f = by_tests (λ s some' free. give_apart hs s some' (apart_front h hs a).2 free) (nat_lt (end_of r) h.first) (end_of r == h.first) (end_of h == r.first) refl refl refl
  where
    by_tests : ((s : Run) → 1 ≤ s.size → AreFreeOf hs s → AreApart (give_run hs s) × ((n : ℕ) → AreBehind n hs → n < s.first → AreBehind n (give_run hs s)))
        → (b c d : Bool) → nat_lt (end_of r) h.first ≡ b → (end_of r == h.first) ≡ c → (end_of h == r.first) ≡ d
        → AreApart (if b then r ∷ h ∷ hs else if c then both r h ∷ hs else if d then give_run hs (both h r) else h ∷ give_run hs r)
        × ((n : ℕ) → n < h.first → n < r.first → AreBehind n (if b then r ∷ h ∷ hs else if c then both r h ∷ hs else if d then give_run hs (both h r) else h ∷ give_run hs r))
    by_tests next true c d p q s = (apart_from r (h ∷ hs) some (grind arith) a, λ n u v. v)
    by_tests next false true d p q s =
        let k = apart_front h hs a in
        let e : end_of r ≡ h.first = grind arith in
        let same : end_of (both r h) ≡ end_of h = omega (arith, e) in
        (apart_from (both r h) hs (omega (arith, some)) (subst (λ n. AreBehind n hs) (sym same) k.1) k.2, λ n u v. v)
    by_tests next false false true p q s =
        let k = apart_front h hs a in
        let e : end_of h ≡ r.first = grind arith in
        let rest = next (both h r) (omega (arith, some)) (free_joined h hs r k.1 k.2 e some f.1) in
        (rest.0, λ n u v. rest.1 n (sooner n u hs k.1) u)
      where
        sooner : (n : ℕ) → n < h.first → (js : List Run) → AreBehind (end_of h) js → AreBehind n js
        sooner n u [] q = tt
        sooner n u (j ∷ js) q = omega (arith, q, u)
    by_tests next false false false p q s =
        let k = apart_front h hs a in
        let rest = next r some f.1 in
        let not_before : h.first < end_of r = grind arith in
        let not_meet : (end_of h ≡ r.first) → ⊥ = λ e. grind arith in
        (apart_from h (give_run hs r) k.0 (rest.1 (end_of h) k.1 (later f.0 not_before not_meet)) rest.0, λ n u v. u)
      where
        later : (end_of r ≤ h.first) ⊎ (end_of h ≤ r.first) → h.first < end_of r → ((end_of h ≡ r.first) → ⊥) → end_of h < r.first
        later (inl x) u v = absurd (omega (arith, x, u))
        later (inr x) u v = omega (arith, x, v)

-- ---- one hole

pub none_before : (hs : List Run) (n : ℕ) → AreBehind n hs → AreApart hs → times_in hs n ≡ 0
none_before [] n b a = refl
none_before (h ∷ hs) n b a =
    let f = apart_front h hs a in
    omega (arith, in_before h n b, none_before hs n (later hs f.1) f.2)
  where
    later : (js : List Run) → AreBehind (end_of h) js → AreBehind n js
    later [] q = tt
    later (j ∷ js) q = omega (arith, q, b)

-- holes that have all cells of a run, and no others, are one hole
pub one_hole : (base : Run) (hs : List Run) → 1 ≤ base.size → AreApart hs → ((i : ℕ) → times_in hs i ≡ in_run base i) → hs ≡ base ∷ []
one_hole base [] some a k = absurd (omega (arith, k base.first, in_yes base base.first (omega arith) (omega (arith, some))))
one_hole base (h ∷ hs) some a k =
    let f = apart_front h hs a in
    let first : h.first ≡ base.first = by_first (cases_order h.first base.first) in
    by_rest hs f.1 f.2 f.0 first (λ i. k i)
  where
    by_first : (h.first ≡ base.first) ⊎ ((h.first < base.first) ⊎ (base.first < h.first)) → h.first ≡ base.first
    by_first (inl e) = e
    by_first (inr (inl before)) =
        let one : in_run h h.first ≡ 1 = in_yes h h.first (omega arith) (omega (arith, (apart_front h hs a).0)) in
        absurd (omega (arith, k h.first, one, in_before base h.first before))
    by_first (inr (inr behind)) = absurd (omega (arith, k base.first, none_before (h ∷ hs) base.first behind a, in_yes base base.first (omega arith) (omega (arith, some))))

    size_is : (js : List Run) → AreBehind (end_of h) js → AreApart js → 1 ≤ h.size → h.first ≡ base.first
        → ((i : ℕ) → in_run h i + times_in js i ≡ in_run base i) → h.size ≡ base.size
    size_is js b c some' first same = by_size (cases_order h.size base.size)
      where
        by_size : (h.size ≡ base.size) ⊎ ((h.size < base.size) ⊎ (base.size < h.size)) → h.size ≡ base.size
        by_size (inl e) = e
        by_size (inr (inl less)) =
            absurd (omega (arith, same (end_of h), in_behind h (end_of h) (omega arith), none_before js (end_of h) b c, in_yes base (end_of h) (omega (arith, first)) (omega (arith, less, first))))
        by_size (inr (inr more)) =
            absurd (omega (arith, same (end_of base), in_yes h (end_of base) (omega (arith, first)) (omega (arith, more, first)), in_behind base (end_of base) (omega arith)))

    by_rest : (js : List Run) → AreBehind (end_of h) js → AreApart js → 1 ≤ h.size → h.first ≡ base.first
        → ((i : ℕ) → in_run h i + times_in js i ≡ in_run base i) → h ∷ js ≡ base ∷ []
    by_rest [] b c some' first same = ap (λ (r : Run). r ∷ []) (λ i. record { first = first i; size = size_is [] b c some' first same i })
    by_rest (j ∷ js) b c some' first same =
        let size = size_is (j ∷ js) b c some' first same in
        absurd (omega (arith, same j.first, in_yes j j.first (omega arith) (omega (arith, (apart_front j js c).0)), in_behind base j.first (omega (arith, b, size, first))))

-- a run whose cells are all in another one is a part of it
pub part_of : (r base : Run) → 1 ≤ r.size → ((i : ℕ) → in_run r i ≤ in_run base i) → IsPartOf r base
part_of r base some k =
    let first = in_within base r.first (omega (arith, k r.first, in_yes r r.first (omega arith) (omega (arith, some)))) in
    let last = in_within base (r.first + (r.size - 1)) (omega (arith, k (r.first + (r.size - 1)), in_yes r (r.first + (r.size - 1)) (omega arith) (omega (arith, some)))) in
    record { from = first.0; to = omega (arith, last.1, some) }
