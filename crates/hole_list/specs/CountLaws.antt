-- Laws, for the proofs of this crate and of those above it.
-- There is at most one hole more than runs that are out: between two holes lies a run that is out.
use Rattle.std.proofs.Common.{◌≡◌, ℕ, suc, ◌+◌, ◌<◌, ◌≤◌, ◌⊎◌, inl, inr, List, [], ◌∷◌, length, map, refl, sym, ap, subst, arith}
use Rattle.std.proofs.lemmas.Bool.{cases_lt, cases_order}
use Rattle.cell_span.specs.Range.{Range}
use Rattle.hole_list.specs.declared.run.Run.{Run}
use Rattle.hole_list.specs.Placing.{end_of, in_run, times_in, AreApart, AreOrdered, AreParts}
use Rattle.hole_list.specs.Holes.{run_of, Holed, AreHoles}
use Rattle.hole_list.specs.PlacingLaws.{in_yes, in_before, in_behind, in_within, at_most_one, AreBehind, apart_front, none_before}
use Rattle.hole_list.specs.OutLaws.{AreFrom, ordered_front}

-- from an index on, each index of the base is in one of these, and no other index is
abbrev AreOnce : ℕ → (base : Run) → (hs ss : List Run) → Type 0
AreOnce n base hs ss = (i : ℕ) → n ≤ i → times_in hs i + times_in ss i ≡ in_run base i

none_from : (ss : List Run) (n i : ℕ) → i < n → AreFrom n ss → AreOrdered ss → times_in ss i ≡ 0
none_from [] n i less f o = refl
none_from (s ∷ ss) n i less f o =
    let g = ordered_front s ss o in
    omega (arith, in_before s i (omega (arith, less, f)), none_from ss (end_of s) i (omega (arith, less, f, g.0)) g.1 g.2)

-- an index before a hole, from where the base begins on, is one of the base
before_hole : (base : Run) (n : ℕ) (h : Run) (hs ss : List Run) → base.first ≤ n → n < h.first → 1 ≤ h.size → AreOnce n base (h ∷ hs) ss → in_run base n ≡ 1
before_hole base n h hs ss from less some once =
    let there = in_within base h.first (omega (arith, once h.first (omega (arith, less)), in_yes h h.first (omega arith) (omega (arith, some)))) in
    in_yes base n from (omega (arith, there.1, less))

-- what begins no earlier than a hole, and shares no cell with it, begins behind it
from_behind : (base : Run) (n : ℕ) (h : Run) (hs ss : List Run) → n ≤ h.first → AreFrom h.first ss → AreOrdered ss → AreOnce n base (h ∷ hs) ss
    → AreFrom (end_of h) ss
from_behind base n h hs [] le f o once = tt
from_behind base n h hs (t ∷ ts) le f o once = by_order (cases_lt t.first (end_of h))
  where
    by_order : (t.first < end_of h) ⊎ (end_of h ≤ t.first) → end_of h ≤ t.first
    by_order (inr behind) = behind
    by_order (inl early) =
        let one : in_run h t.first ≡ 1 = in_yes h t.first f early in
        let two : in_run t t.first ≡ 1 = in_yes t t.first (omega arith) (omega (arith, (ordered_front t ts o).0)) in
        absurd (omega (arith, once t.first (omega (arith, le, f)), one, two, at_most_one base t.first))

-- where the first hole lies behind an index of the base, there are no more holes than runs that are out from there on
few_behind : (base : Run) (n : ℕ) (hs ss : List Run) → base.first ≤ n → AreBehind n hs → AreApart hs → AreFrom n ss → AreOrdered ss
    → AreOnce n base hs ss → length hs ≤ length ss
few_behind base n [] ss from b a f o once = omega arith
few_behind base n (h ∷ hs) [] from b a f o once =
    absurd (omega (arith, once n (omega arith), none_before (h ∷ hs) n b a, before_hole base n h hs [] from b (apart_front h hs a).0 once))
few_behind base n (h ∷ hs) (s ∷ ss) from b a f o once =
    let p = apart_front h hs a in
    let g = ordered_front s ss o in
    let at : times_in (s ∷ ss) n ≡ 1 = omega (arith, once n (omega arith), none_before (h ∷ hs) n b a, before_hole base n h hs (s ∷ ss) from b p.0 once) in
    let begins : s.first ≡ n = starts at (cases_lt n s.first) in
    let apart : end_of s ≤ h.first = ends begins p.0 (cases_lt h.first (end_of s)) in
    by_end p g begins apart (λ m le y z once2. few_behind base m hs ss le y p.2 z g.2 once2) (λ m le y z once2. few_behind base m (h ∷ hs) ss le y a z g.2 once2) (cases_lt (end_of s) h.first)
  where
    starts : times_in (s ∷ ss) n ≡ 1 → (n < s.first) ⊎ (s.first ≤ n) → s.first ≡ n
    starts at (inl late) = absurd (omega (arith, at, none_from (s ∷ ss) s.first n late (omega arith) o))
    starts at (inr now) = omega (arith, now, f)

    ends : s.first ≡ n → 1 ≤ h.size → (h.first < end_of s) ⊎ (end_of s ≤ h.first) → end_of s ≤ h.first
    ends begins some (inr before) = before
    ends begins some (inl late) =
        let one : in_run h h.first ≡ 1 = in_yes h h.first (omega arith) (omega (arith, some)) in
        let two : in_run s h.first ≡ 1 = in_yes s h.first (omega (arith, begins, b)) late in
        absurd (omega (arith, once h.first (omega (arith, b)), one, two, at_most_one base h.first))

    by_end : (1 ≤ h.size) × AreBehind (end_of h) hs × AreApart hs → (1 ≤ s.size) × AreFrom (end_of s) ss × AreOrdered ss → s.first ≡ n → end_of s ≤ h.first
        → ((m : ℕ) → base.first ≤ m → AreBehind m hs → AreFrom m ss → AreOnce m base hs ss → length hs ≤ length ss)
        → ((m : ℕ) → base.first ≤ m → AreBehind m (h ∷ hs) → AreFrom m ss → AreOnce m base (h ∷ hs) ss → length (h ∷ hs) ≤ length ss)
        → (end_of s < h.first) ⊎ (h.first ≤ end_of s) → length (h ∷ hs) ≤ length (s ∷ ss)
    by_end p g begins apart fewer as_few (inl gap) =
        let rest : AreOnce (end_of s) base (h ∷ hs) ss = λ i le. omega (arith, once i (omega (arith, begins, le)), in_behind s i le) in
        omega (arith, as_few (end_of s) (omega (arith, from, begins)) gap g.1 rest)
    by_end p g begins apart fewer as_few (inr over) =
        let meets : end_of s ≡ h.first = omega (arith, apart, over) in
        let rest : AreOnce (end_of s) base (h ∷ hs) ss = λ i le. omega (arith, once i (omega (arith, begins, le)), in_behind s i le) in
        let behind : AreFrom (end_of h) ss = from_behind base (end_of s) h hs ss apart (subst (λ (k : ℕ). AreFrom k ss) meets g.1) g.2 rest in
        let last : AreOnce (end_of h) base hs ss = λ i le. omega (arith, rest i (omega (arith, apart, le)), in_behind h i le) in
        omega (arith, fewer (end_of h) (omega (arith, from, begins, apart)) p.1 behind last)

pub few_holes : (base : Run) (hs ss : List Run) → AreApart hs → AreOrdered ss → AreParts base hs ss → length hs ≤ suc (length ss)
few_holes base [] ss a o parts = omega arith
few_holes base (h ∷ hs) ss a o parts = by_order (apart_front h hs a) (from_base ss o (λ i. omega (arith, parts i))) (cases_order h.first base.first)
  where
    from_base : (ss : List Run) → AreOrdered ss → ((i : ℕ) → times_in ss i ≤ in_run base i) → AreFrom base.first ss
    from_base [] o k = tt
    from_base (s ∷ ss) o k = (in_within base s.first (omega (arith, k s.first, in_yes s s.first (omega arith) (omega (arith, (ordered_front s ss o).0))))).0

    by_order : (1 ≤ h.size) × AreBehind (end_of h) hs × AreApart hs → AreFrom base.first ss
        → (h.first ≡ base.first) ⊎ ((h.first < base.first) ⊎ (base.first < h.first)) → length (h ∷ hs) ≤ suc (length ss)
    by_order p f (inl same) =
        let behind : AreFrom (end_of h) ss = from_behind base base.first h hs ss (omega (arith, same)) (subst (λ (k : ℕ). AreFrom k ss) (sym same) f) o (λ i le. parts i) in
        let last : AreOnce (end_of h) base hs ss = λ i le. omega (arith, parts i, in_behind h i le) in
        omega (arith, few_behind base (end_of h) hs ss (omega (arith, same)) p.1 p.2 behind o last)
    by_order p f (inr (inl early)) =
        let one : in_run h h.first ≡ 1 = in_yes h h.first (omega arith) (omega (arith, p.0)) in
        absurd (omega (arith, parts h.first, one, in_before base h.first early))
    by_order p f (inr (inr late)) = omega (arith, few_behind base base.first (h ∷ hs) ss (omega arith) late a f o (λ i le. parts i))

runs_count : (hs : List Range) → length (map run_of hs) ≡ length hs
runs_count [] = refl
runs_count (h ∷ hs) = ap suc (runs_count hs)

pub holes_few : (s : Holed) → AreHoles s → length s.holes ≤ suc (length s.out)
holes_few s k = omega (arith, few_holes s.base (map run_of s.holes) s.out k.apart k.order k.parts, runs_count s.holes)
