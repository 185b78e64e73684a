-- Laws, for the proofs of this crate and of those above it.
-- Taking and giving back keep what holes keep.
use Rattle.std.proofs.Common.{◌≡◌, ℕ, suc, ◌+◌, ◌<◌, ◌≤◌, ◌==◌, nat_le, nat_lt, Bool, true, false, if◌then◌else◌, List, [], ◌∷◌, ◌++◌, length, map, Option, Some, None, refl, sym, ap, ◌∙◌, subst, arith, length-append, length-drop, length-take-le}
use Rattle.std.specs.Option.{option_map}
use Rattle.std.specs.List.{AllByRecursion}
use Rattle.cell_span.specs.Arenas.{Arena}
use Rattle.cell_span.specs.Range.{Range, IsRange, front, back, joined}
use Rattle.hole_list.specs.declared.run.Run.{Run}
use Rattle.hole_list.specs.Placing.{end_of, taken, AreApart, in_run, times_in, total, AreOrdered, IsOut, AreFreeOf}
use Rattle.hole_list.specs.Holes.{run_of, Holed, new_holes, AreHoles, TakenCells, taken_cells, rest_of, behind_cells, take_cells, with_taken, IsRangeIn, give_cells, with_given}
use Rattle.hole_list.specs.PlacingLaws.{some_same, taken_of, taken_apart, AreBehind, apart_front, apart_runs, at_most_one, give_times, give_total, give_apart, one_hole, part_of}
use Rattle.hole_list.specs.HolesLaws.{taken_runs, given_runs}
use Rattle.hole_list.specs.OutLaws.{AreFrom, ordered_front, ordered_from, with_times, with_total, with_length, with_ordered, without_times, without_total, without_length, without_ordered}

-- ---- what holds of each range goes on to hold

module _ (P : Range → Type 0) (size : ℕ) (in_front : (h : Range) → size ≤ length h.cells → P h → P (front h size)) (in_back : (h : Range) → size < length h.cells → P h → P (back h size)) where
  of_rest : (h : Range) (hs : List Range) → size ≤ length h.cells → P h → AllByRecursion P hs → AllByRecursion P (rest_of h size hs)
  of_rest h hs few k l = by_test (length h.cells == size) refl
    where
      by_test : (b : Bool) → (length h.cells == size) ≡ b → AllByRecursion P (if b then hs else back h size ∷ hs)
      by_test true e = l
      by_test false e = let ne : (length h.cells ≡ size) → ⊥ = λ q. grind arith in (in_back h (omega (arith, few, ne)) k, l)

  pub each_taken : (hs : List Range) (t : TakenCells) → take_cells hs size ≡ Some t → AllByRecursion P hs → P t.range × AllByRecursion P t.holes
  each_taken [] t e k = absurd (grind arith)
  each_taken (h ∷ hs) t e k = by_test (λ u is. each_taken hs u is k.1) (nat_le size (length h.cells)) refl e
    where
      by_rest : (o : Option TakenCells) → ((u : TakenCells) → o ≡ Some u → P u.range × AllByRecursion P u.holes)
          → option_map (behind_cells h) o ≡ Some t → P t.range × AllByRecursion P t.holes
      by_rest None next is = absurd (grind arith)
      by_rest (Some u) next is = subst (λ (v : TakenCells). P v.range × AllByRecursion P v.holes) (some_same (behind_cells h u) t is) ((next u refl).0, (k.0, (next u refl).1))

      by_test : ((u : TakenCells) → take_cells hs size ≡ Some u → P u.range × AllByRecursion P u.holes) → (b : Bool) → nat_le size (length h.cells) ≡ b
          → (if b then Some (taken_cells (front h size) (rest_of h size hs)) else option_map (behind_cells h) (take_cells hs size)) ≡ Some t → P t.range × AllByRecursion P t.holes
      by_test next true fits is =
          let few : size ≤ length h.cells = grind arith in
          subst (λ (v : TakenCells). P v.range × AllByRecursion P v.holes) (some_same (taken_cells (front h size) (rest_of h size hs)) t is) (in_front h few k.0, of_rest h hs few k.0 k.1)
      by_test next false fits is = by_rest (take_cells hs size) next is

module _ (P : Range → Type 0) (in_joined : (r s : Range) → r.first + length r.cells ≡ s.first → P r → P s → P (joined r s)) where
  pub each_given : (hs : List Range) (r : Range) → AllByRecursion P hs → P r → AllByRecursion P (give_cells hs r)
  each_given [] r k l = (l, tt)
  each_given (h ∷ hs) r k l =
      by_tests (λ s m. each_given hs s k.1 m) (nat_lt (r.first + length r.cells) h.first) ((r.first + length r.cells) == h.first) ((h.first + length h.cells) == r.first) refl refl
    where
      by_tests : ((s : Range) → P s → AllByRecursion P (give_cells hs s)) → (b c d : Bool) → ((r.first + length r.cells) == h.first) ≡ c
          → ((h.first + length h.cells) == r.first) ≡ d
          → AllByRecursion P (if b then r ∷ h ∷ hs else if c then joined r h ∷ hs else if d then give_cells hs (joined h r) else h ∷ give_cells hs r)
      by_tests next true c d p q = (l, k)
      by_tests next false true d p q = (in_joined r h (grind arith) l k.0, k.1)
      by_tests next false false true p q = next (joined h r) (in_joined h r (grind arith) k.0 l)
      by_tests next false false false p q = (k.0, next r l)

-- ---- ranges of one arena

record IsRangeOf (a : Arena) (r : Range) : Type 0 where
  range : IsRange r
  arena : r.arena ≡ a

both_ways : (a : Arena) (hs : List Range) → AllByRecursion IsRange hs → AllByRecursion (λ h. h.arena ≡ a) hs → AllByRecursion (IsRangeOf a) hs
both_ways a [] k l = tt
both_ways a (h ∷ hs) k l = (record { range = k.0; arena = l.0 }, both_ways a hs k.1 l.1)

ranges_of : (a : Arena) (hs : List Range) → AllByRecursion (IsRangeOf a) hs → AllByRecursion IsRange hs
ranges_of a [] k = tt
ranges_of a (h ∷ hs) k = (k.0.range, ranges_of a hs k.1)

arenas_of : (a : Arena) (hs : List Range) → AllByRecursion (IsRangeOf a) hs → AllByRecursion (λ h. h.arena ≡ a) hs
arenas_of a [] k = tt
arenas_of a (h ∷ hs) k = (k.0.arena, arenas_of a hs k.1)

front_of : (a : Arena) (size : ℕ) → 1 ≤ size → (h : Range) → size ≤ length h.cells → IsRangeOf a h → IsRangeOf a (front h size)
front_of a size some h few k =
    let n = length-take-le size h.cells few in
    record { range = record { some = omega (arith, n, some); within = omega (arith, n, few, k.range.within); few = k.range.few }; arena = k.arena }

back_of : (a : Arena) (size : ℕ) (h : Range) → size < length h.cells → IsRangeOf a h → IsRangeOf a (back h size)
back_of a size h few k =
    let n = length-drop size h.cells in
    record { range = record { some = omega (arith, n, few); within = omega (arith, n, few, k.range.within); few = k.range.few }; arena = k.arena }

joined_of : (a : Arena) (r s : Range) → r.first + length r.cells ≡ s.first → IsRangeOf a r → IsRangeOf a s → IsRangeOf a (joined r s)
joined_of a r s meet k l =
    let n = length-append r.cells s.cells in
    let same : r.arena.cells ≡ s.arena.cells = ap (λ (x : Arena). x.cells) (k.arena ∙ sym l.arena) in
    record {
      range = record { some = omega (arith, n, k.range.some); within = omega (arith, n, meet, l.range.within, same); few = k.range.few };
      arena = k.arena;
    }

-- ---- runs of which none has a cell of another

pub apart_ordered : (hs : List Run) → AreApart hs → AreOrdered hs
apart_ordered [] a = tt
apart_ordered (h ∷ hs) a = let f = apart_front h hs a in ordered_from h hs f.0 (from_behind hs f.1) (apart_ordered hs f.2)
  where
    from_behind : (ks : List Run) → AreBehind (end_of h) ks → AreFrom (end_of h) ks
    from_behind [] b = tt
    from_behind (k ∷ ks) b = omega (arith, b)

pub free_of_runs : (ss : List Run) (r : Run) → 1 ≤ r.size → AreOrdered ss → ((i : ℕ) → times_in ss i + in_run r i ≤ 1) → AreFreeOf ss r
free_of_runs [] r some o k = tt
free_of_runs (s ∷ ss) r some o k =
    let f = ordered_front s ss o in
    (apart_runs r s some f.0 (λ i. omega (arith, k i)), free_of_runs ss r some f.2 (λ i. omega (arith, k i)))

-- ---- the whole state

-- a range is taken
pub kept_taken : (s : Holed) (size : ℕ) (t : TakenCells) → AreHoles s → 1 ≤ size → length s.out < s.most_out → take_cells s.holes size ≡ Some t
    → AreHoles (with_taken s t)
kept_taken s size t k some room is =
    let each = each_taken (IsRangeOf s.arena) size (front_of s.arena size some) (back_of s.arena size) s.holes t is (both_ways s.arena s.holes k.ranges k.of_arena) in
    let runs = taken_runs s.holes size t is in
    let of = taken_of (map run_of s.holes) size (taken (run_of t.range) (map run_of t.holes)) runs.0 in
    let free = free_of_runs s.out (run_of t.range) (omega (arith, runs.1, some)) k.order (λ i. omega (arith, k.parts i, of.times i, at_most_one s.base i)) in
    record {
      ranges = ranges_of s.arena t.holes each.1;
      of_arena = arenas_of s.arena t.holes each.1;
      apart = (taken_apart (map run_of s.holes) size (taken (run_of t.range) (map run_of t.holes)) runs.0 k.apart).0;
      parts = λ i. omega (arith, k.parts i, of.times i, with_times s.out (run_of t.range) i);
      order = (with_ordered s.out (run_of t.range) (omega (arith, runs.1, some)) k.order free).0;
      sum = omega (arith, k.sum, of.sum, runs.1, with_total s.out (run_of t.range));
      few = omega (arith, with_length s.out (run_of t.range), room);
      base_some = k.base_some;
      base_within = k.base_within;
      arena_few = k.arena_few;
    }

-- it is a range of so many cells of the arena, and a part of the base run
pub range_taken : (s : Holed) (size : ℕ) (t : TakenCells) → AreHoles s → 1 ≤ size → take_cells s.holes size ≡ Some t → IsRangeIn s size t.range
range_taken s size t k some is =
    let each = each_taken (IsRangeOf s.arena) size (front_of s.arena size some) (back_of s.arena size) s.holes t is (both_ways s.arena s.holes k.ranges k.of_arena) in
    let runs = taken_runs s.holes size t is in
    let of = taken_of (map run_of s.holes) size (taken (run_of t.range) (map run_of t.holes)) runs.0 in
    record {
      range = each.0.range;
      arena = each.0.arena;
      sized = runs.1;
      part = part_of (run_of t.range) s.base (omega (arith, runs.1, some)) (λ i. omega (arith, k.parts i, of.times i));
    }

-- a run that is out has no cell of a hole
pub free_of_out : (s : Holed) (r : Range) → AreHoles s → IsRange r → IsOut s.out (run_of r) → AreFreeOf (map run_of s.holes) (run_of r)
free_of_out s r k range out =
    free_of_runs (map run_of s.holes) (run_of r) range.some (apart_ordered (map run_of s.holes) k.apart)
    (λ i. omega (arith, k.parts i, without_times s.out (run_of r) i k.order out, at_most_one s.base i))

-- a range is given back
pub kept_given : (s : Holed) (r : Range) → AreHoles s → IsRange r → r.arena ≡ s.arena → IsOut s.out (run_of r) → AreHoles (with_given s r)
kept_given s r k range arena out =
    let each = each_given (IsRangeOf s.arena) (joined_of s.arena) s.holes r (both_ways s.arena s.holes k.ranges k.of_arena) (record { range = range; arena = arena }) in
    let runs = given_runs s.holes r in
    record {
      ranges = ranges_of s.arena (give_cells s.holes r) each;
      of_arena = arenas_of s.arena (give_cells s.holes r) each;
      apart = subst AreApart (sym runs) (give_apart (map run_of s.holes) (run_of r) range.some k.apart (free_of_out s r k range out)).0;
      parts = λ i. omega (arith, k.parts i, ap (λ l. times_in l i) runs, give_times (map run_of s.holes) (run_of r) i, without_times s.out (run_of r) i k.order out);
      order = (without_ordered s.out r.first k.order).0;
      sum = omega (arith, k.sum, ap total runs, give_total (map run_of s.holes) (run_of r), without_total s.out (run_of r) k.order out);
      few = omega (arith, k.few, without_length s.out (run_of r) out);
      base_some = k.base_some;
      base_within = k.base_within;
      arena_few = k.arena_few;
    }

-- at first
pub kept_new : (r : Range) (most : ℕ) → IsRange r → AreHoles (new_holes r most)
kept_new r most range = record {
  ranges = (range, tt);
  of_arena = (refl, tt);
  apart = range.some;
  parts = λ i. omega arith;
  order = tt;
  sum = omega arith;
  few = omega arith;
  base_some = range.some;
  base_within = range.within;
  arena_few = range.few;
}

-- where none is out, the base run is one hole
pub one_range : (s : Holed) → AreHoles s → s.out ≡ [] → map run_of s.holes ≡ s.base ∷ []
one_range s k none = one_hole s.base (map run_of s.holes) k.base_some k.apart (λ i. omega (arith, k.parts i, ap (λ l. times_in l i) none))

pub base_left : (s : Holed) (r : Range) (rest : List Range) → AreHoles s → s.out ≡ [] → s.holes ≡ rest ++ r ∷ []
    → (run_of r ≡ s.base) × (s.holes ≡ r ∷ []) × (r.arena ≡ s.arena)
base_left s r rest k none is = by_rest rest is (one_range s k none)
  where
    by_rest : (rest : List Range) → s.holes ≡ rest ++ r ∷ [] → map run_of s.holes ≡ s.base ∷ [] → (run_of r ≡ s.base) × (s.holes ≡ r ∷ []) × (r.arena ≡ s.arena)
    by_rest [] is one =
        let same : map run_of (r ∷ []) ≡ s.base ∷ [] = ap (map run_of) (sym is) ∙ one in
        let of : AllByRecursion (λ h. h.arena ≡ s.arena) (r ∷ []) = subst (AllByRecursion (λ h. h.arena ≡ s.arena)) is k.of_arena in
        (cc, is, of.0)
    by_rest (q ∷ qs) is one =
        let same : map run_of (q ∷ (qs ++ r ∷ [])) ≡ s.base ∷ [] = ap (map run_of) (sym is) ∙ one in
        absurd (no_two qs (ap length same))
      where
        no_two : (qs : List Range) → suc (length (map run_of (qs ++ r ∷ []))) ≡ 1 → ⊥
        no_two [] e = omega (arith, e)
        no_two (p ∷ ps) e = omega (arith, e)
