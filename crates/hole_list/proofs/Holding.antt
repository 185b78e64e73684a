-- What the fields keep.
use Rattle.std.proofs.Common.{◌≡◌, ℕ, ◌+◌, ◌<◌, ◌≤◌, List, [], ◌∷◌, ◌++◌, length, map, Some, sym, ap, ◌∙◌, subst, arith, length-append}
use Rattle.cell_span.specs.Arenas.{Arena}
use Rattle.cell_span.specs.Range.{Range, IsRange}
use Rattle.hole_list.specs.declared.run.Run.{Run}
use Rattle.hole_list.specs.Placing.{taken, total, with_run, without_run, IsOut, AreFreeOf}
use Rattle.hole_list.specs.Holes.{run_of, Holed, with_holes, AreHoles, TakenCells, take_cells, give_cells, with_given}
use Rattle.hole_list.specs.PlacingLaws.{at_most_one, taken_of, give_total}
use Rattle.hole_list.specs.HolesLaws.{taken_runs, given_runs}
use Rattle.hole_list.specs.OutLaws.{without_length}
use Rattle.hole_list.specs.CountLaws.{holes_few}
use Rattle.hole_list.specs.KeptLaws.{kept_new, kept_taken, kept_given, free_of_runs}

-- at first
pub new_holds : (r : Range) (most : ℕ) (arena : Arena) (base : Run) (was spans : List Range) (runs : List Run) → was ≡ [] → spans ≡ was ++ r ∷ []
    → runs ≡ [] → arena ≡ r.arena → base ≡ run_of r → IsRange r
    → AreHoles (record { arena = arena; base = base; most_out = most; holes = spans; out = runs })
new_holds r most arena base was spans runs e f g a b range =
    let is : spans ≡ r ∷ [] = f ∙ ap (λ (l : List Range). l ++ r ∷ []) e in
    subst AreHoles (λ i. record { arena = sym a i; base = sym b i; most_out = most; holes = sym is i; out = sym g i }) (kept_new r most range)

pub new_free : (r : Range) (base : Run) (was spans : List Range) → was ≡ [] → spans ≡ was ++ r ∷ [] → base ≡ run_of r → base.size ≡ total (map run_of spans)
new_free r base was spans e f b =
    let is : spans ≡ r ∷ [] = f ∙ ap (λ (l : List Range). l ++ r ∷ []) e in
    let all : total (map run_of spans) ≡ length r.cells + 0 = ap (λ l. total (map run_of l)) is in
    let size : base.size ≡ length r.cells = ap (λ (q : Run). q.size) b in
    omega (arith, all, size)

-- a range is taken
pub out_free : (s : Holed) (size : ℕ) (t : TakenCells) (r : Run) → AreHoles s → 1 ≤ size → take_cells s.holes size ≡ Some t → r ≡ run_of t.range
    → AreFreeOf s.out r
out_free s size t r k some is e =
    let runs = taken_runs s.holes size t is in
    let of = taken_of (map run_of s.holes) size (taken (run_of t.range) (map run_of t.holes)) runs.0 in
    subst (AreFreeOf s.out) (sym e) (free_of_runs s.out (run_of t.range) (omega (arith, runs.1, some)) k.order (λ i. omega (arith, k.parts i, of.times i, at_most_one s.base i)))

pub taken_total : (hs : List Range) (size : ℕ) (t : TakenCells) → take_cells hs size ≡ Some t → total (map run_of t.holes) + size ≡ total (map run_of hs)
taken_total hs size t is = (taken_of (map run_of hs) size (taken (run_of t.range) (map run_of t.holes)) (taken_runs hs size t is).0).sum

pub take_holds : (s : Holed) (size : ℕ) (t : TakenCells) (r : Run) (out : List Run) → AreHoles s → 1 ≤ size → length s.out < s.most_out
    → take_cells s.holes size ≡ Some t → r ≡ run_of t.range → out ≡ with_run s.out r
    → AreHoles (with_holes s t.holes out)
take_holds s size t r out k some room is e o =
    subst (λ (l : List Run). AreHoles (with_holes s t.holes l)) (sym (o ∙ ap (with_run s.out) e)) (kept_taken s size t k some room is)

-- a range is given back
pub given_total : (hs : List Range) (r : Range) → total (map run_of (give_cells hs r)) ≡ total (map run_of hs) + length r.cells
given_total hs r = ap total (given_runs hs r) ∙ give_total (map run_of hs) (run_of r)

pub given_few : (s : Holed) (r : Range) → AreHoles s → IsRange r → r.arena ≡ s.arena → IsOut s.out (run_of r)
    → total (map run_of s.holes) + length r.cells ≤ 2147483648
given_few s r k range arena out =
    let after = kept_given s r k range arena out in
    omega (arith, after.sum, k.base_within, k.arena_few, given_total s.holes r)

-- there is room for all holes then
pub given_room : (s : Holed) (r : Range) (room : ℕ) → AreHoles s → IsRange r → r.arena ≡ s.arena → IsOut s.out (run_of r) → s.most_out + 1 ≤ room
    → length (give_cells s.holes r) ≤ room
given_room s r room k range arena out few =
    omega (arith, holes_few (with_given s r) (kept_given s r k range arena out), without_length s.out (run_of r) out, k.few, few)

pub give_holds : (s : Holed) (r : Range) (run : Run) (holes : List Range) (out : List Run) → AreHoles s → IsRange r → r.arena ≡ s.arena → IsOut s.out (run_of r)
    → holes ≡ give_cells s.holes r → run ≡ run_of r → out ≡ without_run s.out run.first → AreHoles (with_holes s holes out)
give_holds s r run holes out k range arena o is e f =
    let g : out ≡ without_run s.out r.first = f ∙ ap (λ (x : Run). without_run s.out x.first) e in
    subst AreHoles (λ i. with_holes s (sym is i) (sym g i)) (kept_given s r k range arena o)

-- the last of one hole is the only one
pub none_before : (r : Range) (spans rest : List Range) → spans ≡ rest ++ r ∷ [] → spans ≡ r ∷ [] → (n : ℕ) → n ≡ length rest → n ≡ 0
none_before r spans rest e one n is =
    let many : length spans ≡ length rest + 1 = ap (λ (l : List Range). length l) e ∙ length-append rest (r ∷ []) in
    let all : length spans ≡ 1 = ap (λ (l : List Range). length l) one in
    omega (arith, many, all, is)
