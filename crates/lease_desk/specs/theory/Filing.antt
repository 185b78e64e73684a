-- Laws, for the proofs of this crate.
-- Each cell of a hole goes on to be the one that was filed, whatever the desk does.
use Rattle.std.proofs.Common.{◌≡◌, ℕ, zero, suc, ◌+◌, ◌-◌, ◌<◌, ◌≤◌, ◌==◌, nat_le, nat_lt, ◌&&◌, Bool, true, false, if◌then◌else◌, ◌⊎◌, inl, inr, List, [], ◌∷◌, ◌++◌, length, map, replicate, Option, Some, None, refl, sym, ap, ◌∙◌, subst, arith}
use Rattle.std.specs.Prelude.{slice_get}
use Rattle.std.specs.List.{AllByRecursion}
use Rattle.std.proofs.lemmas.Option.{slice_get_within}
use Rattle.cell_span.specs.declared.cell.Cell.{Cell}
use Rattle.cell_span.specs.Range.{Range, blank}
use Rattle.hole_list.specs.Placing.{in_run, run, times_in}
use Rattle.hole_list.specs.Holes.{run_of, give_cells}
use Rattle.lease_desk.specs.declared.event.Event.{Event}
use Rattle.lease_desk.specs.declared.event.Event.TheVariants as event
use Rattle.lease_desk.specs.Filing.{FiledCells, cell_of, cell_after, cell_behind, filed_cell, IsKnownAs, HoldsFiled}
use Rattle.lease_desk.specs.Progress.{one_if, gave_times}
use Rattle.hole_list.specs.PlacingLaws.{in_yes, some_same}
use Rattle.hole_list.specs.HolesLaws.{OfCells, OfAll, given_all}

behind_more : (filed : FiledCells) (i : ℕ) (known : Option Cell) (es : List Event) (e : Event)
    → cell_behind filed i known (es ++ e ∷ []) ≡ cell_after filed i (cell_behind filed i known es) e
behind_more filed i known [] e = refl
behind_more filed i known (f ∷ es) e = behind_more filed i (cell_after filed i known f) es e

-- one event more
pub filed_more : (filed : FiledCells) (es : List Event) (e : Event) (i : ℕ) → filed_cell filed (es ++ e ∷ []) i ≡ cell_after filed i (filed_cell filed es i) e
unfolding filed_cell
filed_more filed es e i = behind_more filed i (Some blank) es e

-- what other jobs filed doesn't matter
behind_same : (filed other : FiledCells) (i : ℕ) (known : Option Cell) (es : List Event)
    → ((job : ℕ) → 1 ≤ gave_times job es → filed job ≡ other job) → cell_behind filed i known es ≡ cell_behind other i known es
behind_same filed other i known [] k = refl
behind_same filed other i known (event.Took job first size ∷ es) k = behind_same filed other i known es (λ j m. k j (omega (arith, m)))
behind_same filed other i known (event.Full job need most ∷ es) k = behind_same filed other i known es (λ j m. k j (omega (arith, m)))
behind_same filed other i known (event.Gave job first size ∷ es) k =
    let one : one_if (job == job) ≡ 1 = grind arith in
    let same : filed job ≡ other job = k job (omega (arith, one)) in
    ap (λ (cells : Option (List Cell)). cell_behind filed i (if nat_le first i && nat_lt i (first + size) then cell_of cells (i - first) else known) es) same
    ∙ behind_same filed other i (cell_after other i known (event.Gave job first size)) es (λ j m. k j (omega (arith, m)))

pub filed_same : (filed other : FiledCells) (es : List Event) (i : ℕ) → ((job : ℕ) → 1 ≤ gave_times job es → filed job ≡ other job)
    → filed_cell filed es i ≡ filed_cell other es i
unfolding filed_cell
filed_same filed other es i k = behind_same filed other i (Some blank) es k

-- at first all cells are blank
pub filed_first : (filed : FiledCells) (i : ℕ) → filed_cell filed [] i ≡ Some blank
unfolding filed_cell
filed_first filed i = refl

pub is_blank : (n at : ℕ) (cell : Cell) → slice_get (replicate n blank) at ≡ Some cell → cell ≡ blank
is_blank zero at cell e = absurd (grind arith)
is_blank (suc n) zero cell e = sym (some_same blank cell e)
is_blank (suc n) (suc at) cell e = is_blank n at cell e

pub holds_first : (filed : FiledCells) (h : Range) (n : ℕ) → h.cells ≡ replicate n blank → HoldsFiled filed [] h
holds_first filed h n e at cell is =
    subst (λ (o : Option Cell). IsKnownAs o cell) (sym (filed_first filed (h.first + at))) (is_blank n at cell (ap (λ (cs : List Cell). slice_get cs at) (sym e) ∙ is))

-- the cell of this index is the one that is known
abbrev pub Known : FiledCells → List Event → ℕ → Cell → Type 0
Known filed es i cell = IsKnownAs (filed_cell filed es i) cell

-- over lists of holes
pub to_all : (P : ℕ → Cell → Type 0) (hs : List Range) → AllByRecursion (OfCells P) hs → OfAll P hs
to_all P [] l = tt
to_all P (h ∷ hs) l = (l.0, to_all P hs l.1)

pub from_all : (P : ℕ → Cell → Type 0) (hs : List Range) → OfAll P hs → AllByRecursion (OfCells P) hs
from_all P [] l = tt
from_all P (h ∷ hs) l = (l.0, from_all P hs l.1)

-- what holds of each cell of holes
pub each_cell : (P Q : ℕ → Cell → Type 0) (hs : List Range) → ((i : ℕ) (cell : Cell) → 1 ≤ times_in (map run_of hs) i → P i cell → Q i cell)
    → AllByRecursion (OfCells P) hs → AllByRecursion (OfCells Q) hs
each_cell P Q [] k l = tt
each_cell P Q (h ∷ hs) k l = (
  λ at cell e. k (h.first + at) cell
      (omega (arith, in_yes (run_of h) (h.first + at) (omega arith) (omega (arith, slice_get_within h.cells at cell e)))) (l.0 at cell e),
  each_cell P Q hs (λ i cell m p. k i cell (omega (arith, m)) p) l.1,
)

-- an event that gives nothing back
pub all_more : (filed : FiledCells) (es : List Event) (e : Event) (hs : List Range) → ((i : ℕ) (known : Option Cell) → cell_after filed i known e ≡ known)
    → AllByRecursion (HoldsFiled filed es) hs → AllByRecursion (HoldsFiled filed (es ++ e ∷ [])) hs
all_more filed es e hs k l =
    each_cell (λ i cell. IsKnownAs (filed_cell filed es i) cell) (λ i cell. IsKnownAs (filed_cell filed (es ++ e ∷ []) i) cell) hs
    (λ i cell m p. subst (λ (o : Option Cell). IsKnownAs o cell) (sym (filed_more filed es e i ∙ k i (filed_cell filed es i))) p) l

inside : (first size i : ℕ) → first ≤ i → i < first + size → (nat_le first i && nat_lt i (first + size)) ≡ true
inside first size i a b = grind arith

outside : (first size i : ℕ) → in_run (run first size) i ≡ 0 → (nat_le first i && nat_lt i (first + size)) ≡ false
outside first size i a = by_test (nat_le first i && nat_lt i (first + size)) refl
  where
    by_test : (b : Bool) → (nat_le first i && nat_lt i (first + size)) ≡ b → b ≡ false
    by_test false e = refl
    by_test true e = absurd (omega (arith, a, in_yes (run first size) i (let q : first ≤ i = grind arith in q) (let q : i < first + size = grind arith in q)))

-- A lease comes back: its cells are those that were filed with it, where any were, and the other holes' cells stay.
pub all_given : (filed other : FiledCells) (es : List Event) (job : ℕ) (r : Range) (hs : List Range)
    → ((j : ℕ) → 1 ≤ gave_times j es → filed j ≡ other j) → ((other job ≡ None) ⊎ (other job ≡ Some r.cells))
    → ((i : ℕ) → times_in (map run_of hs) i + in_run (run_of r) i ≤ 1)
    → AllByRecursion (HoldsFiled filed es) hs
    → AllByRecursion (HoldsFiled other (es ++ event.Gave job r.first (length r.cells) ∷ [])) (give_cells hs r)
all_given filed other es job r hs same is once l =
    from_all (Known other (es ++ event.Gave job r.first (length r.cells) ∷ [])) (give_cells hs r)
    (given_all (Known other (es ++ event.Gave job r.first (length r.cells) ∷ [])) hs r
    (to_all (Known other (es ++ event.Gave job r.first (length r.cells) ∷ [])) hs (each_cell (Known filed es) (Known other (es ++ event.Gave job r.first (length r.cells) ∷ [])) hs (λ i cell m p. subst (λ (o : Option Cell). IsKnownAs o cell) (stays i (omega (arith, once i, m))) p) l))
    (λ at cell e. subst (λ (o : Option Cell). IsKnownAs o cell) (sym (comes at (slice_get_within r.cells at cell e))) (by_filed at cell e is)))
  where
    stays : (i : ℕ) → in_run (run_of r) i ≡ 0 → filed_cell filed es i ≡ filed_cell other (es ++ event.Gave job r.first (length r.cells) ∷ []) i
    stays i out =
        filed_same filed other es i same
        ∙ sym (filed_more other es (event.Gave job r.first (length r.cells)) i
        ∙ ap (λ (b : Bool). if b then cell_of (other job) (i - r.first) else filed_cell other es i) (outside r.first (length r.cells) i out))

    comes : (at : ℕ) → at < length r.cells → filed_cell other (es ++ event.Gave job r.first (length r.cells) ∷ []) (r.first + at) ≡ cell_of (other job) at
    comes at k =
        filed_more other es (event.Gave job r.first (length r.cells)) (r.first + at)
        ∙ ap (λ (b : Bool). if b then cell_of (other job) ((r.first + at) - r.first) else filed_cell other es (r.first + at)) (inside r.first (length r.cells) (r.first + at) (omega arith) (omega (arith, k)))
        ∙ ap (λ n. cell_of (other job) n) (let q : (r.first + at) - r.first ≡ at = omega arith in q)

    by_filed : (at : ℕ) (cell : Cell) → slice_get r.cells at ≡ Some cell → (other job ≡ None) ⊎ (other job ≡ Some r.cells)
        → IsKnownAs (cell_of (other job) at) cell
    by_filed at cell e (inl none) = subst (λ (o : Option (List Cell)). IsKnownAs (cell_of o at) cell) (sym none) tt
    by_filed at cell e (inr some) = subst (λ (o : Option (List Cell)). IsKnownAs (cell_of o at) cell) (sym some) (subst (λ (o : Option Cell). IsKnownAs o cell) (sym e) refl)
