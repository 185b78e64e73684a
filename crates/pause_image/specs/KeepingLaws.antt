-- Laws, for the proofs of this crate and of those above it.
-- A run of licensed code begins in a state that can be put aside, comes to such states alone, and goes on as one.
use Rattle.std.proofs.Common.{◌≡◌, ℕ, zero, suc, ◌+◌, ◌-◌, ◌≤◌, ◌<◌, List, [], ◌∷◌, length, Option, Some, None, refl, sym, subst, arith}
use Rattle.std.specs.Prelude.{◌/◌, slice_get}
use Rattle.std.proofs.lemmas.Option.{slice_get_within}
use Rattle.cell_span.specs.declared.cell.Cell.{Cell}
use Rattle.camelot_values.specs.Value.{Value, parts}
use Rattle.camelot_values.specs.Typing.{ArgumentsFit}
use Rattle.grail_code.specs.Code.{Func, Code}
use Rattle.licence.specs.Books.{book_of}
use Rattle.licence.specs.Bound.{units_at}
use Rattle.licence.specs.Licensed.{Licensed, IsLicensed}
use Rattle.cell_machine.specs.Ahead.{licensed_annotated}
use Rattle.cell_machine.specs.Cells.{free_cell}
use Rattle.cell_machine.specs.Counted.{StaysFit}
use Rattle.cell_machine.specs.Dead.{live, live_machine}
use Rattle.cell_machine.specs.Loading.{cells_from, begun, go_on, advance, steps}
use Rattle.cell_machine.specs.Saved.{kept, configuration_of, CanGoOn}
use Rattle.cell_machine.specs.Sound.{IsSound}
use Rattle.cell_machine.specs.Stands.{IsFreeList, times}
use Rattle.cell_machine.specs.State.{Configuration, Machine, Running, Over, most_calls}
use Rattle.cell_machine.specs.Steps.{step}
use Rattle.cell_machine.specs.theory.Balanced.{balanced_step}
use Rattle.cell_machine.specs.theory.Begun.{begun_fit}
use Rattle.cell_machine.specs.theory.Counting.{times_else}
use Rattle.cell_machine.specs.theory.Holdings.{held_once}
use Rattle.cell_machine.specs.theory.Pauses.{live_fit, paused_goes_on}
use Rattle.cell_machine.specs.theory.Reading.{few_below}
use Rattle.pause_image.specs.Keeping.{IsKeepable}
use Rattle.pause_image.specs.KeptLaws.{free_same, same_again, can_again}

-- ---- the beginning

-- the free list is within the range
free_within : (cells : List Cell) (head : ℕ) (free : List ℕ) (a : ℕ) → IsFreeList cells head free → length cells ≤ a → times a free ≡ 0
free_within cells head [] a l h = refl
free_within cells head (x ∷ free) a l h =
    let within : x < length cells = slice_get_within cells x (free_cell l.1.0) l.1.1 in
    let other : a ≡ x → ⊥ = (λ e. absurd (omega (arith, e, within, h))) in
    omega (arith, times_else a x other, free_within cells l.1.0 free a l.1.2 h)

-- no more cells are free than there are
free_few : (p : Code) (s : Configuration) (r : IsSound p s) → length r.free ≤ length s.cells
free_few p s r = few_below (length s.cells) r.free (λ a. omega (arith, held_once p s r a)) (λ a h. free_within s.cells s.head r.free a r.list h)

pub begun_keepable : (l : Licensed) → IsLicensed l → (entry : ℕ) (f : Func) (args : List Value) (fuel size : ℕ) → slice_get l.code.funcs entry ≡ Some f
    → ArgumentsFit l.code.types f.params args → 1 ≤ fuel → fuel ≤ 1099511627776
    → length (cells_from l.code.types 0 (parts args)) + units_at l.code (book_of l.cert) entry args / l.cert.unit ≤ size → size ≤ 2147483648
    → IsKeepable l (begun l.code entry f args fuel size)
begun_keepable l h entry f args fuel size is fits some most enough few =
    let fit = begun_fit l.code (book_of l.cert) (licensed_annotated l h) h.limits most_calls entry f args fuel size is fits some enough few in
    record {
      fit = fit;
      peak = omega arith;
      steps = omega (arith, some, most);
      within = omega (arith, free_few l.code (begun l.code entry f args fuel size) fit.sound);
    }

-- ---- behind each step

step_keepable : (l : Licensed) (s t : Configuration) → IsLicensed l → IsKeepable l s → step l.code most_calls s ≡ Some (Running t) → IsKeepable l t
step_keepable l s t h k is =
    let room : ℕ = length k.fit.sound.free + s.peak - s.low in
    let q = subst (StaysFit l.code (book_of l.cert) most_calls room s) is (balanced_step l.code (book_of l.cert) (licensed_annotated l h) h.limits most_calls s k.fit) in
    record {
      fit = q.fit;
      peak = q.peak 1099511627776 k.peak (omega (arith, k.within, k.fit.sound.few_cells));
      steps = omega (arith, q.fuel, k.steps);
      within = omega (arith, q.balance, q.cells, k.within, k.fit.counted);
    }

-- a machine that goes on is in such a state
abbrev MachineKeepable : Licensed → Machine → Type 0
MachineKeepable l (Running s) = IsKeepable l s
MachineKeepable l (Over f) = Unit {0}

one_keepable : (l : Licensed) (s : Configuration) (o : Option Machine) → IsLicensed l → IsKeepable l s → step l.code most_calls s ≡ o → MachineKeepable l (go_on (Running s) o)
one_keepable l s None h k is = k
one_keepable l s (Some (Running t)) h k is = step_keepable l s t h k is
one_keepable l s (Some (Over f)) h k is = tt

machine_keepable : (l : Licensed) (n : ℕ) (m : Machine) → IsLicensed l → MachineKeepable l m → MachineKeepable l (steps l.code most_calls n m)
machine_keepable l zero m h k = k
machine_keepable l (suc n) (Running s) h k = machine_keepable l n (advance l.code most_calls (Running s)) h (one_keepable l s (step l.code most_calls s) h k refl)
machine_keepable l (suc n) (Over f) h k = machine_keepable l n (Over f) h tt

pub steps_keepable : (l : Licensed) (n : ℕ) (s t : Configuration) → IsLicensed l → IsKeepable l s → steps l.code most_calls n (Running s) ≡ Running t → IsKeepable l t
steps_keepable l n s t h k is = subst (MachineKeepable l) is (machine_keepable l n (Running s) h k)

-- ---- what is kept

live_keepable : (l : Licensed) (s : Configuration) → IsLicensed l → IsKeepable l s → IsKeepable l (live l.code s)
live_keepable l s h k =
    let fit = live_fit l.code (book_of l.cert) (licensed_annotated l h) most_calls s k.fit in
    let same_free = free_same s.cells s.head fit.sound.free k.fit.sound.free (omega (arith, k.fit.sound.few_cells)) fit.sound.list k.fit.sound.list in
    record { fit = fit; peak = k.peak; steps = k.steps; within = omega (arith, same_free, k.within) }

pub kept_keepable : (l : Licensed) (s : Configuration) → IsLicensed l → IsKeepable l s → IsKeepable l (configuration_of l.code (kept l.code s))
kept_keepable l s h k = subst (IsKeepable l) (sym (same_again l s k.fit.sound)) (live_keepable l s h k)

pub kept_goes_on : (l : Licensed) (s : Configuration) → IsLicensed l → IsKeepable l s → CanGoOn l (kept l.code s) (length s.cells)
kept_goes_on l s h k = can_again l s h k.fit k.peak k.steps k.within

pub kept_agrees : (l : Licensed) (n : ℕ) (s : Configuration) → IsLicensed l → IsKeepable l s
    → live_machine l.code (steps l.code most_calls n (Running (configuration_of l.code (kept l.code s)))) ≡ live_machine l.code (steps l.code most_calls n (Running s))
kept_agrees l n s h k = subst (λ c. live_machine l.code (steps l.code most_calls n (Running c)) ≡ live_machine l.code (steps l.code most_calls n (Running s)))
    (sym (same_again l s k.fit.sound)) (paused_goes_on l.code (book_of l.cert) (licensed_annotated l h) h.limits most_calls n s k.fit)
