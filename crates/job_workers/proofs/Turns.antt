-- Turns of a desk that somebody has alone: a lease goes out, its job is run, and it comes back.
use Rattle.std.proofs.Common.{◌≡◌, ℕ, zero, suc, ◌<◌, List, [], ◌∷◌, length, Bool, true, false, ◌==◌, ◌&&◌, if◌then◌else◌, Option, Some, None, refl, sym, ap, ◌∙◌, subst, arith}
use Rattle.std.specs.Prelude.{slice_get, slice_set}
use Rattle.std.specs.Option.{option_map}
use Rattle.std.proofs.lemmas.Option.{slice_get_within}
use Rattle.hole_list.specs.declared.run.Run.{Run}
use Rattle.hole_list.specs.Placing.{run, Taken, take_run, largest}
use Rattle.hole_list.specs.Holes.{run_of}
use Rattle.lease_desk.specs.declared.event.Event.TheVariants as event
use Rattle.lease_desk.specs.Journal.{DeskState, Move, move, leased, took_left, asked_for, next_move, left_with, first_left, is_none_out, left_move}
use Rattle.lease_desk.specs.Progress.{IsSound}
use Rattle.lease_desk.specs.Lease.{LeaseView}
use Rattle.lease_desk.specs.Desk.{DeskView, Takes}
use Rattle.job_world.specs.Plans.{Plan, leases_of}
use Rattle.job_workers.specs.Serving.{IsOnlyOut}

-- ---- leases that are out

pub leases_many : (plans : List Plan) → length (leases_of plans) ≡ length plans
leases_many [] = refl
leases_many (p ∷ plans) = ap suc (leases_many plans)

-- none is out once the one that went out is back
pub none_again : (ls : List (Option Run)) (job : ℕ) (r : Run) → leased ls ≡ [] → leased (slice_set (slice_set ls job (Some r)) job None) ≡ []
none_again [] job r e = refl
none_again (None ∷ ls) zero r e = e
none_again (Some q ∷ ls) zero r e = absurd (grind arith)
none_again (None ∷ ls) (suc job) r e = none_again ls job r e
none_again (Some q ∷ ls) (suc job) r e = absurd (grind arith)

set_here : (ls : List (Option Run)) (job : ℕ) (x : Option Run) → job < length ls → slice_get (slice_set ls job x) job ≡ Some x
set_here [] job x h = absurd (omega (arith, h))
set_here (l ∷ ls) zero x h = refl
set_here (l ∷ ls) (suc job) x h = set_here ls job x (omega (arith, h))

-- ---- moves that take a lease

-- the move took a lease of this job, of this run, of the job's size
pub record Taking (sizes : List ℕ) (s t : DeskState) (job first size : ℕ) : Type 0 where
  pub run : Run
  pub first_is : run.first ≡ first
  pub leases : t.leases ≡ slice_set s.leases job (Some run)
  pub sized : slice_get sizes job ≡ Some size

some_same : {A : Type 0} (x y : A) → Some x ≡ Some y → x ≡ y
some_same x y e = grind arith

record Tooks (a b c d e f : ℕ) : Type 0 where
  job : a ≡ d
  first : b ≡ e
  size : c ≡ f

tooks : (a b c d e f : ℕ) → event.Took a b c ≡ event.Took d e f → Tooks a b c d e f
tooks a b c d e f is = record { job = grind arith; first = grind arith; size = grind arith }

next_with : (sizes : List ℕ) (s t : DeskState) (size job first many : ℕ) (o : Option Taken) → slice_get sizes s.asked ≡ Some size
    → asked_for s s.asked size o ≡ move (event.Took job first many) t → Taking sizes s t job first many × (t.asked ≡ suc s.asked) × (job ≡ s.asked)
next_with sizes s t size job first many None at e = let c : event.Full s.asked size (largest s.holes) ≡ event.Took job first many = ap (λ (m : Move). m.event) e in absurd (grind arith)
next_with sizes s t size job first many (Some u) at e =
    let q = tooks s.asked u.run.first size job first many (ap (λ (m : Move). m.event) e) in
    let same : slice_get sizes job ≡ Some many = subst (λ j. slice_get sizes j ≡ Some many) q.job (at ∙ ap Some q.size) in (
      record { run = u.run; first_is = q.first; leases = sym (ap (λ (m : Move). m.state.leases) e) ∙ ap (λ j. slice_set s.leases j (Some u.run)) q.job; sized = same },
      sym (ap (λ (m : Move). m.state.asked) e),
      sym q.job,
    )

pub next_taking : (sizes : List ℕ) (s t : DeskState) (job first many : ℕ) → next_move sizes s ≡ Some (move (event.Took job first many) t)
    → Taking sizes s t job first many × (t.asked ≡ suc s.asked) × (job ≡ s.asked)
next_taking sizes s t job first many e = by_size (slice_get sizes s.asked) refl e
  where
    by_size : (o : Option ℕ) → slice_get sizes s.asked ≡ o
        → option_map (λ size. asked_for s s.asked size (take_run s.holes size)) o ≡ Some (move (event.Took job first many) t)
        → Taking sizes s t job first many × (t.asked ≡ suc s.asked) × (job ≡ s.asked)
    by_size None at e = absurd (grind arith)
    by_size (Some size) at e = next_with sizes s t size job first many (take_run s.holes size) at (some_same _ _ e)

-- the job that waited first
pub record TakingLeft (sizes : List ℕ) (s t : DeskState) (job first size : ℕ) : Type 0 where
  pub taking : Taking sizes s t job first size
  pub asked : t.asked ≡ s.asked
  pub fewer : length t.waiting < length s.waiting

left_taken : (sizes : List ℕ) (s t : DeskState) (waiting : List ℕ) (j size job first many : ℕ) (o : Option Taken) → s.waiting ≡ j ∷ waiting
    → slice_get sizes j ≡ Some size
    → option_map (λ u. move (event.Took j u.run.first size) (took_left s waiting j u)) o ≡ Some (move (event.Took job first many) t) → TakingLeft sizes s t job first many
left_taken sizes s t waiting j size job first many None is at e = absurd (grind arith)
left_taken sizes s t waiting j size job first many (Some u) is at e =
    let m = some_same (move (event.Took j u.run.first size) (took_left s waiting j u)) (move (event.Took job first many) t) e in
    let q = tooks j u.run.first size job first many (ap (λ (m : Move). m.event) m) in
    let same : slice_get sizes job ≡ Some many = subst (λ j. slice_get sizes j ≡ Some many) q.job (at ∙ ap Some q.size) in
    record {
      taking = record { run = u.run; first_is = q.first; leases = sym (ap (λ (m : Move). m.state.leases) m) ∙ ap (λ j. slice_set s.leases j (Some u.run)) q.job; sized = same };
      asked = sym (ap (λ (m : Move). m.state.asked) m);
      fewer = omega (arith, ap length is, ap (λ (m : Move). length m.state.waiting) m);
    }

left_sized : (sizes : List ℕ) (s t : DeskState) (waiting : List ℕ) (j job first many : ℕ) (o : Option ℕ) → s.waiting ≡ j ∷ waiting → slice_get sizes j ≡ o
    → left_with s waiting j o ≡ Some (move (event.Took job first many) t) → TakingLeft sizes s t job first many
left_sized sizes s t waiting j job first many None is at e = absurd (grind arith)
left_sized sizes s t waiting j job first many (Some size) is at e = left_taken sizes s t waiting j size job first many (take_run s.holes size) is at e

left_first : (sizes : List ℕ) (s t : DeskState) (job first many : ℕ) (waiting : List ℕ) → s.waiting ≡ waiting
    → first_left sizes s waiting ≡ Some (move (event.Took job first many) t)
    → TakingLeft sizes s t job first many
left_first sizes s t job first many [] is e = absurd (grind arith)
left_first sizes s t job first many (j ∷ waiting) is e = left_sized sizes s t waiting j job first many (slice_get sizes j) is refl e

left_if : (sizes : List ℕ) (s t : DeskState) (job first many : ℕ) (b : Bool)
    → (if b then first_left sizes s s.waiting else None) ≡ Some (move (event.Took job first many) t)
    → TakingLeft sizes s t job first many
left_if sizes s t job first many true e = left_first sizes s t job first many s.waiting refl e
left_if sizes s t job first many false e = absurd (grind arith)

pub left_taking : (sizes : List ℕ) (s t : DeskState) (job first many : ℕ) → left_move sizes s ≡ Some (move (event.Took job first many) t)
    → TakingLeft sizes s t job first many
left_taking sizes s t job first many e = left_if sizes s t job first many ((s.asked == length sizes) && is_none_out s.leases) e

-- ---- a lease that is due

set_many : (ls : List (Option Run)) (job : ℕ) (x : Option Run) → length (slice_set ls job x) ≡ length ls
set_many [] job x = refl
set_many (l ∷ ls) zero x = refl
set_many (l ∷ ls) (suc job) x = ap suc (set_many ls job x)

taken_only : {P : Type 0} (old new : DeskView P) (l : LeaseView) (next : Option Move) → leased old.state.leases ≡ []
    → IsSound new.arena.cells new.sizes new.journal new.state → Takes next old new l
    → Taking old.sizes old.state new.state l.job l.range.first (length l.range.cells) → IsOnlyOut new l
taken_only {P} old new l next none sound takes k =
    let sizes : new.sizes ≡ old.sizes = ap (λ (d : DeskView P). d.sizes) takes.rest in
    let within : l.job < length old.sizes = slice_get_within old.sizes l.job (length l.range.cells) k.sized in
    let many : length new.state.leases ≡ length old.state.leases = ap length k.leases ∙ set_many old.state.leases l.job (Some k.run) in
    let placed : l.job < length old.state.leases = omega (arith, many, sound.places, ap length sizes, within) in
    let out : slice_get new.state.leases l.job ≡ Some (Some k.run) = ap (λ ls. slice_get ls l.job) k.leases ∙ set_here old.state.leases l.job (Some k.run) placed in
    let same : k.run.size ≡ length l.range.cells = some_same k.run.size (length l.range.cells) (sym (sound.sized l.job k.run out) ∙ ap (λ xs. slice_get xs l.job) sizes ∙ k.sized) in
    let is : k.run ≡ run_of l.range = λ i. run (k.first_is i) (same i) in
    record {
      knows = out ∙ ap (λ r. Some (Some r)) is;
      only = ap (λ ls. leased (slice_set ls l.job None)) k.leases ∙ none_again old.state.leases l.job k.run none;
    }

pub next_only : {P : Type 0} (old new : DeskView P) (l : LeaseView) → leased old.state.leases ≡ []
    → IsSound new.arena.cells new.sizes new.journal new.state → Takes (next_move old.sizes old.state) old new l
    → IsOnlyOut new l
next_only {P} old new l none sound takes =
    let k = next_taking old.sizes old.state new.state l.job l.range.first (length l.range.cells) takes.told in
    taken_only old new l (next_move old.sizes old.state) none sound takes k.0

pub left_only : {P : Type 0} (old new : DeskView P) (l : LeaseView) → leased old.state.leases ≡ []
    → IsSound new.arena.cells new.sizes new.journal new.state → Takes (left_move old.sizes old.state) old new l
    → IsOnlyOut new l
left_only {P} old new l none sound takes =
    let k = left_taking old.sizes old.state new.state l.job l.range.first (length l.range.cells) takes.told in
    taken_only old new l (left_move old.sizes old.state) none sound takes k.taking

-- the job that was taken is the one more that was asked for, of those that there are
pub next_asked : {P : Type 0} (old new : DeskView P) (sizes : List ℕ) (l : LeaseView) → new.sizes ≡ sizes → Takes (next_move old.sizes old.state) old new l
    → (old.state.asked < length sizes) × (new.state.asked ≡ suc old.state.asked)
next_asked {P} old new sizes l is takes =
    let k = next_taking old.sizes old.state new.state l.job l.range.first (length l.range.cells) takes.told in
    let within : l.job < length old.sizes = slice_get_within old.sizes l.job (length l.range.cells) k.0.sized in
    (omega (arith, within, k.2, ap (λ (d : DeskView P). length d.sizes) takes.rest, ap length is), k.1)

-- one job fewer waits
pub left_fewer : {P : Type 0} (old new : DeskView P) (l : LeaseView) → Takes (left_move old.sizes old.state) old new l
    → (new.state.asked ≡ old.state.asked) × (length new.state.waiting < length old.state.waiting)
left_fewer old new l takes =
    let k = left_taking old.sizes old.state new.state l.job l.range.first (length l.range.cells) takes.told in
    (k.asked, k.fewer)
