-- Laws, for the laws of the world.
-- Behind a step, a lease that goes out and one that comes back, each lease has the cells and the frames of its lone
-- machine.
use Rattle.std.proofs.Common.{◌≡◌, ℕ, zero, suc, ◌+◌, ◌≤◌, List, [], ◌∷◌, length, take, drop, Option, Some, None, refl, sym, ap, ◌∙◌, subst, arith, inl, inr}
use Rattle.std.specs.Prelude.{slice_get, slice_set, ◌⊎◌}
use Rattle.std.proofs.lemmas.Bool.{cases_eq}
use Rattle.cell_span.specs.declared.cell.Cell.{Cell}
use Rattle.grail_code.specs.Code.{Code}
use Rattle.cell_machine.specs.State.{Configuration, Machine, Running, Over, cells_of, most_calls}
use Rattle.cell_machine.specs.Steps.{step}
use Rattle.job_world.specs.Put.{put_at, Core, Going, Ended, machine_of, core_of, one_step, Rest}
use Rattle.job_world.specs.theory.PutLaws.{put_here, put_apart, put_length, taken, StepsSame, steps_same}
use Rattle.hole_list.specs.declared.run.Run.{Run}
use Rattle.hole_list.specs.PlacingLaws.{some_same}
use Rattle.lease_desk.specs.theory.Leases.{set_there}
use Rattle.cell_machine.specs.Loading.{go_on, advance, steps}
use Rattle.job_world.specs.World.{Worker}
use Rattle.job_world.specs.theory.Alone.{Bare, Starts, lone_of, GoOn, bare_stepped, bare_step_in, bare_step, bare_take, bare_give, StandsAlone, AreAlone, AreApart}

pub set_here : {A : Type 0} (xs : List A) (i : ℕ) (x y : A) → slice_get xs i ≡ Some y → slice_get (slice_set xs i x) i ≡ Some x
set_here [] i x y e = let k : None ≡ Some y = e in absurd cc
set_here (z ∷ xs) zero x y e = refl
set_here (z ∷ xs) (suc i) x y e = set_here xs i x y e

-- one more step, at the end
pub step_more : (p : Code) (limit n : ℕ) (m : Machine) → steps p limit (suc n) m ≡ advance p limit (steps p limit n m)
step_more p limit zero m = refl
step_more p limit (suc n) m = step_more p limit n (advance p limit m)

machine_again : (m : Machine) → machine_of (cells_of m) (core_of m) ≡ m
machine_again (Running s) = refl
machine_again (Over f) = refl

-- ---- one Step

module _ (ps : Starts) (goes : GoOn ps) (w : Bare) (job : ℕ) (r : Run) (k : Worker) (leased : slice_get w.leases job ≡ Some (Some r)) (working : slice_get w.workers job ≡ Some (Some k)) (own : StandsAlone ps w.cells job r k) (all : AreAlone ps w)
    (apart : AreApart w) where
  -- the job's own cells and frames behind a step
  own_behind : (m : Machine) → StepsSame (ps.code job) r.first r.size w.cells k.core m → length (cells_of m) ≡ r.size → lone_of ps job (suc k.count) ≡ m
      → (other : Machine) → one_step (ps.code job) (machine_of (drop r.first w.cells) k.core) ≡ Some other
      → (put_at r.first (cells_of other) w.cells ≡ put_at r.first (cells_of m) w.cells) → (core_of other ≡ core_of m)
      → StandsAlone ps (put_at r.first (cells_of other) w.cells) job r (record { core = core_of other; count = suc k.count })
  own_behind m same n next other is cells core = record {
    within = subst (λ x. r.first + r.size ≤ x) (sym (put_length r.first (cells_of other) w.cells)) own.within;
    alone =
        ap (λ l. machine_of (take r.size (drop r.first l)) (core_of other)) cells
        ∙ ap (λ c. machine_of (take r.size (drop r.first (put_at r.first (cells_of m) w.cells))) c) core
        ∙ ap (λ s. machine_of (take s (drop r.first (put_at r.first (cells_of m) w.cells))) (core_of m)) (sym n)
        ∙ ap (λ l. machine_of l (core_of m)) (put_here r.first (cells_of m) w.cells (omega (arith, own.within, n)))
        ∙ machine_again m
        ∙ sym next;
  }

  -- another job's
  other_behind : (xs : List Cell) → length xs ≡ r.size → (j : ℕ) (q : Run) (l : Worker) → (job ≡ j → ⊥) → slice_get w.leases j ≡ Some (Some q)
      → slice_get w.workers j ≡ Some (Some l) → StandsAlone ps (put_at r.first xs w.cells) j q l
  other_behind xs n j q l ne el ew =
      let a = all j q l el ew in
      record {
        within = subst (λ x. q.first + q.size ≤ x) (sym (put_length r.first xs w.cells)) a.within;
        alone = ap (λ c. machine_of c l.core) (put_apart r.first q.first q.size xs w.cells (sides (apart job j r q leased el ne))) ∙ a.alone;
      }
    where
      sides : (q.first + q.size ≤ r.first) ⊎ (r.first + r.size ≤ q.first) → (q.first + q.size ≤ r.first) ⊎ (r.first + length xs ≤ q.first)
      sides (inl h) = inl h
      sides (inr h) = inr (omega (arith, h, n))

  pairs : (k2 l : Worker) → Some (Some k2) ≡ Some (Some l) → k2 ≡ l
  pairs k2 l e = some_same k2 l (some_same (Some k2) (Some l) e)

  runs : (q : Run) → slice_get w.leases job ≡ Some (Some q) → r ≡ q
  runs q e = some_same r q (some_same (Some r) (Some q) (sym leased ∙ e))

  -- the job's own and all others
  collect : (xs : List Cell) (k2 : Worker) → StandsAlone ps xs job r k2
      → ((j : ℕ) (q : Run) (l : Worker) → (job ≡ j → ⊥) → slice_get w.leases j ≡ Some (Some q) → slice_get w.workers j ≡ Some (Some l) → StandsAlone ps xs j q l)
      → AreAlone ps (record { cells = xs; leases = w.leases; workers = slice_set w.workers job (Some k2) })
  collect xs k2 mine others j q l el ew = by_job (cases_eq job j)
    where
      by_job : (job ≡ j) ⊎ (job ≡ j → ⊥) → StandsAlone ps xs j q l
      by_job (inl e) =
          let k3 : k2 ≡ l = pairs k2 l (sym (set_here w.workers job (Some k2) (Some k) working) ∙ ap (slice_get (slice_set w.workers job (Some k2))) e ∙ ew) in
          let q2 : r ≡ q = runs q (ap (slice_get w.leases) e ∙ el) in
          subst (λ i. StandsAlone ps xs i q l) e (subst (λ x. StandsAlone ps xs job x l) q2 (subst (λ x. StandsAlone ps xs job r x) k3 mine))
      by_job (inr n) = others j q l n el (sym (set_there w.workers job j (Some k2) n) ∙ ew)

  by_core : (c : Core) → k.core ≡ c → AreAlone ps (bare_stepped w job r.first k (one_step (ps.code job) (machine_of (drop r.first w.cells) c)))
  by_core (Ended end calls peak low) e = all
  by_core (Going rest) e = by_lone (goes job k.count s at)
    where
      range : List Cell
      range = take r.size (drop r.first w.cells)

      s : Configuration
      s = record { cells = range; head = rest.head; frame = rest.frame; waiting = rest.waiting; fuel = rest.fuel; calls = rest.calls; peak = rest.peak; low = rest.low }

      at : lone_of ps job k.count ≡ Running s
      at = sym own.alone ∙ ap (machine_of range) e

      by_lone : (n : Machine) × (step (ps.code job) most_calls s ≡ Some n) × (length (cells_of n) ≡ length range)
          → AreAlone ps (bare_stepped w job r.first k (one_step (ps.code job) (machine_of (drop r.first w.cells) (Going rest))))
      by_lone g =
          let m = g.0 in
          let next : lone_of ps job (suc k.count) ≡ m = step_more (ps.code job) most_calls k.count (ps.machine job) ∙ ap (advance (ps.code job) most_calls) at ∙ ap (go_on (Running s)) g.1 in
          let n : length (cells_of m) ≡ r.size = g.2 ∙ taken r.first r.size w.cells own.within in
          let same = steps_same (ps.code job) r.first r.size w.cells (Going rest) m own.within g.1 n in
          let same' : StepsSame (ps.code job) r.first r.size w.cells k.core m = subst (λ c. StepsSame (ps.code job) r.first r.size w.cells c m) (sym e) same in
          subst (λ o. AreAlone ps (bare_stepped w job r.first k o)) (sym same.is)
          (subst (λ c. AreAlone ps (record { cells = put_at r.first (cells_of same.other) w.cells; leases = w.leases; workers = slice_set w.workers job (Some (record { core = c; count = suc k.count })) })) refl
          (collect (put_at r.first (cells_of same.other) w.cells) (record { core = core_of same.other; count = suc k.count })
          (own_behind m same' n next same.other (ap (λ c. one_step (ps.code job) (machine_of (drop r.first w.cells) c)) e ∙ same.is) same.cells same.core)
          (λ j q l ne el ew. subst (λ x. StandsAlone ps x j q l) (sym same.cells) (other_behind (cells_of m) n j q l ne el ew))))

  -- where the run goes on there is a step
  pub has_step : (rest : Rest) → k.core ≡ Going rest → (other : Machine) × (one_step (ps.code job) (machine_of (drop r.first w.cells) k.core) ≡ Some other)
  has_step rest e =
      let g = goes job k.count (record { cells = take r.size (drop r.first w.cells); head = rest.head; frame = rest.frame; waiting = rest.waiting; fuel = rest.fuel; calls = rest.calls; peak = rest.peak; low = rest.low }) (sym own.alone ∙ ap (machine_of (take r.size (drop r.first w.cells))) e) in
      let same = steps_same (ps.code job) r.first r.size w.cells (Going rest) g.0 own.within g.1 (g.2 ∙ taken r.first r.size w.cells own.within) in
      (same.other, ap (λ c. one_step (ps.code job) (machine_of (drop r.first w.cells) c)) e ∙ same.is)

  -- what a step puts back is as long as the range
  pub step_puts : (other : Machine) → one_step (ps.code job) (machine_of (drop r.first w.cells) k.core) ≡ Some other
      → (m : Machine) × (length (cells_of m) ≡ r.size) × (put_at r.first (cells_of other) w.cells ≡ put_at r.first (cells_of m) w.cells)
  step_puts other is = puts_by k.core refl is
    where
      puts_by : (c : Core) → k.core ≡ c → one_step (ps.code job) (machine_of (drop r.first w.cells) c) ≡ Some other
          → (m : Machine) × (length (cells_of m) ≡ r.size) × (put_at r.first (cells_of other) w.cells ≡ put_at r.first (cells_of m) w.cells)
      puts_by (Ended end calls peak low) e so = let none : None ≡ Some other = so in absurd cc
      puts_by (Going rest) e so =
          let g = goes job k.count (record { cells = take r.size (drop r.first w.cells); head = rest.head; frame = rest.frame; waiting = rest.waiting; fuel = rest.fuel; calls = rest.calls; peak = rest.peak; low = rest.low }) (sym own.alone ∙ ap (machine_of (take r.size (drop r.first w.cells))) e) in
          let n : length (cells_of g.0) ≡ r.size = g.2 ∙ taken r.first r.size w.cells own.within in
          let same = steps_same (ps.code job) r.first r.size w.cells (Going rest) g.0 own.within g.1 n in
          let one : same.other ≡ other = some_same same.other other (sym same.is ∙ so) in
          (g.0, n, ap (λ (o : Machine). put_at r.first (cells_of o) w.cells) (sym one) ∙ same.cells)

-- Behind a Step of any job, each lease's cells and frames are those of its lone machine after as many steps.
pub step_alone : (ps : Starts) → GoOn ps → (w : Bare) (job : ℕ) → AreAlone ps w → AreApart w → AreAlone ps (bare_step ps w job)
step_alone ps goes w job all apart = by_worker (slice_get w.workers job) refl (slice_get w.leases job) refl
  where
    by_worker : (o : Option (Option Worker)) → slice_get w.workers job ≡ o → (l : Option (Option Run)) → slice_get w.leases job ≡ l
        → AreAlone ps (bare_step_in ps w job o l)
    by_worker None e l f = all
    by_worker (Some None) e l f = all
    by_worker (Some (Some k)) e None f = all
    by_worker (Some (Some k)) e (Some None) f = all
    by_worker (Some (Some k)) e (Some (Some r)) f = by_core ps goes w job r k f e (all job r k f e) all apart k.core refl

-- ---- taking and giving back

-- Behind a job that is taken: its run has as many cells as it is loaded with, and lies apart from the other leases.
pub take_alone : (ps : Starts) (w : Bare) (job : ℕ) (r : Run) (o : Option Run) (k : Option Worker) → slice_get w.leases job ≡ Some o
    → slice_get w.workers job ≡ Some k → length (cells_of (ps.machine job)) ≡ r.size → r.first + r.size ≤ length w.cells
    → AreAlone ps w → AreApart (bare_take ps w job r) → AreAlone ps (bare_take ps w job r)
take_alone ps w job r o k leased working n within all apart j q l el ew = by_job (cases_eq job j)
  where
    xs : List Cell
    xs = cells_of (ps.machine job)

    mine : StandsAlone ps (put_at r.first xs w.cells) job r (record { core = core_of (ps.machine job); count = 0 })
    mine = record {
      within = subst (λ x. r.first + r.size ≤ x) (sym (put_length r.first xs w.cells)) within;
      alone =
          ap (λ s. machine_of (take s (drop r.first (put_at r.first xs w.cells))) (core_of (ps.machine job))) (sym n)
          ∙ ap (λ c. machine_of c (core_of (ps.machine job))) (put_here r.first xs w.cells (omega (arith, within, n)))
          ∙ machine_again (ps.machine job);
    }

    here : slice_get (slice_set w.leases job (Some r)) job ≡ Some (Some r)
    here = set_here w.leases job (Some r) o leased

    sides : (q.first + q.size ≤ r.first) ⊎ (r.first + r.size ≤ q.first) → (q.first + q.size ≤ r.first) ⊎ (r.first + length xs ≤ q.first)
    sides (inl h) = inl h
    sides (inr h) = inr (omega (arith, h, n))

    by_job : (job ≡ j) ⊎ (job ≡ j → ⊥) → StandsAlone ps (put_at r.first xs w.cells) j q l
    by_job (inl e) =
        let k2 : Worker = record { core = core_of (ps.machine job); count = 0 } in
        let k3 : k2 ≡ l = some_same k2 l (some_same (Some k2) (Some l) (sym (set_here w.workers job (Some k2) k working) ∙ ap (slice_get (slice_set w.workers job (Some k2))) e ∙ ew)) in
        let q2 : r ≡ q = some_same r q (some_same (Some r) (Some q) (sym here ∙ ap (slice_get (slice_set w.leases job (Some r))) e ∙ el)) in
        subst (λ i. StandsAlone ps (put_at r.first xs w.cells) i q l) e (subst (λ x. StandsAlone ps (put_at r.first xs w.cells) job x l) q2 (subst (λ x. StandsAlone ps (put_at r.first xs w.cells) job r x) k3 mine))
    by_job (inr ne) =
        let a = all j q l (sym (set_there w.leases job j (Some r) ne) ∙ el) (sym (set_there w.workers job j (Some (record { core = core_of (ps.machine job); count = 0 })) ne) ∙ ew) in
        record {
          within = subst (λ x. q.first + q.size ≤ x) (sym (put_length r.first xs w.cells)) a.within;
          alone = ap (λ c. machine_of c l.core) (put_apart r.first q.first q.size xs w.cells (sides (apart job j r q here el ne))) ∙ a.alone;
        }

pub give_alone : (ps : Starts) (w : Bare) (job : ℕ) (o : Option Run) → slice_get w.leases job ≡ Some o → AreAlone ps w → AreAlone ps (bare_give w job)
give_alone ps w job o leased all j q l el ew = by_job (cases_eq job j)
  where
    by_job : (job ≡ j) ⊎ (job ≡ j → ⊥) → StandsAlone ps w.cells j q l
    by_job (inl e) =
        let k : Some None ≡ Some (Some q) = sym (set_here w.leases job None o leased) ∙ ap (slice_get (slice_set w.leases job None)) e ∙ el in
        let n : None ≡ Some q = some_same None (Some q) k in absurd cc
    by_job (inr ne) = all j q l (sym (set_there w.leases job j None ne) ∙ el) (sym (set_there w.workers job j None ne) ∙ ew)
