-- Slices of a run that was put aside are those of the run.
use Rattle.std.proofs.Common.{◌≡◌, ℕ, suc, ◌+◌, ◌-◌, ◌*◌, ◌<◌, ◌≤◌, Bool, true, false, List, [], ◌∷◌, length, map, Option, Some, None, refl, sym, ap, ◌∙◌, subst, arith, inl, inr}
use Rattle.std.specs.Prelude.{◌||◌, nat_lt, IsSomeAnd}
use Rattle.std.proofs.lemmas.Bool.Decides.{nat_tests}
use Rattle.std.specs.List.{AllByRecursion, list_any}
use Rattle.camelot_values.specs.Value.{Value}
use Rattle.camelot_values.specs.Kinds.{IsDataType}
use Rattle.camelot_values.specs.Outcome.{Outcome, Done}
use Rattle.camelot_values.specs.Typing.{ArgumentsFit}
use Rattle.grail_code.specs.Code.{Func, Code}
use Rattle.grail_code.specs.Meaning.{run_of}
use Rattle.grail_code.specs.WellFormed.{IsWellFormed}
use Rattle.grail_code.specs.Limits.{IsWithinLimits}
use Rattle.licence.specs.Licensed.{Licensed, IsLicensed}
use Rattle.cell_machine.specs.Coming.{IsOnCourse, EndsRight, IsOnWay}
use Rattle.cell_machine.specs.Dead.{live, live_frame, live_machine, ready_waiting}
use Rattle.cell_machine.specs.Endings.{EndsWith}
use Rattle.cell_machine.specs.Loading.{steps}
use Rattle.cell_machine.specs.MachineLaws.{steps_more, over_stays, one_final, stays_on_way}
use Rattle.cell_machine.specs.PlanLaws.{runs_as_planned}
use Rattle.cell_machine.specs.Plans.{RunsAsPlanned}
use Rattle.cell_machine.specs.Running.{IsRunning}
use Rattle.cell_machine.specs.Saved.{kept, configuration_of}
use Rattle.cell_machine.specs.State.{Activation, Configuration, Final, End, Returned, OutOfFuel, TooDeep, Trapped, Machine, Running, Over, cells_of, most_calls}
use Rattle.cell_machine.specs.Views.{MachineView}
use Rattle.cell_machine.specs.declared.machine.Ending.{Ending}
use Rattle.cell_machine.specs.theory.Laying.{argument_cells}
use Rattle.cell_machine.specs.theory.Reading.{one_value}
use Rattle.job_world.specs.Plans.{Plan}
use Rattle.pause_image.specs.Keeping.{IsKeepable}
use Rattle.pause_image.specs.KeepingLaws.{begun_keepable, steps_keepable, kept_agrees}
use Rattle.pause_image.specs.KeptLaws.{same_again}
use Rattle.pause_image.specs.Slicing.{frame_lends, state_lends, LendsAfter, IsOverIn}
use Rattle.pause_image.specs.Slicing as slicing
use Rattle.sliced_jobs.specs.Slices.{IsNext, IsLast, TakesSlices, beginning}
use Rattle.sliced_jobs.specs.UnderWay.{IsPlanOf, GoesAs, IsTextOf, IsUnderWay}

-- ---- dead words and loans

waiting_lend : (p : Code) (frs : List Activation) → list_any (frame_lends p) (map (λ fr. live_frame (ready_waiting p fr) fr) frs) ≡ list_any (frame_lends p) frs
waiting_lend p [] = refl
waiting_lend p (fr ∷ frs) = ap (λ b. frame_lends p fr || b) (waiting_lend p frs)

-- whether something is lent doesn't depend on dead words
pub lends_live : (p : Code) (s : Configuration) → state_lends p (live p s) ≡ state_lends p s
lends_live p s = ap (λ b. frame_lends p s.frame || b) (waiting_lend p s.waiting)

lends_alike : (p : Code) (s t : Configuration) → live p s ≡ live p t → state_lends p s ≡ state_lends p t
lends_alike p s t e = sym (lends_live p s) ∙ ap (state_lends p) e ∙ lends_live p t

-- ---- machines that are alike

record RunsToo (p : Code) (u : Configuration) (m : Machine) : Type 0 where
  t : Configuration
  is : m ≡ Running t
  same : live p u ≡ live p t

runs_too : (p : Code) (u : Configuration) (m : Machine) → live_machine p (Running u) ≡ live_machine p m → RunsToo p u m
runs_too p u (Running t) e = record { t = t; is = refl; same = let same : live p u ≡ live p t = cc in same }
runs_too p u (Over f) e = absurd cc

over_too : (p : Code) (f : Final) (m : Machine) → live_machine p (Over f) ≡ live_machine p m → m ≡ Over f
over_too p f (Running t) e = absurd cc
over_too p f (Over g) e = let same : f ≡ g = cc in ap Over (sym same)

goes_to : (p : Code) (r s u : Configuration) (n : ℕ) → GoesAs p r s → steps p most_calls n (Running r) ≡ Running u → RunsToo p u (steps p most_calls n (Running s))
goes_to p r s u n g e = runs_too p u (steps p most_calls n (Running s)) (ap (live_machine p) (sym e) ∙ g n)

lends_too : (p : Code) (r s : Configuration) (n : ℕ) → GoesAs p r s → LendsAfter p r n → LendsAfter p s n
lends_too p r s n g a =
    let q = goes_to p r s a.state n g a.is in
    record { state = q.t; is = q.is; lends = sym (lends_alike p a.state q.t q.same) ∙ a.lends }

-- ---- a slice of the one is a slice of the other

pub record SlicesTo (p : Code) (asked : ℕ) (s u : Configuration) : Type 0 where
  pub t : Configuration
  pub next : IsNext p asked s t
  pub same : live p u ≡ live p t

pub slices_to : (p : Code) (old new : MachineView) (s : Configuration) (asked : ℕ) → old.code ≡ p → GoesAs p old.state s → slicing.IsSliced old new asked → SlicesTo p asked s new.state
slices_to p old new s asked code g k =
    let q = goes_to p old.state s new.state k.count g (subst (λ c. steps c most_calls k.count (Running old.state) ≡ Running new.state) code k.are) in
    record {
      t = q.t;
      next = record {
        count = k.count;
        many = k.many;
        are = q.is;
        unlent = sym (lends_alike p new.state q.t q.same) ∙ subst (λ c. state_lends c new.state ≡ false) code k.unlent;
        least = λ n a b. lends_too p old.state s n g (subst (λ c. LendsAfter c old.state n) code (k.least n a b));
      };
      same = q.same;
    }

over_final : (p : Code) (old new : MachineView) (s : Configuration) (asked : ℕ) (ending : Ending) → old.code ≡ p → GoesAs p old.state s → (k : IsOverIn old new asked ending)
    → steps p most_calls k.count (Running s) ≡ Over k.final
over_final p old new s asked ending code g k =
    over_too p k.final (steps p most_calls k.count (Running s))
    (ap (live_machine p) (sym (subst (λ c. steps c most_calls k.count (Running old.state) ≡ Over k.final) code k.are)) ∙ g k.count)

pub slices_last : (p : Code) (old new : MachineView) (s : Configuration) (asked : ℕ) (ending : Ending) → old.code ≡ p → GoesAs p old.state s → IsOverIn old new asked ending → IsLast p asked s
slices_last p old new s asked ending code g k = record {
  final = k.final;
  count = k.count;
  are = over_final p old new s asked ending code g k;
  least = λ n a b. lends_too p old.state s n g (subst (λ c. LendsAfter c old.state n) code (k.least n a b));
}

-- ---- a state that was put aside goes on as the state

pub goes_again : (l : Licensed) (told s : Configuration) → IsLicensed l → IsKeepable l told → IsKeepable l s → live l.code told ≡ live l.code s
    → GoesAs l.code (configuration_of l.code (kept l.code told)) s
goes_again l told s h k j same n =
    let e : configuration_of l.code (kept l.code told) ≡ configuration_of l.code (kept l.code s) = same_again l told k.fit.sound ∙ same ∙ sym (same_again l s j.fit.sound) in
    ap (λ c. live_machine l.code (steps l.code most_calls n (Running c))) e ∙ kept_agrees l n s h j

-- ---- the run of a plan

planned : (l : Licensed) (f : Func) (p : Plan) → IsPlanOf l f p → RunsAsPlanned l p.entry f p.args p.fuel p.lease
planned l f p h = runs_as_planned l p.entry f p.args p.fuel p.lease h.licensed h.plan h.few h.func

args_fit : (l : Licensed) (f : Func) (p : Plan) → IsPlanOf l f p → ArgumentsFit l.code.types f.params p.args
args_fit l f p h = subst (λ o. IsSomeAnd o (λ f. ArgumentsFit l.code.types f.params p.args)) h.func h.plan.fits

begins_keepable : (l : Licensed) (f : Func) (p : Plan) → IsPlanOf l f p → IsKeepable l (beginning l f p)
begins_keepable l f p h = begun_keepable l h.licensed p.entry f p.args p.fuel p.lease h.func (args_fit l f p h) h.plan.some_fuel h.fuel
    (omega (arith, argument_cells l.code.types f.params p.args h.licensed.limits.types.each (args_fit l f p h), h.plan.lease)) h.few

pub state_keepable : (l : Licensed) (f : Func) (p : Plan) (count : ℕ) (s : Configuration) → IsPlanOf l f p
    → steps l.code most_calls count (Running (beginning l f p)) ≡ Running s → IsKeepable l s
state_keepable l f p count s h is = steps_keepable l count (beginning l f p) s h.licensed (begins_keepable l f p h) is

pub state_cells : (l : Licensed) (f : Func) (p : Plan) (count : ℕ) (s : Configuration) → IsPlanOf l f p
    → steps l.code most_calls count (Running (beginning l f p)) ≡ Running s → length s.cells ≡ p.lease
state_cells l f p count s h is = ap (λ m. length (cells_of m)) (sym is) ∙ (planned l f p h).size count

-- a run that goes on took fewer steps than its fuel allows
pub few_steps : (l : Licensed) (f : Func) (p : Plan) (count : ℕ) (s : Configuration) → IsPlanOf l f p
    → steps l.code most_calls count (Running (beginning l f p)) ≡ Running s → count < 65792 * 1099511627776
few_steps l f p count s h is = by_test (nat_lt count (65792 * p.fuel)) refl
  where
    by_test : (b : Bool) → nat_lt count (65792 * p.fuel) ≡ b → count < 65792 * 1099511627776
    by_test true e = let less : count < 65792 * p.fuel = grind (arith, nat_tests, e) in omega (arith, less, h.fuel)
    by_test false e =
        let more : 65792 * p.fuel ≤ count = grind (arith, nat_tests, e) in
        let ends = (planned l f p h).ends in
        let whole : count ≡ 65792 * p.fuel + (count - 65792 * p.fuel) = omega (arith, more) in
        let c : Running s ≡ Over ends.final = sym is ∙ ap (λ n. steps l.code most_calls n (Running (beginning l f p))) whole
        ∙ steps_more l.code most_calls (65792 * p.fuel) (count - 65792 * p.fuel) (Running (beginning l f p))
        ∙ ap (steps l.code most_calls (count - 65792 * p.fuel)) ends.is ∙ over_stays l.code most_calls (count - 65792 * p.fuel) ends.final in
        absurd cc

-- ---- the ending

-- two outcomes of which one end is right are the same
one_outcome : (p : Code) (a b : Outcome Value) (f : Final) (end : End) → AllByRecursion IsDataType p.types → EndsRight p a f end → EndsRight p b f end → a ≡ b
one_outcome p a b f (Returned kind word) each h k =
    h.comes ∙ ap (λ v. Done v f.calls f.peak f.low) (one_value p.types f.cells h.few_cells each kind h.value k.value word h.fits k.fits h.stands k.stands) ∙ sym k.comes
one_outcome p a b f OutOfFuel each h k = h ∙ sym k
one_outcome p a b f TooDeep each h k = h ∙ sym k
one_outcome p a b f Trapped each h k = h ∙ sym k

over_right : (p : Code) (limit room : ℕ) (outcome : Outcome Value) (r : Configuration) (count : ℕ) (f : Final) → IsWellFormed p → IsWithinLimits p
    → IsOnCourse p limit room outcome r → steps p limit count (Running r) ≡ Over f → EndsRight p outcome f f.end
over_right p limit room outcome r count f well limits c is = subst (IsOnWay p limit room outcome) is (stays_on_way p limit room outcome well limits count (Running r) c)

-- The ending of a slice in which the run is over is that of the plan's run.
pub ends_with : (l : Licensed) (f : Func) (p : Plan) (old new : MachineView) (s : Configuration) (count asked : ℕ) (ending : Ending) → IsPlanOf l f p → old.code ≡ l.code
    → IsRunning old → steps l.code most_calls count (Running (beginning l f p)) ≡ Running s → GoesAs l.code old.state s → IsOverIn old new asked ending
    → EndsWith (run_of l.code most_calls p.entry p.fuel p.args) ending
ends_with l f p old new s count asked ending h code running is g k =
    let ends = (planned l f p h).ends in
    let course = subst (λ c. IsOnCourse c most_calls running.going.room running.going.outcome old.state) code running.going.course in
    let are = subst (λ c. steps c most_calls k.count (Running old.state) ≡ Over k.final) code k.are in
    let mine = over_right l.code most_calls running.going.room running.going.outcome old.state k.count k.final h.licensed.well h.licensed.limits course are in
    let there : steps l.code most_calls (count + k.count) (Running (beginning l f p)) ≡ Over k.final =
    steps_more l.code most_calls count k.count (Running (beginning l f p)) ∙ ap (steps l.code most_calls k.count) is ∙ over_final l.code old new s asked ending code g k in
    let same : ends.final ≡ k.final = one_final l.code most_calls (65792 * p.fuel) (count + k.count) (Running (beginning l f p)) ends.final k.final ends.is there in
    let meant : EndsRight l.code (run_of l.code most_calls p.entry p.fuel p.args) k.final k.final.end =
    subst (λ (x : Final). EndsRight l.code (run_of l.code most_calls p.entry p.fuel p.args) x x.end) same ends.right in
    let one : running.going.outcome ≡ run_of l.code most_calls p.entry p.fuel p.args =
    one_outcome l.code running.going.outcome (run_of l.code most_calls p.entry p.fuel p.args) k.final k.final.end h.licensed.limits.types.each mine meant in
    subst (λ o. EndsWith o ending) one (k.right running.going.room running.going.outcome running.going.course)

-- ---- a run under way

pub begins : (asked : ℕ) (l : Licensed) (f : Func) (p : Plan) → IsUnderWay asked l f p 0 None
begins asked l f p = record { state = beginning l f p; count = 0; are = refl; many = omega arith; slices = λ n k. subst (λ m. TakesSlices l.code asked m (beginning l f p)) (let e : n ≡ 0 + n = omega arith in e) k; from = refl }

-- one slice more, behind which the run is put aside
pub goes_further : (asked : ℕ) (l : Licensed) (f : Func) (p : Plan) (made : ℕ) (image : Option (List ℕ)) (text : List ℕ) (t : Configuration) → 1 ≤ asked
    → (w : IsUnderWay asked l f p made image) → IsNext l.code asked w.state t → IsTextOf l t text → IsUnderWay asked l f p (made + 1) (Some text)
goes_further asked l f p made image text t some w next k = record {
  state = t;
  count = w.count + next.count;
  are = steps_more l.code most_calls w.count next.count (Running (beginning l f p)) ∙ ap (steps l.code most_calls next.count) w.are ∙ next.are;
  many = omega (arith, w.many, next.many, some);
  slices = λ n k. subst (λ m. TakesSlices l.code asked m (beginning l f p)) (let e : made + suc n ≡ made + 1 + n = omega arith in e) (w.slices (suc n) (inr (t, next, k)));
  from = k;
}

pub last_slice : (asked : ℕ) (l : Licensed) (f : Func) (p : Plan) (made : ℕ) (image : Option (List ℕ)) → (w : IsUnderWay asked l f p made image) → IsLast l.code asked w.state
    → TakesSlices l.code asked (made + 1) (beginning l f p)
last_slice asked l f p made image w k = w.slices 1 (inl (refl, k))
