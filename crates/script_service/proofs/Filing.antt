-- The lines of jobs by what is kept of their endings are those of their plans.
use Rattle.std.proofs.Common.{◌≡◌, ℕ, zero, suc, ◌+◌, ◌<◌, ◌≤◌, List, [], ◌∷◌, ◌++◌, length, drop, slice_get, Option, Some, get_or, sym, ap, ◌∙◌, subst, arith, append_assoc, append-nil, drop-cons, drop_of_length-le, add-one}
use Rattle.std.proofs.lemmas.Option.{slice_get_within}
use Rattle.std.specs.List.{AllByRecursion, range_with_len}
use Rattle.camelot_values.specs.Value.{Value}
use Rattle.camelot_values.specs.Outcome as plain
use Rattle.camelot_values.specs.Outcome.{Outcome}
use Rattle.job_script.specs.Scripts.{Script}
use Rattle.job_world.specs.Plans.{Planned, job_run}
use Rattle.job_workers.specs.Ended.{AllEnded, HasEnding}
use Rattle.run_reports.specs.declared.outcome.JobLine.{JobLine as DeclaredLine}
use Rattle.run_reports.specs.Told.{AreLines, IsLine, IsMeant, TellsMeaning}
use Rattle.script_plans.specs.declared.types.JobPlan.{JobPlan}
use Rattle.script_plans.specs.declared.types.JobPlan.TheVariants as plan
use Rattle.script_plans.specs.Lines.{ArePlanned, lines_of, planned_line, planned_lines, run_numbers}
use Rattle.script_plans.specs.ScriptLaws.{numbers_below}
use Rattle.script_service.specs.Filed.{HasOwn}

-- ---- the endings of plans

-- what is kept of an ending
abbrev Keeping : Type 0 → Type 1
Keeping K = Outcome Value → K → Type 0

pub own_here : {K : Type 0} (keeps : Keeping K) (ps : Planned) (job bound : ℕ) (p : JobPlan) (endings : List (Option K)) → p ≡ plan.Runs job bound
    → HasOwn keeps ps endings p → HasEnding keeps ps job (slice_get endings job)
own_here keeps ps job bound p endings e h = let own : HasOwn keeps ps endings (plan.Runs job bound) = subst (HasOwn keeps ps endings) e h in own.1

pub own_there : {K : Type 0} (keeps : Keeping K) (ps : Planned) (job bound : ℕ) (p : JobPlan) (endings : List (Option K)) → p ≡ plan.Runs job bound
    → HasOwn keeps ps endings p → job < length ps.plans
own_there keeps ps job bound p endings e h = let own : HasOwn keeps ps endings (plan.Runs job bound) = subst (HasOwn keeps ps endings) e h in own.0

pub own_within : {K : Type 0} (keeps : Keeping K) (ps : Planned) (job : ℕ) (endings : List (Option K)) → HasEnding keeps ps job (slice_get endings job)
    → job < length endings
own_within keeps ps job endings h = slice_get_within endings job (Some h.ending) h.is

-- the plan at a place has its own
pub own_at : {K : Type 0} (keeps : Keeping K) (ps : Planned) (endings : List (Option K)) (plans : List JobPlan) (i : ℕ) (d : JobPlan) → i < length plans
    → AllByRecursion (HasOwn keeps ps endings) plans → HasOwn keeps ps endings (get_or plans i d)
own_at keeps ps endings [] i d lt h = absurd (omega (arith, lt))
own_at keeps ps endings (p ∷ plans) zero d lt h = h.0
own_at keeps ps endings (p ∷ plans) (suc i) d lt h = own_at keeps ps endings plans i d (omega (arith, lt)) h.1

own_below : {K : Type 0} (keeps : Keeping K) (ps : Planned) (endings : List (Option K)) → AllEnded keeps ps endings → (plans : List JobPlan)
    → AllByRecursion (λ n. n < length ps.plans) (run_numbers plans) → AllByRecursion (HasOwn keeps ps endings) plans
own_below keeps ps endings all [] below = tt
own_below keeps ps endings all (plan.Runs job bound ∷ plans) below = ((below.0, all job below.0), own_below keeps ps endings all plans below.1)
own_below keeps ps endings all (plan.TooLarge needs ∷ plans) below = (tt, own_below keeps ps endings all plans below)
own_below keeps ps endings all (plan.Refused cause ∷ plans) below = (tt, own_below keeps ps endings all plans below)

-- each plan finds the ending of its job, in slices of both lists
pub all_own : {K : Type 0} (keeps : Keeping K) (ps : Planned) (plans plans' : List JobPlan) (endings endings' : List (Option K)) → plans' ≡ plans → endings' ≡ endings
    → run_numbers plans ≡ range_with_len 0 (length ps.plans) → AllEnded keeps ps endings → AllByRecursion (HasOwn keeps ps endings') plans'
all_own {K = K} keeps ps plans plans' endings endings' same alike e all =
    let own : AllByRecursion (HasOwn keeps ps endings) plans = own_below keeps ps endings all plans (numbers_below plans (length ps.plans) e) in
    subst (λ (es : List (Option K)). AllByRecursion (HasOwn keeps ps es) plans') (sym alike) (subst (AllByRecursion (HasOwn keeps ps endings)) (sym same) own)

-- ---- lines that are made one by one

module _ {K : Type 0} (keeps : Outcome Value → K → Type 0) (ps : Planned) (arena : ℕ) where
  -- these lines, with whatever is of the rest behind them, are of all the plans
  abbrev pub AreMade : List JobPlan → List (DeclaredLine K) → (rest : List JobPlan) → Type 0
  AreMade plans made rest = (more : List (DeclaredLine K)) → AreLines keeps ps.licences more (planned_lines ps arena rest)
      → AreLines keeps ps.licences (made ++ more) (planned_lines ps arena plans)

  pub none_made : (plans : List JobPlan) (made : List (DeclaredLine K)) → made ≡ [] → AreMade plans made plans
  none_made plans made e = λ more h. subst (λ (ls : List (DeclaredLine K)). AreLines keeps ps.licences (ls ++ more) (planned_lines ps arena plans)) (sym e) h

  pub one_made : (plans : List JobPlan) (made new : List (DeclaredLine K)) (line : DeclaredLine K) (i : ℕ) (d : JobPlan) → i < length plans → AreMade plans made (drop i plans)
      → IsLine keeps ps.licences line (planned_line ps arena (get_or plans i d)) → new ≡ made ++ line ∷ [] → AreMade plans new (drop (i + 1) plans)
  one_made plans made new line i d lt so_far own e = λ more h.
      let here : drop i plans ≡ get_or plans i d ∷ drop (i + 1) plans = drop-cons plans i d lt ∙ ap (λ n. get_or plans i d ∷ drop n plans) (sym (add-one i)) in
      let both : AreLines keeps ps.licences (line ∷ more) (planned_lines ps arena (drop i plans)) =
      subst (λ (rest : List JobPlan). AreLines keeps ps.licences (line ∷ more) (planned_lines ps arena rest)) (sym here) (own, h) in
      let place : new ++ more ≡ made ++ line ∷ more = ap (λ (ls : List (DeclaredLine K)). ls ++ more) e ∙ append_assoc made (line ∷ []) more in
      subst (λ (ls : List (DeclaredLine K)). AreLines keeps ps.licences ls (planned_lines ps arena plans)) (sym place) (so_far (line ∷ more) both)

  pub all_made : (plans : List JobPlan) (made : List (DeclaredLine K)) (i : ℕ) → length plans ≤ i → AreMade plans made (drop i plans)
      → AreLines keeps ps.licences made (planned_lines ps arena plans)
  all_made plans made i le so_far =
      let none : AreLines keeps ps.licences [] (planned_lines ps arena (drop i plans)) =
      subst (λ (rest : List JobPlan). AreLines keeps ps.licences [] (planned_lines ps arena rest)) (sym (drop_of_length-le plans {i = i} le)) tt in
      subst (λ (ls : List (DeclaredLine K)). AreLines keeps ps.licences ls (planned_lines ps arena plans)) (append-nil made) (so_far [] none)

-- lines that are those of the plans are those of the fates that these are planned by
pub lines_told : {K : Type 0} (keeps : Outcome Value → K → Type 0) (ps : Planned) (plans plans' : List JobPlan) (asked : List ℕ) (arena : ℕ) (script : Script)
    (planned : ArePlanned script.arena script.items ps plans asked) (lines : List (DeclaredLine K)) → arena ≡ script.arena → plans' ≡ plans
    → AreLines keeps ps.licences lines (planned_lines ps arena plans') → AreLines keeps ps.licences lines (lines_of script.arena script.items planned.fates)
lines_told keeps ps plans plans' asked arena script planned lines size same are =
    subst (AreLines keeps ps.licences lines) (ap (λ n. planned_lines ps n plans') size ∙ ap (planned_lines ps script.arena) same ∙ planned.lines) are

-- ---- each run has a meaning

ended_meant : {K : Type 0} (keeps : Keeping K) → ((k : K) → keeps plain.Stuck k → ⊥) → (o : Outcome Value) (k : K) → keeps o k → IsMeant o
ended_meant keeps never (plain.Done v calls peak low) k h = tt
ended_meant keeps never (plain.Fuel calls peak) k h = tt
ended_meant keeps never (plain.Deep peak) k h = tt
ended_meant keeps never (plain.Trap peak) k h = tt
ended_meant keeps never plain.Stuck k h = absurd (never k h)

pub all_meant : {K : Type 0} (keeps : Keeping K) → ((k : K) → keeps plain.Stuck k → ⊥) → (ps : Planned) (arena : ℕ) (endings : List (Option K))
    → AllEnded keeps ps endings → (plans : List JobPlan) → AllByRecursion (λ n. n < length ps.plans) (run_numbers plans)
    → AllByRecursion TellsMeaning (planned_lines ps arena plans)
all_meant keeps never ps arena endings all [] below = tt
all_meant keeps never ps arena endings all (plan.Runs job bound ∷ plans) below =
    let has : HasEnding keeps ps job (slice_get endings job) = all job below.0 in
    (ended_meant keeps never (job_run ps job) has.ending has.meant, all_meant keeps never ps arena endings all plans below.1)
all_meant keeps never ps arena endings all (plan.TooLarge needs ∷ plans) below = (tt, all_meant keeps never ps arena endings all plans below)
all_meant keeps never ps arena endings all (plan.Refused cause ∷ plans) below = (tt, all_meant keeps never ps arena endings all plans below)
