-- What is written for a script whose jobs run in slices.
use Rattle.std.proofs.Common.{◌≡◌, ℕ, ◌≤◌, Bool, true, false, List, [], ◌∷◌, ◌++◌, length, map, slice_get, Option, Some, sym, ap, ◌∙◌, subst}
use Rattle.std.specs.Prelude.{nat_lt, if◌then◌else◌}
use Rattle.std.specs.List.{AllByRecursion}
use Rattle.licence.specs.Licensed.{Licensed}
use Rattle.cell_machine.specs.Endings.{EndsWith}
use Rattle.cell_machine.specs.declared.machine.Ending.{Ending}
use Rattle.job_script.specs.Scripts.{Script, Entry, AProgram, AJob, EntryIsWithin, IsScript}
use Rattle.job_script.specs.Text.{IsScriptText}
use Rattle.job_world.specs.Plans.{Plan, Planned}
use Rattle.job_workers.specs.Ended.{AllEnded}
use Rattle.job_workers.specs.KeptLaws.{ends_never_stuck}
use Rattle.run_reports.specs.Told.{TellsMeaning}
use Rattle.run_reports.specs.declared.outcome.ProgramLine.{ProgramLine}
use Rattle.script_plans.specs.Fates.{Fate, Unfit, Calls, lease_of}
use Rattle.script_plans.specs.Lines.{AreProgramLines, ArePlanned, JobRun, run_of_plan, run_of_call, all_runs, lines_of}
use Rattle.script_plans.specs.ScriptLaws.{numbers_below}
use Rattle.script_plans.specs.declared.types.JobPlan.{JobPlan}
use Rattle.script_service.specs.Sliced.{RunsTake, AllTake, IsSlicedReport, sliced_text}
use Rattle.script_service.specs.SlicedSteps.{IsSlicedOf}
use Rattle.script_service.proofs.Filing.{all_meant}
use Rattle.script_service.proofs.Handing.{OneScript}
use Rattle.sliced_jobs.specs.Slices.{AreSliced, AreSlices, AreFuelled}

-- ---- fuel

-- each job of these entries has at most 2^40 units of fuel, and so has what runs
runs_fuelled : (arena : ℕ) (entries : List Entry) (fates : List Fate) → AllByRecursion EntryIsWithin entries → AllByRecursion (λ (r : JobRun). r.fuel ≤ 1099511627776) (all_runs arena entries fates)
runs_fuelled arena [] fates h = tt
runs_fuelled arena (AProgram p ∷ entries) fates h = runs_fuelled arena entries fates h.1
runs_fuelled arena (AJob j ∷ entries) [] h = tt
runs_fuelled arena (AJob j ∷ entries) (Unfit cause ∷ fates) h = runs_fuelled arena entries fates h.1
runs_fuelled arena (AJob j ∷ entries) (Calls c ∷ fates) h = by_size (nat_lt arena (lease_of c)) (runs_fuelled arena entries fates h.1)
  where
    by_size : (b : Bool) → AllByRecursion (λ (r : JobRun). r.fuel ≤ 1099511627776) (all_runs arena entries fates)
        → AllByRecursion (λ (r : JobRun). r.fuel ≤ 1099511627776) ((if b then [] else run_of_call j.fuel c ∷ []) ++ all_runs arena entries fates)
    by_size true more = more
    by_size false more = (h.0.most, more)

plans_fuelled : (licences : List Licensed) (plans : List Plan) → AllByRecursion (λ (r : JobRun). r.fuel ≤ 1099511627776) (map (run_of_plan licences) plans) → AllByRecursion (λ (p : Plan). p.fuel ≤ 1099511627776) plans
plans_fuelled licences [] h = tt
plans_fuelled licences (p ∷ plans) h = (h.0, plans_fuelled licences plans h.1)

pub fuelled : (script : Script) (ps : Planned) (plans : List JobPlan) (places : List ℕ) → IsScript script → ArePlanned script.arena script.items ps plans places → AreFuelled ps
fuelled script ps plans places h planned =
    plans_fuelled ps.licences ps.plans (subst (AllByRecursion (λ (r : JobRun). r.fuel ≤ 1099511627776)) (sym planned.runs) (runs_fuelled script.arena script.items planned.fates h.within.fuels))

-- ---- slices

-- the slices of plans are those of what runs by them
each_taken : (asked : ℕ) (licences : List Licensed) (plans : List Plan) (ns : List ℕ) → AreSliced asked licences plans ns → RunsTake asked (map (run_of_plan licences) plans) ns
each_taken asked licences [] [] h = tt
each_taken asked licences [] (n ∷ ns) h = absurd h
each_taken asked licences (p ∷ ps) [] h = absurd h
each_taken asked licences (p ∷ ps) (n ∷ ns) h =
    (record { l = h.0.l; licence = h.0.licence; f = h.0.f; func = h.0.func; takes = h.0.takes }, each_taken asked licences ps ns h.1)

pub is_sliced : (asked slices : ℕ) (script : Script) (programs : List ProgramLine) (ps : Planned) (plans : List JobPlan) (places : List ℕ) (endings : List (Option Ending)) (output : List ℕ)
    → AreProgramLines script.items programs → (planned : ArePlanned script.arena script.items ps plans places) → AllEnded EndsWith ps endings → AreSlices asked ps slices
    → output ≡ sliced_text script.items programs (lines_of script.arena script.items planned.fates) slices script.arena → IsSlicedOf asked script output
is_sliced asked slices script programs ps plans places endings output lines planned ended taken is = record {
  programs = programs;
  fates = planned.fates;
  slices = slices;
  answered = record {
    are_programs = lines;
    are_fates = planned.are;
    meant = subst (AllByRecursion TellsMeaning) planned.lines (all_meant EndsWith ends_never_stuck ps script.arena endings ended plans (numbers_below plans (length ps.plans) planned.numbers));
  };
  taken = record { numbers = taken.numbers; each = subst (λ rs. RunsTake asked rs taken.numbers) planned.runs (each_taken asked ps.licences ps.plans taken.numbers taken.each); all = taken.all };
  is = is;
}

pub is_report : (asked : ℕ) (input output : List ℕ) (script : Script) → OneScript → IsScriptText input script → IsSlicedOf asked script output → IsSlicedReport asked input output
is_report asked input output script one text h = record {
  script = script;
  programs = h.programs;
  fates = h.fates;
  slices = h.slices;
  comes = record { text = text; only = λ t is. one t script is.right.0.0 text.right.0.0 (is.is ∙ sym text.is); answered = h.answered; taken = h.taken };
  is = h.is;
}
