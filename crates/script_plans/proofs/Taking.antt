-- Jobs one by one: their fates, and what is planned of them.
use Rattle.std.proofs.Common.{◌≡◌, ℕ, suc, ◌+◌, ◌≤◌, Bool, true, false, List, [], ◌∷◌, ◌++◌, length, map, refl, sym, ap, ◌∙◌, subst, append_assoc, append-nil, arith, length-append}
use Rattle.std.specs.Prelude.{nat_lt, if◌then◌else◌, Option, slice_get}
use Rattle.std.specs.List.{AllByRecursion, range_with_len}
use Rattle.std.proofs.lemmas.List.{map-append, length-map}
use Rattle.std.proofs.lemmas.List.FromFn.{length-range_with_len}
use Rattle.std.proofs.lemmas.Bool.Decides.{nat_tests}
use Rattle.lease_desk.specs.Journal.{AreSizes}
use Rattle.licence.specs.Licensed.{Licensed}
use Rattle.job_script.specs.Scripts.{Program, Job, Entry, AProgram, AJob, job_names}
use Rattle.job_world.specs.Plans.{Plan, Planned, cells_with}
use Rattle.job_world.specs.Plans as world
use Rattle.run_reports.specs.Told.{JobLine}
use Rattle.script_plans.specs.declared.types.JobPlan.{JobPlan}
use Rattle.script_plans.specs.Programs.{ProgramText, program_named}
use Rattle.script_plans.specs.Fates.{Fate, Unfit, Calls, lease_of, leases_of, line_of}
use Rattle.script_plans.specs.Lines.{AreFates, run_of_plan, all_runs, lines_of, sizes_of, places_of, all_left, planned_cells, planned_line, planned_lines, run_number, run_numbers, ArePlanned}
use Rattle.script_plans.specs.Rows.{Row, AreRows, row_among, row_program}
use Rattle.script_plans.specs.ScriptLaws.{numbers_below}
use Rattle.script_plans.specs.Turns.{Planning, IsJobTaken, IsEntryTaken, places_by}
use Rattle.script_plans.proofs.Behind.{numbers_end, numbers_few, one_run, range_more, lines_stay}

-- The jobs of the front entries have these fates, whatever fates the rest have, and what is planned so far is theirs.
pub record UpTo (arena : ℕ) (script rest : List Entry) (place : ℕ) (t : Planning) : Type 0 where
  pub fates : List Fate
  pub are : (more : List Fate) → AreFates script rest more → AreFates script script (fates ++ more)
  pub leases : world.leases_of t.jobs.plans ≡ sizes_of arena fates
  pub runs : (more : List Fate) → map (run_of_plan t.jobs.licences) t.jobs.plans ++ all_runs arena rest more ≡ all_runs arena script (fates ++ more)
  pub cells : (more : List Fate) → planned_cells t.jobs.licences t.jobs.plans ++ all_left arena rest more ≡ all_left arena script (fates ++ more)
  pub places : (more : List Fate) → t.asked ++ places_of arena place rest more ≡ places_of arena 0 script (fates ++ more)
  pub lines : (more : List Fate) → planned_lines t.jobs arena t.plans ++ lines_of arena rest more ≡ lines_of arena script (fates ++ more)
  pub numbers : run_numbers t.plans ≡ range_with_len 0 (length t.jobs.plans)

pub none_taken : (arena : ℕ) (script : List Entry) (ps : Planned) → ps.plans ≡ [] → UpTo arena script script 0 (record { jobs = ps; plans = []; asked = [] })
none_taken arena script ps e = record {
  fates = [];
  are = λ more h. h;
  leases = ap world.leases_of e;
  runs = λ more. ap (λ (plans : List Plan). map (run_of_plan ps.licences) plans ++ all_runs arena script more) e;
  cells = λ more. ap (λ (plans : List Plan). planned_cells ps.licences plans ++ all_left arena script more) e;
  places = λ more. refl;
  lines = λ more. refl;
  numbers = ap (λ (plans : List Plan). range_with_len 0 (length plans)) (sym e);
}

sizes_end : (arena : ℕ) (fates : List Fate) (f : Fate) → sizes_of arena (fates ++ f ∷ []) ≡ sizes_of arena fates ++ leases_of arena f
sizes_end arena [] f = append-nil (leases_of arena f)
sizes_end arena (g ∷ fates) f = ap (λ l. leases_of arena g ++ l) (sizes_end arena fates f) ∙ sym (append_assoc (leases_of arena g) (sizes_of arena fates) (leases_of arena f))

program_taken : (arena : ℕ) (script rest : List Entry) (p : Program) (place : ℕ) (t : Planning) → UpTo arena script (AProgram p ∷ rest) place t
    → UpTo arena script rest (suc place) t
program_taken arena script rest p place t u = record { fates = u.fates; are = u.are; leases = u.leases; runs = u.runs; cells = u.cells; places = u.places; lines = u.lines; numbers = u.numbers }

grown : (old new : Planned) (more : List Plan) → new.licences ≡ old.licences → new.plans ≡ old.plans ++ more → new ≡ record { licences = old.licences; plans = old.plans ++ more }
grown old new more e f = λ i. record { licences = e i; plans = f i }

new_lines : (arena fuel : ℕ) (old new : Planned) (more : List Plan) (plans : List JobPlan) (p : JobPlan) (f : Fate) → new.licences ≡ old.licences
    → new.plans ≡ old.plans ++ more
    → run_numbers plans ≡ range_with_len 0 (length old.plans) → planned_line new arena p ≡ line_of arena fuel f
    → planned_lines new arena (plans ++ p ∷ []) ≡ planned_lines old arena plans ++ line_of arena fuel f ∷ []
new_lines arena fuel old new more plans p f e g numbers line =
    map-append (planned_line new arena) plans (p ∷ [])
    ∙ ap (λ (l : JobLine). planned_lines new arena plans ++ l ∷ []) line
    ∙ ap (λ (ps : Planned). planned_lines ps arena plans ++ line_of arena fuel f ∷ []) (grown old new more e g)
    ∙ ap (λ l. l ++ line_of arena fuel f ∷ []) (lines_stay old.licences old.plans more arena plans (numbers_below plans (length old.plans) numbers))

job_taken : (arena : ℕ) (script rest : List Entry) (j : Job) (place : ℕ) (old new : Planning) → UpTo arena script (AJob j ∷ rest) place old
    → IsJobTaken (program_named script j.program) j.entry j.args j.fuel arena place old new
    → UpTo arena script rest (suc place) new
job_taken arena script rest j place old new u t =
    let c = t.comes in
    let f = c.fate in
    record {
      fates = u.fates ++ f ∷ [];
      are = λ more h. subst (AreFates script script) (sym (append_assoc u.fates (f ∷ []) more)) (u.are (f ∷ more) (c.is, c.within, h));
      leases =
          ap world.leases_of c.plans
          ∙ map-append (λ (p : Plan). p.lease) old.jobs.plans c.more
          ∙ ap (λ l. l ++ world.leases_of c.more) u.leases
          ∙ ap (λ l. sizes_of arena u.fates ++ l) c.leases
          ∙ sym (sizes_end arena u.fates f);
      runs = λ more.
          ap (λ (ls : List Licensed). map (run_of_plan ls) new.jobs.plans ++ all_runs arena rest more) c.licences
          ∙ ap (λ (ps : List Plan). map (run_of_plan old.jobs.licences) ps ++ all_runs arena rest more) c.plans
          ∙ ap (λ l. l ++ all_runs arena rest more) (map-append (run_of_plan old.jobs.licences) old.jobs.plans c.more)
          ∙ append_assoc (map (run_of_plan old.jobs.licences) old.jobs.plans) (map (run_of_plan old.jobs.licences) c.more) (all_runs arena rest more)
          ∙ ap (λ l. map (run_of_plan old.jobs.licences) old.jobs.plans ++ (l ++ all_runs arena rest more)) c.runs
          ∙ u.runs (f ∷ more)
          ∙ ap (all_runs arena script) (sym (append_assoc u.fates (f ∷ []) more));
      cells = λ more.
          ap (λ (ls : List Licensed). planned_cells ls new.jobs.plans ++ all_left arena rest more) c.licences
          ∙ ap (λ (ps : List Plan). planned_cells old.jobs.licences ps ++ all_left arena rest more) c.plans
          ∙ ap (λ l. l ++ all_left arena rest more) (map-append (λ (p : Plan). cells_with (slice_get old.jobs.licences p.licence) p) old.jobs.plans c.more)
          ∙ append_assoc (planned_cells old.jobs.licences old.jobs.plans) (planned_cells old.jobs.licences c.more) (all_left arena rest more)
          ∙ ap (λ l. planned_cells old.jobs.licences old.jobs.plans ++ (l ++ all_left arena rest more)) c.cells
          ∙ u.cells (f ∷ more)
          ∙ ap (all_left arena script) (sym (append_assoc u.fates (f ∷ []) more));
      places = λ more.
          ap (λ l. l ++ places_of arena (suc place) rest more) t.asked
          ∙ append_assoc old.asked (places_by t.p place) (places_of arena (suc place) rest more)
          ∙ ap (λ l. old.asked ++ (l ++ places_of arena (suc place) rest more)) (sym (c.places place))
          ∙ u.places (f ∷ more)
          ∙ ap (places_of arena 0 script) (sym (append_assoc u.fates (f ∷ []) more));
      lines = λ more.
          ap (λ ps. planned_lines new.jobs arena ps ++ lines_of arena rest more) t.plans
          ∙ ap (λ l. l ++ lines_of arena rest more) (new_lines arena j.fuel old.jobs new.jobs c.more old.plans t.p f c.licences c.plans u.numbers c.line)
          ∙ append_assoc (planned_lines old.jobs arena old.plans) (line_of arena j.fuel f ∷ []) (lines_of arena rest more)
          ∙ u.lines (f ∷ more)
          ∙ ap (lines_of arena script) (sym (append_assoc u.fates (f ∷ []) more));
      numbers =
          let longer : length old.jobs.plans + length c.more ≡ length new.jobs.plans = sym (ap length c.plans ∙ length-append old.jobs.plans c.more) in
          ap run_numbers t.plans
          ∙ numbers_end old.plans t.p
          ∙ ap (λ l. l ++ run_number t.p) u.numbers
          ∙ ap (λ l. range_with_len 0 (length old.jobs.plans) ++ l) c.numbers
          ∙ range_more (length old.jobs.plans) (length c.more)
          ∙ ap (range_with_len 0) longer;
    }

-- What the loop over entries keeps.
pub record Going (arena : ℕ) (script rest : List Entry) (rows : List Row) (place : ℕ) (t : Planning) : Type 0 where
  pub upto : UpTo arena script rest place t
  pub kept : AreRows t.jobs.licences rows
  pub few : length t.jobs.plans ≤ place

pub going_first : (arena : ℕ) (script : List Entry) (rows : List Row) (ps : Planned) (licences : List Licensed) → AreRows licences rows → ps ≡ record { licences = licences; plans = [] }
    → Going arena script script rows 0 (record { jobs = ps; plans = []; asked = [] })
going_first arena script rows ps licences h e = record {
  upto = none_taken arena script ps (ap (λ (q : Planned). q.plans) e);
  kept = subst (λ (q : Planned). AreRows q.licences rows) (sym e) h;
  few = let none : length ps.plans ≡ 0 = ap (λ (q : Planned). length q.plans) e in omega (arith, none);
}

next_place : (arena : ℕ) (script rest : List Entry) (place : ℕ) (t : Planning) → UpTo arena script rest (suc place) t → UpTo arena script rest (place + 1) t
next_place arena script rest place t u = let e : suc place ≡ place + 1 = omega arith in subst (λ (n : ℕ). UpTo arena script rest n t) e u

pub going_on : (arena : ℕ) (script rest : List Entry) (rows : List Row) (entry : Entry) (place : ℕ) (old new : Planning)
    → ((name : List ℕ) → program_named script name ≡ row_program (row_among rows name))
    → Going arena script (entry ∷ rest) rows place old → IsEntryTaken rows arena place entry old new → Going arena script rest rows (place + 1) new
going_on arena script rest rows (AProgram p) place old new programs g t =
    subst (Going arena script rest rows (place + 1)) (sym t) (record { upto = next_place arena script rest place old (program_taken arena script rest p place old g.upto); kept = g.kept; few = omega (arith, g.few) })
going_on arena script rest rows (AJob j) place old new programs g t =
    let c = t.comes in
    let there = subst (λ (o : Option ProgramText). IsJobTaken o j.entry j.args j.fuel arena place old new) (sym (programs j.program)) t in
    record {
      upto = next_place arena script rest place new (job_taken arena script rest j place old new g.upto there);
      kept = subst (λ ls. AreRows ls rows) (sym c.licences) g.kept;
      few = let most : length c.more ≤ 1 = one_run t.p (length old.jobs.plans) (length c.more) c.numbers in omega (arith, most, g.few, ap length c.plans, length-append old.jobs.plans c.more);
    }

pub going_done : (arena : ℕ) (script : List Entry) (rows : List Row) (place : ℕ) (t : Planning) → Going arena script [] rows place t
    → ArePlanned arena script t.jobs t.plans t.asked
going_done arena script rows place t g =
    let u = g.upto in
    record {
      fates = u.fates;
      are = subst (AreFates script script) (append-nil u.fates) (u.are [] tt);
      leases = u.leases;
      runs = sym (append-nil (map (run_of_plan t.jobs.licences) t.jobs.plans)) ∙ u.runs [] ∙ ap (all_runs arena script) (append-nil u.fates);
      cells = sym (append-nil (planned_cells t.jobs.licences t.jobs.plans)) ∙ u.cells [] ∙ ap (all_left arena script) (append-nil u.fates);
      places = sym (append-nil t.asked) ∙ u.places [] ∙ ap (places_of arena 0 script) (append-nil u.fates);
      lines = sym (append-nil (planned_lines t.jobs arena t.plans)) ∙ u.lines [] ∙ ap (lines_of arena script) (append-nil u.fates);
      numbers = u.numbers;
    }

-- ---- what follows

all_both : (P : ℕ → Type 0) (xs ys : List ℕ) → AllByRecursion P xs → AllByRecursion P ys → AllByRecursion P (xs ++ ys)
all_both P [] ys a b = b
all_both P (x ∷ xs) ys a b = (a.0, all_both P xs ys a.1 b)

leases_fit : (arena : ℕ) (f : Fate) → AreSizes arena (leases_of arena f)
leases_fit arena (Unfit cause) = tt
leases_fit arena (Calls c) = by_test (nat_lt arena (lease_of c)) refl
  where
    by_test : (b : Bool) → nat_lt arena (lease_of c) ≡ b → AreSizes arena (if b then [] else lease_of c ∷ [])
    by_test true e = tt
    by_test false e = ((omega arith, grind (arith, nat_tests, e)), tt)

sizes_fit : (arena : ℕ) (fates : List Fate) → AreSizes arena (sizes_of arena fates)
sizes_fit arena [] = tt
sizes_fit arena (f ∷ fates) = all_both (λ size. (1 ≤ size) × (size ≤ arena)) (leases_of arena f) (sizes_of arena fates) (leases_fit arena f) (sizes_fit arena fates)

pub planned_sizes : (arena : ℕ) (script : List Entry) (ps : Planned) (plans : List JobPlan) (asked : List ℕ) → ArePlanned arena script ps plans asked
    → AreSizes arena (world.leases_of ps.plans)
planned_sizes arena script ps plans asked a = subst (AreSizes arena) (sym a.leases) (sizes_fit arena a.fates)

lines_few : (arena : ℕ) (script : List Entry) (fates : List Fate) → length (lines_of arena script fates) ≤ length (job_names script)
lines_few arena [] fates = omega arith
lines_few arena (AProgram p ∷ script) fates = lines_few arena script fates
lines_few arena (AJob j ∷ script) [] = omega (arith, lines_few arena script [])
lines_few arena (AJob j ∷ script) (f ∷ fates) = omega (arith, lines_few arena script fates)

pub planned_few : (arena : ℕ) (script : List Entry) (ps : Planned) (plans : List JobPlan) (asked : List ℕ) → length (job_names script) ≤ 4096
    → ArePlanned arena script ps plans asked → length ps.plans ≤ 4096
planned_few arena script ps plans asked h a =
    let same : length plans ≡ length (lines_of arena script a.fates) = sym (length-map plans (planned_line ps arena)) ∙ ap length a.lines in
    let runs : length (run_numbers plans) ≡ length ps.plans = ap length a.numbers ∙ length-range_with_len 0 (length ps.plans) in
    omega (arith, h, same, lines_few arena script a.fates, numbers_few plans, runs)
