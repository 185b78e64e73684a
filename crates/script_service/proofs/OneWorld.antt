-- A service's arena is that of a world, and input and output tell its cells.
use Rattle.std.proofs.Common.{◌≡◌, ℕ, zero, suc, ◌<◌, ◌≤◌, List, [], ◌∷◌, length, Some, refl, sym, ap, ◌∙◌, subst, arith}
use Rattle.std.specs.Prelude.{slice_get}
use Rattle.std.specs.List.{AllByRecursion}
use Rattle.std.specs.Option.{option_map}
use Rattle.std.proofs.lemmas.Option.{slice_get-map}
use Rattle.cell_span.specs.declared.cell.Cell.{Cell}
use Rattle.cell_span.specs.Range.{Range}
use Rattle.lease_desk.specs.declared.event.Event.{Event}
use Rattle.lease_desk.specs.Journal.{IsLegal}
use Rattle.lease_desk.specs.Filing.{FiledCells, HoldsFiled}
use Rattle.job_script.specs.Scripts.{Entry, Script, IsScript, EntryIsWithin}
use Rattle.job_script.specs.StateLaws.{right_script}
use Rattle.run_reports.specs.declared.outcome.ProgramLine.{ProgramLine}
use Rattle.job_world.specs.Plans.{Plan, Planned, cells_with, cells_at, job_cells}
use Rattle.job_world.specs.World.{world}
use Rattle.job_world.specs.Schedules.{FilesAll, IsWholeSchedule}
use Rattle.job_world.specs.theory.Scheduling.{whole_schedule, world_cells}
use Rattle.script_plans.specs.CallPlans.{HavePlans}
use Rattle.script_plans.specs.Fates.{Fate}
use Rattle.script_plans.specs.Lines.{AreProgramLines, AreFates, all_left, planned_cells}
use Rattle.script_service.specs.Service.{Service, IsService, IsReportIn, cells_by}
use Rattle.script_service.proofs.OneJournal.{printed_once}
use Rattle.script_service.specs.Worlds.{IsOfWorld}

there_at : {A : Type 0} (xs : List A) (i : ℕ) → i < length xs → (x : A) × (slice_get xs i ≡ Some x)
there_at [] i h = absurd (omega (arith, h))
there_at (x ∷ xs) zero h = (x, refl)
there_at (x ∷ xs) (suc i) h = there_at xs i (omega (arith, h))

-- the cells that the plans' runs leave are filed by each job
files_all : (ps : Planned) (lefts : List (List Cell)) → planned_cells ps.licences ps.plans ≡ lefts → FilesAll ps (λ job. slice_get lefts job)
unfolding job_cells
files_all ps lefts e job h =
    let p = there_at ps.plans job h in
    let left : Plan → List Cell = λ q. cells_with (slice_get ps.licences q.licence) q in
    sym (ap (λ (ls : List (List Cell)). slice_get ls job) e)
    ∙ slice_get-map (λ (q : Plan). cells_with (slice_get ps.licences q.licence) q) ps.plans job
    ∙ ap (option_map (λ (q : Plan). cells_with (slice_get ps.licences q.licence) q)) p.1
    ∙ sym (ap (λ o. Some (cells_at ps.licences o)) p.1)

abbrev pub ManyPlans : Type 0
ManyPlans = (arena : ℕ) (entries : List Entry) (fates : List Fate) → arena ≤ 2147483648 → AllByRecursion EntryIsWithin entries
    → AreFates entries entries fates → HavePlans arena entries fates

plans_of : ManyPlans → (s : Service) → IsScript s.script → IsService s → HavePlans s.script.arena s.script.items s.fates
plans_of many s right h = many s.script.arena s.script.items s.fates (omega (arith, right.within.arena.most)) right.within.fuels h.answered.are_fates

schedule_of : (many : ManyPlans) (s : Service) (right : IsScript s.script) (h : IsService s)
    → IsWholeSchedule s.script.arena (plans_of many s right h).planned (cells_by s) s.journal
schedule_of many s right h =
    let p = plans_of many s right h in
    whole_schedule s.script.arena p.planned (cells_by s) s.journal p.are.can (files_all p.planned (all_left s.script.arena s.script.items s.fates) p.are.cells)
    (subst (λ (sizes : List ℕ). IsLegal s.script.arena sizes s.journal) (sym p.are.leases) h.legal)

pub of_world : ManyPlans → (s : Service) → IsScript s.script → IsService s → IsOfWorld s
of_world many s right h =
    let p = plans_of many s right h in
    let k = schedule_of many s right h in
    record {
      planned = p.planned;
      are = p.are;
      events = k.events;
      told = k.told;
      cells = world_cells s.script.arena p.planned (cells_by s) s.journal s.arena k h.whole h.size h.cells;
    }

pub left_once : ManyPlans
    → ((entries : List Entry) (first second : List ProgramLine) → AreProgramLines entries first → AreProgramLines entries second → first ≡ second)
    → ((script entries : List Entry) (first second : List Fate) → AreFates script entries first → AreFates script entries second → first ≡ second)
    → (input output : List ℕ) (first second : Range) → IsReportIn input output first → IsReportIn input output second → first.cells ≡ second.cells
left_once many of_programs of_jobs input output first second r s =
    let a : Service = r.service in
    let b : Service = s.service in
    let x : IsService a = r.served.comes in
    let y : IsService b = s.served.comes in
    let right : IsScript a.script = right_script a.script r.served.text.right in
    let same : b.script ≡ a.script = r.served.only b.script s.served.text in
    let fates : b.fates ≡ a.fates = of_jobs a.script.items a.script.items b.fates a.fates (subst (λ (c : Script). AreFates c.items c.items b.fates) same y.answered.are_fates) x.answered.are_fates in
    let journal : b.journal ≡ a.journal = sym (printed_once of_programs of_jobs input output (record { service = a; served = r.served; is = r.is }) (record { service = b; served = s.served; is = s.is })) in
    let filed : cells_by b ≡ cells_by a =
    ap (λ (c : Script). (λ (job : ℕ). slice_get (all_left c.arena c.items b.fates) job)) same
    ∙ ap (λ (fs : List Fate). (λ (job : ℕ). slice_get (all_left a.script.arena a.script.items fs) job)) fates in
    let holds : HoldsFiled (cells_by a) a.journal b.arena =
    subst (λ (j : List Event). HoldsFiled (cells_by a) j b.arena) journal (subst (λ (f : FiledCells). HoldsFiled f b.journal b.arena) filed y.cells) in
    let k = schedule_of many a right x in
    let p = plans_of many a right x in
    let one : a.arena.cells ≡ (world a.script.arena p.planned k.events).cells = world_cells a.script.arena p.planned (cells_by a) a.journal a.arena k x.whole x.size x.cells in
    let two : b.arena.cells ≡ (world a.script.arena p.planned k.events).cells =
    world_cells a.script.arena p.planned (cells_by a) a.journal b.arena k y.whole (y.size ∙ ap (λ (c : Script). c.arena) same) holds in
    ap (λ (z : Range). z.cells) r.left ∙ one ∙ sym two ∙ sym (ap (λ (z : Range). z.cells) s.left)
