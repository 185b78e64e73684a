-- What is handed out is what comes of the script.
use Rattle.std.proofs.Common.{◌≡◌, ℕ, ◌<◌, ◌≤◌, List, length, slice_get, Option, Some, None, refl, sym, ap, ◌∙◌, subst, arith}
use Rattle.std.proofs.lemmas.Option.{slice_get-map}
use Rattle.std.specs.List.{AllByRecursion}
use Rattle.std.specs.Option.{option_map}
use Rattle.camelot_values.specs.Value.{Value}
use Rattle.camelot_values.specs.Outcome as plain
use Rattle.camelot_values.specs.Outcome.{Outcome}
use Rattle.cell_machine.specs.Endings.{EndsWith}
use Rattle.cell_machine.specs.declared.machine.Ending.{Ending}
use Rattle.cell_span.specs.declared.cell.Cell.{Cell}
use Rattle.cell_span.specs.Range.{Range, IsWhole}
use Rattle.job_script.specs.Scripts.{Entry, Script, IsFormed, IsScript}
use Rattle.job_script.specs.Text.{IsScriptText, EntryIsShort, script_text}
use Rattle.job_script.specs.Made.{made_script}
use Rattle.job_script.specs.Words.{script_of}
use Rattle.job_script.specs.Answers.{HasCause}
use Rattle.job_script.specs.declared.reading.ScriptFault.{ScriptFault}
use Rattle.stops.specs.Stopping.{FaultIs}
use Rattle.stops.specs.declared.stop.Stop.{Stop}
use Rattle.stops.specs.declared.stop.Stop.TheVariants as stop
use Rattle.job_world.specs.Plans.{Plan, Planned, leases_of, cells_with, cells_at, job_cells}
use Rattle.job_workers.specs.Ended.{AllEnded}
use Rattle.job_workers.specs.Served.{all_cells, cells_for}
use Rattle.lease_desk.specs.declared.event.Event.{Event}
use Rattle.lease_desk.specs.Filing.{FiledCells, HoldsFiled}
use Rattle.lease_desk.specs.Journal.{IsLegal}
use Rattle.script_service.specs.declared.counting.Tallied.{Tallied}
use Rattle.script_plans.specs.Lines.{AreProgramLines, ArePlanned, planned_cells, sizes_of, all_left}
use Rattle.script_plans.specs.ScriptLaws.{numbers_below}
use Rattle.run_reports.specs.Told.{TellsMeaning}
use Rattle.script_service.specs.Service.{IsReportIn, IsSummary, report_of, summary_of}
use Rattle.script_service.specs.Counting.{Counts}
use Rattle.script_service.specs.Handed.{service_of, IsHanded, IsHandedFor, IsRefused}
use Rattle.script_service.specs.Steps.{IsOf, serve_fault}
use Rattle.script_service.specs.declared.service.ServedScript.{ServedScript}
use Rattle.script_service.specs.declared.service.ServeFault.{ServeFault}
use Rattle.script_service.proofs.Filing.{all_meant}

-- ---- the arena

-- the cells that a planned run leaves
abbrev left_of : Planned → Plan → List Cell
left_of ps p = cells_with (slice_get ps.licences p.licence) p

left_at : (ps : Planned) (job : ℕ) (o : Option Plan) → slice_get ps.plans job ≡ o → cells_for ps job o ≡ option_map (left_of ps) o
unfolding job_cells
left_at ps job None e = refl
left_at ps job (Some p) e = ap Some (ap (cells_at ps.licences) e)

same_cells : (ps : Planned) (lefts : List (List Cell)) → planned_cells ps.licences ps.plans ≡ lefts → (job : ℕ) → all_cells ps job ≡ slice_get lefts job
same_cells ps lefts e job = left_at ps job (slice_get ps.plans job) refl ∙ sym (slice_get-map (left_of ps) ps.plans job) ∙ ap (λ (ls : List (List Cell)). slice_get ls job) e

cells_held : (ps : Planned) (lefts : List (List Cell)) (journal : List Event) (arena : Range) → planned_cells ps.licences ps.plans ≡ lefts
    → HoldsFiled (all_cells ps) journal arena → HoldsFiled (λ job. slice_get lefts job) journal arena
cells_held ps lefts journal arena e h =
    let same : all_cells ps ≡ (λ job. slice_get lefts job) = λ i job. same_cells ps lefts e job i in
    subst (λ (f : FiledCells). HoldsFiled f journal arena) same h

-- ---- a script

same_legal : (arena : ℕ) (sizes leases : List ℕ) (journal : List Event) → leases ≡ sizes → IsLegal arena leases journal → IsLegal arena sizes journal
same_legal arena sizes leases journal e h = subst (λ s. IsLegal arena s journal) e h

pub handed : {K : Type 0} (keeps : Outcome Value → K → Type 0) → ((k : K) → keeps plain.Stuck k → ⊥) → (s : ServedScript K) → AreProgramLines (script_of s.script).items s.plans.programs.items
    → ArePlanned (script_of s.script).arena (script_of s.script).items s.plans.jobs s.plans.plans.items s.plans.asked.items → length s.plans.jobs.plans ≤ 4096 → AllEnded keeps s.plans.jobs s.endings.items
    → IsLegal (script_of s.script).arena (leases_of s.plans.jobs.plans) s.journal.items → IsWhole s.arena → s.arena.arena.cells ≡ (script_of s.script).arena → HoldsFiled (all_cells s.plans.jobs) s.journal.items s.arena
    → IsOf keeps (script_of s.script) s
handed keeps never s programs planned few ended legal whole size cells =
    let script = script_of s.script in
    let ps = s.plans.jobs in
    record {
      same = refl;
      handed = record {
        planned = planned;
        few = few;
        ended = ended;
        comes = record {
          answered = record {
            are_programs = programs;
            are_fates = planned.are;
            meant = subst (AllByRecursion TellsMeaning) planned.lines (all_meant keeps never ps script.arena s.endings.items ended s.plans.plans.items (numbers_below s.plans.plans.items (length ps.plans) planned.numbers));
          };
          legal = same_legal script.arena (sizes_of script.arena planned.fates) (leases_of ps.plans) s.journal.items planned.leases legal;
          whole = whole;
          size = size;
          cells = cells_held ps (all_left script.arena script.items planned.fates) s.journal.items s.arena planned.cells cells;
        };
      };
    }

pub some_cells : (s : Script) → IsScript s → 1 ≤ s.arena
some_cells s h = h.within.arena.least

pub few_cells : (s : Script) → IsScript s → s.arena ≤ 2147483648
few_cells s h = let m : s.arena ≤ 4194304 = h.within.arena.most in omega (arith, m)

-- ---- an input

pub short_text : (input : List ℕ) (s : Script) → ((text : List ℕ) (s : Script) → IsScriptText text s → AllByRecursion (EntryIsShort (length text)) s.items)
    → ((most : ℕ) (entries : List Entry) → most ≤ 4294967295 → AllByRecursion (EntryIsShort most) entries → AllByRecursion (EntryIsShort 4294967295) entries)
    → IsScriptText input s → length input < 4294967296 → AllByRecursion (EntryIsShort 4294967295) s.items
short_text input s short longer text few = longer (length input) s.items (omega (arith, few)) (short input s text)

-- two scripts of one text are the same
abbrev pub OneScript : Type 0
OneScript = (s t : Script) → IsFormed s → IsFormed t → script_text s ≡ script_text t → s ≡ t

-- what is handed out for a script that was read, for an input that is its text
pub handed_for : (input : List ℕ) (script : Script) (s : ServedScript Ending) → OneScript → IsScriptText input script → IsOf EndsWith script s → IsHandedFor input s
handed_for input script s one text h = record {
  text = subst (IsScriptText input) (sym h.same) text;
  only = λ t is. one t script is.right.0.0 text.right.0.0 (is.is ∙ sym text.is) ∙ sym h.same;
  handed = h.handed;
}

pub refused : (input : List ℕ) (x : Stop ScriptFault) (y : ServeFault) → y ≡ serve_fault x → FaultIs (HasCause input) x → IsRefused input y
refused input x y e h = subst (IsRefused input) (sym e) (by_stop x h)
  where
    by_stop : (x : Stop ScriptFault) → FaultIs (HasCause input) x → IsRefused input (serve_fault x)
    by_stop (stop.Fault f) h = h
    by_stop stop.Memory h = tt

-- ---- the report

pub is_report : (input output : List ℕ) (s : ServedScript Ending) (arena : Range) (h : IsHandedFor input s)
    → ((handed : IsHanded EndsWith s) → output ≡ report_of (service_of s handed.planned.fates)) → arena ≡ s.arena
    → IsReportIn input output arena
is_report input output s arena h each left =
    record { service = service_of s h.handed.planned.fates; served = record { text = h.text; only = h.only; comes = h.handed.comes }; is = each h.handed; left = left }

-- ---- the summary

pub is_summary : (jobs workers : ℕ) (script : Script) (output : List ℕ) (s : ServedScript Tallied) → script ≡ made_script jobs workers → (h : IsOf Counts script s)
    → ((handed : IsHanded Counts s) → output ≡ summary_of (service_of s handed.planned.fates))
    → IsSummary jobs workers output
is_summary jobs workers script output s made h each =
    record { service = service_of s h.handed.planned.fates; script = h.same ∙ made; comes = h.handed.comes; is = each h.handed }
