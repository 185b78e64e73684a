-- The bytes of a report tell the journal.
use Rattle.std.proofs.Common.{◌≡◌, ℕ, ◌≤◌, List, ◌++◌, length, sym, ap, ◌∙◌, subst, arith}
use Rattle.std.proofs.lemmas.List.{append_cancel_left, append_cancel_right}
use Rattle.lease_desk.specs.declared.event.Event.{Event}
use Rattle.lease_desk.specs.Journal.{IsLegal}
use Rattle.lease_desk.specs.JournalLaws.{legal_within}
use Rattle.job_script.specs.Scripts.{Entry, Script, IsScript}
use Rattle.job_script.specs.StateLaws.{right_script}
use Rattle.run_reports.specs.declared.outcome.ProgramLine.{ProgramLine}
use Rattle.run_reports.specs.Told.{JobLine}
use Rattle.run_reports.specs.Report.{head_text, event_lines, end_text, asked_name, report_text}
use Rattle.script_plans.specs.Fates.{Fate}
use Rattle.script_plans.specs.Lines.{AreProgramLines, AreFates, sizes_of, places_of}
use Rattle.script_service.specs.Service.{Service, IsService, IsReport, told_of}
use Rattle.run_reports.specs.TextLaws.{one_journal}
use Rattle.script_service.proofs.JobNames.{are_names}

-- reports of one head have the same lines of events
same_lines : (entries : List Entry) (programs : List ProgramLine) (jobs : List JobLine) (asked : List ℕ) (first second : List Event) (free : ℕ)
    → report_text entries (record { programs = programs; jobs = jobs; asked = asked; journal = first; free = free })
    ≡ report_text entries (record { programs = programs; jobs = jobs; asked = asked; journal = second; free = free })
    → event_lines (asked_name entries asked) first ≡ event_lines (asked_name entries asked) second
unfolding report_text
same_lines entries programs jobs asked first second free e =
    append_cancel_left (head_text entries programs jobs) (event_lines (asked_name entries asked) first) (event_lines (asked_name entries asked) second)
    (append_cancel_right (head_text entries programs jobs ++ event_lines (asked_name entries asked) first)
    (head_text entries programs jobs ++ event_lines (asked_name entries asked) second) (end_text free) e)

pub printed_once : ((entries : List Entry) (first second : List ProgramLine) → AreProgramLines entries first → AreProgramLines entries second → first ≡ second)
    → ((script entries : List Entry) (first second : List Fate) → AreFates script entries first → AreFates script entries second → first ≡ second)
    → (input output : List ℕ) (r s : IsReport input output) → r.service.journal ≡ s.service.journal
printed_once of_programs of_jobs input output r s =
    let a : Service = r.service in
    let b : Service = s.service in
    let x : IsService a = r.served.comes in
    let y : IsService b = s.served.comes in
    let right : IsScript a.script = right_script a.script r.served.text.right in
    let same : b.script ≡ a.script = r.served.only b.script s.served.text in
    let programs : b.programs ≡ a.programs = of_programs a.script.items b.programs a.programs (subst (λ (c : Script). AreProgramLines c.items b.programs) same y.answered.are_programs) x.answered.are_programs in
    let fates : b.fates ≡ a.fates = of_jobs a.script.items a.script.items b.fates a.fates (subst (λ (c : Script). AreFates c.items c.items b.fates) same y.answered.are_fates) x.answered.are_fates in
    let bytes : report_text a.script.items (told_of a.script a.programs a.fates a.journal) ≡ report_text a.script.items (told_of a.script a.programs a.fates b.journal) =
    sym r.is ∙ s.is
    ∙ ap (λ (c : Script). report_text c.items (told_of c b.programs b.fates b.journal)) same
    ∙ ap (λ ps. report_text a.script.items (told_of a.script ps b.fates b.journal)) programs
    ∙ ap (λ fs. report_text a.script.items (told_of a.script a.programs fs b.journal)) fates in
    let lines = same_lines a.script.items a.programs _ (places_of a.script.arena 0 a.script.items a.fates) a.journal b.journal a.script.arena bytes in
    let legal : IsLegal a.script.arena (sizes_of a.script.arena a.fates) b.journal =
    subst (λ (fs : List Fate). IsLegal a.script.arena (sizes_of a.script.arena fs) b.journal) fates (subst (λ (c : Script). IsLegal c.arena (sizes_of c.arena b.fates) b.journal) same y.legal) in
    let some : 1 ≤ a.script.arena = right.within.arena.least in
    one_journal (asked_name a.script.items (places_of a.script.arena 0 a.script.items a.fates)) a.script.arena (length (sizes_of a.script.arena a.fates))
    (omega (arith, right.within.arena.most)) (are_names a.script.arena a.script a.fates right x.answered.are_fates) a.journal b.journal
    (legal_within a.script.arena (sizes_of a.script.arena a.fates) a.journal some x.legal)
    (legal_within a.script.arena (sizes_of a.script.arena a.fates) b.journal some legal)
    lines
