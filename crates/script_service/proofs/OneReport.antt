-- A script and a journal have one report.
use Rattle.std.proofs.Common.{◌≡◌, ℕ, List, sym, ap, ◌∙◌, subst}
use Rattle.job_script.specs.Scripts.{Entry, Script}
use Rattle.run_reports.specs.declared.outcome.ProgramLine.{ProgramLine}
use Rattle.run_reports.specs.Report.{report_text}
use Rattle.script_plans.specs.Fates.{Fate}
use Rattle.script_plans.specs.Lines.{AreProgramLines, AreFates}
use Rattle.script_service.specs.Service.{Service, IsService, IsReport, told_of}

pub one_report : ((entries : List Entry) (first second : List ProgramLine) → AreProgramLines entries first → AreProgramLines entries second → first ≡ second)
    → ((script entries : List Entry) (first second : List Fate) → AreFates script entries first → AreFates script entries second → first ≡ second)
    → (input first second : List ℕ) (r : IsReport input first) (s : IsReport input second) → r.service.journal ≡ s.service.journal → first ≡ second
one_report of_programs of_jobs input first second r s e =
    let a : Service = r.service in
    let b : Service = s.service in
    let x : IsService a = r.served.comes in
    let y : IsService b = s.served.comes in
    let same : b.script ≡ a.script = r.served.only b.script s.served.text in
    let programs : a.programs ≡ b.programs = of_programs a.script.items a.programs b.programs x.answered.are_programs (subst (λ (c : Script). AreProgramLines c.items b.programs) same y.answered.are_programs) in
    let fates : a.fates ≡ b.fates = of_jobs a.script.items a.script.items a.fates b.fates x.answered.are_fates (subst (λ (c : Script). AreFates c.items c.items b.fates) same y.answered.are_fates) in
    r.is
    ∙ ap (λ ps. report_text a.script.items (told_of a.script ps a.fates a.journal)) programs
    ∙ ap (λ fs. report_text a.script.items (told_of a.script b.programs fs a.journal)) fates
    ∙ ap (λ j. report_text a.script.items (told_of a.script b.programs b.fates j)) e
    ∙ ap (λ (c : Script). report_text c.items (told_of c b.programs b.fates b.journal)) (sym same)
    ∙ sym s.is
