use Rattle.std.proofs.Common.{[], ◌++◌, refl, sym, ap, ◌∙◌, subst}
use Rattle.cell_machine.specs.Endings.{EndsWith}
use Rattle.job_script.specs.Words.{script_of}
use Rattle.run_reports.specs.Report.{head_text, end_text}
use Rattle.run_reports.specs.Told.{IsTold}
use Rattle.script_plans.specs.Lines.{lines_of}
use Rattle.script_service.specs.Service.{told_of}
use Rattle.script_service.specs.Sliced.{slices_text}
use Rattle.script_service.proofs.slicing.text_of.Goals as goal

pub returns : goal.returns
returns c = λ planned.
    let script = script_of c.args.script.now in
    let told = told_of script c.args.plans.now.programs.items planned.fates [] in
    let head = c.in_ok-push_answers.ensures told (subst (λ licences. IsTold EndsWith licences c.in_ok-outcome.outcome told) (sym c.licences.ensures) (c.in_ok-outcome.ensures script planned refl)) in
    c.in_ok-push_end.ensures
    ∙ ap (λ l. l ++ end_text script.arena) (c.in_ok-push_slices.ensures
    ∙ ap (λ l. l ++ slices_text c.args.slices) (head
    ∙ ap (λ l. l ++ head_text script.items c.args.plans.now.programs.items (lines_of script.arena script.items planned.fates)) c.new-out.ensures.items))
