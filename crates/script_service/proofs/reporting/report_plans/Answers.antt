use Rattle.std.proofs.Common.{refl, sym, subst}
use Rattle.cell_machine.specs.Endings.{EndsWith}
use Rattle.job_script.specs.Words.{script_of}
use Rattle.run_reports.specs.Told.{IsTold}
use Rattle.script_service.specs.Service.{told_of}
use Rattle.script_service.proofs.reporting.report_plans.Goals as goal

pub returns : goal.returns
returns c = λ planned.
    let script = script_of c.args.script.now in
    let told = told_of script c.args.plans.now.programs.items planned.fates c.args.journal.now in
    c.in_ok-text.ensures told (subst (λ licences. IsTold EndsWith licences c.in_ok-outcome.outcome told) (sym c.licences.ensures) (c.in_ok-outcome.ensures script planned refl))
