use Rattle.script_service.specs.Service.{told_of}
use Rattle.script_service.proofs.reporting.summarize_plans.Goals as goal

pub returns : goal.returns
returns c = λ script planned size.
    let plans = c.args.plans.now in
    c.in_ok-text.ensures plans.jobs.licences (told_of script plans.programs.items planned.fates c.args.journal.now) (c.in_ok-outcome.ensures script planned size)
