use Rattle.std.proofs.Common.{ap, ◌∙◌}
use Rattle.job_script.specs.Words.{script_of}
use Rattle.run_reports.specs.Summary.{summary_text}
use Rattle.script_service.specs.Service.{told_of}
use Rattle.script_service.proofs.reporting.summarize_served.Goals as goal

pub returns : goal.returns
returns c = λ handed.
    let served = c.args.served in
    let script = script_of served.script in
    c.in_ok-text.ensures script handed.planned c.cells_of-cells.ensures
    ∙ ap (λ journal. summary_text (told_of script served.plans.programs.items handed.planned.fates journal)) c.deref.ensures.value
