use Rattle.run_reports.proofs.Telling.{summary_is}
use Rattle.run_reports.proofs.summing.summary.Goals as goal

pub returns : goal.returns
returns g c = λ licences told is.
    summary_is g.K.HasHalt.halt licences c.args.outcome.now told c.deref.result.now c.in_ok-text.text.items c.deref.ensures.value c.in_ok-text.ensures is
