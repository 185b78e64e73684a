use Rattle.std.proofs.Common.{map, ap}
use Rattle.job_script.specs.Words.{entry_of, script_of}
use Rattle.run_reports.proofs.Telling.{report_is}
use Rattle.run_reports.proofs.reporting.report.Goals as goal

pub returns : goal.returns
returns c = λ told is.
    report_is c.args.licences.now c.args.outcome.now told (script_of c.args.script.now).items (map entry_of c.deref-items.result.now) c.deref.result.now c.in_ok-out.out.items c.push_head.new.out.items c.push_events.new.out.items c.push_end.new.out.items
    (ap (map entry_of) c.deref-items.ensures.value) c.deref.ensures.value c.in_ok-out.ensures.items c.in_ok-push_head.ensures c.in_ok-push_events.ensures c.in_ok-push_end.ensures is
