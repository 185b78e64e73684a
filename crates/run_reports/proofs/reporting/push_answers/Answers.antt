use Rattle.std.proofs.Common.{map, ap}
use Rattle.job_script.specs.Words.{entry_of, script_of}
use Rattle.run_reports.proofs.Telling.{head_is}
use Rattle.run_reports.proofs.reporting.push_answers.Goals as goal

pub returns : goal.returns
returns c = λ told is.
    head_is c.args.licences.now c.args.outcome.now told (script_of c.args.script.now).items (map entry_of c.deref.result.now) c.deref-2.result.now c.args.out.now.items c.push_head.new.out.items
    (ap (map entry_of) c.deref.ensures.value) c.deref-2.ensures.value c.in_ok-push_head.ensures is
