use Rattle.run_reports.proofs.Telling.{told_is}
use Rattle.run_reports.proofs.lines.push_line.Goals as goal

pub returns : goal.returns
returns c = λ told is. told_is c.args.licences.now c.args.line.now told c.args.out.now.items c.push_told.new.out.items c.in_ok-push_told.ensures is
