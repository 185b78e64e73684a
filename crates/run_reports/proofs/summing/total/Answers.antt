use Rattle.std.proofs.Common.{ap, ◌∙◌, arith}
use Rattle.run_reports.specs.Lines.{line_tally}
use Rattle.run_reports.proofs.Tallying.{one_behind, none_behind}
use Rattle.run_reports.proofs.summing.total.Goals as goal

pub lines-preserved : goal.lines-preserved
lines-preserved g c =
    let how = line_tally g.K.HasHalt.halt in
    one_behind how c.args.lines.now c.lines.line-index c.line-item.result c.lines.all c.tally_line.result c.add-all.result (omega (arith, c.lines-test.true)) c.lines.invariant
    (c.tally_line.ensures.tally ∙ ap how c.line-item.is) c.tally_line.ensures.small c.add-all.ensures

pub returns : goal.returns
returns g c = none_behind (line_tally g.K.HasHalt.halt) c.args.lines.now c.lines.line-index c.lines.all (omega (arith, c.lines-test.false)) c.lines.invariant
