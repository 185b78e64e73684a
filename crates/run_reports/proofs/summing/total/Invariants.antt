use Rattle.std.proofs.Common.{drop}
use Rattle.run_reports.specs.Lines.{line_tally}
use Rattle.run_reports.proofs.Tallying.{Counts}
use Rattle.run_reports.proofs.summing.total.Given as goal

abbrev pub invariant-lines : goal.invariant-lines
invariant-lines g l = Counts (line_tally g.K.HasHalt.halt) l.lines l.all (drop l.line-index l.lines)
