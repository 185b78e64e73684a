use Rattle.std.proofs.Common.{◌≡◌, map, drop}
use Rattle.dual_simplex.specs.Answer.{value_of}
use Rattle.dual_simplex.specs.Lines.{plain_line}
use Rattle.dual_simplex.proofs.answer.value_of.Given as goal

abbrev pub invariant-loop-line : goal.invariant-loop-line
invariant-loop-line l = value_of l.variable (map plain_line (drop l.line-index l.lines)) ≡ value_of l.variable (map plain_line l.lines)
