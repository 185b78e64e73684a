use Prim.Native.Nat.{◌+◌, ◌*◌, ◌-◌}
use Rattle.script_plans.proofs.answering.+answering.Given as goal

abbrev pub decreases-answer_programs : goal.decreases-answer_programs
decreases-answer_programs g l = 4 * l.parts

abbrev pub decreases-answer_both : goal.decreases-answer_both
decreases-answer_both g l = 4 * (l.low + l.high) - 1

abbrev pub decreases-answer_both-one : goal.decreases-answer_both-one
decreases-answer_both-one g l = 4 * l.low + 1

abbrev pub decreases-answer_both-other : goal.decreases-answer_both-other
decreases-answer_both-other g l = 4 * l.high + 1
