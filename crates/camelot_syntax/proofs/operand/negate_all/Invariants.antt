use Rattle.std.proofs.Common.{◌≡◌, vec_len}
use Rattle.camelot_grammar.specs.Machine.{negated_all}
use Rattle.camelot_syntax.specs.States.{operand_of, nots_of}
use Rattle.camelot_syntax.proofs.operand.negate_all.Given as goal

abbrev pub invariant-nots : goal.invariant-nots
invariant-nots l =
    negated_all (nots_of l.nots.items) (operand_of l.operand) ≡ negated_all (nots_of l.initial.nots.items) (operand_of l.initial.operand)

abbrev pub decreases-nots : goal.decreases-nots
decreases-nots l = vec_len l.nots
