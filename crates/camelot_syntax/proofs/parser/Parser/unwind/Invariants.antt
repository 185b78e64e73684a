use Rattle.std.proofs.Common.{◌≡◌, vec_len}
use Rattle.camelot_tree.specs.Tree.{expression_of}
use Rattle.camelot_grammar.specs.Machine.{unwind}
use Rattle.camelot_syntax.specs.States.{stack_of}
use Rattle.camelot_syntax.proofs.parser.Parser.unwind.Given as goal

abbrev pub invariant-frames : goal.invariant-frames
invariant-frames l =
    unwind (stack_of l.self.stack.items) (expression_of l.tree.value) ≡ unwind (stack_of l.initial.self.stack.items) (expression_of l.initial.tree.value)

abbrev pub decreases-frames : goal.decreases-frames
decreases-frames l = vec_len l.self.stack
