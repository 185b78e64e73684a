use Rattle.std.proofs.Common.{◌≡◌, drop, map}
use Rattle.camelot_tree.specs.Tree.{expression_of, expressions}
use Rattle.linear_use.specs.Uses.{lent_params}
use Rattle.linear_use.specs.Walk.{reads_first}
use Rattle.linear_use.proofs.reads.find_read.Given as goal

abbrev pub invariant-all : goal.invariant-all
invariant-all l = reads_first l.state.spent l.known.typed.now.types l.state.scope (lent_params l.known.typed.now.types l.left.params.now l.left.kinds.now) (expressions (map expression_of (drop l.arg-index l.args))) l.count
    ≡ reads_first l.state.spent l.known.typed.now.types l.state.scope (lent_params l.known.typed.now.types l.marks.params.now l.marks.kinds.now) (expressions (map expression_of l.args)) l.clear
