-- The tree that is left is no deeper than the one that is dropped.
use Rattle.std.proofs.Common.{◌≤◌}
use Rattle.camelot_tree.proofs.tree.Expr.TheLaws.{the_size}
use Rattle.camelot_tree.proofs.+tree.Given as goal

abbrev pub invariant-tree::Expr::drop-loop-self : goal.invariant-tree::Expr::drop-loop-self
invariant-tree::Expr::drop-loop-self l = the_size l.self ≤ the_size l.fn.self
