use Rattle.std.proofs.Common.{◌≡◌, ◌++◌, map}
use Rattle.camelot_tree.specs.Tree.{expression_of}
use Rattle.camelot_tree.specs.Spine.{spine_of, leaf_of}
use Rattle.camelot_tree.proofs.spine.left_spine_in.Given as goal

abbrev pub invariant-down : goal.invariant-down
invariant-down l = record {
  parents : map (λ parent. expression_of parent.now) l.parents.items ++ spine_of (expression_of l.leaf) ≡ spine_of (expression_of l.expr);
  leaf : leaf_of (expression_of l.leaf) ≡ leaf_of (expression_of l.expr);
}
