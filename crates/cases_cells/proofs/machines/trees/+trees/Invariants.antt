use Rattle.std.proofs.Common.{◌≡◌, ◌≤◌, ◌+◌, ◌*◌, length}
use Rattle.camelot_values.specs.Value.{parts, part_count}
use Rattle.grail_evaluator.specs.Trees.{plain_all}
use Rattle.cases_cells.specs.Trees.{InFront}
use Rattle.cases_cells.proofs.machines.trees.+trees.Given as goal

abbrev pub decreases-take_tree : goal.decreases-take_tree
decreases-take_tree l = 2 * length l.items.now

abbrev pub decreases-take_trees : goal.decreases-take_trees
decreases-take_trees l = 2 * length l.items.now + 1

abbrev pub invariant-take_trees-trees : goal.invariant-take_trees-trees
invariant-take_trees-trees l = (part_count (parts (plain_all l.trees.items)) ≡ l.counter) × InFront l.items (plain_all l.trees.items) l.rest × (length l.rest ≤ length l.items)
