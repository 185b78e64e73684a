use Rattle.std.proofs.Common.{◌≡◌, ◌+◌, true, refl, sym, ap, ◌∙◌, map, drop}
use Rattle.camelot_tree.specs.Tree.{branch_of, arms}
use Rattle.camelot_tree.specs.Cells.{has_cell}
use Rattle.linear_use.proofs.Steps.{cell_found}
use Rattle.linear_use.proofs.Lists.{left_arms}
use Rattle.linear_use.proofs.Trees.{arm_is}
use Rattle.linear_use.proofs.parts.some_cell.Goals as goal

pub returns-then-has_cell : goal.returns-then-has_cell
returns-then-has_cell c =
    let a = c.arm-item.result in
    let there : has_cell (branch_of a).cell ≡ true = ap (λ x. has_cell x.cell) (arm_is a) ∙ sym c.has_cell.ensures ∙ c.if-has_cell.true in
    cell_found (arms (map branch_of c.args.arms.now)) (arms (map branch_of (drop c.arms.arm-index c.args.arms.now))) (arms (map branch_of (drop (c.arms.arm-index + 1) c.args.arms.now))) (branch_of a)
    (left_arms branch_of c.args.arms.now c.arms.arm-index (c.arms.arm-index + 1) a refl c.arms-test.true c.arm-item.is) there c.arms.invariant
