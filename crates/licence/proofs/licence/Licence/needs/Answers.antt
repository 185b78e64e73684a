use Rattle.std.proofs.Common.{ap, ◌∙◌, arith}
use Rattle.camelot_values.specs.Counts.{cells_among}
use Rattle.camelot_values.specs.Outcome.{peak_of}
use Rattle.grail_code.specs.Meaning.{run_of}
use Rattle.licence.proofs.Bounds.{few_cells, one_at_least, both_within}
use Rattle.licence.proofs.licence.Licence.needs.Goals as goal

pub overflow_add-cells : goal.overflow_add-cells
overflow_add-cells c =
    let few = few_cells c.code.result.now.types c.args.args.now c.requires.few in
    omega (arith, few, c.cells_of-cells.ensures, c.bound-bound.ensures.range)

pub returns-clause-suffices : goal.returns-clause-suffices
returns-clause-suffices c limit fuel =
    let cells = ap (λ p. cells_among p.types c.args.args.now) c.code.ensures in
    one_at_least (cells_among c.args.self.now.code.types c.args.args.now) (peak_of (run_of c.args.self.now.code limit c.args.entry fuel c.args.args.now)) c.cells_of-cells.result c.bound-bound.result c.max.result
    (c.cells_of-cells.ensures ∙ cells) (c.bound-bound.ensures.peak limit fuel) c.max.ensures

pub returns-clause-lease_range : goal.returns-clause-lease_range
returns-clause-lease_range c =
    let few = few_cells c.code.result.now.types c.args.args.now c.requires.few in
    both_within c.cells_of-cells.result c.bound-bound.result c.max.result (omega (arith, few, c.cells_of-cells.ensures)) c.bound-bound.ensures.range c.max.ensures
