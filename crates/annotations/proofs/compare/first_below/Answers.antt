use Rattle.annotations.specs.Steps.{wants}
use Rattle.annotations.proofs.Walks.{stops, goes_on, ends}
use Rattle.annotations.proofs.compare.first_below.Goals as goal

pub returns-then-is_below : goal.returns-then-is_below
returns-then-is_below c = stops (wants c.args.types.now c.args.kind) c.pairs.rest.now c.pairs-con-items.result.now c.pairs_from-rest.result.now c.pairs.con-index c.in_front.result c.is_below.result _ c.pairs-test.true
    (record { rest_is = c.pairs_from-rest.ensures; have_is = c.in_front.ensures; test = c.is_below.ensures }) c.pairs.invariant c.if-is_below.true

pub pairs-preserved : goal.pairs-preserved
pairs-preserved c = goes_on (wants c.args.types.now c.args.kind) c.pairs.rest.now c.pairs-con-items.result.now c.pairs_from-rest.result.now c.pairs.con-index c.in_front.result c.is_below.result _ c.pairs-test.true
    (record { rest_is = c.pairs_from-rest.ensures; have_is = c.in_front.ensures; test = c.is_below.ensures }) c.pairs.invariant c.if-is_below.false

pub returns : goal.returns
returns c = ends (wants c.args.types.now c.args.kind) c.pairs.rest.now c.pairs-con-items.result.now c.pairs.con-index _ c.pairs-test.false c.pairs.invariant
