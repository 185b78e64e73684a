use Rattle.camelot_tree.specs.Tree.{data_type_of}
use Rattle.camelot_types.proofs.Passing.{past_stops}
use Rattle.camelot_types.proofs.types.check_few_types.Goals as goal

pub returns-in-Some-clause-allowed : goal.returns-in-Some-clause-allowed
returns-in-Some-clause-allowed c =
    let h = c.in-Some.ensures.lookup in
    past_stops data_type_of (λ x. x.name) _ 64 c.args.types.now c.in-Some.first.now c.too_many.result h.3.0 h.1 c.too_many.ensures
