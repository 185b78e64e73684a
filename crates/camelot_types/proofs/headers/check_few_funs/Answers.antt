use Rattle.camelot_tree.specs.Tree.{function_of}
use Rattle.camelot_types.proofs.Passing.{past_stops}
use Rattle.camelot_types.proofs.headers.check_few_funs.Goals as goal

pub returns-in-Some : goal.returns-in-Some
returns-in-Some c =
    let h = c.in-Some.ensures.lookup in
    past_stops function_of (λ x. x.name) _ 64 c.args.funs.now c.in-Some.first.now c.too_many.result h.3.0 h.1 c.too_many.ensures
