use Rattle.std.proofs.Common.{◌≡◌, ◌++◌, map, drop}
use Rattle.grail_evaluator.specs.Locals.{bound_of, kept}
use Rattle.grail_evaluator.proofs.locals.narrow.Given as goal

abbrev pub invariant-locals : goal.invariant-locals
invariant-locals l = map bound_of l.all.items ++ kept l.params (map bound_of (drop l.bound-index l.env)) ≡ kept l.params (map bound_of l.env)
