use Rattle.std.proofs.Common.{◌≡◌, map, drop, None}
use Rattle.std.specs.Option.{option_map}
use Rattle.grail_evaluator.specs.Trees.{plain}
use Rattle.grail_evaluator.specs.Locals.{bound_of, last_of}
use Rattle.grail_evaluator.proofs.locals.value_of.Given as goal

abbrev pub invariant-locals : goal.invariant-locals
invariant-locals l = last_of (option_map (λ tree. plain tree.now) l.last) (map bound_of (drop l.bound-index l.env)) l.local ≡ last_of None (map bound_of l.env) l.local
