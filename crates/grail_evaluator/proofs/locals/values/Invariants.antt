use Rattle.std.proofs.Common.{◌≡◌, map, drop}
use Rattle.grail_code.specs.Meaning.{values_of}
use Rattle.grail_evaluator.specs.Trees.{plain}
use Rattle.grail_evaluator.specs.Locals.{env_of, behind}
use Rattle.grail_evaluator.proofs.locals.values.Given as goal

abbrev pub invariant-locals : goal.invariant-locals
invariant-locals l = behind (map plain l.all.items) (values_of (env_of l.env) (drop l.local-index l.locals)) ≡ values_of (env_of l.env) l.locals
