use Rattle.std.proofs.Common.{◌≡◌, take}
use Rattle.grail_code.specs.Meaning.{arguments}
use Rattle.grail_evaluator.specs.Trees.{plain_all}
use Rattle.grail_evaluator.specs.Locals.{env_of}
use Rattle.grail_evaluator.proofs.locals.arguments.Given as goal

abbrev pub invariant-args-2 : goal.invariant-args-2
invariant-args-2 l = env_of l.all.items ≡ arguments (take l.place (plain_all l.args.items))
