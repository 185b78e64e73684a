use Rattle.camelot_typing.specs.NumberLaws.{few_constructors}
use Rattle.linear_use.proofs.names.law_of_few.Goals as goal

pub returns : goal.returns
returns c = few_constructors c.args.typed.now.types c.limits.ensures
