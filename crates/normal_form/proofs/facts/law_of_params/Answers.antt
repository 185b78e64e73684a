use Rattle.camelot_typing.specs.TypedPrograms.{typing_of}
use Rattle.normal_form.proofs.FunctionLaws.{params_few}
use Rattle.normal_form.proofs.facts.law_of_params.Goals as goal

pub returns : goal.returns
returns c = params_few (typing_of c.args.typed.now) c.args.typed.now.typed
