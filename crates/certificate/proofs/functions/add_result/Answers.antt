use Rattle.std.proofs.Common.{sym, ◌∙◌}
use Rattle.certificate.specs.Words.{func_of}
use Rattle.text_lines.specs.Cuts.{further}
use Rattle.certificate.proofs.FuncSteps.{result_read}
use Rattle.certificate.proofs.functions.add_result.Goals as goal

pub returns : goal.returns
returns c = result_read (further c.args.rest.now) (func_of c.args.f) c.in-Ok.vector c.requires (sym c.only_params.ensures ∙ c.if-not-only_params.false) c.in-Ok.ensures
