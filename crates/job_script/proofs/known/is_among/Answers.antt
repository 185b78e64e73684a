use Rattle.std.proofs.Common.{◌∙◌}
use Rattle.job_script.proofs.Keys.{among}
use Rattle.job_script.proofs.known.is_among.Goals as goal

pub returns : goal.returns
returns c = c.contains.ensures.value ∙ among c.args.words.now c.args.name.now
