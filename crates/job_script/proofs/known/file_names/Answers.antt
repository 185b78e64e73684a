use Rattle.std.proofs.Common.{ap, ◌∙◌}
use Rattle.job_script.specs.Known.{number_of}
use Rattle.job_script.proofs.Keys.{key_filed}
use Rattle.job_script.proofs.known.file_names.Goals as goal

pub each-preserved : goal.each-preserved
each-preserved c =
    key_filed c.each.keys c.insert.new.self c.args.words.now _ c.number_of.result c.each.filed c.each.invariant c.each-test.true (c.number_of.ensures ∙ ap number_of c.back.ensures) c.in-Ok.ensures.updates
