use Rattle.job_script.proofs.Heading.{no_language}
use Rattle.job_script.proofs.heads.read_program.Goals as goal

pub returns-in_default-language_of : goal.returns-in_default-language_of
returns-in_default-language_of c = no_language c.args.rest.now c.in-Some.name.now c.in-Some.after.now c.in-Some.ensures c.in_default-language_of.ensures
