use Rattle.job_script.proofs.Heading.{no_args, some_fuel}
use Rattle.job_script.proofs.heads.read_fuel.Goals as goal

pub returns-in_default-args_of : goal.returns-in_default-args_of
returns-in_default-args_of c = no_args c.args.name.now c.args.program.now c.args.entry.now c.args.rest.now c.in-Some.word.now c.in-Some.after.now c.in-Some.ensures c.in_default-args_of.ensures

pub returns : goal.returns
returns c = some_fuel c.args.name.now c.args.program.now c.args.entry.now c.args.rest.now c.in-Some.word.now c.in-Some.after.now c.in-Some-args_of.args.now c.in-Ok.fuel c.in-Some.ensures c.in-Some-args_of.ensures c.in-Ok.ensures
