use Rattle.camelot_compiler.proofs.Standing.{certified, no_bound}
use Rattle.camelot_compiler.proofs.compiling.compile.Goals as goal

pub returns-clause-certified : goal.returns-clause-certified
returns-clause-certified c = certified c.args.text.now c.compile_text.result c.compile_text.ensures.stands

pub returns-clause-no_bound : goal.returns-clause-no_bound
returns-clause-no_bound c = no_bound c.args.text.now c.compile_text.result c.compile_text.ensures.stands
