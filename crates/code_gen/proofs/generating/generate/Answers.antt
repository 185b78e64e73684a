use Rattle.normal_form.specs.Programs.{normal_of}
use Rattle.code_gen.proofs.Compiled.{generated_means}
use Rattle.code_gen.proofs.generating.generate.Goals as goal

pub returns-clause-meaning : goal.returns-clause-meaning
returns-clause-meaning c t limit func fuel args s typing rule is known fit =
    generated_means c.code_program.result (normal_of c.args.program) t limit func fuel args _ is c.code_program.ensures (c.law_of_compiler.ensures.meaning t limit func fuel args s typing rule known fit)
