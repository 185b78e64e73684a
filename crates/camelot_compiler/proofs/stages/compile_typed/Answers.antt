use Rattle.camelot_typing.specs.TypedPrograms.{typing_of}
use Rattle.linear_use.specs.declared.check.Linear.{Linear}
use Rattle.code_gen.specs.Generated.{compiled}
use Rattle.camelot_compiler.specs.Compiled.{compiled_of}
use Rattle.camelot_compiler.proofs.Coding.{linear_found, linear_exact, linear_stands, unlinear_found, unlinear_exact, unfounded_use}
use Rattle.camelot_compiler.proofs.stages.compile_typed.Goals as goal

pub returns-in-Ok-clause-found : goal.returns-in-Ok-clause-found
returns-in-Ok-clause-found c = linear_found (typing_of c.args.typed) (typing_of c.in-Ok.linear.typed) (compiled_of c.compile_linear.result) c.in-Ok.ensures.program c.in-Ok.ensures.keeps c.compile_linear.ensures.found

pub returns-in-Ok-clause-exact : goal.returns-in-Ok-clause-exact
returns-in-Ok-clause-exact c = linear_exact (typing_of c.args.typed) (typing_of c.in-Ok.linear.typed) (compiled_of c.compile_linear.result) c.in-Ok.ensures.program c.in-Ok.ensures.refuses c.compile_linear.ensures.exact

pub returns-in-Ok-clause-stands : goal.returns-in-Ok-clause-stands
returns-in-Ok-clause-stands c = linear_stands (typing_of c.args.typed) (typing_of c.in-Ok.linear.typed) (compiled_of c.compile_linear.result) c.in-Ok.ensures.program c.compile_linear.ensures.stands

pub returns-in-Err-clause-found : goal.returns-in-Err-clause-found
returns-in-Err-clause-found c = unlinear_found (typing_of c.args.typed) c.in-Err.stop c.use_fault.result c.use_fault.ensures c.in-Err.ensures.fault

pub returns-in-Err-clause-exact : goal.returns-in-Err-clause-exact
returns-in-Err-clause-exact c = unlinear_exact Linear (typing_of c.args.typed) c.in-Err.stop c.use_fault.result c.use_fault.ensures c.in-Err.ensures.takes c.in-Err.ensures.refuses

pub returns-in-Err-clause-stands : goal.returns-in-Err-clause-stands
returns-in-Err-clause-stands c = unfounded_use (compiled (typing_of c.args.typed)) c.in-Err.stop c.use_fault.result c.use_fault.ensures
