use Rattle.camelot_typing.specs.TypedPrograms.{typing_of}
use Rattle.grail_code.specs.Code.{code_of}
use Rattle.grail_code.specs.declared.code.Code.{Code as DeclaredCode}
use Rattle.code_gen.specs.Generated.{compiled}
use Rattle.camelot_compiler.specs.Compiled.{compiled_of}
use Rattle.camelot_compiler.proofs.Coding.{generated_found, generated_exact, generated_stands, ungenerated_found, ungenerated_exact, unfounded_normal}
use Rattle.camelot_compiler.proofs.stages.compile_linear.Goals as goal

pub certify-requires-clause-well : goal.certify-requires-clause-well
certify-requires-clause-well c = c.in-Ok.ensures.well_formed

pub returns-in-Ok-clause-found : goal.returns-in-Ok-clause-found
returns-in-Ok-clause-found c = generated_found (typing_of c.args.linear.now.typed) (code_of c.in-Ok.code) (compiled_of c.certify.result) c.in-Ok.ensures.code c.in-Ok.ensures.finds c.certify.ensures.found

pub returns-in-Ok-clause-exact : goal.returns-in-Ok-clause-exact
returns-in-Ok-clause-exact c = generated_exact (typing_of c.args.linear.now.typed) (code_of c.in-Ok.code) (compiled_of c.certify.result) c.in-Ok.ensures.code c.in-Ok.ensures.finds c.certify.ensures.exact

pub returns-in-Ok-clause-stands : goal.returns-in-Ok-clause-stands
returns-in-Ok-clause-stands c = generated_stands (typing_of c.args.linear.now.typed) (code_of c.in-Ok.code) (compiled_of c.certify.result) c.in-Ok.ensures.code c.certify.ensures.stands

pub returns-in-Err-clause-found : goal.returns-in-Err-clause-found
returns-in-Err-clause-found c = ungenerated_found DeclaredCode (typing_of c.args.linear.now.typed) c.in-Err.stop c.normal_fault.result c.normal_fault.ensures c.in-Err.ensures.finds

pub returns-in-Err-clause-exact : goal.returns-in-Err-clause-exact
returns-in-Err-clause-exact c = ungenerated_exact DeclaredCode (typing_of c.args.linear.now.typed) c.in-Err.stop c.normal_fault.result c.normal_fault.ensures c.in-Err.ensures.takes c.in-Err.ensures.refuses

pub returns-in-Err-clause-stands : goal.returns-in-Err-clause-stands
returns-in-Err-clause-stands c = unfounded_normal (compiled (typing_of c.args.linear.now.typed)) c.in-Err.stop c.normal_fault.result c.normal_fault.ensures
