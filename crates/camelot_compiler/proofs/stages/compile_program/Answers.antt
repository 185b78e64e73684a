use Rattle.camelot_tree.specs.Programs.{program_of}
use Rattle.camelot_typing.specs.TypedPrograms.{typing_of}
use Rattle.code_gen.specs.Generated.{compiled}
use Rattle.camelot_compiler.specs.Compiled.{compiled_of}
use Rattle.camelot_compiler.proofs.Reading.{typed_found, typed_exact, typed_stands, untyped_found, untyped_exact, unfounded_type}
use Rattle.camelot_compiler.proofs.stages.compile_program.Goals as goal

pub returns-in-Ok-clause-found : goal.returns-in-Ok-clause-found
returns-in-Ok-clause-found c =
    typed_found (program_of c.args.program) (typing_of c.in-Ok.typed) c.in-Ok.ensures.program c.in-Ok.ensures.typed c.in-Ok.ensures.within c.in-Ok.ensures.settled (compiled_of c.compile_typed.result) c.compile_typed.ensures.found

pub returns-in-Ok-clause-exact : goal.returns-in-Ok-clause-exact
returns-in-Ok-clause-exact c =
    typed_exact (program_of c.args.program) (typing_of c.in-Ok.typed) c.in-Ok.ensures.program c.in-Ok.ensures.typed c.in-Ok.ensures.within c.in-Ok.ensures.settled c.law_of_one_typing.ensures.typing (compiled_of c.compile_typed.result)
    c.in-Ok.ensures.refuses c.compile_typed.ensures.exact

pub returns-in-Ok-clause-stands : goal.returns-in-Ok-clause-stands
returns-in-Ok-clause-stands c =
    typed_stands (program_of c.args.program) (typing_of c.in-Ok.typed) c.in-Ok.ensures.program c.in-Ok.ensures.typed c.in-Ok.ensures.within c.in-Ok.ensures.settled c.law_of_one_typing.ensures.typing (compiled_of c.compile_typed.result)
    c.compile_typed.ensures.stands

pub returns-in-Err-clause-found : goal.returns-in-Err-clause-found
returns-in-Err-clause-found c = untyped_found (program_of c.args.program) c.in-Err.stop c.type_fault.result c.type_fault.ensures c.in-Err.ensures.fault

pub returns-in-Err-clause-exact : goal.returns-in-Err-clause-exact
returns-in-Err-clause-exact c = untyped_exact (program_of c.args.program) c.in-Err.stop c.type_fault.result c.type_fault.ensures c.in-Err.ensures.takes c.in-Err.ensures.refuses

pub returns-in-Err-clause-stands : goal.returns-in-Err-clause-stands
returns-in-Err-clause-stands c = λ t source typed settled. unfounded_type (compiled t) c.in-Err.stop c.type_fault.result c.type_fault.ensures
