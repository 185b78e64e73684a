use Rattle.camelot_tree.specs.Programs.{program_of}
use Rattle.code_gen.specs.Generated.{compiled}
use Rattle.camelot_compiler.specs.Compiled.{compiled_of}
use Rattle.camelot_compiler.proofs.Reading.{parsed_found, parsed_exact, parsed_stands, unparsed_found, unparsed_exact, unfounded_parse}
use Rattle.camelot_compiler.proofs.stages.compile_text.Goals as goal

pub returns-in-Ok-clause-found : goal.returns-in-Ok-clause-found
returns-in-Ok-clause-found c = parsed_found c.args.text.now (program_of c.in-Ok.program) c.in-Ok.ensures.program (compiled_of c.compile_program.result) c.compile_program.ensures.found

pub returns-in-Ok-clause-exact : goal.returns-in-Ok-clause-exact
returns-in-Ok-clause-exact c =
    parsed_exact c.args.text.now (program_of c.in-Ok.program) c.in-Ok.ensures.takes c.in-Ok.ensures.refuses c.in-Ok.ensures.scans (compiled_of c.compile_program.result) c.compile_program.ensures.exact

pub returns-in-Ok-clause-stands : goal.returns-in-Ok-clause-stands
returns-in-Ok-clause-stands c = parsed_stands c.args.text.now (program_of c.in-Ok.program) c.in-Ok.ensures.takes (compiled_of c.compile_program.result) c.compile_program.ensures.stands

pub returns-in-Err-clause-found : goal.returns-in-Err-clause-found
returns-in-Err-clause-found c = unparsed_found c.args.text.now c.in-Err.stop c.parse_fault.result c.parse_fault.ensures c.in-Err.ensures.fault

pub returns-in-Err-clause-exact : goal.returns-in-Err-clause-exact
returns-in-Err-clause-exact c = unparsed_exact c.args.text.now c.in-Err.stop c.parse_fault.result c.parse_fault.ensures c.in-Err.ensures.takes c.in-Err.ensures.refuses c.in-Err.ensures.scans

pub returns-in-Err-clause-stands : goal.returns-in-Err-clause-stands
returns-in-Err-clause-stands c = λ t source typed settled. unfounded_parse (compiled t) c.in-Err.stop c.parse_fault.result c.parse_fault.ensures
