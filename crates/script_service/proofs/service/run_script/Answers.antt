use Rattle.job_script.specs.Words.{script_of}
use Rattle.job_script.specs.StateLaws.{right_script}
use Rattle.script_service.proofs.Handing.{handed_for, refused, short_text}
use Rattle.script_service.proofs.service.run_script.Goals as goal

pub serve_read-requires-clause-script : goal.serve_read-requires-clause-script
serve_read-requires-clause-script g c κs within = right_script (script_of c.in-Ok.script) c.in-Ok.ensures.found.right

pub serve_read-requires-clause-short : goal.serve_read-requires-clause-short
serve_read-requires-clause-short g c κs within = short_text c.args.input.now (script_of c.in-Ok.script) c.law_of_lengths.ensures.short c.law_of_short.ensures c.in-Ok.ensures.found c.requires

pub returns-in-Ok-serve_read : goal.returns-in-Ok-serve_read
returns-in-Ok-serve_read g c = handed_for c.args.input.now (script_of c.in-Ok.script) c.in-Ok-serve_read.served c.law_of_scripts.ensures.one c.in-Ok.ensures.found c.in-Ok-serve_read.ensures

pub returns-in-Err : goal.returns-in-Err
returns-in-Err g c = refused c.args.input.now c.in-Err.stop c.serve_fault.result c.serve_fault.ensures c.in-Err.ensures.found
