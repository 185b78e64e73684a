use Rattle.job_script.specs.Words.{script_of}
use Rattle.job_script.specs.StateLaws.{right_script}
use Rattle.script_service.proofs.Handing.{refused, short_text}
use Rattle.script_service.proofs.InSlices.{is_report}
use Rattle.script_service.proofs.slicing.slice_script.Goals as goal

pub slice_read-requires-clause-short : goal.slice_read-requires-clause-short
slice_read-requires-clause-short g c κs within = short_text c.args.input.now (script_of c.in-Ok.script) c.law_of_lengths.ensures.short c.law_of_short.ensures c.in-Ok.ensures.found c.requires.short

pub returns-in-Ok-slice_read : goal.returns-in-Ok-slice_read
returns-in-Ok-slice_read g c = is_report c.args.steps c.args.input.now c.in-Ok-slice_read.text.items (script_of c.in-Ok.script) c.law_of_scripts.ensures.one c.in-Ok.ensures.found c.in-Ok-slice_read.ensures

pub returns-in-Err : goal.returns-in-Err
returns-in-Err g c = refused c.args.input.now c.in-Err.stop c.serve_fault.result c.serve_fault.ensures c.in-Err.ensures.found
