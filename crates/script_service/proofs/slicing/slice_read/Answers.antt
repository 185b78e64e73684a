use Rattle.job_script.specs.Words.{script_of}
use Rattle.script_service.proofs.InSlices.{fuelled, is_sliced}
use Rattle.script_service.proofs.slicing.slice_read.Goals as goal

pub run_in_slices-requires-clause-fuels : goal.run_in_slices-requires-clause-fuels
run_in_slices-requires-clause-fuels g c =
    let plans = c.in_ok-plans.plans in
    fuelled (script_of c.args.script) plans.jobs plans.plans.items plans.asked.items c.requires.script c.in_ok-plans.ensures.planned

pub returns : goal.returns
returns g c =
    let plans = c.in_ok-plans.plans in
    let ended = c.in_ok-ended.ended in
    is_sliced c.args.steps ended.slices (script_of c.args.script) plans.programs.items plans.jobs plans.plans.items plans.asked.items ended.endings.items c.in_ok-text.text.items c.in_ok-plans.ensures.programs
    c.in_ok-plans.ensures.planned c.in_ok-ended.ensures.ended c.in_ok-ended.ensures.slices (c.in_ok-text.ensures c.in_ok-plans.ensures.planned)
