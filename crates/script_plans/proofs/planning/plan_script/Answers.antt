use Rattle.job_script.specs.Words.{script_of}
use Rattle.script_plans.proofs.Walking.{few_entries}
use Rattle.script_plans.proofs.planning.plan_script.Goals as goal

pub license_all-requires-clause-few : goal.license_all-requires-clause-few
license_all-requires-clause-few g c κs within = few_entries c.args.script.now.items.items c.deref.result.now c.deref.ensures.value (c.law_of_lengths.ensures.few (script_of c.args.script.now) c.requires.script)

pub take_jobs-requires-clause-few : goal.take_jobs-requires-clause-few
take_jobs-requires-clause-few g c κs within = few_entries c.args.script.now.items.items c.deref-3.result.now c.deref-3.ensures.value (c.law_of_lengths.ensures.few (script_of c.args.script.now) c.requires.script)
