use Rattle.std.proofs.Common.{map, ap, ◌∙◌}
use Rattle.job_script.specs.Words.{entry_of}
use Rattle.script_plans.specs.Answers.{licensing_of}
use Rattle.tenant_script.specs.Words.{entry_view}
use Rattle.tenant_service.proofs.Licensing.{programs_few, programs_short, programs_known}
use Rattle.tenant_service.proofs.programs.license_programs.Goals as goal

pub license_all-requires-clause-short : goal.license_all-requires-clause-short
license_all-requires-clause-short g c κs within = programs_short (map entry_view c.args.items.now) (map entry_of c.deref.result.now) (ap (map entry_of) c.deref.ensures.value ∙ c.in_ok-programs.ensures) c.requires.short

pub license_all-requires-clause-few : goal.license_all-requires-clause-few
license_all-requires-clause-few g c κs within = programs_few (map entry_view c.args.items.now) (map entry_of c.deref.result.now) (ap (map entry_of) c.deref.ensures.value ∙ c.in_ok-programs.ensures) c.requires.few

pub returns : goal.returns
returns g c = programs_known (map entry_view c.args.items.now) (map entry_of c.deref.result.now) (licensing_of c.in_ok-licensed.licensed) (ap (map entry_of) c.deref.ensures.value ∙ c.in_ok-programs.ensures) c.in_ok-licensed.ensures
