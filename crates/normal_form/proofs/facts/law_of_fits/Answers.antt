use Rattle.normal_form.proofs.FactsFit.{program_fits}
use Rattle.normal_form.proofs.facts.law_of_fits.Goals as goal

pub returns : goal.returns
returns c = program_fits c.law_of_kinds.ensures.computed
