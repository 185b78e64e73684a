use Rattle.normal_form.proofs.FactsUse.{program_fairly}
use Rattle.normal_form.proofs.facts.law_of_use.Goals as goal

pub returns : goal.returns
returns c = program_fairly c.law_of_kinds.ensures.computed
