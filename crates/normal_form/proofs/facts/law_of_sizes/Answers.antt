use Rattle.normal_form.proofs.FactsCounts.{program_counted}
use Rattle.normal_form.proofs.facts.law_of_sizes.Goals as goal

pub returns : goal.returns
returns c = program_counted c.law_of_kinds.ensures.computed
