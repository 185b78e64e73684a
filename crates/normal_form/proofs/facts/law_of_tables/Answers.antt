use Rattle.normal_form.proofs.FactsTables.{tables_fit}
use Rattle.normal_form.proofs.facts.law_of_tables.Goals as goal

pub returns : goal.returns
returns c = tables_fit
