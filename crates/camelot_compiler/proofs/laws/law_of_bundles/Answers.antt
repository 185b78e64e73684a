-- What stands behind what a source is compiled to, by the laws of the stages, of the solver and of solutions.
use Rattle.camelot_compiler.proofs.Certified.{Laws, certified_for, none_grants}
use Rattle.camelot_compiler.proofs.laws.law_of_bundles.Goals as goal

laws : goal.After-law_of_form → Laws
laws c = record {
  tokens = c.one_reading.ensures.tokens;
  program = c.one_answer.ensures.program;
  whole = c.tokens_give_form.ensures.whole;
  typing = c.law_of_one_typing.ensures.typing;
  well_formed = c.law_of_compiler.ensures.well_formed;
  within = c.law_of_limits.ensures.within;
  size = c.law_of_size.ensures;
  run_least = c.law_of_outcomes.ensures.least;
  run_nothing = c.law_of_outcomes.ensures.nothing;
  least = c.law_of_least.ensures.least;
  none = c.law_of_least.ensures.none;
  formed = c.law_of_form.ensures;
}

pub returns-clause-accepted : goal.returns-clause-accepted
returns-clause-accepted c = certified_for (laws c)

pub returns-clause-none : goal.returns-clause-none
returns-clause-none c = none_grants (laws c)
