-- Compiling has one answer, by the laws of the stages.
use Rattle.camelot_compiler.proofs.OneAnswer.{Laws, one_compiled, one_licence, not_refused}
use Rattle.camelot_compiler.proofs.laws.law_of_compiling.Goals as goal

laws : goal.After-one_run → Laws
laws c = record {
  tokens_or_fault = c.one_reading.ensures.not_both;
  tokens = c.one_reading.ensures.tokens;
  scan_fault = c.one_reading.ensures.fault;
  program_or_fault = c.one_answer.ensures.not_both;
  program = c.one_answer.ensures.program;
  parse_fault = c.one_answer.ensures.fault;
  whole = c.tokens_give_form.ensures.whole;
  typed_or_fault = c.one_verdict.ensures.apart;
  type_fault = c.one_verdict.ensures.one;
  typing = c.law_of_one_typing.ensures.typing;
  rule = c.rule_by_faults.ensures;
  well_formed = c.law_of_compiler.ensures.well_formed;
  within = c.law_of_limits.ensures.within;
  size = c.law_of_size.ensures;
  one_run = c.one_run.ensures;
}

pub returns-clause-one : goal.returns-clause-one
returns-clause-one c = one_compiled (laws c)

pub returns-clause-licence : goal.returns-clause-licence
returns-clause-licence c = one_licence (laws c)

pub returns-clause-apart : goal.returns-clause-apart
returns-clause-apart c = not_refused (laws c)
