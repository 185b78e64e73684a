-- A text has one licence or one cause, by the laws of bundles and of the verifier.
use Rattle.bundle_licence.proofs.OneLicence.{Laws, one_licence, one_cause, not_both}
use Rattle.bundle_licence.proofs.laws.law_of_licences.Goals as goal

laws : goal.After-law_of_verdicts → Laws
laws c = record {
  bundle = c.law_of_bundles.ensures.one;
  line = c.law_of_faults.ensures.one;
  bundle_or_line = c.law_of_faults.ensures.apart;
  verdict = c.law_of_verdicts.ensures;
}

pub returns-clause-one : goal.returns-clause-one
returns-clause-one c = one_licence (laws c)

pub returns-clause-cause : goal.returns-clause-cause
returns-clause-cause c = one_cause (laws c)

pub returns-clause-apart : goal.returns-clause-apart
returns-clause-apart c = not_both (laws c)
