use Rattle.camelot_types.proofs.Checking.{one_or_other, not_both, only_one}
use Rattle.camelot_types.proofs.laws.one_verdict.Goals as goal

pub returns-clause-some : goal.returns-clause-some
returns-clause-some c p ints = one_or_other p ints

pub returns-clause-apart : goal.returns-clause-apart
returns-clause-apart c p fault sigs h t l = not_both p fault sigs h t l

pub returns-clause-one : goal.returns-clause-one
returns-clause-one c p first second h k = only_one p first second h k
