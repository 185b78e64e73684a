use Rattle.camelot_host.proofs.Verdicts.{done_certified, refused_none, told_none}
use Rattle.camelot_host.proofs.laws.law_of_compile.Goals as goal

pub returns-clause-done : goal.returns-clause-done
returns-clause-done c = done_certified c.law_of_bundles.ensures.accepted

pub returns-clause-none : goal.returns-clause-none
returns-clause-none c = refused_none c.law_of_bundles.ensures.none

pub returns-clause-told : goal.returns-clause-told
returns-clause-told c = told_none c.law_of_bundles.ensures.none
