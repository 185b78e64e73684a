use Rattle.journal_replay.specs.FrontLaws.{comes_to, goes_on}
use Rattle.journal_replay.proofs.laws.law_of_fronts.Goals as goal

pub returns-clause-goes_on : goal.returns-clause-goes_on
returns-clause-goes_on c = goes_on

pub returns-clause-comes_to : goal.returns-clause-comes_to
returns-clause-comes_to c = comes_to
