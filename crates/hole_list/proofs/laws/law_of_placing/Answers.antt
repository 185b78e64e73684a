use Rattle.hole_list.specs.HolesLaws.{taken_runs, not_taken, given_runs}
use Rattle.hole_list.proofs.laws.law_of_placing.Goals as goal

pub returns-clause-taken : goal.returns-clause-taken
returns-clause-taken c = λ hs size t e. (taken_runs hs size t e).0

pub returns-clause-none : goal.returns-clause-none
returns-clause-none c = not_taken

pub returns-clause-given : goal.returns-clause-given
returns-clause-given c = given_runs
