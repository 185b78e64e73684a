use Rattle.hole_list.specs.HolesLaws.{taken_pass, given_pass}
use Rattle.hole_list.proofs.laws.law_of_cells.Goals as goal

pub returns-clause-taken : goal.returns-clause-taken
returns-clause-taken c = taken_pass

pub returns-clause-given : goal.returns-clause-given
returns-clause-given c = given_pass
