use Rattle.cell_owners.specs.MarkLaws.{marked_both, fresh_behind}
use Rattle.cell_owners.proofs.laws.law_of_marks.Goals as goal

pub returns-clause-both : goal.returns-clause-both
returns-clause-both c = marked_both

pub returns-clause-rest : goal.returns-clause-rest
returns-clause-rest c = fresh_behind
