use Rattle.cell_machine.specs.MachineLaws.{ends_as_meant, each_on_way}
use Rattle.cell_machine.proofs.laws.law_of_reuse.Goals as goal

pub returns-clause-ends : goal.returns-clause-ends
returns-clause-ends c = ends_as_meant

pub returns-clause-each : goal.returns-clause-each
returns-clause-each c = each_on_way
