use Rattle.std.proofs.Common.{subst}
use Rattle.grail_code.specs.Code.{code_of}
use Rattle.grail_code.specs.Meaning.{run_of}
use Rattle.cell_machine.specs.Endings.{EndsWith}
use Rattle.cell_machine.specs.State.{most_calls}
use Rattle.cell_machine.specs.PlanLaws.{can_run_code}
use Rattle.cell_machine.proofs.LaidLaws.{counted_cells}
use Rattle.cell_machine.proofs.licensed.run_counted.Goals as goal

pub run_code_counted-requires-clause-run : goal.run_code_counted-requires-clause-run
run_code_counted-requires-clause-run c =
    can_run_code (code_of c.code-code.result.now) c.args.licence.now c.args.entry c.args.args.now c.args.fuel _ c.code-code.ensures c.kept.ensures c.requires.plan

pub run_code_counted-requires-clause-cells : goal.run_code_counted-requires-clause-cells
run_code_counted-requires-clause-cells c = counted_cells (code_of c.code-code.result.now) c.args.licence.now.code c.args.args.now c.args.cells c.code-code.ensures c.requires.cells

pub returns-clause-ending : goal.returns-clause-ending
returns-clause-ending c = subst (λ p. EndsWith (run_of p most_calls c.args.entry c.args.fuel c.args.args.now) c.run_code_counted.result.ending) c.code-code.ensures c.run_code_counted.ensures.ending
