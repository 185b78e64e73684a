use Rattle.std.proofs.Common.{◌≡◌, subst, Some}
use Rattle.grail_code.specs.Code.{code_of}
use Rattle.grail_code.specs.Meaning.{run_of}
use Rattle.cell_machine.specs.Endings.{halt_of}
use Rattle.cell_machine.specs.State.{most_calls}
use Rattle.cell_machine.specs.PlanLaws.{can_run_code}
use Rattle.cell_machine.proofs.LaidLaws.{counted_cells}
use Rattle.cell_machine.proofs.licensed.halt.Goals as goal

pub halt_code-requires-clause-run : goal.halt_code-requires-clause-run
halt_code-requires-clause-run c =
    can_run_code (code_of c.code-code.result.now) c.args.licence.now c.args.entry c.args.args.now c.args.fuel _ c.code-code.ensures c.kept.ensures c.requires.plan

pub returns-clause-halt : goal.returns-clause-halt
returns-clause-halt c = subst (λ p. halt_of (run_of p most_calls c.args.entry c.args.fuel c.args.args.now) ≡ Some c.halt_code.result.halt) c.code-code.ensures c.halt_code.ensures.halt

pub halt_code-requires-clause-cells : goal.halt_code-requires-clause-cells
halt_code-requires-clause-cells c = counted_cells (code_of c.code-code.result.now) c.args.licence.now.code c.args.args.now c.args.cells c.code-code.ensures c.requires.cells
