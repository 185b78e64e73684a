use Rattle.std.proofs.Common.{◌≡◌, ◌+◌, drop}
use Rattle.cell_machine.specs.Nodes.{cell_count}
use Rattle.cell_machine.specs.Laid.{all_nodes}
use Rattle.cell_machine.proofs.loading.count_args.Given as goal

abbrev pub invariant-args-2 : goal.invariant-args-2
invariant-args-2 l = l.total + cell_count l.types (all_nodes (drop l.arg-index l.args)) ≡ cell_count l.types (all_nodes l.args)
