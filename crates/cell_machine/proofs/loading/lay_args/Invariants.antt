use Rattle.std.proofs.Common.{◌≡◌, ◌≤◌, ◌+◌, length, drop}
use Rattle.std.specs.Prelude.{vec_len, vec_capacity}
use Rattle.cell_machine.specs.Nodes.{lay_all, cell_count}
use Rattle.cell_machine.specs.Laid.{IsLaid, SameRange, all_nodes}
use Rattle.cell_machine.proofs.loading.lay_args.Given as goal

abbrev pub decreases-args-2 : goal.decreases-args-2
decreases-args-2 l = l.left

abbrev pub invariant-args-2 : goal.invariant-args-2
invariant-args-2 l = record {
  left : l.left ≤ length l.args;
  at : l.at + cell_count l.types (all_nodes (drop l.left l.args)) ≡ l.fn.count;
  words : vec_len l.words ≡ length (drop l.left l.args);
  laid : IsLaid l.at (lay_all l.types l.at (all_nodes (drop l.left l.args))) (drop l.fn.count l.initial.span.cells) l.span.cells l.words.items;
  room : vec_capacity l.words ≡ vec_capacity l.initial.words;
  range : SameRange l.initial.span l.span;
}
