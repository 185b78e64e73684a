use Rattle.std.proofs.Common.{◌≡◌, ◌≤◌, ◌+◌, ◌++◌, List, length, drop}
use Rattle.std.specs.Prelude.{IfSome, vec_len, vec_capacity}
use Rattle.camelot_values.specs.declared.value.Item.{Item}
use Rattle.cell_span.specs.declared.cell.Cell.{Cell}
use Rattle.cell_machine.specs.Nodes.{lay_all, cell_count}
use Rattle.cell_machine.specs.Laid.{IsLaid, IsBoxed, SameRange, word_count}
use Rattle.cell_machine.proofs.loading.lay_value.Given as goal

abbrev pub decreases-items : goal.decreases-items
decreases-items l = l.left

abbrev pub invariant-items : goal.invariant-items
invariant-items l = record {
  left : l.left ≤ length l.items;
  known : IfSome l.known (IsBoxed l.types);
  at : l.at + cell_count l.types (drop l.left l.items) ≡ l.fn.before;
  words : vec_len l.words ≡ vec_len l.initial.words + word_count (drop l.left l.items);
  laid : (rest : List Item) (others : List Cell)
      → IsLaid l.fn.before (lay_all l.types l.fn.before rest) others l.initial.span.cells l.initial.words.items
      → IsLaid l.at (lay_all l.types l.at (drop l.left l.items ++ rest)) others l.span.cells l.words.items;
  room : vec_capacity l.words ≡ vec_capacity l.initial.words;
  range : SameRange l.initial.span l.span;
}
