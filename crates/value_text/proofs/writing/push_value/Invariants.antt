use Rattle.std.proofs.Common.{◌≡◌, ◌++◌, [], reverse, drop}
use Rattle.camelot_values.specs.Kinds.{constructor_name}
use Rattle.value_text.specs.Printing.{IsKnown, nodes_text}
use Rattle.value_text.proofs.writing.push_value.Given as goal

abbrev pub invariant-items : goal.invariant-items
invariant-items l = record {
  text : l.out.items ++ nodes_text (constructor_name l.types) (reverse l.room.items) (drop l.item-index l.item-items) ≡ l.initial.out.items ++ nodes_text (constructor_name l.types) [] l.item-items;
  opening : IsKnown (constructor_name l.types) l.opening.con l.opening.name.now l.opening.word;
  bare : IsKnown (constructor_name l.types) l.bare.con l.bare.name.now l.bare.word;
}
