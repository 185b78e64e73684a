use Rattle.std.proofs.Common.{◌≡◌, ◌++◌, reverse, length}
use Rattle.value_text.specs.Printing.{closing_text, closing_due}
use Rattle.value_text.proofs.writing.close.Given as goal

abbrev pub invariant-closed : goal.invariant-closed
invariant-closed l = record {
  text : l.out.items ++ closing_text (reverse l.due.items) ≡ l.initial.out.items ++ closing_text (reverse l.initial.due.items);
  due : closing_due (reverse l.due.items) ≡ closing_due (reverse l.initial.due.items);
}

abbrev pub decreases-closed : goal.decreases-closed
decreases-closed l = length l.due.items
