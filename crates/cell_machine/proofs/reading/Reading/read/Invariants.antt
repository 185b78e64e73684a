use Rattle.std.proofs.Common.{◌-◌}
use Rattle.std.specs.Prelude.{vec_len, vec_capacity}
use Rattle.cell_machine.specs.Due.{IfThere, IsReadingOf}
use Rattle.cell_machine.proofs.reading.Reading.read.Given as goal

abbrev pub invariant-words : goal.invariant-words
invariant-words l = record {
  reading : IsReadingOf l.types l.span.cells l.fn.kind l.fn.word l.next l.self;
  known : IfThere l.types l.known.con l.known.fields.now;
}

abbrev pub decreases-words : goal.decreases-words
decreases-words l = vec_capacity l.self.items - vec_len l.self.items
