use Rattle.std.proofs.Common.{subst}
use Rattle.cell_machine.specs.Due.{IsReadingOf}
use Rattle.cell_machine.proofs.DueLaws.{begins, node_room, due_room, turn, none_next, one_value_read, value_read}
use Rattle.cell_machine.proofs.reading.Reading.read.Goals as goal

pub words-init : goal.words-init
words-init c = record {
  reading = begins c.args.types.now c.args.span.now.cells c.args.self (record { kind = c.args.kind; word = c.args.word }) c.requires.value c.requires.new.items c.requires.new.due c.requires.nodes c.requires.words;
  known = c.first_known-known.ensures;
}

pub read_node-next-requires-clause-known : goal.read_node-next-requires-clause-known
read_node-next-requires-clause-known c = c.words.invariant.known

pub read_node-next-requires-clause-node : goal.read_node-next-requires-clause-node
read_node-next-requires-clause-node c = node_room c.args.types.now c.args.span.now.cells c.args.kind c.args.word c.words.self c.in-Some.due c.limits.ensures.each
    (subst (λ n. IsReadingOf c.args.types.now c.args.span.now.cells c.args.kind c.args.word n c.words.self) c.in-Some.is c.words.invariant.reading)

pub read_node-next-requires-clause-due : goal.read_node-next-requires-clause-due
read_node-next-requires-clause-due c = due_room c.args.types.now c.args.span.now.cells c.args.kind c.args.word c.words.self c.in-Some.due c.limits.ensures.each
    (subst (λ n. IsReadingOf c.args.types.now c.args.span.now.cells c.args.kind c.args.word n c.words.self) c.in-Some.is c.words.invariant.reading)

pub words-preserved : goal.words-preserved
words-preserved c = record {
  reading = turn c.args.types.now c.args.span.now.cells c.args.kind c.args.word c.words.self c.read_node-next.new.self c.in-Some.due c.read_node-next.result c.limits.ensures.each
      (subst (λ n. IsReadingOf c.args.types.now c.args.span.now.cells c.args.kind c.args.word n c.words.self) c.in-Some.is c.words.invariant.reading)
      c.read_node-next.ensures.read c.read_node-next.ensures.items_room c.read_node-next.ensures.due_room;
  known = c.read_node-next.ensures.known;
}

pub of-requires : goal.of-requires
of-requires c = one_value_read c.args.types.now c.args.span.now.cells c.args.kind c.args.word c.words.self
    (none_next c.args.types.now c.args.span.now.cells c.args.kind c.args.word c.words.self c.words.next c.words.invariant.reading c.in_default.not-Some)

pub returns : goal.returns
returns c = λ v fit stands. value_read c.args.types.now c.args.span.now.cells c.args.kind c.args.word c.words.self c.of.result v c.limits.ensures
    (none_next c.args.types.now c.args.span.now.cells c.args.kind c.args.word c.words.self c.words.next c.words.invariant.reading c.in_default.not-Some) c.of.ensures fit stands
