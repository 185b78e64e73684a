use Rattle.std.proofs.Common.{rules, ap, ◌∙◌, sym, arith, subst, ◌+◌, ◌++◌, length, drop}
use Rattle.cell_machine.specs.Nodes.{lay_all, cell_count}
use Rattle.cell_machine.specs.Laid.{IsLaid, ItemsFit, all_nodes, word_count}
use Rattle.cell_machine.proofs.LaidLaws.{next_value, next_laid_value, next_value_cells, count_left}
use Rattle.cell_machine.proofs.loading.lay_args.Goals as goal

pub lay_value-at-requires-clause-fits : goal.lay_value-at-requires-clause-fits
lay_value-at-requires-clause-fits c =
    let n = next_value c.args.types.now c.args.args.now c.args-2.left c.index-args-left.result c.requires.fits (omega (arith, c.args-2-test.true)) c.args-2.invariant.left c.index-args-left.is in
    subst (ItemsFit c.args.types.now) (sym c.items.ensures) n.fits

pub lay_value-at-requires-clause-cells : goal.lay_value-at-requires-clause-cells
lay_value-at-requires-clause-cells c =
    let n = next_value c.args.types.now c.args.args.now c.args-2.left c.index-args-left.result c.requires.fits (omega (arith, c.args-2-test.true)) c.args-2.invariant.left c.index-args-left.is in
    omega (arith, count_left c.args.types.now c.args.args.now c.args-2.left c.args-2.at c.args.count c.index-args-left.result n c.requires.cells c.args-2.invariant.at, ap (cell_count c.args.types.now) c.items.ensures)

pub lay_value-at-requires-clause-room : goal.lay_value-at-requires-clause-room
lay_value-at-requires-clause-room c =
    let n = next_value c.args.types.now c.args.args.now c.args-2.left c.index-args-left.result c.requires.fits (omega (arith, c.args-2-test.true)) c.args-2.invariant.left c.index-args-left.is in
    omega (arith, n.room, n.many, c.args-2.invariant.words, c.requires.room, c.args-2.invariant.room, ap length c.items.ensures)

pub args-2-preserved : goal.args-2-preserved
args-2-preserved c =
    let n = next_value c.args.types.now c.args.args.now c.args-2.left c.index-args-left.result c.requires.fits (omega (arith, c.args-2-test.true)) c.args-2.invariant.left c.index-args-left.is in
    record {
      left = omega (arith, c.args-2.invariant.left);
      at = next_value_cells c.args.types.now c.args.args.now c.args-2.left c.lay_value-at.result c.args-2.at c.args.count c.index-args-left.result n c.args-2.invariant.at
          (ap (λ l. c.lay_value-at.result + cell_count c.args.types.now l) (sym c.items.ensures) ∙ c.lay_value-at.ensures.at);
      words = omega (arith, c.lay_value-at.ensures.len, ap word_count c.items.ensures, n.one, c.args-2.invariant.words, ap length n.here);
      laid = next_laid_value c.args.types.now c.args.args.now c.args-2.left c.lay_value-at.result c.index-args-left.result _ _ _ n
          (subst (λ l. IsLaid c.lay_value-at.result (lay_all c.args.types.now c.lay_value-at.result (l ++ all_nodes (drop c.args-2.left c.args.args.now))) (drop c.args.count c.args.span.now.cells) c.lay_value-at.new.span.cells c.lay_value-at.new.words.items)
          c.items.ensures (c.lay_value-at.ensures.laid (all_nodes (drop c.args-2.left c.args.args.now)) (drop c.args.count c.args.span.now.cells) c.args-2.invariant.laid));
      room = search rules;
      range = search rules;
    }
