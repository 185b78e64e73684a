use Rattle.std.proofs.Common.{arith, ap, ◌∙◌}
use Rattle.camelot_values.specs.Items.{items_of}
use Rattle.cell_machine.specs.Nodes.{cell_count}
use Rattle.cell_machine.proofs.LaidLaws.{count_value, count_total, value_cells}
use Rattle.cell_machine.proofs.loading.count_args.Goals as goal

pub overflow_add-total : goal.overflow_add-total
overflow_add-total c =
    let counted = value_cells c.args.types.now c.arg-item.result ∙ ap (λ v. cell_count c.args.types.now (items_of v)) c.arg-item.is in
    record {
      fits = omega (
        arith,
        c.args-2.invariant,
        count_value c.args.types.now c.args.args.now c.args-2.arg-index c.arg-item.result c.args-2-test.true,
        c.cells-total.ensures,
        counted,
        count_total c.args.types.now c.args.args.now,
        c.requires.few,
      );
    }

pub overflow_cast-result : goal.overflow_cast-result
overflow_cast-result c = record { fits = omega (arith, c.args-2.invariant, count_total c.args.types.now c.args.args.now, c.requires.few) }

pub args-2-preserved : goal.args-2-preserved
args-2-preserved c =
    let counted = value_cells c.args.types.now c.arg-item.result ∙ ap (λ v. cell_count c.args.types.now (items_of v)) c.arg-item.is in
    omega (
      arith,
      c.args-2.invariant,
      count_value c.args.types.now c.args.args.now c.args-2.arg-index c.arg-item.result c.args-2-test.true,
      c.cells-total.ensures,
      counted,
    )
