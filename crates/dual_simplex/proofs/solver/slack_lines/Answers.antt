use Rattle.std.proofs.Common.{ap, sym, ◌∙◌, subst, arith}
use Rattle.std.specs.Prelude.{All}
use Rattle.std.proofs.lemmas.List.Elements.{All-push}
use Rattle.dual_simplex.specs.Lines.{plain_line, IsSoundLine}
use Rattle.dual_simplex.specs.Systems.{plain_row, slack_line}
use Rattle.dual_simplex.proofs.First.{row_item, slack_turn}
use Rattle.dual_simplex.proofs.solver.slack_lines.Goals as goal

pub slack_line-requires : goal.slack_line-requires
slack_line-requires c = row_item c.args.unknowns c.args.rows.now c.loop-row.row-index c.row-item.result c.loop-row-test.true c.row-item.is c.requires.rows

pub loop-row-preserved : goal.loop-row-preserved
loop-row-preserved c =
    let n = c.args.unknowns in
    let line = c.in_ok-slack_line.field-0 in
    let is = ap (λ r. slack_line n c.loop-row.variable (plain_row r)) c.row-item.is in
    record {
      number = omega (arith, c.loop-row.invariant.number);
      value = slack_turn n c.loop-row.variable c.loop-row.row-index c.args.rows.now c.row-item.result c.loop-row.lines.items c.push.new.self.items line _ c.loop-row-test.true
          c.in_ok-push.ensures.items (c.in_ok-slack_line.ensures.value ∙ is) c.loop-row.invariant.value;
      sound = subst (All (λ l. IsSoundLine n (plain_line l))) (sym c.in_ok-push.ensures.items) (All-push (λ l. IsSoundLine n (plain_line l)) c.loop-row.lines.items line c.loop-row.invariant.sound c.in_ok-slack_line.ensures.sound);
    }
