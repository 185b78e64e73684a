use Rattle.std.proofs.Common.{subst, rules}
use Rattle.dual_simplex.specs.Systems.{plain_row, IsProperRow}
use Rattle.dual_simplex.proofs.Loops.{all_turn, all_done}
use Rattle.dual_simplex.proofs.First.{rows_from, row_item}
use Rattle.dual_simplex.proofs.system.are_proper_rows.Goals as goal

pub loop-row-preserved : goal.loop-row-preserved
loop-row-preserved c =
    let own : IsProperRow c.args.unknowns (plain_row c.row-item.result) = search rules in
    all_turn (λ row. IsProperRow c.args.unknowns (plain_row row)) c.args.rows.now c.loop-row.row-index c.row-item.result c.loop-row-test.true
    (subst (λ r. IsProperRow c.args.unknowns (plain_row r)) c.row-item.is own) c.loop-row.invariant

pub returns : goal.returns
returns c = (
  (λ h. rows_from c.args.unknowns c.args.rows.now (all_done (λ row. IsProperRow c.args.unknowns (plain_row row)) c.args.rows.now c.loop-row.row-index c.loop-row-test.false c.loop-row.invariant)),
  (λ h. search rules),
)

pub returns-then-not-is_proper_row : goal.returns-then-not-is_proper_row
returns-then-not-is_proper_row c =
    let own = row_item c.args.unknowns c.args.rows.now c.loop-row.row-index c.row-item.result c.loop-row-test.true c.row-item.is in
    ((λ h. absurd (search rules)), (λ h. let k = own h in search rules))
