use Rattle.std.proofs.Common.{◌≡◌, ◌++◌, drop, map}
use Rattle.dual_simplex.specs.Systems.{plain_row}
use Rattle.lp_rows.specs.Plain.{plain, units_of}
use Rattle.lp_rows.specs.Walk.{cons_rows}
use Rattle.lp_rows.proofs.values.push_cons.Given as goal

abbrev pub invariant-cons : goal.invariant-cons
invariant-cons l = map plain_row l.rows.items ++ cons_rows (map plain l.books.unknowns.now) (units_of l.have) (units_of l.need) (drop l.con-index l.cons) ≡ map plain_row l.initial.rows.items ++ cons_rows (map plain l.books.unknowns.now) (units_of l.have) (units_of l.need) l.cons
