use Rattle.std.proofs.Common.{◌≡◌, ◌++◌, drop, map}
use Rattle.dual_simplex.specs.Systems.{plain_row}
use Rattle.grail_code.specs.Code.{arm_of, func_of, code_of}
use Rattle.lp_rows.specs.Plain.{plain, units_of, dense_of, names}
use Rattle.lp_rows.specs.Walk.{arms_rows}
use Rattle.lp_rows.proofs.ends.push_arms.Given as goal

abbrev pub invariant-arms : goal.invariant-arms
invariant-arms l = map plain_row l.rows.items ++ arms_rows (code_of l.books.code.now).types (map plain l.books.unknowns.now) (func_of l.here.func.now) l.here.site.func (dense_of l.left) (names l.here.site.func l.here.site.block l.slots) (units_of l.matched) l.con (map arm_of (drop l.arm-index l.arms)) ≡ map plain_row l.initial.rows.items ++ arms_rows (code_of l.books.code.now).types (map plain l.books.unknowns.now) (func_of l.here.func.now) l.here.site.func (dense_of l.left) (names l.here.site.func l.here.site.block l.slots) (units_of l.matched) l.first (map arm_of l.arms)
