use Rattle.std.proofs.Common.{◌≡◌, ◌++◌, drop, map}
use Rattle.dual_simplex.specs.Systems.{plain_row}
use Rattle.grail_code.specs.Code.{func_of, code_of}
use Rattle.lp_system.specs.Unknowns.{BlockVar}
use Rattle.lp_rows.specs.Plain.{plain, units_of, names}
use Rattle.lp_rows.specs.Walk.{bound, local_rows}
use Rattle.lp_rows.proofs.values.push_vars.Given as goal

abbrev pub invariant-vars : goal.invariant-vars
invariant-vars l = map plain_row l.rows.items ++ local_rows (code_of l.books.code.now).types (map plain l.books.unknowns.now) (func_of l.here.func.now) (bound (names l.here.site.func l.here.site.block l.slots) l.fields (units_of l.matched)) (map (λ x. (x, λ con. BlockVar l.here.site.func l.to x con)) (drop l.var-index l.vars)) ≡ map plain_row l.initial.rows.items ++ local_rows (code_of l.books.code.now).types (map plain l.books.unknowns.now) (func_of l.here.func.now) (bound (names l.here.site.func l.here.site.block l.slots) l.fields (units_of l.matched)) (map (λ x. (x, λ con. BlockVar l.here.site.func l.to x con)) l.vars)
