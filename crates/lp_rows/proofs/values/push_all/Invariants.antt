use Rattle.std.proofs.Common.{◌≡◌, ◌++◌, drop, map}
use Rattle.dual_simplex.specs.Systems.{plain_row}
use Rattle.grail_code.specs.Code.{func_of, code_of}
use Rattle.lp_rows.specs.Plain.{plain, units_of, names}
use Rattle.lp_rows.specs.Walk.{local_rows}
use Rattle.lp_rows.proofs.values.push_all.Given as goal

abbrev pub invariant-locals : goal.invariant-locals
invariant-locals l = map plain_row l.rows.items ++ local_rows (code_of l.books.code.now).types (map plain l.books.unknowns.now) (func_of l.here.func.now) (names l.here.site.func l.here.site.block l.slots) (map (λ x. (x, units_of l.need)) (drop l.local-index l.locals)) ≡ map plain_row l.initial.rows.items ++ local_rows (code_of l.books.code.now).types (map plain l.books.unknowns.now) (func_of l.here.func.now) (names l.here.site.func l.here.site.block l.slots) (map (λ x. (x, units_of l.need)) l.locals)
