use Rattle.std.proofs.Common.{◌≡◌, ◌++◌, length, map}
use Rattle.std.specs.Prelude.{◌-◌}
use Rattle.dual_simplex.specs.Systems.{plain_row}
use Rattle.grail_code.specs.Code.{func_of, code_of}
use Rattle.grail_code.specs.WellFormed.{is_marked}
use Rattle.licence.specs.Rules.{arguments_asks}
use Rattle.lp_system.specs.Unknowns.{Param}
use Rattle.lp_rows.specs.Plain.{plain, names}
use Rattle.lp_rows.specs.Walk.{local_rows}
use Rattle.lp_rows.proofs.values.push_arguments.Given as goal

abbrev pub invariant-arguments : goal.invariant-arguments
invariant-arguments l = map plain_row l.rows.items ++ local_rows (code_of l.books.code.now).types (map plain l.books.unknowns.now) (func_of l.here.func.now) (names l.here.site.func l.here.site.block l.slots) (arguments_asks (λ x con. Param l.callee x con) (is_marked (func_of l.called)) l.var (l.count - l.var) l.rest) ≡ map plain_row l.initial.rows.items ++ local_rows (code_of l.books.code.now).types (map plain l.books.unknowns.now) (func_of l.here.func.now) (names l.here.site.func l.here.site.block l.slots) (arguments_asks (λ x con. Param l.callee x con) (is_marked (func_of l.called)) 0 l.count l.args)

abbrev pub decreases-arguments : goal.decreases-arguments
decreases-arguments l = length l.rest
