use Rattle.std.proofs.Common.{◌≡◌, ◌++◌, map}
use Rattle.std.specs.Prelude.{◌-◌, length}
use Rattle.std.specs.List.{range_with_len}
use Rattle.grail_code.specs.Code.{func_of}
use Rattle.lp_system.specs.Unknowns.{params_unknowns}
use Rattle.lp_rows.specs.Plain.{plain}
use Rattle.lp_rows.proofs.listing.push_params.Given as goal

abbrev pub invariant-params : goal.invariant-params
invariant-params l = map plain l.list.items ++ params_unknowns l.reach.types.now (func_of l.body) l.func (range_with_len l.var (length l.body.params.items - l.var)) ≡ map plain l.initial.list.items ++ params_unknowns l.reach.types.now (func_of l.body) l.func (range_with_len 0 (length l.body.params.items))
