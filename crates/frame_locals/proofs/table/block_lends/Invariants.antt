use Rattle.std.proofs.Common.{◌≡◌, drop}
use Rattle.std.specs.List.{list_any}
use Rattle.grail_code.specs.Code.{func_of}
use Rattle.grail_code.specs.WellFormed.{is_lent}
use Rattle.frame_locals.proofs.table.block_lends.Given as goal

abbrev pub invariant-params : goal.invariant-params
invariant-params l = list_any (is_lent l.types (func_of l.func)) (drop l.param-index l.params) ≡ list_any (is_lent l.types (func_of l.func)) l.block.params.items
