use Rattle.std.proofs.Common.{◌≡◌, take, map}
use Rattle.std.specs.List.{list_any}
use Rattle.grail_code.specs.Code.{func_of, block_of}
use Rattle.grail_code.specs.WellFormed.{is_lent}
use Rattle.frame_locals.proofs.table.lends_in.Given as goal

abbrev pub invariant-each : goal.invariant-each
invariant-each l = l.lends.items ≡ map (λ b. list_any (is_lent l.types (func_of l.func)) b.params) (map block_of (take l.block-index l.func.blocks.items))
