use Rattle.std.proofs.Common.{◌≡◌, ◌++◌, map}
use Rattle.std.specs.Prelude.{◌-◌, length, flat_map}
use Rattle.std.specs.List.{range_with_len}
use Rattle.grail_code.specs.Code.{func_of}
use Rattle.lp_system.specs.Unknowns.{block_unknowns}
use Rattle.lp_rows.specs.Plain.{plain}
use Rattle.lp_rows.proofs.listing.push_blocks.Given as goal

abbrev pub invariant-numbers : goal.invariant-numbers
invariant-numbers l = map plain l.list.items ++ flat_map (block_unknowns l.reach.types.now (func_of l.body) l.func) (range_with_len l.block (length l.body.blocks.items - l.block)) ≡ map plain l.initial.list.items ++ flat_map (block_unknowns l.reach.types.now (func_of l.body) l.func) (range_with_len 1 (length l.body.blocks.items - 1))
