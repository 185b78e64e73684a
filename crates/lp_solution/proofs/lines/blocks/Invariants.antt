use Rattle.std.proofs.Common.{◌≡◌, ◌++◌, ◌-◌, map}
use Rattle.std.specs.List.{range_with_len}
use Rattle.grail_code.specs.Code.{func_of}
use Rattle.certificate.specs.Words.{block_of}
use Rattle.lp_solution.specs.Taking.{blocks_from, behind_blocks, own_blocks}
use Rattle.lp_solution.proofs.lines.blocks.Given as goal

abbrev pub invariant-blocks-2 : goal.invariant-blocks-2
invariant-blocks-2 l = record {
  value : map block_of l.blocks.items
      ++ blocks_from l.typed.types.now (func_of l.func) (range_with_len l.number (l.count - l.number)) l.values ≡ blocks_from l.typed.types.now (func_of l.func) (own_blocks (func_of l.func)) l.fn.values;
  left : behind_blocks l.typed.types.now (func_of l.func) (range_with_len l.number (l.count - l.number)) l.values ≡ behind_blocks l.typed.types.now (func_of l.func) (own_blocks (func_of l.func)) l.fn.values;
}
