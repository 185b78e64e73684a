use Rattle.std.proofs.Common.{◌≡◌, length, drop, map}
use Rattle.grail_code.specs.Code.{block_of, func_of, code_of}
use Rattle.grail_check.specs.Faulting.{blocks_fault}
use Rattle.grail_check.proofs.blocks.check_blocks.Given as goal

abbrev pub invariant-walk : goal.invariant-walk
invariant-walk l = record {
  number : l.number ≡ l.block-index;
  marks : length l.marks ≡ length l.locals;
  fault : blocks_fault (code_of l.code) (func_of l.body.func.now) l.locals l.func_number l.number (map block_of (drop l.block-index l.body.func.now.blocks.items)) ≡ blocks_fault (code_of l.code) (func_of l.body.func.now) l.locals l.func_number 0 (map block_of l.body.func.now.blocks.items);
}
