use Rattle.std.proofs.Common.{◌≡◌, drop, map}
use Rattle.grail_code.specs.Code.{block_of, func_of, code_of}
use Rattle.lp_size.specs.Counting.{blocks_onto}
use Rattle.lp_size.proofs.walk.blocks_rows.Given as goal

abbrev pub invariant-walk : goal.invariant-walk
invariant-walk l = record {
  number : l.number ≡ l.block-index;
  total : blocks_onto (code_of l.books.code.now) (func_of l.body) l.func l.slots l.number l.total (map block_of (drop l.block-index l.body.blocks.items))
      ≡ blocks_onto (code_of l.books.code.now) (func_of l.body) l.func l.initial.slots 0 0 (map block_of l.body.blocks.items);
}
