use Rattle.std.proofs.Common.{◌≡◌, ◌++◌, drop, map}
use Rattle.dual_simplex.specs.Systems.{plain_row}
use Rattle.grail_code.specs.Code.{block_of, func_of, code_of}
use Rattle.lp_rows.specs.Plain.{plain}
use Rattle.lp_rows.specs.Walk.{blocks_rows}
use Rattle.lp_rows.proofs.walk.push_blocks.Given as goal

abbrev pub invariant-walk : goal.invariant-walk
invariant-walk l = record {
  number : l.block_number ≡ l.block-index;
  rows : map plain_row l.rows.items ++ blocks_rows (code_of l.books.code.now) (map plain l.books.unknowns.now) (func_of l.func) l.number l.block_number (map block_of (drop l.block-index l.func.blocks.items)) ≡ map plain_row l.initial.rows.items ++ blocks_rows (code_of l.books.code.now) (map plain l.books.unknowns.now) (func_of l.func) l.number 0 (map block_of l.func.blocks.items);
}
