use Rattle.std.proofs.Common.{◌≡◌, drop, map}
use Rattle.grail_code.specs.Code.{block_of, code_of}
use Rattle.grail_code.specs.Code.{func_of as body_of}
use Rattle.grail_verifier.specs.Numbered.{held, make_in, func_in}
use Rattle.grail_verifier.specs.Remembered.{IsSound}
use Rattle.grail_verifier.specs.Walk.{blocks_short}
use Rattle.grail_verifier.proofs.walk.check_blocks.Given as goal

abbrev pub invariant-walk : goal.invariant-walk
invariant-walk l = record {
  number : l.number ≡ l.block-index;
  short : blocks_short (code_of l.books.code.now) l.books.lines.now.cert (held l.books.lines.now.held 0) (body_of l.body.func.now) (func_in l.books.lines.now.held l.body.own.now) l.func l.number (map (make_in l.books.lines.now.held) l.makes) (map block_of (drop l.block-index l.body.func.now.blocks.items))
      ≡ blocks_short (code_of l.books.code.now) l.books.lines.now.cert (held l.books.lines.now.held 0) (body_of l.body.func.now) (func_in l.books.lines.now.held l.body.own.now) l.func 0 (map (make_in l.books.lines.now.held) l.body.own.now.makes.items) (map block_of l.body.func.now.blocks.items);
  sound : IsSound (code_of l.books.code.now).types l.books.lines.now.held l.memo;
}
