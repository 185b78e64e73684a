use Rattle.std.proofs.Common.{◌≡◌, ◌<◌, length, map, arith, rules}
use Rattle.grail_code.specs.Code.{func_of}
use Rattle.lp_rows.specs.Plain.{plain}
use Rattle.lp_rows.proofs.Turns.{one_block}
use Rattle.lp_rows.proofs.listing.push_blocks.Goals as goal

pub numbers-preserved : goal.numbers-preserved
numbers-preserved c =
    let count : c.len-block-end.result ≡ length c.args.body.now.blocks.items = search rules in
    let less : c.numbers.block < length c.args.body.now.blocks.items = omega (arith, count, c.numbers-test.true) in
    one_block c.args.reach.types.now (func_of c.args.body.now) c.args.func (map plain c.numbers.list.items) (map plain c.push_block.new.list.items) _ c.numbers.block (length c.args.body.now.blocks.items) less c.numbers.invariant
    c.in_ok-push_block.ensures
