use Rattle.std.proofs.Common.{◌≡◌, arith, rules, true, map, ap}
use Rattle.std.specs.Prelude.{codes}
use Rattle.std.specs.Str.{bytes_eq}
use Rattle.text_lines.specs.Cuts.{further}
use Rattle.certificate.specs.Words.{var_of}
use Rattle.certificate.proofs.ItemSteps.{block_no_number, block_no_need, block_not_after, block_wide, block_much, block_read}
use Rattle.certificate.proofs.items.read_block.Goals as goal

pub returns-in_default-number : goal.returns-in_default-number
returns-in_default-number c = block_no_number c.args.last (further c.args.rest.now) c.in-Some.block_word.now c.in-Some.tag.now c.in-Some.need_word.now c.in-Some.ensures c.in_default-number.ensures

pub returns-in_default-number-2 : goal.returns-in_default-number-2
returns-in_default-number-2 c = block_no_need c.args.last (further c.args.rest.now) c.in-Some.block_word.now c.in-Some.tag.now c.in-Some.need_word.now c.in-Some-number.block c.in-Some.ensures c.in-Some-number.ensures c.in_default-number-2.ensures

pub returns-then-not-is_after : goal.returns-then-not-is_after
returns-then-not-is_after c =
    block_not_after c.args.last (further c.args.rest.now) c.in-Some.block_word.now c.in-Some.tag.now c.in-Some.need_word.now c.in-Some-number.block c.in-Some-number-2.need c.is_after.result c.in-Some.ensures c.in-Some-number.ensures c.in-Some-number-2.ensures
    c.is_after.ensures c.if-not-is_after.true

pub returns-then-block-gt-MOST_NUMBER : goal.returns-then-block-gt-MOST_NUMBER
returns-then-block-gt-MOST_NUMBER c =
    let tag : bytes_eq c.in-Some.tag.now (codes "need") ≡ true = search rules in
    block_wide c.args.last (further c.args.rest.now) c.in-Some.block_word.now c.in-Some.tag.now c.in-Some.need_word.now c.in-Some-number.block c.in-Some-number-2.need c.is_after.result c.in-Some.ensures c.in-Some-number.ensures c.in-Some-number-2.ensures
    tag c.is_after.ensures c.if-not-is_after.false (omega arith)

pub returns-then-need-gt-MOST_NEED : goal.returns-then-need-gt-MOST_NEED
returns-then-need-gt-MOST_NEED c =
    let tag : bytes_eq c.in-Some.tag.now (codes "need") ≡ true = search rules in
    block_much c.args.last (further c.args.rest.now) c.in-Some.block_word.now c.in-Some.tag.now c.in-Some.need_word.now c.in-Some-number.block c.in-Some-number-2.need c.is_after.result c.in-Some.ensures c.in-Some-number.ensures c.in-Some-number-2.ensures
    tag c.is_after.ensures c.if-not-is_after.false (omega arith)

pub returns : goal.returns
returns c =
    let tag : bytes_eq c.in-Some.tag.now (codes "need") ≡ true = search rules in
    block_read c.args.last (further c.args.rest.now) c.in-Some.block_word.now c.in-Some.tag.now c.in-Some.need_word.now c.in-Some-number.block c.in-Some-number-2.need c.is_after.result (map var_of c.new.result.items) c.in-Some.ensures c.in-Some-number.ensures c.in-Some-number-2.ensures
    tag c.is_after.ensures c.if-not-is_after.false (omega arith) (omega arith) (ap (map var_of) c.new.ensures.items)
