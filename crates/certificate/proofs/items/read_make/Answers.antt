use Rattle.std.proofs.Common.{arith, map}
use Rattle.certificate.specs.Words.{make_of}
use Rattle.text_lines.specs.Cuts.{further}
use Rattle.certificate.proofs.ItemSteps.{make_wide, make_far, make_read}
use Rattle.certificate.proofs.items.read_make.Goals as goal

pub returns-then-block-gt-MOST_NUMBER : goal.returns-then-block-gt-MOST_NUMBER
returns-then-block-gt-MOST_NUMBER c =
    make_wide (map make_of c.args.makes.now) c.args.rest.now c.in-Some.block_word.now c.in-Some.behind.now c.in-Some-further_word.place_word.now (further c.in-Some-further_word.after.now) c.in-Some-number.block c.in-Some-number-2.place c.makes_on.result c.in-Ok.vector c.in-Some.ensures.words c.in-Some-further_word.ensures.words
    c.in-Some-number.ensures c.in-Some-number-2.ensures c.makes_on.ensures c.if-not-makes_on.false c.in-Ok.ensures (omega arith)

pub returns-then-place-gt-MOST_NUMBER : goal.returns-then-place-gt-MOST_NUMBER
returns-then-place-gt-MOST_NUMBER c =
    make_far (map make_of c.args.makes.now) c.args.rest.now c.in-Some.block_word.now c.in-Some.behind.now c.in-Some-further_word.place_word.now (further c.in-Some-further_word.after.now) c.in-Some-number.block c.in-Some-number-2.place c.makes_on.result c.in-Ok.vector c.in-Some.ensures.words c.in-Some-further_word.ensures.words
    c.in-Some-number.ensures c.in-Some-number-2.ensures c.makes_on.ensures c.if-not-makes_on.false c.in-Ok.ensures (omega arith)

pub returns : goal.returns
returns c =
    make_read (map make_of c.args.makes.now) c.args.rest.now c.in-Some.block_word.now c.in-Some.behind.now c.in-Some-further_word.place_word.now (further c.in-Some-further_word.after.now) c.in-Some-number.block c.in-Some-number-2.place c.makes_on.result c.in-Ok.vector c.in-Some.ensures.words c.in-Some-further_word.ensures.words
    c.in-Some-number.ensures c.in-Some-number-2.ensures c.makes_on.ensures c.if-not-makes_on.false c.in-Ok.ensures (omega arith) (omega arith)
