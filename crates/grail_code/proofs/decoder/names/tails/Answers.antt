use Rattle.grail_code.proofs.SpellingLoops.{tails_more, tails_here, tails_room}
use Rattle.grail_code.proofs.decoder.names.tails.Goals as goal

pub letters-preserved : goal.letters-preserved
letters-preserved c =
    let h = c.in_ok-_letter.ensures in
    record {
      left = tails_more c.args.bytes.now _ _ _ c.args.count c.letters.counter _ c.letters-test.true c.letters.invariant.here h c.letters.invariant.left;
      here = tails_here c.args.bytes.now _ _ _ c.letters.counter c.letters.invariant.here h;
      room = tails_room _ _ _ c.letters.counter _ c.letters.invariant.room h;
    }
