use Rattle.grail_check.proofs.ReadyLaws.{no_number, one_number}
use Rattle.grail_check.proofs.local_set.LocalSet.of.Goals as goal

pub numbers-init : goal.numbers-init
numbers-init c = no_number c.args.numbers.now c.none-set.result.words

pub numbers-preserved : goal.numbers-preserved
numbers-preserved c =
    one_number c.args.numbers.now c.numbers.set.words c.insert.new.self.words c.numbers.number-index c.numbers-test.true c.numbers.invariant c.insert.ensures.keeps
    (c.insert.ensures.adds c.if-not-insert.false)
