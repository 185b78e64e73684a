use Rattle.std.proofs.Common.{ap}
use Rattle.certificate.specs.Words.{make_of}
use Rattle.grail_verifier.specs.Numbered.{make_in}
use Rattle.grail_verifier.proofs.Keeping.{keeps_on, held_there, loop_more}
use Rattle.grail_verifier.proofs.numbering.number_makes.Goals as goal

pub lines-preserved : goal.lines-preserved
lines-preserved c = record {
  keeps = keeps_on c.args.held.now c.lines.held c.add.new.self c.lines.invariant.keeps c.in_ok-number.ensures.keeps;
  said = loop_more make_in make_of c.lines.held c.add.new.self c.lines.makes.items c.push.new.self.items _ c.args.lines.now c.lines.line-index c.line-item.result c.lines.invariant.said c.in_ok-number.ensures.keeps
      (λ later k. ap (λ z. record { block = c.line-item.result.block; place = c.line-item.result.place; vector = z }) (held_there later c.in_ok-number.number c.line-item.result.vector (k c.in_ok-number.number c.line-item.result.vector c.in_ok-number.ensures.held))) c.lines-test.true c.line-item.is c.in_ok-push.ensures.items;
}
