use Rattle.std.proofs.Common.{ap}
use Rattle.certificate.specs.Words.{var_of}
use Rattle.grail_verifier.specs.Numbered.{var_in}
use Rattle.grail_verifier.proofs.Keeping.{keeps_on, held_there, loop_more}
use Rattle.grail_verifier.proofs.numbering.number_vars.Goals as goal

pub lines-preserved : goal.lines-preserved
lines-preserved c = record {
  keeps = keeps_on c.args.held.now c.lines.held c.add.new.self c.lines.invariant.keeps c.in_ok-number.ensures.keeps;
  said = loop_more var_in var_of c.lines.held c.add.new.self c.lines.vars.items c.push.new.self.items _ c.args.lines.now c.lines.line-index c.line-item.result c.lines.invariant.said c.in_ok-number.ensures.keeps
      (λ later k. ap (λ z. record { var = c.line-item.result.var; vector = z }) (held_there later c.in_ok-number.number c.line-item.result.vector (k c.in_ok-number.number c.line-item.result.vector c.in_ok-number.ensures.held))) c.lines-test.true c.line-item.is c.in_ok-push.ensures.items;
}
