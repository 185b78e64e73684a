use Rattle.certificate.specs.Words.{func_of}
use Rattle.grail_verifier.specs.Numbered.{func_in}
use Rattle.grail_verifier.proofs.Keeping.{keeps_on, loop_more}
use Rattle.grail_verifier.proofs.numbering.number_funcs.Goals as goal

pub lines-preserved : goal.lines-preserved
lines-preserved c = record {
  keeps = keeps_on c.args.held.now c.lines.held c.number_func.new.held c.lines.invariant.keeps c.in_ok-func.ensures.keeps;
  said = loop_more func_in func_of c.lines.held c.number_func.new.held c.lines.funcs.items c.push.new.self.items _ c.args.certs.now c.lines.cert-index c.cert-item.result c.lines.invariant.said c.in_ok-func.ensures.keeps
      (c.in_ok-func.ensures.said) c.lines-test.true c.cert-item.is c.in_ok-push.ensures.items;
}
