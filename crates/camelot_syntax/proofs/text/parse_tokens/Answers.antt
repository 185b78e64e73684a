-- What is parsed has the form that its tokens give.
use Rattle.camelot_syntax.proofs.ParseLemmas.{reals}
use Rattle.camelot_syntax.proofs.text.parse_tokens.Goals as goal

pub invariant_of-result : goal.invariant_of-result
invariant_of-result c =
    let real = reals c.tokens_of_a_text.ensures c.args.text.now c.args.tokens.now c.requires in
    let program = c.answers_of_the_machine.ensures.program _ _ c.in_ok-decls.ensures.answers in
    record {
      whole = c.tokens_give_form.ensures.whole _ _ program;
      named = c.tokens_give_form.ensures.named _ _ real program;
      ints = c.tokens_give_form.ensures.ints _ _ real program;
    }
