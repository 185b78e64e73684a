-- The answer to a text is that to its tokens, or the fault of its reading.
use Rattle.std.proofs.Common.{Err, sym, subst}
use Rattle.camelot_grammar.specs.declared.fault.ParseFault.TheVariants.{Scan}
use Rattle.stops.specs.declared.stop.Stop.TheVariants.{Fault}
use Rattle.camelot_syntax.specs.Answers.{Runs, Parses}
use Rattle.camelot_syntax.proofs.ParseLemmas.{parses_tokens, parses_nothing}
use Rattle.camelot_syntax.proofs.text.parse_text.Goals as goal

pub returns-in-Ok : goal.returns-in-Ok
returns-in-Ok c = parses_tokens
    (record {
      program = c.answers_of_the_machine.ensures.program;
      takes = c.answers_of_the_machine.ensures.takes;
      fault = c.answers_of_the_machine.ensures.fault;
      refuses = c.answers_of_the_machine.ensures.refuses;
    })
    c.args.text.now c.in-Ok.tokens.items c.parse_tokens.result c.in-Ok.ensures.tokens
    (λ others are. c.in-Ok.ensures.takes others are) (λ fault is. c.in-Ok.ensures.refuses fault is)
    (subst (λ tokens. Runs c.args.text.now tokens c.parse_tokens.result) c.deref.ensures.value c.parse_tokens.ensures)

pub returns-in-Err-Fault : goal.returns-in-Err-Fault
returns-in-Err-Fault c = subst (λ fault. Parses c.args.text.now (Err (Fault (Scan fault)))) (sym c.in-Err-Fault.fault-is)
    (parses_nothing c.args.text.now c.in-Err-Fault.field-0 c.in-Err-Fault.fault c.in-Err-Fault.field-0-is c.in-Err-Fault.ensures.fault
    (λ tokens are. c.in-Err-Fault.ensures.takes tokens are) (λ fault is. c.in-Err-Fault.ensures.refuses fault is))
