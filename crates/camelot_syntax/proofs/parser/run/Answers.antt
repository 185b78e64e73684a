-- A token that isn't read ends the run with its fault.
use Rattle.camelot_syntax.proofs.RunLemmas.{run_fails}
use Rattle.camelot_syntax.proofs.parser.run.Goals as goal

pub returns-in-Err : goal.returns-in-Err
returns-in-Err c =
    run_fails _ _ c.args.text.now c.args.tokens.now c.tokens.at _ c.tokens.parser _ _
    c.tokens-test.true c.tokens.invariant c.in-Err.ensures
