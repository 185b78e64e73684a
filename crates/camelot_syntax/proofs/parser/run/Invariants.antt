use Rattle.std.proofs.Common.{◌≡◌, drop, []}
use Rattle.camelot_grammar.specs.Lexemes.{lexemes}
use Rattle.camelot_grammar.specs.Machine.{runs, start}
use Rattle.camelot_syntax.specs.States.{state_of, stack_of}
use Rattle.camelot_syntax.proofs.parser.run.Given as goal

abbrev pub invariant-tokens : goal.invariant-tokens
invariant-tokens l =
    runs start [] (lexemes l.text l.tokens) ≡ runs (state_of l.parser.state) (stack_of l.parser.stack.items) (lexemes l.text (drop l.at l.tokens))
