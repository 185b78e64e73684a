-- Private: words for functions of this crate. What the parser answers.
use Rattle.std.specs.Prelude.{◌≡◌, ℕ, ◌⊎◌, List, [], length, Result, MatchResult, IfOk, IfErr}
use Rattle.text_scan.specs.declared.tokens.Token.{Token}
use Rattle.text_scan.specs.declared.fault.ScanFault.{ScanFault}
use Rattle.text_scan.specs.Reading.{AreTokensOf, IsFaultOf}
use Rattle.camelot_tree.specs.declared.program.Program.{Program}
use Rattle.camelot_grammar.specs.declared.fault.ParseFault.{ParseFault}
use Rattle.camelot_grammar.specs.declared.fault.ParseFault.TheVariants.{Scan}
use Rattle.stops.specs.declared.stop.Stop.{Stop}
use Rattle.stops.specs.declared.stop.Stop.TheVariants.{Fault, Memory}
use Rattle.stops.specs.Stopping.{FaultIs}
use Rattle.camelot_grammar.specs.Lexemes.{lexemes}
use Rattle.camelot_tree.specs.Tree.{Source}
use Rattle.camelot_tree.specs.Programs.{program_of}
use Rattle.camelot_grammar.specs.Parsing.{IsProgram, IsFaultAmong, HasProgram, HasCause, last_line}
use Rattle.camelot_grammar.specs.Machine as mc
use Rattle.camelot_syntax.specs.States.{FailsWith}

-- the answer to the tokens of a text is the machine's
pub record Runs (text : List ℕ) (tokens : List Token) (result : Result Program (Stop ParseFault)) : Type 0 where
  pub runs : MatchResult result (λ p. mc.runs mc.start [] (lexemes text tokens) ≡ mc.Yes (program_of p))
      (λ s. FailsWith s (mc.fault_of (length tokens) (last_line text) (mc.runs mc.start [] (lexemes text tokens))))

-- the answer to a text, with its cause, and both ways
pub record Parses (text : List ℕ) (result : Result Program (Stop ParseFault)) : Type 0 where
  pub program : IfOk result (λ p. HasProgram text (program_of p))
  pub cause : IfErr result (FaultIs (HasCause text))
  pub takes : (tokens : List Token) (source : Source) → AreTokensOf text tokens → IsProgram (lexemes text tokens) source
      → MatchResult result (λ p. program_of p ≡ source) (λ s. s ≡ Memory)
  pub refuses : (tokens : List Token) (fault : ParseFault) → AreTokensOf text tokens → IsFaultAmong (lexemes text tokens) (last_line text) fault
      → MatchResult result (λ p. ⊥) (λ s. (s ≡ Fault fault) ⊎ (s ≡ Memory))
  pub scans : (fault : ScanFault) → IsFaultOf text fault → MatchResult result (λ p. ⊥) (λ s. (s ≡ Fault (Scan fault)) ⊎ (s ≡ Memory))
