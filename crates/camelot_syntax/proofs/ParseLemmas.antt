-- The answers to a text, from the machine's answer to its tokens and from that of the scanner.
use Rattle.std.proofs.Common.{◌≡◌, ℕ, suc, ◌⊎◌, inl, inr, List, [], ◌∷◌, map, length, Option, Some, None, Ok, Err, IfOk, IfErr, MatchResult, refl, sym, ap, ◌∙◌, subst, arith}
use Rattle.std.specs.List.{All, AllByRecursion}
use Rattle.text_scan.specs.declared.tokens.Token.{Token}
use Rattle.text_scan.specs.declared.fault.ScanFault.{ScanFault}
use Rattle.text_scan.specs.Reading.{AreTokensOf, IsFaultOf, IsSliceOf}
use Rattle.camelot_tree.specs.declared.program.Program.{Program}
use Rattle.camelot_grammar.specs.declared.fault.ParseFault.{ParseFault}
use Rattle.camelot_grammar.specs.declared.fault.ParseFault.TheVariants as fault
use Rattle.stops.specs.declared.stop.Stop.{Stop}
use Rattle.stops.specs.declared.stop.Stop.TheVariants as stop
use Rattle.stops.specs.Stopping.{FaultIs}
use Rattle.camelot_grammar.specs.declared.lexeme.Lexeme.{Lexeme}
use Rattle.camelot_grammar.specs.declared.lexeme.Lexeme.TheVariants.{Variable}
use Rattle.camelot_grammar.specs.Lexemes.{lexemes, lexeme_at, IsReal}
use Rattle.camelot_tree.specs.Tree.{Source}
use Rattle.camelot_tree.specs.Programs.{program_of}
use Rattle.camelot_grammar.specs.Parsing.{IsProgram, IsFaultAmong, HasCause, stop_fault, last_line}
use Rattle.camelot_grammar.specs.Machine.{runs, start, Yes, fault_of}
use Rattle.camelot_syntax.specs.States.{FailsWith}
use Rattle.camelot_syntax.specs.Answers.{Runs, Parses}

-- what the machine's answers mean: the law `answers_of_the_machine`
pub record Meaning : Type 0 where
  pub program : (tokens : List Lexeme) (source : Source) → runs start [] tokens ≡ Yes source → IsProgram tokens source
  pub takes : (tokens : List Lexeme) (source : Source) → IsProgram tokens source → runs start [] tokens ≡ Yes source
  pub fault : (tokens : List Lexeme) (last : ℕ) (fault : ParseFault) → fault_of (length tokens) last (runs start [] tokens) ≡ Some fault
      → IsFaultAmong tokens last fault
  pub refuses : (tokens : List Lexeme) (last : ℕ) (fault : ParseFault) → IsFaultAmong tokens last fault
      → fault_of (length tokens) last (runs start [] tokens) ≡ Some fault

lexemes_length : (text : List ℕ) (tokens : List Token) → length (lexemes text tokens) ≡ length tokens
lexemes_length text [] = refl
lexemes_length text (t ∷ ts) = ap (λ n. suc n) (lexemes_length text ts)

-- a fault at a token is none of the scanner
IsOrdinary : ParseFault → Type 0
IsOrdinary (fault.Scan g) = ⊥
IsOrdinary f = Unit {0}

stop_ordinary : (rest : List Lexeme) (k l : ℕ) → IsOrdinary (stop_fault rest k l)
unfolding IsOrdinary
stop_ordinary [] k l = tt
stop_ordinary (Variable i ∷ rest) k l = tt
stop_ordinary (t ∷ rest) k l = tt

among_ordinary : (ts : List Lexeme) (last : ℕ) (f : ParseFault) → IsFaultAmong ts last f → IsOrdinary f
unfolding IsOrdinary
among_ordinary ts last f (inl s) = subst IsOrdinary (sym s.is) (stop_ordinary s.rest _ _)
among_ordinary ts last f (inr s) = subst IsOrdinary (sym s.is) tt

cause_of : (text : List ℕ) (tokens : List Token) (f : ParseFault) → AreTokensOf text tokens
    → (IsFaultAmong (lexemes text tokens) (last_line text) f) → IsOrdinary f → HasCause text f
unfolding IsOrdinary
cause_of text tokens (fault.Scan g) a h i = absurd i
cause_of text tokens (fault.Unexpected k l) a h i = record { tokens = tokens; are = a; among = h }
cause_of text tokens (fault.TooDeep k l) a h i = record { tokens = tokens; are = a; among = h }
cause_of text tokens (fault.TypeParameter k l) a h i = record { tokens = tokens; are = a; among = h }

told : (text : List ℕ) (tokens : List Token) (f : ParseFault) → AreTokensOf text tokens → IsFaultAmong (lexemes text tokens) (last_line text) f
    → HasCause text f
told text tokens f a h = cause_of text tokens f a h (among_ordinary (lexemes text tokens) (last_line text) f h)

counted : (text : List ℕ) (tokens : List Token) (last : ℕ) (f : ParseFault)
    → fault_of (length tokens) last (runs start [] (lexemes text tokens)) ≡ Some f → fault_of (length (lexemes text tokens)) last (runs start [] (lexemes text tokens)) ≡ Some f
counted text tokens last f h = ap (λ n. fault_of n last (runs start [] (lexemes text tokens))) (lexemes_length text tokens) ∙ h

fault_told : Meaning → (text : List ℕ) (tokens : List Token) (f : ParseFault) → AreTokensOf text tokens
    → fault_of (length tokens) (last_line text) (runs start [] (lexemes text tokens)) ≡ Some f → HasCause text f
fault_told law text tokens f a h = told text tokens f a (law.fault (lexemes text tokens) (last_line text) f (counted text tokens (last_line text) f h))

fails_cause : Meaning → (text : List ℕ) (tokens : List Token) (s : Stop ParseFault) → AreTokensOf text tokens
    → FailsWith s (fault_of (length tokens) (last_line text) (runs start [] (lexemes text tokens))) → FaultIs (HasCause text) s
fails_cause law text tokens (stop.Fault f) a h = fault_told law text tokens f a h
fails_cause law text tokens stop.Memory a h = tt

-- ---- from a meaning to the answer

among_fault : Meaning → (text : List ℕ) (tokens : List Token) (last : ℕ) (f : ParseFault) → IsFaultAmong (lexemes text tokens) last f
    → fault_of (length tokens) last (runs start [] (lexemes text tokens)) ≡ Some f
among_fault law text tokens last f h =
    ap (λ n. fault_of n last (runs start [] (lexemes text tokens))) (sym (lexemes_length text tokens)) ∙ law.refuses (lexemes text tokens) last f h

fails_none : (s : Stop ParseFault) → FailsWith s None → s ≡ stop.Memory
fails_none (stop.Fault f) h = absurd cc
fails_none stop.Memory h = refl

fails_some : (s : Stop ParseFault) (g : ParseFault) → FailsWith s (Some g) → (s ≡ stop.Fault g) ⊎ (s ≡ stop.Memory)
fails_some (stop.Fault f) g h = let e : f ≡ g = cc in inl (ap stop.Fault e)
fails_some stop.Memory g h = inr refl

-- ---- the tokens of a text are real

pub reals : ((text : List ℕ) (token : Token) → IsSliceOf text token → IsReal (lexeme_at text token))
    → (text : List ℕ) (tokens : List Token) → All (IsSliceOf text) tokens → AllByRecursion IsReal (lexemes text tokens)
reals law text [] h = tt
reals law text (t ∷ ts) h = (law text t (h 0 t (omega arith)), reals law text ts (λ k d i. h (suc k) d (omega (arith, i))))

-- ---- the answers to a text

yes_same : (p q : Source) → Yes p ≡ Yes q → p ≡ q
yes_same p q e = cc

no_fault : (n last : ℕ) (f : ParseFault) (p : Source) → {o : Option ParseFault} → o ≡ fault_of n last (Yes p) → o ≡ Some f → ⊥
no_fault n last f p e h = absurd cc

-- the tokens of the text were read
pub parses_tokens : Meaning → (text : List ℕ) (tokens : List Token) (r : Rattle.std.proofs.Common.Result Program (Stop ParseFault)) → AreTokensOf text tokens
    → ((others : List Token) → AreTokensOf text others → tokens ≡ others) → ((f : ScanFault) → IsFaultOf text f → ⊥) → Runs text tokens r → Parses text r
parses_tokens law text tokens (Ok p) a one none h = record {
  program = record { tokens = tokens; are = a; program = law.program (lexemes text tokens) (program_of p) h.runs };
  cause = tt;
  takes = λ others source b q. yes_same (program_of p) source
      (sym h.runs ∙ ap (λ ts. runs start [] (lexemes text ts)) (one others b) ∙ law.takes (lexemes text others) source q);
  refuses = λ others f b q. no_fault (length others) (last_line text) f (program_of p)
      (ap (fault_of (length others) (last_line text)) (sym (ap (λ ts. runs start [] (lexemes text ts)) (one others b)) ∙ h.runs))
      (among_fault law text others (last_line text) f q);
  scans = λ f q. none f q;
}
parses_tokens law text tokens (Err g) a one none h = record {
  program = tt;
  cause = fails_cause law text tokens g a h.runs;
  takes = λ others source b q. fails_none g
      (subst (λ o. FailsWith g o) (ap (λ r. fault_of (length tokens) (last_line text) r)
      (ap (λ ts. runs start [] (lexemes text ts)) (one others b) ∙ law.takes (lexemes text others) source q)) h.runs);
  refuses = λ others f b q. fails_some g f
      (subst (λ o. FailsWith g o) (ap (λ ts. fault_of (length ts) (last_line text) (runs start [] (lexemes text ts))) (one others b)
      ∙ among_fault law text others (last_line text) f q) h.runs);
  scans = λ f q. absurd (none f q);
}

-- the text has no tokens
scans_for : (g f : ScanFault) → (stop.Fault g ≡ stop.Fault f) ⊎ (stop.Fault g ≡ stop.Memory)
    → (stop.Fault (fault.Scan g) ≡ stop.Fault (fault.Scan f)) ⊎ (stop.Fault (fault.Scan g) ≡ stop.Memory)
scans_for g f (inl e) = let same : g ≡ f = cc in inl (ap (λ x. stop.Fault (fault.Scan x)) same)
scans_for g f (inr e) = absurd cc

no_memory : (g : ScanFault) → stop.Fault g ≡ stop.Memory → ⊥
no_memory g e = absurd cc

parses_fault : (text : List ℕ) (g : ScanFault) → IsFaultOf text g → ((tokens : List Token) → AreTokensOf text tokens → stop.Fault g ≡ stop.Memory)
    → ((f : ScanFault) → IsFaultOf text f → (stop.Fault g ≡ stop.Fault f) ⊎ (stop.Fault g ≡ stop.Memory)) → Parses text (Err (stop.Fault (fault.Scan g)))
parses_fault text g c one other = record {
  program = tt;
  cause = c;
  takes = λ tokens source b q. absurd (no_memory g (one tokens b));
  refuses = λ tokens f b q. absurd (no_memory g (one tokens b));
  scans = λ f q. scans_for g f (other f q);
}

pub parses_nothing : (text : List ℕ) (s : Stop ScanFault) (g : ScanFault) → s ≡ stop.Fault g → FaultIs (IsFaultOf text) s
    → ((tokens : List Token) → AreTokensOf text tokens → s ≡ stop.Memory)
    → ((f : ScanFault) → IsFaultOf text f → (s ≡ stop.Fault f) ⊎ (s ≡ stop.Memory)) → Parses text (Err (stop.Fault (fault.Scan g)))
parses_nothing text s g e c one other =
    parses_fault text g (subst (FaultIs (IsFaultOf text)) e c) (λ tokens b. subst (λ t. t ≡ stop.Memory) e (one tokens b))
    (λ f q. subst (λ t. (t ≡ stop.Fault f) ⊎ (t ≡ stop.Memory)) e (other f q))
