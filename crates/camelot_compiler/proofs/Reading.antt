-- The same of the stages of types and of the text.
use Rattle.std.proofs.Common.{◌≡◌, ◌⊎◌, ℕ, List, Option, Some, None, Err, refl, sym, ap, ◌∙◌, subst, inl, inr}
use Rattle.stops.specs.declared.stop.Stop.TheVariants.{Fault, Memory}
use Rattle.cause_texts.specs.declared.cause.Cause.{Cause}
use Rattle.stops.specs.declared.stop.Stop.{Stop}
use Rattle.stops.specs.Stopping.{FaultIs}
use Rattle.text_scan.specs.declared.tokens.Token.{Token}
use Rattle.text_scan.specs.declared.fault.ScanFault.{ScanFault}
use Rattle.text_scan.specs.Reading.{AreTokensOf, IsFaultOf}
use Rattle.camelot_tree.specs.Tree.{Source}
use Rattle.camelot_grammar.specs.declared.fault.ParseFault.{ParseFault}
use Rattle.camelot_grammar.specs.declared.fault.ParseFault.TheVariants as parse
use Rattle.camelot_grammar.specs.Lexemes.{lexemes}
use Rattle.camelot_grammar.specs.Parsing as grammar
use Rattle.camelot_grammar.specs.Parsing.{HasProgram, IsProgram, IsFaultAmong, last_line}
use Rattle.camelot_typing.specs.Typing as rules
use Rattle.camelot_typing.specs.Typing.{Signature, IsWithinLimits, globals_of}
use Rattle.camelot_typing.specs.Typed.{Typing, IsTyping, typing_kinds, functions_kinds}
use Rattle.camelot_typing.specs.Settled.{IsSettled, KindsSettled}
use Rattle.camelot_types.specs.declared.fault.TypeFault.{TypeFault}
use Rattle.camelot_types.specs.Walk as walk
use Rattle.code_gen.specs.Generated.{compiled}
use Rattle.grail_code.specs.Code.{Code}
use Rattle.cause_texts.specs.declared.cause.Cause.TheVariants as cause
use Rattle.camelot_compiler.specs.Compiled.{Compiled, Bundled, Refused, compiled_of, IsLinear, OfTyping, IsTyped, OfProgram, IsCompiled, IsSo, Answers}
use Rattle.camelot_compiler.specs.Stages.{parse_fault, type_fault, Stands}

-- a stop for this fault is for no other
same_fault : {F : Type 0} (f g : F) → (Fault f ≡ Fault g) ⊎ (Fault f ≡ Memory) → f ≡ g
same_fault f g (inl e) = cc
same_fault f g (inr m) = cc

-- ---- types

type_so : (p : Source) (stop : Stop TypeFault) → FaultIs (walk.HasFault p) stop → IsSo (IsTyped p) (compiled_of (Err (type_fault stop)))
type_so p (Fault fault) h = h
type_so p Memory h = tt

is_typing : (p : Source) (t : Typing) → t.source ≡ p → rules.IsTyped p t.signatures → IsWithinLimits p → IsTyping t
is_typing p t e typed within = record { typed = subst (λ q. rules.IsTyped q t.signatures) (sym e) typed; within = subst IsWithinLimits (sym e) within }

-- the program is typed so
module _ (p : Source) (t : Typing) (source : t.source ≡ p) (is_typed : rules.IsTyped p t.signatures) (within : IsWithinLimits p)
    (settled : (signatures : List Signature) → rules.IsTyped p signatures → KindsSettled (typing_kinds t) (functions_kinds (globals_of p signatures) p.funs signatures)) where
  typing : IsTyping t
  typing = is_typing p t source is_typed within

  all_settled : IsSettled t
  all_settled = subst (λ q. (signatures : List Signature) → rules.IsTyped q signatures → KindsSettled (typing_kinds t) (functions_kinds (globals_of q signatures) q.funs signatures)) (sym source) settled

  typing_so : {Says : Typing → Type 0} → Says t → OfTyping p Says
  typing_so says = record { typing = t; source = source; typed = typing; settled = all_settled; says = says }

  pub typed_found : (o : Option Compiled) → IsSo (IsLinear t) o → IsSo (IsTyped p) o
  typed_found None h = tt
  typed_found (Some (Bundled code cert)) h = typing_so h
  typed_found (Some (Refused (cause.Parse x))) h = typing_so h
  typed_found (Some (Refused (cause.Types x))) h = absurd h.1.1
  typed_found (Some (Refused (cause.Uses x))) h = typing_so h
  typed_found (Some (Refused (cause.Normal x))) h = typing_so h
  typed_found (Some (Refused (cause.NoCert x))) h = typing_so h
  typed_found (Some (Refused (cause.Bundle x))) h = typing_so h
  typed_found (Some (Refused (cause.Verify x))) h = typing_so h

  module _ (one : (u v : Typing) → u.source ≡ v.source → IsTyping u → IsSettled u → IsTyping v → IsSettled v → u ≡ v) where
    same_typing : (u : Typing) → u.source ≡ p → IsTyping u → IsSettled u → u ≡ t
    same_typing u e h k = one u t (e ∙ sym source) h k typing all_settled

    pub typed_stands : (o : Option Compiled) → Stands o (compiled t) → (u : Typing) → u.source ≡ p → IsTyping u → IsSettled u → Stands o (compiled u)
    typed_stands o h u e typed k = subst (λ v. Stands o (compiled v)) (sym (same_typing u e typed k)) h

    of_typing : (o : Option Compiled) (answer : Compiled) → (IsLinear t answer → Answers o answer) → OfTyping p (λ u. IsLinear u answer) → Answers o answer
    of_typing o answer exact h = exact (subst (λ u. IsLinear u answer) (same_typing h.typing h.source h.typed h.settled) h.says)

    pub typed_exact : (o : Option Compiled) → ((f : TypeFault) → walk.HasFault p f → ⊥)
        → ((answer : Compiled) → IsLinear t answer → Answers o answer) → (answer : Compiled) → IsTyped p answer → Answers o answer
    typed_exact o refuses exact (Bundled code cert) h = of_typing o (Bundled code cert) (exact (Bundled code cert)) h
    typed_exact o refuses exact (Refused (cause.Parse x)) h = of_typing o (Refused (cause.Parse x)) (exact (Refused (cause.Parse x))) h
    typed_exact o refuses exact (Refused (cause.Types fault)) h = absurd (refuses fault h)
    typed_exact o refuses exact (Refused (cause.Uses x)) h = of_typing o (Refused (cause.Uses x)) (exact (Refused (cause.Uses x))) h
    typed_exact o refuses exact (Refused (cause.Normal x)) h = of_typing o (Refused (cause.Normal x)) (exact (Refused (cause.Normal x))) h
    typed_exact o refuses exact (Refused (cause.NoCert x)) h = of_typing o (Refused (cause.NoCert x)) (exact (Refused (cause.NoCert x))) h
    typed_exact o refuses exact (Refused (cause.Bundle x)) h = of_typing o (Refused (cause.Bundle x)) (exact (Refused (cause.Bundle x))) h
    typed_exact o refuses exact (Refused (cause.Verify x)) h = of_typing o (Refused (cause.Verify x)) (exact (Refused (cause.Verify x))) h

pub untyped_found : (p : Source) (stop : Stop TypeFault) (x : Stop Cause) → x ≡ type_fault stop → FaultIs (walk.HasFault p) stop
    → IsSo (IsTyped p) (compiled_of (Err x))
untyped_found p stop x e h = subst (λ y. IsSo (IsTyped p) (compiled_of (Err y))) (sym e) (type_so p stop h)

-- one fault of types
module _ (p : Source) (fault : TypeFault) (takes : (signatures : List Signature) → rules.IsTyped p signatures → IsWithinLimits p → Fault fault ≡ Memory)
    (refuses : (f : TypeFault) → walk.HasFault p f → (Fault fault ≡ Fault f) ⊎ (Fault fault ≡ Memory)) where
  no_typing : {A : Type 0} {Says : Typing → Type 0} → OfTyping p Says → A
  no_typing h =
      let typed : rules.IsTyped p h.typing.signatures = subst (λ q. rules.IsTyped q h.typing.signatures) h.source h.typed.typed in
      let within : IsWithinLimits p = subst IsWithinLimits h.source h.typed.within in
      let e : Fault fault ≡ Memory = takes h.typing.signatures typed within in
      cc

  pub one_type : (answer : Compiled) → IsTyped p answer → Refused (cause.Types fault) ≡ answer
  one_type (Bundled code cert) h = no_typing h
  one_type (Refused (cause.Parse x)) h = no_typing h
  one_type (Refused (cause.Types f)) h = ap (λ g. Refused (cause.Types g)) (same_fault fault f (refuses f h))
  one_type (Refused (cause.Uses x)) h = no_typing h
  one_type (Refused (cause.Normal x)) h = no_typing h
  one_type (Refused (cause.NoCert x)) h = no_typing h
  one_type (Refused (cause.Bundle x)) h = no_typing h
  one_type (Refused (cause.Verify x)) h = no_typing h

pub untyped_exact : (p : Source) (stop : Stop TypeFault) (x : Stop Cause) → x ≡ type_fault stop
    → ((signatures : List Signature) → rules.IsTyped p signatures → IsWithinLimits p → stop ≡ Memory)
    → ((f : TypeFault) → walk.HasFault p f → (stop ≡ Fault f) ⊎ (stop ≡ Memory)) → (answer : Compiled) → IsTyped p answer → Answers (compiled_of (Err x)) answer
untyped_exact p stop x e takes refuses answer h = subst (λ y. Answers (compiled_of (Err y)) answer) (sym e) (by_stop stop takes refuses)
  where
    by_stop : (stop : Stop TypeFault) → ((signatures : List Signature) → rules.IsTyped p signatures → IsWithinLimits p → stop ≡ Memory)
        → ((f : TypeFault) → walk.HasFault p f → (stop ≡ Fault f) ⊎ (stop ≡ Memory)) → Answers (compiled_of (Err (type_fault stop))) answer
    by_stop (Fault fault) takes refuses = one_type p fault takes refuses answer h
    by_stop Memory takes refuses = tt

pub unfounded_type : (p : Code) (stop : Stop TypeFault) (x : Stop Cause) → x ≡ type_fault stop → Stands (compiled_of (Err x)) p
unfounded_type p stop x e = subst (λ y. Stands (compiled_of (Err y)) p) (sym e) (by_stop stop)
  where
    by_stop : (stop : Stop TypeFault) → Stands (compiled_of (Err (type_fault stop))) p
    by_stop (Fault fault) = tt
    by_stop Memory = tt

-- ---- texts

-- the text is this program
module _ (text : List ℕ) (p : Source) where
  pub parsed_found : HasProgram text p → (o : Option Compiled) → IsSo (IsTyped p) o → IsSo (IsCompiled text) o
  parsed_found is None h = tt
  parsed_found is (Some (Bundled code cert)) h = record { source = p; program = is; says = h }
  parsed_found is (Some (Refused (cause.Parse x))) h = absurd h.says.1.1
  parsed_found is (Some (Refused (cause.Types x))) h = record { source = p; program = is; says = h }
  parsed_found is (Some (Refused (cause.Uses x))) h = record { source = p; program = is; says = h }
  parsed_found is (Some (Refused (cause.Normal x))) h = record { source = p; program = is; says = h }
  parsed_found is (Some (Refused (cause.NoCert x))) h = record { source = p; program = is; says = h }
  parsed_found is (Some (Refused (cause.Bundle x))) h = record { source = p; program = is; says = h }
  parsed_found is (Some (Refused (cause.Verify x))) h = record { source = p; program = is; says = h }

  module _ (takes : (tokens : List Token) (source : Source) → AreTokensOf text tokens → IsProgram (lexemes text tokens) source → p ≡ source) where
    same_program : (source : Source) → HasProgram text source → source ≡ p
    same_program source h = sym (takes h.tokens source h.are h.program)

    pub parsed_stands : (o : Option Compiled) → ((t : Typing) → t.source ≡ p → IsTyping t → IsSettled t → Stands o (compiled t)) → (t : Typing)
        → HasProgram text t.source → IsTyping t → IsSettled t → Stands o (compiled t)
    parsed_stands o stands t h typed settled = stands t (same_program t.source h) typed settled

    of_program : (o : Option Compiled) (answer : Compiled) → (IsTyped p answer → Answers o answer) → OfProgram text (λ q. IsTyped q answer) → Answers o answer
    of_program o answer exact h = exact (subst (λ q. IsTyped q answer) (same_program h.source h.program) h.says)

    module _ (refuses : (tokens : List Token) (f : ParseFault) → AreTokensOf text tokens → IsFaultAmong (lexemes text tokens) (last_line text) f → ⊥) (scans : (f : ScanFault) → IsFaultOf text f → ⊥) where
      no_fault : (f : ParseFault) → grammar.HasCause text f → ⊥
      no_fault (parse.Scan f) h = scans f h
      no_fault (parse.Unexpected a b) h = refuses h.tokens (parse.Unexpected a b) h.are h.among
      no_fault (parse.TooDeep a b) h = refuses h.tokens (parse.TooDeep a b) h.are h.among
      no_fault (parse.TypeParameter a b) h = refuses h.tokens (parse.TypeParameter a b) h.are h.among

      pub parsed_exact : (o : Option Compiled) → ((answer : Compiled) → IsTyped p answer → Answers o answer) → (answer : Compiled)
          → IsCompiled text answer → Answers o answer
      parsed_exact o exact (Bundled code cert) h = of_program o (Bundled code cert) (exact (Bundled code cert)) h
      parsed_exact o exact (Refused (cause.Parse fault)) h = absurd (no_fault fault h)
      parsed_exact o exact (Refused (cause.Types x)) h = of_program o (Refused (cause.Types x)) (exact (Refused (cause.Types x))) h
      parsed_exact o exact (Refused (cause.Uses x)) h = of_program o (Refused (cause.Uses x)) (exact (Refused (cause.Uses x))) h
      parsed_exact o exact (Refused (cause.Normal x)) h = of_program o (Refused (cause.Normal x)) (exact (Refused (cause.Normal x))) h
      parsed_exact o exact (Refused (cause.NoCert x)) h = of_program o (Refused (cause.NoCert x)) (exact (Refused (cause.NoCert x))) h
      parsed_exact o exact (Refused (cause.Bundle x)) h = of_program o (Refused (cause.Bundle x)) (exact (Refused (cause.Bundle x))) h
      parsed_exact o exact (Refused (cause.Verify x)) h = of_program o (Refused (cause.Verify x)) (exact (Refused (cause.Verify x))) h

pub unparsed_found : (text : List ℕ) (stop : Stop ParseFault) (x : Stop Cause) → x ≡ parse_fault stop → FaultIs (grammar.HasCause text) stop
    → IsSo (IsCompiled text) (compiled_of (Err x))
unparsed_found text stop x e h = subst (λ y. IsSo (IsCompiled text) (compiled_of (Err y))) (sym e) (by_stop stop h)
  where
    by_stop : (stop : Stop ParseFault) → FaultIs (grammar.HasCause text) stop → IsSo (IsCompiled text) (compiled_of (Err (parse_fault stop)))
    by_stop (Fault fault) h = h
    by_stop Memory h = tt

-- one fault of a text
module _ (text : List ℕ) (fault : ParseFault) (takes : (tokens : List Token) (source : Source) → AreTokensOf text tokens → IsProgram (lexemes text tokens) source → Fault fault ≡ Memory)
    (refuses : (tokens : List Token) (f : ParseFault) → AreTokensOf text tokens → IsFaultAmong (lexemes text tokens) (last_line text) f → (Fault fault ≡ Fault f) ⊎ (Fault fault ≡ Memory))
    (scans : (f : ScanFault) → IsFaultOf text f → (Fault fault ≡ Fault (parse.Scan f)) ⊎ (Fault fault ≡ Memory)) where
  no_program : {A : Type 0} {Says : Source → Type 0} → OfProgram text Says → A
  no_program h = let e : Fault fault ≡ Memory = takes h.program.tokens h.source h.program.are h.program.program in cc

  one_fault : (f : ParseFault) → grammar.HasCause text f → (Fault fault ≡ Fault f) ⊎ (Fault fault ≡ Memory)
  one_fault (parse.Scan f) h = scans f h
  one_fault (parse.Unexpected a b) h = refuses h.tokens (parse.Unexpected a b) h.are h.among
  one_fault (parse.TooDeep a b) h = refuses h.tokens (parse.TooDeep a b) h.are h.among
  one_fault (parse.TypeParameter a b) h = refuses h.tokens (parse.TypeParameter a b) h.are h.among

  pub one_parse : (answer : Compiled) → IsCompiled text answer → Refused (cause.Parse fault) ≡ answer
  one_parse (Bundled code cert) h = no_program h
  one_parse (Refused (cause.Parse f)) h = ap (λ g. Refused (cause.Parse g)) (same_fault fault f (one_fault f h))
  one_parse (Refused (cause.Types x)) h = no_program h
  one_parse (Refused (cause.Uses x)) h = no_program h
  one_parse (Refused (cause.Normal x)) h = no_program h
  one_parse (Refused (cause.NoCert x)) h = no_program h
  one_parse (Refused (cause.Bundle x)) h = no_program h
  one_parse (Refused (cause.Verify x)) h = no_program h

pub unparsed_exact : (text : List ℕ) (stop : Stop ParseFault) (x : Stop Cause) → x ≡ parse_fault stop
    → ((tokens : List Token) (source : Source) → AreTokensOf text tokens → IsProgram (lexemes text tokens) source → stop ≡ Memory)
    → ((tokens : List Token) (f : ParseFault) → AreTokensOf text tokens → IsFaultAmong (lexemes text tokens) (last_line text) f → (stop ≡ Fault f) ⊎ (stop ≡ Memory))
    → ((f : ScanFault) → IsFaultOf text f → (stop ≡ Fault (parse.Scan f)) ⊎ (stop ≡ Memory))
    → (answer : Compiled) → IsCompiled text answer → Answers (compiled_of (Err x)) answer
unparsed_exact text stop x e takes refuses scans answer h = subst (λ y. Answers (compiled_of (Err y)) answer) (sym e) (by_stop stop takes refuses scans)
  where
    by_stop : (stop : Stop ParseFault)
        → ((tokens : List Token) (source : Source) → AreTokensOf text tokens → IsProgram (lexemes text tokens) source → stop ≡ Memory)
        → ((tokens : List Token) (f : ParseFault) → AreTokensOf text tokens → IsFaultAmong (lexemes text tokens) (last_line text) f → (stop ≡ Fault f) ⊎ (stop ≡ Memory))
        → ((f : ScanFault) → IsFaultOf text f → (stop ≡ Fault (parse.Scan f)) ⊎ (stop ≡ Memory))
        → Answers (compiled_of (Err (parse_fault stop))) answer
    by_stop (Fault fault) takes refuses scans = one_parse text fault takes refuses scans answer h
    by_stop Memory takes refuses scans = tt

pub unfounded_parse : (p : Code) (stop : Stop ParseFault) (x : Stop Cause) → x ≡ parse_fault stop → Stands (compiled_of (Err x)) p
unfounded_parse p stop x e = subst (λ y. Stands (compiled_of (Err y)) p) (sym e) (by_stop stop)
  where
    by_stop : (stop : Stop ParseFault) → Stands (compiled_of (Err (parse_fault stop))) p
    by_stop (Fault fault) = tt
    by_stop Memory = tt
