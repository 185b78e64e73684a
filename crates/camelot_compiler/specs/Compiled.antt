-- Cited by contracts.
-- What compiling answers of a source, and when: the first of these that is so. The text is no program; the program has
-- no types; it breaks the rule of use; a function is too large for code; no certificate is found for its code. Else the
-- answer is a bundle, of the code's spelling in the second format and the certificate's text.
use Rattle.std.specs.Prelude.{◌≡◌, ℕ, List, Option, Some, None, Result, Ok, Err}
use Rattle.stops.specs.declared.stop.Stop.{Stop}
use Rattle.stops.specs.declared.stop.Stop.TheVariants.{Fault, Memory}
use Rattle.camelot_tree.specs.Tree.{Source}
use Rattle.camelot_grammar.specs.Parsing as grammar
use Rattle.camelot_grammar.specs.Parsing.{HasProgram}
use Rattle.camelot_typing.specs.Typed.{Typing, IsTyping}
use Rattle.camelot_typing.specs.Settled.{IsSettled}
use Rattle.camelot_types.specs.Walk as walk
use Rattle.linear_use.specs.Answers.{KeepsRule, faults_of, first}
use Rattle.normal_form.specs.Answers.{program_fault}
use Rattle.code_gen.specs.Generated.{compiled}
use Rattle.grail_code.specs.Code.{Code}
use Rattle.grail_code.specs.Spelling.{Second, FitsCode, spelling}
use Rattle.certificate.specs.Certificates.{Cert}
use Rattle.certificate.specs.Text.{text_of}
use Rattle.licence.specs.Fitting.{Grants}
use Rattle.lp_system.specs.Found.{IsLeastCertificate}
use Rattle.grail_verifier.specs.Accepted.{IsAccepted}
use Rattle.lp_constraints.specs.declared.fault.NoCert.{NoCert}
use Rattle.lp_constraints.specs.declared.fault.NoCert.TheVariants as no_cert
use Rattle.lp_constraints.specs.Inference as inference
use Rattle.lp_constraints.specs.Inference.{Infers}
use Rattle.cause_texts.specs.declared.cause.Cause.{Cause}
use Rattle.cause_texts.specs.declared.cause.Cause.TheVariants as cause
use Rattle.grail_bundle.specs.Bundles.{Bundle}

pub data Compiled : Type 0 where
  -- the bytes of the code and of the certificate
  Bundled : (code cert : List ℕ) → Compiled
  Refused : Cause → Compiled

-- what an answer stands for; nothing where memory ran out
abbrev pub compiled_of : Result Bundle (Stop Cause) → Option Compiled
compiled_of (Ok bundle) = Some (Bundled bundle.code bundle.cert)
compiled_of (Err (Fault cause)) = Some (Refused cause)
compiled_of (Err Memory) = None

-- ---- of code: a certificate

abbrev pub IsNoCert : Code → NoCert → Type 0
IsNoCert p (no_cert.TooMany unknowns rows) = Infers p (inference.TooMany unknowns rows)
IsNoCert p no_cert.NoBound = Infers p inference.NoBound
IsNoCert p no_cert.Wide = Infers p inference.Wide
IsNoCert p no_cert.Spent = Infers p inference.Spent

-- the bytes are the code's spelling in the second format
pub record IsWritten (p : Code) (bytes : List ℕ) : Type 0 where
  pub fits : FitsCode Second p
  pub is : bytes ≡ spelling Second p

-- the code's spelling in the second format, and the text of the certificate that is inferred
pub record IsBundle (p : Code) (code cert : List ℕ) : Type 0 where
  pub spelled : IsWritten p code
  pub certificate : Cert
  pub inferred : Infers p (inference.Found certificate)
  pub text : text_of certificate ≡ cert

abbrev pub IsCertified : Code → Compiled → Type 0
IsCertified p (Bundled code cert) = IsBundle p code cert
IsCertified p (Refused (cause.NoCert fault)) = IsNoCert p fault
IsCertified p answer = ⊥

-- ---- of a typed program that keeps the rule of use: code

abbrev pub IsGenerated : Typing → Compiled → Type 0
IsGenerated t (Refused (cause.Normal fault)) = program_fault t ≡ Some fault
IsGenerated t answer = (program_fault t ≡ None) × IsCertified (compiled t) answer

-- ---- of a typed program: the rule of use

abbrev pub IsLinear : Typing → Compiled → Type 0
IsLinear t (Refused (cause.Uses fault)) = first (faults_of t) ≡ Some fault
IsLinear t answer = KeepsRule t × IsGenerated t answer

-- ---- of a program: its types

-- the program is typed so, what nothing fixes being `int`, and this is said of it
pub record OfTyping (p : Source) (Says : Typing → Type 0) : Type 0 where
  pub typing : Typing
  pub source : typing.source ≡ p
  pub typed : IsTyping typing
  pub settled : IsSettled typing
  pub says : Says typing

abbrev pub IsTyped : Source → Compiled → Type 0
IsTyped p (Refused (cause.Types fault)) = walk.HasFault p fault
IsTyped p answer = OfTyping p (λ t. IsLinear t answer)

-- ---- of a text: its program

-- the text is this program, of which this is said
pub record OfProgram (text : List ℕ) (Says : Source → Type 0) : Type 0 where
  pub source : Source
  pub program : HasProgram text source
  pub says : Says source

abbrev pub IsCompiled : List ℕ → Compiled → Type 0
IsCompiled text (Refused (cause.Parse fault)) = grammar.HasCause text fault
IsCompiled text answer = OfProgram text (λ p. IsTyped p answer)

-- ---- what is said of answers

-- the answer is so, or memory ran out
abbrev pub IsSo : (Compiled → Type 0) → Option Compiled → Type 0
IsSo Is (Some answer) = Is answer
IsSo Is None = Unit {0}

-- what is so is answered, unless memory ran out
abbrev pub Answers : Option Compiled → Compiled → Type 0
Answers (Some found) answer = found ≡ answer
Answers None answer = Unit {0}

-- this is said of the code of the program that the text is: a program has one typing where what nothing fixes is `int`
abbrev pub OfCode : List ℕ → (Code → Type 0) → Type 0
OfCode text Says = (typing : Typing) → HasProgram text typing.source → IsTyping typing → IsSettled typing → Says (compiled typing)

-- The bytes are the text of this certificate, the one that is inferred for this code. The verifier accepts both texts,
-- and its licence is of these two. No other certificate that grants the code, with numbers of any size, costs less.
pub record IsCertifiedBy (code cert : List ℕ) (p : Code) (certificate : Cert) : Type 0 where
  pub spelled : IsWritten p code
  pub text : text_of certificate ≡ cert
  pub inferred : Infers p (inference.Found certificate)
  pub accepted : IsAccepted code cert (record { code = p; cert = certificate })
  pub least : IsLeastCertificate p certificate

pub record HasCertificate (code cert : List ℕ) (p : Code) : Type 0 where
  pub certificate : Cert
  pub is : IsCertifiedBy code cert p certificate

-- no certificate, with numbers of any size, grants this code
abbrev pub NoneGrants : Code → Type 0
NoneGrants p = (c : Cert) → Grants p c → ⊥
