-- Cited by contracts.
-- The licence of a Camelot source: the code of its program with the certificate that is inferred for it, which the
-- verifier accepts from their bytes alone.
use Rattle.std.specs.Prelude.{◌≡◌, ℕ, List, Option, Some, None, Result, Ok, Err}
use Rattle.stops.specs.declared.stop.Stop.{Stop}
use Rattle.stops.specs.Stopping.{FaultIs}
use Rattle.camelot_grammar.specs.Parsing.{HasProgram}
use Rattle.camelot_typing.specs.Typed.{Typing, IsTyping}
use Rattle.camelot_typing.specs.Settled.{IsSettled}
use Rattle.linear_use.specs.Answers.{KeepsRule}
use Rattle.normal_form.specs.Answers.{program_fault}
use Rattle.code_gen.specs.Generated.{compiled}
use Rattle.grail_code.specs.Spelling.{Second, FitsCode, spelling}
use Rattle.certificate.specs.Text.{text_of}
use Rattle.licence.specs.Licensed.{Licensed}
use Rattle.grail_verifier.specs.Accepted.{IsAccepted}
use Rattle.lp_system.specs.Found.{IsLeastCertificate}
use Rattle.lp_constraints.specs.Inference as inference
use Rattle.lp_constraints.specs.Inference.{Infers}
use Rattle.cause_texts.specs.declared.cause.Cause.{Cause}
use Rattle.camelot_compiler.specs.Compiled.{IsCompiled, Refused}

-- The text is this program, typed so, what nothing fixes being `int`. It keeps the rule of use, and no function is too
-- large. The licence is of its code, which has a spelling, and of the certificate that is inferred for it.
pub record HasLicence (text : List ℕ) (t : Typing) (l : Licensed) : Type 0 where
  pub program : HasProgram text t.source
  pub typed : IsTyping t
  pub settled : IsSettled t
  pub rule : KeepsRule t
  pub fits : program_fault t ≡ None
  pub code : l.code ≡ compiled t
  pub spelled : FitsCode Second l.code
  pub inferred : Infers l.code (inference.Found l.cert)

-- The verifier accepts the spelling of its code and the text of its certificate, as `compile` writes them.
pub record IsLicence (text : List ℕ) (l : Licensed) : Type 0 where
  pub typing : Typing
  pub has : HasLicence text typing l
  pub accepted : IsAccepted (spelling Second l.code) (text_of l.cert) l

-- What stands behind two texts that a source is compiled to: the verifier accepts them, and its licence is that of the
-- source; no certificate that grants the licence's code, with numbers of any size, costs less than the licence's.
pub record IsCertifiedFor (text code cert : List ℕ) : Type 0 where
  pub licence : Licensed
  pub is : IsLicence text licence
  pub accepted : IsAccepted code cert licence
  pub least : IsLeastCertificate licence.code licence.cert

-- what is answered is so; nothing is said where memory ran out
abbrev pub IsLicensedOr : List ℕ → Result Licensed (Stop Cause) → Type 0
IsLicensedOr text (Ok l) = IsLicence text l
IsLicensedOr text (Err stop) = FaultIs (λ cause. IsCompiled text (Refused cause)) stop
