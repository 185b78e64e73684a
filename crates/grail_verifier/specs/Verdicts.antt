-- Cited by contracts.
-- What the verifier answers of bytes, and why: the first of these that is so. The bytes spell no code; the code isn't
-- well formed; the bytes of the certificate are no certificate's text; the certificate doesn't fit the code; a check of
-- its list fails.
use Rattle.std.specs.Prelude.{◌≡◌, ℕ, ◌<◌, ℤ, pos, List, Some, None, Result, Ok, Err}
use Rattle.grail_code.specs.Code.{Code}
use Rattle.stops.specs.declared.stop.Stop.{Stop}
use Rattle.stops.specs.declared.stop.Stop.TheVariants.{Fault, Memory}
use Rattle.grail_code.specs.Spelling.{IsSpelling}
use Rattle.grail_code.specs.Decoding.{IsFault as IsCodeFault}
use Rattle.grail_code.specs.WellFormed.{IsWellFormed}
use Rattle.grail_check.specs.Walk.{FirstFault, walk}
use Rattle.certificate.specs.Certificates.{Cert, IsCert}
use Rattle.certificate.specs.Text.{text_of}
use Rattle.certificate.specs.Answers.{IsFault as IsCertFault}
use Rattle.licence.specs.Books.{book_of}
use Rattle.licence.specs.Checks.{Check, checks_of, integers, in_integers, FirstFails}
use Rattle.licence.specs.Failing.{RuleFails}
use Rattle.licence.specs.Fitting.{Fits, IsMisfit, Grants}
use Rattle.licence.specs.Licensed.{Licensed}
use Rattle.grail_verifier.specs.declared.refusal.Refusal.{Refusal}
use Rattle.grail_verifier.specs.declared.refusal.Refusal.TheVariants as refusal

-- the same check, in numbers that may be negative
abbrev pub in_numbers : Check ℕ → Check ℤ
in_numbers c = record { func = c.func; block = c.block; place = c.place; con = c.con; have = pos c.have; need = pos c.need }

-- The certificate fits, and this is the first check of the list that fails; less is there than is asked, and the rule
-- of this place fails.
pub record IsShort (p : Code) (c : Cert) (check : Check ℕ) : Type 0 where
  pub fits : Fits p c
  pub rule : RuleFails p (book_of c) check.func check.block check.place
  pub first : FirstFails (checks_of integers p (in_integers (book_of c))) (in_numbers check)
  pub less : check.have < check.need

-- of well-formed code and a certificate
abbrev pub IsRefused : Code → Cert → Refusal → Type 0
IsRefused p c (refusal.Shape func block) = IsMisfit p c func block
IsRefused p c (refusal.Need func block place have need) = IsShort p c (record { func = func; block = block; place = place; con = None; have = have; need = need })
IsRefused p c (refusal.Weak func block place con have need) = IsShort p c (record { func = func; block = block; place = place; con = Some con; have = have; need = need })
IsRefused p c r = ⊥

abbrev pub IsJudged : Code → Cert → Result Licensed Refusal → Type 0
IsJudged p c (Ok l) = (l ≡ record { code = p; cert = c }) × Grants p c
IsJudged p c (Err r) = IsRefused p c r

-- the bytes are the text of this certificate, of which this is said
pub record OfCert (bytes : List ℕ) (Says : Cert → Type 0) : Type 0 where
  pub cert : Cert
  pub right : IsCert cert
  pub text : text_of cert ≡ bytes
  pub says : Says cert

-- of well-formed code and the bytes of a certificate
abbrev pub IsRead : Code → List ℕ → Result Licensed Refusal → Type 0
IsRead p cert (Err (refusal.Cert fault)) = IsCertFault cert fault
IsRead p cert r = OfCert cert (λ c. IsJudged p c r)

-- of code and the bytes of a certificate
abbrev pub IsChecked : Code → List ℕ → Result Licensed Refusal → Type 0
IsChecked p cert (Err (refusal.Kinds fault)) = FirstFault (walk p) fault
IsChecked p cert r = IsWellFormed p × IsRead p cert r

-- the bytes spell this code, of which this is said
pub record OfCode (bytes : List ℕ) (Says : Code → Type 0) : Type 0 where
  pub code : Code
  pub spelled : IsSpelling code bytes
  pub says : Says code

-- of bytes
abbrev pub IsVerdict : (code cert : List ℕ) → Result Licensed Refusal → Type 0
IsVerdict code cert (Err (refusal.Code fault)) = IsCodeFault code fault
IsVerdict code cert r = OfCode code (λ p. IsChecked p cert r)

-- The answer is a verdict of which this is so, or memory ran out.
abbrev pub VerdictIs : (Result Licensed Refusal → Type 0) → Result Licensed (Stop Refusal) → Type 0
VerdictIs P (Ok l) = P (Ok l)
VerdictIs P (Err (Fault r)) = P (Err r)
VerdictIs P (Err Memory) = Unit {0}

-- The answer is this verdict, or memory ran out.
abbrev pub IsThisVerdict : Result Licensed Refusal → Result Licensed (Stop Refusal) → Type 0
IsThisVerdict verdict = VerdictIs (λ v. v ≡ verdict)
