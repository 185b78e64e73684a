-- Cited by contracts.
-- Which licence a bundle has, from its text alone, and why a text has none.
use Rattle.std.specs.Prelude.{◌≡◌, ℕ, List, Result, Ok, Err}
use Rattle.stops.specs.declared.stop.Stop.{Stop}
use Rattle.stops.specs.Stopping.{FaultIs}
use Rattle.licence.specs.Licensed.{Licensed}
use Rattle.grail_bundle.specs.Bundles.{Bundle, IsBundle, bundle_text}
use Rattle.grail_bundle.specs.Faults.{IsFault}
use Rattle.grail_verifier.specs.Accepted.{IsAccepted}
use Rattle.grail_verifier.specs.Verdicts.{IsVerdict}
use Rattle.grail_verifier.specs.declared.refusal.Refusal.{Refusal}
use Rattle.cause_texts.specs.declared.cause.Cause.{Cause}
use Rattle.cause_texts.specs.declared.cause.Cause.TheVariants as cause

-- the text is this bundle's
pub record IsTextOf (text : List ℕ) (b : Bundle) : Type 0 where
  pub right : IsBundle b
  pub is : text ≡ bundle_text b.code b.cert

-- The text is a bundle's, and the verifier accepts its bytes: they spell the licence's code, which is well formed, and
-- are the text of the licence's certificate, which grants the code.
pub record HasLicence (text : List ℕ) (l : Licensed) : Type 0 where
  pub bundle : Bundle
  pub of : IsTextOf text bundle
  pub accepted : IsAccepted bundle.code bundle.cert l

-- the text is a bundle's, and this is the verifier's first refusal of it
pub record IsRefusedBy (text : List ℕ) (r : Refusal) : Type 0 where
  pub bundle : Bundle
  pub of : IsTextOf text bundle
  pub verdict : IsVerdict bundle.code bundle.cert (Err r)

-- why a text has no licence: its first wrong line, where it is no bundle's, or the verifier's refusal; no other cause
abbrev pub IsRefusedFor : List ℕ → Cause → Type 0
IsRefusedFor text (cause.Bundle line) = IsFault text line
IsRefusedFor text (cause.Verify r) = IsRefusedBy text r
IsRefusedFor text c = ⊥

-- ---- answers

-- what is answered is so; nothing is said where memory ran out
abbrev pub IsLicensedOr : List ℕ → Result Licensed (Stop Cause) → Type 0
IsLicensedOr text (Ok l) = HasLicence text l
IsLicensedOr text (Err stop) = FaultIs (IsRefusedFor text) stop
