-- Cited by contracts.
-- What is due for an input, by the command.
use Rattle.std.specs.Prelude.{◌≡◌, ℕ, ◌++◌, List, [], ◌∷◌, codes}
use Rattle.grail_code.specs.Decoding.{IsMigration, IsFault as IsDecodeFault}
use Rattle.grail_code.specs.declared.fault.DecodeFault.{DecodeFault}
use Rattle.grail_verifier.specs.declared.refusal.Refusal.TheVariants as refusal
use Rattle.cause_texts.specs.declared.cause.Cause.{Cause}
use Rattle.cause_texts.specs.declared.cause.Cause.TheVariants as cause
use Rattle.cause_texts.specs.Texts.{cause_text}
use Rattle.grail_bundle.specs.Bundles.{Bundle, bundle_text}
use Rattle.grail_bundle.specs.Faults.{IsFault}
use Rattle.camelot_compiler.specs.Compiled as compiler
use Rattle.camelot_compiler.specs.Compiled.{IsCompiled}
use Rattle.licence.specs.Licensed.{Licensed}
use Rattle.bundle_licence.specs.Bundled.{IsTextOf, HasLicence, IsRefusedFor}
use Rattle.licence_text.specs.Texts.{bounds_text}
use Rattle.script_service.specs.Service.{IsReport, IsRefusal, IsSummary}
use Rattle.script_service.specs.Sliced.{IsSlicedReport}
use Rattle.tenant_service.specs.Service as tenants
use Rattle.camelot_host.specs.Commands.{Command, Serve, Compile, Verify, Migrate, Tenants, Sliced, Drill}

-- whether a command did what it was asked for, or refused its input
pub data Verdict : Type 0 where
  Done : Verdict
  Refused : Verdict

-- the line that a cause is told in
unfoldable pub refused_line : Cause → List ℕ
refused_line cause = codes "refused " ++ cause_text cause ++ 10 ∷ []

-- ---- compile

-- the output is the text of the source's bundle
pub record IsBundleOf (input output : List ℕ) : Type 0 where
  pub code : List ℕ
  pub cert : List ℕ
  pub compiled : IsCompiled input (compiler.Bundled code cert)
  pub is : output ≡ bundle_text code cert

-- the source is refused, and the output tells its cause
pub record IsRefusalOf (input output : List ℕ) : Type 0 where
  pub cause : Cause
  pub compiled : IsCompiled input (compiler.Refused cause)
  pub is : output ≡ refused_line cause

-- ---- verify

-- the input is a bundle that has this licence, by its bytes alone, and the output tells what the licence grants
pub record IsBoundsOf (input output : List ℕ) : Type 0 where
  pub licence : Licensed
  pub has : HasLicence input licence
  pub is : output ≡ bounds_text licence

-- the input has no licence, and the output tells the cause: its first wrong line, where it is no bundle, or the
-- verifier's refusal
pub record IsUnlicensed (input output : List ℕ) : Type 0 where
  pub cause : Cause
  pub refused : IsRefusedFor input cause
  pub is : output ≡ refused_line cause

-- ---- migrate

-- the input is a bundle, and the output is the same one, but for its code, which is spelled in the second format
pub record IsMigrationOf (input output : List ℕ) : Type 0 where
  pub bundle : Bundle
  pub of : IsTextOf input bundle
  pub code : List ℕ
  pub migrated : IsMigration bundle.code code
  pub is : output ≡ bundle_text code bundle.cert

-- the input is a bundle, and this is wrong with the bytes of its code
pub record HasWrongCode (input : List ℕ) (fault : DecodeFault) : Type 0 where
  pub bundle : Bundle
  pub of : IsTextOf input bundle
  pub wrong : IsDecodeFault bundle.code fault

-- why an input isn't migrated: its first wrong line, where it is no bundle, or that its bytes of code spell none; no
-- other cause
abbrev pub IsUnmigratedFor : List ℕ → Cause → Type 0
IsUnmigratedFor input (cause.Bundle line) = IsFault input line
IsUnmigratedFor input (cause.Verify (refusal.Code fault)) = HasWrongCode input fault
IsUnmigratedFor input c = ⊥

-- the input isn't migrated, and the output tells the cause
pub record IsUnmigrated (input output : List ℕ) : Type 0 where
  pub cause : Cause
  pub refused : IsUnmigratedFor input cause
  pub is : output ≡ refused_line cause

-- ---- all commands

-- with this verdict, the output is due for the input. It is a relation, since an output may depend on more than the
-- input.
abbrev pub IsDue : Command → List ℕ → Verdict → List ℕ → Type 0
IsDue Serve input Done output = IsReport input output
IsDue Serve input Refused output = IsRefusal input output
IsDue Compile input Done output = IsBundleOf input output
IsDue Compile input Refused output = IsRefusalOf input output
IsDue Verify input Done output = IsBoundsOf input output
IsDue Verify input Refused output = IsUnlicensed input output
IsDue Migrate input Done output = IsMigrationOf input output
IsDue Migrate input Refused output = IsUnmigrated input output
IsDue Tenants input Done output = tenants.IsReplied input output
IsDue Tenants input Refused output = tenants.IsRefusal input output
IsDue (Sliced steps) input Done output = IsSlicedReport steps input output
IsDue (Sliced steps) input Refused output = IsRefusal input output
IsDue (Drill jobs workers) input Done output = IsSummary jobs workers output
IsDue (Drill jobs workers) input Refused output = ⊥
