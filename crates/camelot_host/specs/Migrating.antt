-- Private: words for functions of this crate.
-- What comes of a bundle that is to be migrated.
use Rattle.std.specs.Prelude.{◌≡◌, ℕ, List, Result, Ok, Err}
use Rattle.stops.specs.declared.stop.Stop.{Stop}
use Rattle.stops.specs.Stopping.{FaultIs}
use Rattle.grail_code.specs.Decoding.{IsMigration}
use Rattle.grail_bundle.specs.Bundles.{Bundle}
use Rattle.bundle_licence.specs.Bundled.{IsTextOf}
use Rattle.cause_texts.specs.declared.cause.Cause.{Cause}
use Rattle.camelot_host.specs.Due.{IsUnmigratedFor}

-- this bundle is the input's, but for its code, which is spelled in the second format
pub record IsMigratedAs (input : List ℕ) (migrated : Bundle) : Type 0 where
  pub bundle : Bundle
  pub of : IsTextOf input bundle
  pub code : IsMigration bundle.code migrated.code
  pub cert : migrated.cert ≡ bundle.cert

-- what is answered is so; nothing is said where memory ran out
abbrev pub IsMigratedOr : List ℕ → Result Bundle (Stop Cause) → Type 0
IsMigratedOr input (Ok b) = IsMigratedAs input b
IsMigratedOr input (Err stop) = FaultIs (IsUnmigratedFor input) stop
