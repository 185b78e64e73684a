-- What is due for a bundle.
use Rattle.std.proofs.Common.{◌≡◌, ℕ, List}
use Rattle.cause_texts.specs.declared.cause.Cause.{Cause}
use Rattle.licence.specs.Licensed.{Licensed}
use Rattle.bundle_licence.specs.Bundled.{HasLicence, IsRefusedFor}
use Rattle.licence_text.specs.Texts.{bounds_text}
use Rattle.camelot_host.specs.Due.{IsBoundsOf, IsUnlicensed, refused_line}

pub is_bounds : (input output : List ℕ) (l : Licensed) → HasLicence input l → output ≡ bounds_text l → IsBoundsOf input output
is_bounds input output l has is = record { licence = l; has = has; is = is }

pub is_unlicensed : (input output : List ℕ) (cause : Cause) → IsRefusedFor input cause → output ≡ refused_line cause → IsUnlicensed input output
is_unlicensed input output cause refused is = record { cause = cause; refused = refused; is = is }
