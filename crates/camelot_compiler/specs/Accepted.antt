-- Private: words for functions of this crate.
-- What the verifier may say of the bytes of a bundle that the compiler made.
use Rattle.std.specs.Prelude.{ℕ, List}
use Rattle.licence.specs.Licensed.{Licensed}
use Rattle.grail_verifier.specs.Accepted.{IsAccepted}

-- it accepts these bytes
pub record AreAccepted (code cert : List ℕ) : Type 0 where
  pub licence : Licensed
  pub accepted : IsAccepted code cert licence
