-- Cited by contracts.
-- Annotated code whose amounts pay for it, as a licence keeps it.
use Rattle.std.specs.Prelude.{ℕ}
use Rattle.camelot_values.specs.Kinds.{AreTypes}
use Rattle.grail_code.specs.Code.{Code}
use Rattle.grail_code.specs.Soundness.{HaveBlocks}
use Rattle.grail_code.specs.WellFormed.{IsWellFormed}
use Rattle.licence.specs.Books.{Book}
use Rattle.licence.specs.Rules.{Pays}

-- well-formed code whose functions have blocks, within the limits of types, and amounts by which each rule holds
pub record IsAnnotated (p : Code) (book : Book ℕ) : Type 0 where
  pub well : IsWellFormed p
  pub some : HaveBlocks p
  pub types : AreTypes p.types
  pub pays : Pays p book
