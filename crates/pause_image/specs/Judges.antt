-- Cited by contracts.
-- What the images of a licence's runs are judged by.
use Rattle.std.specs.Prelude.{◌≡◌, List, []}
use Rattle.annotations.specs.Vectors.{Vector}
use Rattle.annotations.specs.Tables as reach
use Rattle.frame_accounts.specs.Tables as accounts
use Rattle.frame_locals.specs.Tables as locals
use Rattle.licence.specs.Licensed.{Licensed}

-- which locals are ready at a place, what is left there, which kinds reach which constructors, and no annotations
pub record JudgeView : Type 0 where
  pub locals : List locals.Row
  pub accounts : accounts.Table
  pub reach : reach.Table
  pub none : Vector

-- they are those of the licence
pub record IsJudgeOf (l : Licensed) (j : JudgeView) : Type 0 where
  pub locals : j.locals ≡ locals.table_of l.code
  pub accounts : j.accounts ≡ accounts.table_of l
  pub reach : j.reach ≡ reach.table_of l.code.types
  pub none : j.none ≡ []
