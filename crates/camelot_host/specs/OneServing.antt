-- Cited by contracts.
-- Devices that tell their bytes.
use Rattle.std.specs.Prelude.{◌≡◌, List, ℕ, Some}
use Rattle.camelot_host.specs.Answers.{Devices}

-- the source tells what it has left, and the sink what it was told, before and after
pub record TellBytes (before after : Devices) : Type 0 where
  pub left : List ℕ
  pub left_is : before.left ≡ Some left
  pub rest : List ℕ
  pub rest_is : after.left ≡ Some rest
  pub old : List ℕ
  pub old_is : before.told ≡ Some old
  pub new : List ℕ
  pub new_is : after.told ≡ Some new
