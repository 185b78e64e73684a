-- Cited by contracts.
-- Frames that lend: a local is ready there of which the frame's function is lent the value.
use Rattle.std.specs.Prelude.{◌≡◌, ℕ, Bool, true, false, Option, Some, None, slice_get}
use Rattle.std.specs.List.{list_any}
use Rattle.grail_blocks.specs.States as states
use Rattle.grail_blocks.specs.States.{Ready}
use Rattle.grail_code.specs.Code.{Block, Func, Code}
use Rattle.grail_code.specs.WellFormed.{is_lent}

-- a local that is lent is ready
pub record HasLoan (p : Code) (f : Func) (s : states.State) : Type 0 where
  pub local : ℕ
  pub lent : is_lent p.types f local ≡ true
  pub ready : s local ≡ Ready

-- it is told that a local is lent and ready exactly where one is
pub record LendsWhere (p : Code) (f : Func) (s : states.State) (lends : Bool) : Type 0 where
  pub told : HasLoan p f s → lends ≡ true
  pub found : lends ≡ true → HasLoan p f s

-- a parameter of the block is lent
abbrev pub block_lends : Code → Func → Block → Bool
block_lends p f b = list_any (is_lent p.types f) b.params

abbrev pub lends_in_func : Code → Func → Option Block → Bool
lends_in_func p f None = false
lends_in_func p f (Some b) = block_lends p f b

abbrev pub lends_in : Code → Option Func → (block : ℕ) → Bool
lends_in p None block = false
lends_in p (Some f) block = lends_in_func p f (slice_get f.blocks block)

-- a parameter of this block of this function is lent
abbrev pub lends_at : Code → (func block : ℕ) → Bool
lends_at p func block = lends_in p (slice_get p.funcs func) block
