-- Private: words for functions of this crate.
-- Sets of locals as the bits of words, beside the state of locals and the parameters of blocks.
use Rattle.std.specs.Prelude.{◌≡◌, ℕ, ◌/◌, ◌%◌, List, get_or, slice_get, Option, Some, None, true, ◌⊎◌}
use Rattle.std.specs.Int.{bit_at}
use Rattle.std.specs.Coded.{Unit-prop}
use Rattle.std.specs.List.{AllByRecursion, AllByRecursion-prop}
use Rattle.std.proofs.Math.Nat.{ℕ_set}
use Rattle.std.proofs.Math.Path.{fun_ext}
use Rattle.grail_code.specs.Code.{Block}
use Rattle.grail_code.specs.WellFormed.{params_at}
use Rattle.grail_check.specs.Faulting.{is_among}
use Rattle.grail_check.specs.declared.local_set.LocalSet.{LocalSet}
use Rattle.grail_check.specs.declared.locals.Mark.{Mark}
use Rattle.grail_check.specs.declared.locals.Mark.TheVariants.{Ready}

-- the set of these words of 64 bits has the number
unfoldable pub Has : List ℕ → ℕ → Type 0
Has words x = bit_at (get_or words (x / 64) 0) (x % 64) ≡ 1

-- what is in the set is ready
unfoldable pub AreReady : List Mark → List ℕ → Type 0
AreReady marks words = (x : ℕ) → Has words x → slice_get marks x ≡ Some Ready

-- what is in the set is ready, or among these, which count as bound and unused
unfoldable pub AreUsable : List Mark → List ℕ → List ℕ → Type 0
AreUsable marks bound words = (x : ℕ) → Has words x → (is_among bound x ≡ true) ⊎ (slice_get marks x ≡ Some Ready)

-- the set has all of these
unfoldable pub HasAll : List ℕ → List ℕ → Type 0
HasAll words xs = AllByRecursion (Has words) xs

-- the same, where there is a set
abbrev pub MayHaveAll : Option LocalSet → List ℕ → Type 0
MayHaveAll None xs = Unit {0}
MayHaveAll (Some set) xs = HasAll set.words xs

-- for each block the set of its parameters, or none
unfoldable pub HaveParams : List (Option LocalSet) → List Block → Type 0
HaveParams sets blocks = (b : ℕ) → MayHaveAll (get_or sets b None) (params_at blocks b)

-- ---- these are propositions, as a ghost field has to be

has_prop : (words : List ℕ) (x : ℕ) → IsProp (Has words x)
unfolding Has
has_prop words x = ℕ_set (bit_at (get_or words (x / 64) 0) (x % 64)) 1

all_prop : (words xs : List ℕ) → IsProp (HasAll words xs)
unfolding HasAll
all_prop words xs = AllByRecursion-prop (Has words) (has_prop words) xs

may_prop : (set : Option LocalSet) (xs : List ℕ) → IsProp (MayHaveAll set xs)
may_prop None xs = Unit-prop
may_prop (Some set) xs = all_prop set.words xs

pub params_prop : (sets : List (Option LocalSet)) (blocks : List Block) → IsProp (HaveParams sets blocks)
unfolding HaveParams
params_prop sets blocks f g = fun_ext (λ b. may_prop (get_or sets b None) (params_at blocks b) (f b) (g b))
