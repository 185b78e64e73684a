-- Private: words for functions of this crate.
-- The leases of a desk of several tenants that are out, and how many each tenant has.
use Rattle.std.specs.Prelude.{◌≡◌, ◌≢◌, ◌⊎◌, ℕ, List, [], ◌∷◌, ◌++◌, map, sum, length}
use Rattle.std.specs.List.{AllByRecursion}
use Rattle.hole_list.specs.Holes.{Holed, run_of}
use Rattle.tenant_desk.specs.Leases.{LeaseView}
use Rattle.tenant_desk.specs.Desk.{Tenants, IsHeld}

-- they are of two tenants, or begin at two indexes
abbrev pub Differ : LeaseView → LeaseView → Type 0
Differ l m = (m.tenant ≢ l.tenant) ⊎ (m.range.first ≢ l.range.first)

-- no two of these are of one tenant and begin at one index
abbrev pub AllDiffer : List LeaseView → Type 0
AllDiffer [] = Unit {0}
AllDiffer (l ∷ ls) = AllByRecursion (Differ l) ls × AllDiffer ls

-- how many runs of a piece are out
abbrev pub runs_out : Holed → ℕ
runs_out h = length h.out

-- so many leases of each tenant are out
abbrev pub AreCounts : Tenants → List ℕ → Type 0
AreCounts d outs = outs ≡ map runs_out d.pieces

-- these are the desk's leases that are out, and so many of each tenant
pub record AllOut (ls : List LeaseView) (d : Tenants) (outs : List ℕ) : Type 0 where
  pub held : AllByRecursion (IsHeld d) ls
  pub differ : AllDiffer ls
  pub counts : AreCounts d outs
  pub all : sum outs ≡ length ls

-- the lease was among the others
pub record WasAmong (old new : List LeaseView) (l : LeaseView) : Type 0 where
  pub before : List LeaseView
  pub behind : List LeaseView
  pub was : old ≡ before ++ l ∷ behind
  pub now : new ≡ before ++ behind

-- a lease of the same run to the same tenant
pub record IsLike (old new : LeaseView) : Type 0 where
  pub tenant : new.tenant ≡ old.tenant
  pub run : run_of new.range ≡ run_of old.range
  pub arena : new.range.arena ≡ old.range.arena
