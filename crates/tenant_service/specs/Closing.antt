-- Private: words for functions of this crate.
-- The jobs whose cells are out, while all of them go back.
use Rattle.std.specs.Prelude.{◌≡◌, ℕ, suc, List, [], ◌∷◌, ◌++◌, length}
use Rattle.std.specs.List.{AllByRecursion}
use Rattle.hole_list.specs.Placing.{IsOut}
use Rattle.hole_list.specs.Holes.{Holed, run_of as place_of}
use Rattle.tenant_desk.specs.Desk.{Tenants, NoneOut}
use Rattle.tenant_service.specs.declared.holding.Holding.{Holding as DeclaredHolding}

-- the job's lease is of this tenant, and its run is out in this piece
pub record IsOutOf (tenant : ℕ) (p : Holed) (d : DeclaredHolding) : Type 0 where
  pub owner : d.lease.tenant ≡ tenant
  pub out : IsOut p.out (place_of d.lease.range)
  pub arena : d.lease.range.arena ≡ p.arena

-- the first index of each is another one
abbrev pub FirstsDiffer : List DeclaredHolding → Type 0
FirstsDiffer [] = Unit {0}
FirstsDiffer (d ∷ ds) = AllByRecursion (λ (e : DeclaredHolding). e.lease.range.first ≡ d.lease.range.first → ⊥) ds × FirstsDiffer ds

-- these have all runs of the piece that are out
pub record AreOut (tenant : ℕ) (p : Holed) (ds : List DeclaredHolding) : Type 0 where
  pub each : AllByRecursion (IsOutOf tenant p) ds
  pub differ : FirstsDiffer ds
  pub count : length p.out ≡ length ds

-- the same of tenants from this number on; no run is out of the pieces behind theirs
abbrev pub AreOutFrom : (tenant : ℕ) → List Holed → List (List DeclaredHolding) → Type 0
AreOutFrom tenant ps [] = NoneOut ps
AreOutFrom tenant [] (ds ∷ vs) = ⊥
AreOutFrom tenant (p ∷ ps) (ds ∷ vs) = AreOut tenant p ds × AreOutFrom (suc tenant) ps vs

-- of a desk, of tenants from number 0 on
abbrev pub AllOut : Tenants → List (List DeclaredHolding) → Type 0
AllOut d vs = AreOutFrom 0 d.pieces vs

-- these jobs are those of the last tenant that has runs out
pub record AreLast (d : Tenants) (ds : List DeclaredHolding) : Type 0 where
  pub before : List (List DeclaredHolding)
  pub out : AllOut d (before ++ ds ∷ [])
