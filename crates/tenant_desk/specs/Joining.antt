-- Private: words for functions of this crate.
-- What is answered from one piece, and what lies behind a run.
use Rattle.std.specs.Prelude.{◌≡◌, ℕ, ◌+◌, ◌<◌, ◌≤◌, List, [], ◌∷◌, ◌++◌, map}
use Rattle.cell_span.specs.Range.{Range, Meet, front, joined}
use Rattle.cell_span.specs.Arenas.{Arena}
use Rattle.hole_list.specs.Placing.{largest}
use Rattle.hole_list.specs.Holes.{Holed, AreHoles, run_of, new_holes, TookFrom}
use Rattle.tenant_desk.specs.declared.ask.Ask.{Ask}
use Rattle.tenant_desk.specs.declared.ask.Ask.TheVariants as answer
use Rattle.tenant_desk.specs.Leases.{lease}
use Rattle.tenant_desk.specs.Desk.{Tenants, held, budget}

abbrev pub tenants : Arena → (most : ℕ) → List Holed → List Range → Tenants
tenants a most pieces rest = record { arena = a; most = most; pieces = pieces; rest = rest }

-- what a tenant is answered from its piece
abbrev pub PieceIs : Holed → Holed → (tenant size : ℕ) → Ask → Type 0
PieceIs old new tenant size (answer.Granted l) = (held old + size ≤ budget old) × TookFrom old new size l.range × (l ≡ lease tenant old.base.first l.range)
PieceIs old new tenant size (answer.Over holds asked most) =
    (budget old < held old + size) × (holds ≡ held old) × (asked ≡ size) × (most ≡ budget old) × (new ≡ old)
PieceIs old new tenant size (answer.Full need most) =
    (held old + size ≤ budget old) × (need ≡ size) × (most ≡ largest (map run_of old.holes)) × (most < need) × (new ≡ old)

-- holes over the same run of the same arena, of which as many runs may be out
pub record Stays (old new : Holed) : Type 0 where
  pub arena : new.arena ≡ old.arena
  pub base : new.base ≡ old.base
  pub most : new.most_out ≡ old.most_out
  pub holes : AreHoles new

-- with a piece that is the front of this run behind the others
abbrev pub with_front : List Holed → Range → (size most : ℕ) → List Holed
with_front ps r size most = ps ++ new_holes (front r size) most ∷ []

-- a run with these behind it
abbrev pub with_rest : Range → List Range → Range
with_rest r [] = r
with_rest r (s ∷ ss) = with_rest (joined r s) ss

-- the first of these begins where the run ends
abbrev pub MeetsRest : Range → List Range → Type 0
MeetsRest r [] = Unit {0}
MeetsRest r (s ∷ ss) = Meet r s
