-- The cells of a plan's arguments.
use Rattle.std.proofs.Common.{◌≡◌, ℕ, zero, suc, ◌-◌, ◌≤◌, ◌<◌, List, [], ◌∷◌, length, sym, subst, arith}
use Rattle.std.specs.Prelude.{get_or}
use Rattle.camelot_values.specs.Value.{Value}
use Rattle.camelot_values.specs.Counts.{cells_among}
use Rattle.licence.specs.Bound.{bound, lease}
use Rattle.licence.specs.Licensed.{Licensed}
use Rattle.job_world.specs.Words.{IsCounted, AreCounted}
use Rattle.job_world.specs.declared.plan.Plan.{Plan as DeclaredPlan}

-- a lease has the bound's cells, and beyond them those of the arguments where it has more than one
pub bound_within : (l : Licensed) (entry : ℕ) (args : List Value) (most whole : ℕ) → most ≡ bound l.code l.cert entry args
    → whole ≡ lease l.code l.cert entry args → 1 < whole → most ≤ whole
bound_within l entry args most whole bounded leased more = omega (arith, bounded, leased, more)

pub cells_left : (l : Licensed) (entry : ℕ) (args : List Value) (most whole : ℕ) → most ≡ bound l.code l.cert entry args
    → whole ≡ lease l.code l.cert entry args → 1 < whole → whole - most ≡ cells_among l.code.types args
cells_left l entry args most whole bounded leased more = omega (arith, bounded, leased, more)

pub counted_at : (licences : List Licensed) (plans : List DeclaredPlan) (job : ℕ) (p : DeclaredPlan) → AreCounted licences plans → job < length plans
    → p ≡ get_or plans job p → IsCounted licences p
counted_at licences [] job p h there is = absurd (omega (arith, there))
counted_at licences (q ∷ plans) zero p h there is = subst (IsCounted licences) (sym is) h.0
counted_at licences (q ∷ plans) (suc job) p h there is = counted_at licences plans job p h.1 (omega (arith, there)) is
