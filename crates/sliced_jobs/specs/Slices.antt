-- Cited by contracts.
-- The slices that a run takes, by the machine's own steps and without any pause: so many steps, and then as many as it
-- takes until nothing is lent. The run of a plan has one number of them, whatever else runs.
use Rattle.std.specs.Prelude.{◌≡◌, ℕ, zero, suc, ◌<◌, ◌≤◌, ◌⊎◌, false, List, [], ◌∷◌, slice_get, Some, sum}
use Rattle.std.specs.List.{AllByRecursion}
use Rattle.grail_code.specs.Code.{Func, Code}
use Rattle.licence.specs.Licensed.{Licensed}
use Rattle.cell_machine.specs.Loading.{begun, steps}
use Rattle.cell_machine.specs.State.{Configuration, Final, Running, Over, most_calls}
use Rattle.job_world.specs.Plans.{Plan, Planned}
use Rattle.pause_image.specs.Slicing.{LendsAfter, state_lends}

-- ---- one slice

-- The next state in which the run can be put aside: at least so many steps later, and the first one from there on in
-- which nothing is lent.
pub record IsNext (p : Code) (asked : ℕ) (s t : Configuration) : Type 0 where
  pub count : ℕ
  pub many : asked ≤ count
  pub are : steps p most_calls count (Running s) ≡ Running t
  pub unlent : state_lends p t ≡ false
  pub least : (n : ℕ) → asked ≤ n → n < count → LendsAfter p s n

-- the run is over before there is such a state
pub record IsLast (p : Code) (asked : ℕ) (s : Configuration) : Type 0 where
  pub final : Final
  pub count : ℕ
  pub are : steps p most_calls count (Running s) ≡ Over final
  pub least : (n : ℕ) → asked ≤ n → n < count → LendsAfter p s n

-- ---- all slices of a run

-- from this state on the run takes so many slices
abbrev pub TakesSlices : Code → (asked number : ℕ) → Configuration → Type 0
TakesSlices p asked zero s = ⊥
TakesSlices p asked (suc n) s = ((n ≡ 0) × IsLast p asked s) ⊎ ((t : Configuration) × IsNext p asked s t × TakesSlices p asked n t)

-- ---- the slices of plans

-- the state in which the run of a plan begins
abbrev pub beginning : Licensed → Func → Plan → Configuration
beginning l f p = begun l.code p.entry f p.args p.fuel p.lease

-- the run of the plan takes so many slices
pub record IsSliced (asked : ℕ) (licences : List Licensed) (p : Plan) (number : ℕ) : Type 0 where
  pub l : Licensed
  pub licence : slice_get licences p.licence ≡ Some l
  pub f : Func
  pub func : slice_get l.code.funcs p.entry ≡ Some f
  pub takes : TakesSlices l.code asked number (beginning l f p)

-- one number for each plan
abbrev pub AreSliced : (asked : ℕ) → List Licensed → List Plan → List ℕ → Type 0
AreSliced asked licences [] [] = Unit {0}
AreSliced asked licences [] (n ∷ ns) = ⊥
AreSliced asked licences (p ∷ ps) [] = ⊥
AreSliced asked licences (p ∷ ps) (n ∷ ns) = IsSliced asked licences p n × AreSliced asked licences ps ns

-- all plans together take so many
pub record AreSlices (asked : ℕ) (ps : Planned) (number : ℕ) : Type 0 where
  pub numbers : List ℕ
  pub each : AreSliced asked ps.licences ps.plans numbers
  pub all : number ≡ sum numbers

-- each plan has at most 2^40 units of fuel, so that an image can tell what is left of it
abbrev pub AreFuelled : Planned → Type 0
AreFuelled ps = AllByRecursion (λ p. p.fuel ≤ 1099511627776) ps.plans
