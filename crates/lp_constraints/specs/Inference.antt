-- Cited by contracts.
-- What inference answers of a code, and when. Each answer comes exactly where it is so: the run of a system has one
-- outcome.
use Rattle.std.specs.Prelude.{◌≡◌, ◌⊎◌, ◌<◌, ◌≤◌, ℕ, List, length, Option, Some, None, Result, Ok, Err}
use Rattle.stops.specs.declared.stop.Stop.{Stop}
use Rattle.stops.specs.declared.stop.Stop.TheVariants.{Fault, Memory}
use Rattle.dual_simplex.specs.Run as run
use Rattle.dual_simplex.specs.Run.{IsOutcome}
use Rattle.grail_code.specs.Code.{Code}
use Rattle.certificate.specs.Certificates.{Cert, IsWithin}
use Rattle.lp_system.specs.Unknowns.{unknowns_of}
use Rattle.lp_system.specs.Forms.{rows_of, system_of}
use Rattle.lp_system.specs.Found.{certificate_of}
use Rattle.lp_constraints.specs.declared.fault.NoCert.{NoCert}
use Rattle.lp_constraints.specs.declared.fault.NoCert.TheVariants as no_cert

-- few enough unknowns and rows to be solved
pub record IsSmall (p : Code) : Type 0 where
  pub unknowns : length (unknowns_of p) ≤ 512
  pub rows : length (rows_of p) ≤ 1536

-- the run of the system ends with a solution, and this is its certificate
pub record IsSolution (p : Code) (c : Cert) : Type 0 where
  pub unit : ℕ
  pub values : List ℕ
  pub price_unit : ℕ
  pub prices : List ℕ
  pub outcome : IsOutcome (system_of p) (run.Least unit values price_unit prices)
  pub is : c ≡ certificate_of p unit values

pub data Inferred : Type 0 where
  Found : Cert → Inferred
  TooMany : (unknowns rows : ℕ) → Inferred
  NoBound : Inferred
  Wide : Inferred
  Spent : Inferred

-- A certificate is found where the run ends with a solution whose numbers are within the limits of certificates; there
-- is no bound where the run ends so; it is wide where a number of the run is, or one of the certificate; and spent
-- where the run has no end.
abbrev pub Infers : Code → Inferred → Type 0
Infers p (Found c) = IsSmall p × IsSolution p c × IsWithin c
Infers p (TooMany unknowns rows) = (unknowns ≡ length (unknowns_of p)) × (rows ≡ length (rows_of p)) × ((512 < unknowns) ⊎ (1536 < rows))
Infers p NoBound = IsSmall p × ((variable : ℕ) × IsOutcome (system_of p) (run.Nothing variable))
Infers p Wide = IsSmall p × (((pivot : ℕ) × IsOutcome (system_of p) (run.Wide pivot)) ⊎ ((c : Cert) × IsSolution p c × (IsWithin c → ⊥)))
Infers p Spent = IsSmall p × IsOutcome (system_of p) run.Spent

-- what the code's answer stands for; nothing where memory ran out
abbrev pub inferred_of : Result Cert (Stop NoCert) → Option Inferred
inferred_of (Ok c) = Some (Found c)
inferred_of (Err (Fault (no_cert.TooMany unknowns rows))) = Some (TooMany unknowns rows)
inferred_of (Err (Fault no_cert.NoBound)) = Some NoBound
inferred_of (Err (Fault no_cert.Wide)) = Some Wide
inferred_of (Err (Fault no_cert.Spent)) = Some Spent
inferred_of (Err Memory) = None

-- the answer is so, or memory ran out
abbrev pub IsSo : Code → Option Inferred → Type 0
IsSo p (Some answer) = Infers p answer
IsSo p None = Unit {0}

-- what is so is answered, unless memory ran out
abbrev pub Answers : Option Inferred → Inferred → Type 0
Answers (Some found) answer = found ≡ answer
Answers None answer = Unit {0}
