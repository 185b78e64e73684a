-- Cited by contracts.
-- The commands, the words that spell them, and which of them read their input.
use Rattle.std.specs.Prelude.{◌≡◌, ℕ, Bool, true, false, List, [], ◌∷◌, Option, Some, codes, decimal}
use Rattle.job_script.specs.Scripts.{IsUpTo}

-- what the host is asked to do with its input
pub data Command : Type 0 where
  -- to report on a script
  Serve : Command
  -- to compile a Camelot source to a bundle
  Compile : Command
  -- to verify a bundle
  Verify : Command
  -- to write a bundle again, its code in the second format
  Migrate : Command
  -- to tell the tenants of a script what their jobs come to
  Tenants : Command
  -- to report on a script whose jobs run in slices of so many steps
  Sliced : (steps : ℕ) → Command
  -- to serve the drill's script with so many jobs, on so many workers
  Drill : (jobs workers : ℕ) → Command

-- `sliced N`, in decimal without leading zeros: at most 1,000,000,000 steps, and at least one
pub record IsSliced (words : List (List ℕ)) (steps : ℕ) : Type 0 where
  pub are : words ≡ codes "sliced" ∷ decimal steps ∷ []
  pub few : IsUpTo 1000000000 steps

-- `drill N W`, in decimal without leading zeros: at most 4,096 jobs and 16 workers, and at least one of each
pub record IsDrill (words : List (List ℕ)) (jobs workers : ℕ) : Type 0 where
  pub are : words ≡ codes "drill" ∷ decimal jobs ∷ decimal workers ∷ []
  pub few_jobs : IsUpTo 4096 jobs
  pub few_workers : IsUpTo 16 workers

-- the words spell the command
abbrev pub IsCommand : List (List ℕ) → Command → Type 0
IsCommand words Serve = words ≡ codes "serve" ∷ []
IsCommand words Compile = words ≡ codes "compile" ∷ []
IsCommand words Verify = words ≡ codes "verify" ∷ []
IsCommand words Migrate = words ≡ codes "migrate" ∷ []
IsCommand words Tenants = words ≡ codes "tenants" ∷ []
IsCommand words (Sliced steps) = IsSliced words steps
IsCommand words (Drill jobs workers) = IsDrill words jobs workers

-- the words spell no command
abbrev pub IsNoCommand : List (List ℕ) → Type 0
IsNoCommand words = (command : Command) → IsCommand words command → ⊥

-- whether the command reads its input; the input of one that doesn't is empty
abbrev pub reads : Command → Bool
reads Serve = true
reads Compile = true
reads Verify = true
reads Migrate = true
reads Tenants = true
reads (Sliced steps) = true
reads (Drill jobs workers) = false

-- this is the command's input, where the source tells the bytes that it has left
abbrev pub IsInputBy : Bool → Option (List ℕ) → List ℕ → Type 0
IsInputBy true left input = left ≡ Some input
IsInputBy false left input = input ≡ []

abbrev pub IsInput : Command → Option (List ℕ) → List ℕ → Type 0
IsInput command left input = IsInputBy (reads command) left input
