-- Private: words for functions of this crate.
-- What comes of a turn of the caller, who has the desk alone.
use Rattle.std.specs.Prelude.{◌≡◌, ℕ, suc, ◌<◌, List, [], length}
use Rattle.job_workers.specs.declared.rest.Turn.{Turn}
use Rattle.job_workers.specs.declared.rest.Turn.TheVariants as turn

-- one job more was asked for, of so many; or every one was
abbrev pub AskedBy : {N : Type 0} → (jobs old new : ℕ) → Turn N → Type 0
AskedBy jobs old new (turn.More kept) = (old < jobs) × (new ≡ suc old)
AskedBy jobs old new turn.Over = new ≡ jobs

-- one job fewer waits, or none does
abbrev pub LeftBy : {N : Type 0} → (old new : List ℕ) → Turn N → Type 0
LeftBy old new (turn.More kept) = length new < length old
LeftBy old new turn.Over = new ≡ []
