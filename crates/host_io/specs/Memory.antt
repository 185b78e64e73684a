-- Cited by contracts.
-- What contracts see of the sources and sinks over memory.
use Rattle.std.specs.Prelude.{◌≡◌, ℕ, ◌+◌, ◌-◌, ◌<◌, ◌≤◌, ◌⊎◌, List, ◌++◌, length, take, drop, min, Contains, Option, Some, None, Result, Ok, Err, nat_le, if◌then◌else◌}
use Rattle.host_io.specs.Counts.{risen}

-- a source over memory: the bytes left, how many were taken, how many calls and faults there were, how
-- many bytes a call gives at most, and the numbers of the calls that fail, counted from 0
pub record Supply : Type 0 where
  pub left : List ℕ
  pub taken : ℕ
  pub calls : ℕ
  pub faults : ℕ
  pub most : ℕ
  pub fails : List ℕ

-- a sink over memory: the bytes told, how many calls and faults there were, how many bytes it has room
-- for in all and takes in one call, and the numbers of the calls that fail, counted from 0
pub record Store : Type 0 where
  pub told : List ℕ
  pub calls : ℕ
  pub faults : ℕ
  pub room : ℕ
  pub most : ℕ
  pub fails : List ℕ

-- What one call of a source over memory does: it fails exactly where its number is among those that fail,
-- and else puts the front of what is left into the buffer, as much as is there, as there is room for, and
-- as one call gives at most.
abbrev pub Supplies : {E : Type 0} → Supply → Supply → Result ℕ E → List ℕ → Type 0
Supplies old new (Ok n) into = ¬ Contains old.fails old.calls
    × (n ≡ min (min (length old.left) (length into)) old.most)
    × (take n into ≡ take n old.left)
    × (new ≡ record old { left = drop n old.left; taken = risen old.taken n; calls = risen old.calls 1 })
Supplies old new (Err e) into = Contains old.fails old.calls
    × (new ≡ record old { calls = risen old.calls 1; faults = risen old.faults 1 })

-- What one call of a sink over memory does: it fails exactly where its number is among those that fail or
-- the room is full, and else is told the front of the piece, as much as is there, as there is room for, and
-- as one call takes at most.
abbrev pub Stores : {E : Type 0} → Store → Store → Result ℕ E → List ℕ → Type 0
Stores old new (Ok n) piece = ¬ Contains old.fails old.calls
    × (length old.told < old.room)
    × (n ≡ min (min (length piece) (old.room - length old.told)) old.most)
    × (new ≡ record old { told = old.told ++ take n piece; calls = risen old.calls 1 })
Stores old new (Err e) piece = (Contains old.fails old.calls ⊎ (old.room ≤ length old.told))
    × (new ≡ record old { calls = risen old.calls 1; faults = risen old.faults 1 })

-- a source that never fails: the bytes left, and how many were taken
pub record SureSupply : Type 0 where
  pub left : List ℕ
  pub taken : ℕ

-- a sink that never fails: what it was told, as long as that had room
pub record SureStore : Type 0 where
  pub told : Option (List ℕ)
  pub room : ℕ

-- what is told after one more piece: nothing any more once the room is passed
abbrev pub told_after : ℕ → Option (List ℕ) → List ℕ → Option (List ℕ)
told_after room None piece = None
told_after room (Some xs) piece = if nat_le (length xs + length piece) room then Some (xs ++ piece) else None
