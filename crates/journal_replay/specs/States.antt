-- Private: words for functions of this crate.
-- The state of a desk as the code keeps it.
use Rattle.std.specs.Prelude.{drop}
use Rattle.lease_desk.specs.Journal.{DeskState}
use Rattle.journal_replay.specs.declared.state.State.{State}

-- as plain data
abbrev pub state_of : State → DeskState
state_of s = record { asked = s.asked; waiting = drop s.served s.waiting.items; holes = s.holes.items; leases = s.leases.items }
