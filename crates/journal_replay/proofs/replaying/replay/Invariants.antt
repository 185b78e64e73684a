use Rattle.std.proofs.Common.{◌≡◌, length, Some}
use Rattle.lease_desk.specs.Journal.{after_events, replay}
use Rattle.journal_replay.specs.States.{state_of}
use Rattle.journal_replay.proofs.replaying.replay.Given as goal

abbrev pub invariant-events : goal.invariant-events
invariant-events l = after_events l.sizes (Some (state_of l.state)) l.rest ≡ replay l.arena l.sizes l.journal

abbrev pub decreases-events : goal.decreases-events
decreases-events l = length l.rest
