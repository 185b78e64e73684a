-- Cited by contracts.
-- What a desk answers when it is asked for the next job.
use Rattle.std.specs.Prelude.{◌≡◌, length, None}
use Rattle.lease_desk.specs.declared.desk.Next.{Next}
use Rattle.lease_desk.specs.declared.desk.Next.TheVariants as answer
use Rattle.lease_desk.specs.Journal.{next_move}
use Rattle.lease_desk.specs.Desk.{DeskView, Takes, Waits}

module _ {P : Type 0} where
  -- a lease where the next move takes one, the numbers of a wait where it is one, and that it is over where every job
  -- was asked for
  abbrev pub NextIs : {N : Type 0} → DeskView P → DeskView P → Next N → Type 0
  NextIs old new (answer.Granted l) = Takes (next_move old.sizes old.state) old new l
  NextIs old new (answer.Full job need largest) = Waits old new job need largest
  NextIs old new answer.Over = (next_move old.sizes old.state ≡ None) × (old.state.asked ≡ length old.sizes) × (new ≡ old)
