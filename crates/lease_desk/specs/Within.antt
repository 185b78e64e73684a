-- Cited by contracts.
-- How large the numbers of a journal are.
use Rattle.std.specs.Prelude.{ℕ, ◌<◌, ◌≤◌, List}
use Rattle.std.specs.List.{AllByRecursion}
use Rattle.lease_desk.specs.declared.event.Event.{Event}
use Rattle.lease_desk.specs.declared.event.Event.TheVariants as event

-- one of so many jobs, and two numbers that are at most the arena
pub record AreWithin (arena jobs number a b : ℕ) : Type 0 where
  pub job : number < jobs
  pub first : a ≤ arena
  pub second : b ≤ arena

abbrev pub IsEventWithin : (arena jobs : ℕ) → Event → Type 0
IsEventWithin arena jobs (event.Took job first size) = AreWithin arena jobs job first size
IsEventWithin arena jobs (event.Full job need largest) = AreWithin arena jobs job need largest
IsEventWithin arena jobs (event.Gave job first size) = AreWithin arena jobs job first size

abbrev pub AreEventsWithin : (arena jobs : ℕ) → List Event → Type 0
AreEventsWithin arena jobs es = AllByRecursion (IsEventWithin arena jobs) es
