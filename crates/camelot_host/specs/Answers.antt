-- Cited by contracts.
-- What stands behind each status of the host, whatever the command is.
use Rattle.std.specs.Prelude.{◌≡◌, ℕ, ◌+◌, ◌≤◌, Bool, true, false, List, [], length, Option, ⊤}
use Rattle.std.specs.Io.KnownBytes.{IsAtEnd}
use Rattle.host_io.specs.Counts.{Rose}
use Rattle.host_io.specs.Source.{Took, TookAtMost, TookExactly}
use Rattle.host_io.specs.Sink.{Tells, TellsFront}
use Rattle.camelot_host.specs.Commands.{Command, IsCommand, reads}
use Rattle.camelot_host.specs.Due.{Verdict, Done, Refused, IsDue}
use Rattle.camelot_host.specs.declared.status.Status.{Status}
use Rattle.camelot_host.specs.declared.status.Status.TheVariants as status

-- the greatest number of bytes of input
abbrev pub input_limit : ℕ
input_limit = 8388608

-- ---- source and sink

-- the bytes that the source has left, where it tells them; how many were taken from it so far; and the bytes that the
-- sink was told so far, where it tells them
pub record Devices : Type 0 where
  pub left : Option (List ℕ)
  pub taken : ℕ
  pub told : Option (List ℕ)

abbrev pub devices : Option (List ℕ) → ℕ → Option (List ℕ) → Devices
devices left taken told = record { left = left; taken = taken; told = told }

-- the whole input was taken, it is within the limit, and the source is at its end
pub record ReadWhole (before after : Devices) (input : List ℕ) : Type 0 where
  pub took : Took before.left after.left before.taken after.taken input
  pub at_end : IsAtEnd after.left
  pub within : length input ≤ input_limit

-- nothing was taken, and the input is empty
pub record ReadNothing (before after : Devices) (input : List ℕ) : Type 0 where
  pub left : after.left ≡ before.left
  pub taken : after.taken ≡ before.taken
  pub empty : input ≡ []

-- the input of a command that reads was read whole, and for one that doesn't nothing was
abbrev pub HasRead : Bool → (before after : Devices) → List ℕ → Type 0
HasRead true before after input = ReadWhole before after input
HasRead false before after input = ReadNothing before after input

-- ---- what was told for an input

-- an output that is due for the input with this verdict was told whole
pub record ToldDue (command : Command) (input : List ℕ) (verdict : Verdict) (told told' : Option (List ℕ)) : Type 0 where
  pub output : List ℕ
  pub due : IsDue command input verdict output
  pub whole : Tells told told' output

-- a front of an output that is due for the input was told
pub record ToldFront (command : Command) (input : List ℕ) (told told' : Option (List ℕ)) : Type 0 where
  pub verdict : Verdict
  pub output : List ℕ
  pub due : IsDue command input verdict output
  pub front : TellsFront told told' output

-- ---- what was taken and told, by the status

-- the words spell a command, its input was read, and an output that is due with this verdict was told
pub record Answered (words : List (List ℕ)) (verdict : Verdict) (before after : Devices) : Type 0 where
  pub command : Command
  pub spelled : IsCommand words command
  pub input : List ℕ
  pub read : HasRead (reads command) before after input
  pub told : ToldDue command input verdict before.told after.told

-- the same, but only a front of the output was told
pub record AnsweredInPart (words : List (List ℕ)) (before after : Devices) : Type 0 where
  pub command : Command
  pub spelled : IsCommand words command
  pub input : List ℕ
  pub read : HasRead (reads command) before after input
  pub told : ToldFront command input before.told after.told

-- just some bytes were taken, at most so many, and nothing was told
pub record Broken (most : ℕ) (before after : Devices) : Type 0 where
  pub gone : TookAtMost most before.left after.left before.taken after.taken
  pub silent : Tells before.told after.told []

-- just one byte more than the limit was taken, and nothing was told
pub record Overlong (before after : Devices) : Type 0 where
  pub gone : TookExactly (input_limit + 1) before.left after.left before.taken after.taken
  pub silent : Tells before.told after.told []

-- what was taken and told, by the status
abbrev pub Answers : Status → List (List ℕ) → (before after : Devices) → Type 0
Answers status.Ok words before after = Answered words Done before after
Answers status.ReadFault words before after = Broken input_limit before after
Answers status.Usage words before after = Broken 0 before after
Answers status.Refused words before after = Answered words Refused before after
Answers status.WriteFault words before after = AnsweredInPart words before after
Answers status.Memory words before after = Broken input_limit before after
Answers status.TooLong words before after = Overlong before after

-- what was told for a command and its input, where no device failed: an output that is due, by the verdict, or
-- nothing where memory ran out
abbrev pub Completes : Status → Command → List ℕ → (told told' : Option (List ℕ)) → Type 0
Completes status.Ok command input told told' = ToldDue command input Done told told'
Completes status.Refused command input told told' = ToldDue command input Refused told told'
Completes status.Memory command input told told' = Tells told told' []
Completes s command input told told' = ⊥

-- ---- faults, and what isn't touched

-- the count of faults of the source rose, or stands at its last value, at a fault of reading, and is else as it was
abbrev pub SourceFaults : Status → ℕ → ℕ → Type 0
SourceFaults status.ReadFault old new = Rose old new
SourceFaults s old new = new ≡ old

-- the count of faults of the sink rose, or stands at its last value, at a fault of writing, and is else as it was
abbrev pub SinkFaults : Status → ℕ → ℕ → Type 0
SinkFaults status.WriteFault old new = Rose old new
SinkFaults s old new = new ≡ old

-- the sink is as it was, at each status at which nothing is written
abbrev pub Quiet : {K : Type 0} → Status → K → K → Type 0
Quiet status.Ok old new = ⊤
Quiet status.Refused old new = ⊤
Quiet status.WriteFault old new = ⊤
Quiet s old new = new ≡ old
