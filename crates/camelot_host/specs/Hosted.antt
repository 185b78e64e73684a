-- Cited by contracts.
-- What the host promises of each run, in one record.
use Rattle.std.specs.Prelude.{◌≡◌, ℕ, ◌+◌, ◌<◌, ◌≤◌, ◌↔◌, false, List, length, Option}
use Rattle.host_io.specs.Counts.{last_count}
use Rattle.camelot_host.specs.Commands.{Command, IsCommand, IsNoCommand, IsInput, reads}
use Rattle.camelot_host.specs.Answers.{input_limit, Devices, devices, Answers, Completes, Quiet, SourceFaults, SinkFaults}
use Rattle.camelot_host.specs.declared.status.Status.{Status}
use Rattle.camelot_host.specs.declared.status.Status.TheVariants as status

-- a source and a sink at one time, what they show of their bytes, and their counts of faults
pub record Seen (S K : Type 0) : Type 0 where
  pub source : S
  pub sink : K
  pub devices : Devices
  pub source_faults : ℕ
  pub sink_faults : ℕ

-- these five, of this source and this sink
abbrev pub seen : {S K : Type 0} → S → K → Devices → (source_faults sink_faults : ℕ) → Seen S K
seen source sink devices source_faults sink_faults =
    record { source = source; sink = sink; devices = devices; source_faults = source_faults; sink_faults = sink_faults }

-- a source and a sink, by what each is asked for: what is left and how many bytes were taken, what was told, and both
-- counts of faults
abbrev pub shows : {S K : Type 0} → (S → Option (List ℕ)) → (S → ℕ) → (K → Option (List ℕ)) → (S → ℕ) → (K → ℕ) → S → K → Seen S K
shows left taken told source_faults sink_faults source sink =
    seen source sink (devices (left source) (taken source) (told sink)) (source_faults source) (sink_faults sink)

-- what is promised of a run on these words that ended with this status, with the source and the sink before and after
pub record Hosted {S K : Type 0} (ended : Status) (words : List (List ℕ)) (before after : Seen S K) : Type 0 where
  -- What was taken from the source and told to the sink, by the status.
  pub answers : Answers ended words before.devices after.devices
  -- Words that spell no command are refused before anything is read.
  pub usage : (ended ≡ status.Usage) ↔ IsNoCommand words
  -- At status 2 neither source nor sink is touched.
  pub untouched : ended ≡ status.Usage → (after.source ≡ before.source) × (after.sink ≡ before.sink)
  -- A command that doesn't read leaves the source as it was.
  pub unread : (command : Command) → IsCommand words command → reads command ≡ false → after.source ≡ before.source
  -- The sink isn't used at a status at which nothing is written.
  pub quiet : Quiet ended before.sink after.sink
  -- A fault is answered where a device failed, and nowhere else while its count has room.
  pub source_faults : SourceFaults ended before.source_faults after.source_faults
  -- The sink's count of faults rises at status 4 and at no other.
  pub sink_faults : SinkFaults ended before.sink_faults after.sink_faults
  -- The count of bytes taken tells whether the input was too long, as long as the count has room.
  pub too_long : before.devices.taken + input_limit < last_count →
      ((ended ≡ status.TooLong) ↔ (after.devices.taken ≡ before.devices.taken + (input_limit + 1)))
  -- The same from the other side: where the words spell a command, the source tells the input of one that reads, this
  -- is within the limit, and no device fails, an output that is due is told whole, unless memory runs out.
  pub complete : (command : Command) (input : List ℕ) → IsCommand words command
      → IsInput command before.devices.left input → length input ≤ input_limit
      → before.source_faults < last_count → after.source_faults ≡ before.source_faults
      → before.sink_faults < last_count → after.sink_faults ≡ before.sink_faults
      → Completes ended command input before.devices.told after.devices.told
