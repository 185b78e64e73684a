-- Cited by contracts.
-- What is told of a script, as plain data, and what the code's types tell.
use Rattle.std.specs.Prelude.{◌≡◌, ℕ, List, [], ◌∷◌, slice_get, Option, Some, None}
use Rattle.camelot_values.specs.Value.{Value}
use Rattle.camelot_values.specs.Kinds.{DataType}
use Rattle.camelot_values.specs.Outcome as plain
use Rattle.licence.specs.Licensed.{Licensed}
use Rattle.lease_desk.specs.declared.event.Event.{Event}
use Rattle.cell_machine.specs.declared.machine.Ending.{Ending}
use Rattle.cell_machine.specs.declared.machine.Ending.TheVariants as ending
use Rattle.cell_machine.specs.declared.machine.Halt.{Halt}
use Rattle.cell_machine.specs.declared.machine.Halt.TheVariants as halt
use Rattle.run_reports.specs.declared.outcome.ProgramLine.{ProgramLine}
use Rattle.run_reports.specs.declared.outcome.JobCause.{JobCause}
use Rattle.run_reports.specs.declared.outcome.JobLine.{JobLine as DeclaredLine}
use Rattle.run_reports.specs.declared.outcome.JobLine.TheVariants as line
use Rattle.run_reports.specs.declared.outcome.Outcome.{Outcome}

-- Of a job: what its run came to, with the types of its program, its fuel and its bound; or that it needs more cells
-- than the arena has; or why it didn't run.
pub data JobLine : Type 0 where
  Ended : (types : List DataType) → (outcome : plain.Outcome Value) → (fuel bound : ℕ) → JobLine
  TooLarge : (needs arena : ℕ) → JobLine
  Refused : JobCause → JobLine

-- a run that comes to something: no run of a typed program on fitting arguments is stuck
abbrev pub IsMeant : plain.Outcome Value → Type 0
IsMeant (plain.Done v calls peak low) = Unit {0}
IsMeant (plain.Fuel calls peak) = Unit {0}
IsMeant (plain.Deep peak) = Unit {0}
IsMeant (plain.Trap peak) = Unit {0}
IsMeant plain.Stuck = ⊥

-- a line tells what has a meaning
abbrev pub TellsMeaning : JobLine → Type 0
TellsMeaning (Ended types o fuel bound) = IsMeant o
TellsMeaning line = Unit {0}

-- Of a script: each program and each job in order; the place among the script's entries of each job of the desk; the
-- journal; and the free cells at the end.
pub record Told : Type 0 where
  pub programs : List ProgramLine
  pub jobs : List JobLine
  pub asked : List ℕ
  pub journal : List Event
  pub free : ℕ

-- ---- endings

-- how a run ended, without its value
abbrev pub halt_with : Ending → Halt
halt_with (ending.Done v calls peak) = halt.Done calls peak
halt_with (ending.Fuel peak) = halt.Fuel peak
halt_with (ending.Deep peak) = halt.Deep peak
halt_with (ending.Trap peak) = halt.Trap peak

-- ---- what the code's types tell

-- the types of the licence of this number; none where there is no such licence
abbrev pub licence_types : Option Licensed → List DataType
licence_types None = []
licence_types (Some l) = l.code.types

-- with these licences, and where this may be kept of the ending of a run that comes to this outcome
module _ {K : Type 0} (keeps : plain.Outcome Value → K → Type 0) (licences : List Licensed) where
  abbrev pub IsLine : DeclaredLine K → JobLine → Type 0
  IsLine (line.Ended kept fuel bound licence) (Ended types outcome f b) = (types ≡ licence_types (slice_get licences licence)) × keeps outcome kept.now × (f ≡ fuel) × (b ≡ bound)
  IsLine (line.TooLarge needs arena) (TooLarge n a) = (n ≡ needs) × (a ≡ arena)
  IsLine (line.Refused cause) (Refused c) = c ≡ cause
  IsLine declared told = ⊥

  -- one for each
  abbrev pub AreLines : List (DeclaredLine K) → List JobLine → Type 0
  AreLines [] [] = Unit {0}
  AreLines (declared ∷ lines) (told ∷ more) = IsLine declared told × AreLines lines more
  AreLines lines told = ⊥

  pub record IsTold (o : Outcome K) (t : Told) : Type 0 where
    pub programs : t.programs ≡ o.programs.now
    pub jobs : AreLines o.jobs.items t.jobs
    pub asked : t.asked ≡ o.asked.now
    pub journal : t.journal ≡ o.journal.now
    pub free : t.free ≡ o.free
