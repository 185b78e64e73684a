-- Cited by contracts.
-- What a program in normal form means: its blocks as in `Running` of `grail_blocks`, where a jump hands on every local
-- that is bound, and its calls as those of the source language. What has no meaning is Stuck. The code runs nothing.
use Rattle.std.specs.Prelude.{ℕ, ◌==◌, if◌then◌else◌, List, map, length, slice_get, Option, Some, None}
use Rattle.camelot_values.specs.Value.{Value}
use Rattle.camelot_values.specs.Kinds.{DataType}
use Rattle.camelot_values.specs.Outcome.{Outcome, Stuck}
use Rattle.camelot_values.specs.Runs.{Enter, Bodies, run_from}
use Rattle.grail_blocks.specs.Running.{Body, arguments, blocks_run}
use Rattle.normal_form.specs.Normal.{NormalBlock, NormalFunction, NormalProgram}

-- a block, to which everything is handed on
abbrev pub everything : NormalBlock → Body
everything b = record { takes = λ env. env; lets = b.lets; term = b.term }

-- a function on as many arguments as it has parameters
abbrev pub body_run : List DataType → Enter → Option NormalFunction → ℕ → ℕ → List Value → Outcome Value
body_run types enter None fuel waits args = Stuck
body_run types enter (Some f) fuel waits args = if length args == length f.params then blocks_run types enter (map everything f.blocks) fuel waits (arguments args) else Stuck

-- what the bodies of the program's functions mean
abbrev pub bodies : NormalProgram → Bodies
bodies p = λ enter func fuel waits args. body_run p.types enter (slice_get p.functions func) fuel waits args

-- an entry, where at most `limit` calls may wait: no call waits, and it is in tail position
abbrev pub run_of : NormalProgram → ℕ → ℕ → ℕ → List Value → Outcome Value
run_of p limit func fuel args = run_from (bodies p) limit func fuel args
