-- Private: words for functions of this crate.
-- What parts of a run come to and how they go on, with all that was used until then.
use Rattle.std.specs.Prelude.{◌≡◌, ℕ, ◌+◌, ◌*◌, ◌-◌, ◌≤◌, true, List, map, Option, Some, None, ⊤}
use Rattle.camelot_values.specs.Value.{Value}
use Rattle.camelot_values.specs.Kinds.{DataType}
use Rattle.camelot_values.specs.Outcome as meaning
use Rattle.camelot_values.specs.Outcome.{after}
use Rattle.camelot_values.specs.Runs.{Enter, entering}
use Rattle.grail_code.specs.Code.{Term, code_of, block_of}
use Rattle.grail_code.specs.Meaning.{Locals, Later, Body, narrow, bodies, term_run}
use Rattle.grail_code.specs.declared.code.Code.{Code}
use Rattle.grail_code.specs.declared.code.Block.{Block}
use Rattle.grail_evaluator.specs.Trees.{plain, plain_all}
use Rattle.grail_evaluator.specs.Locals.{env_of}
use Rattle.grail_evaluator.specs.declared.tree.Tree.{Tree}
use Rattle.grail_evaluator.specs.declared.counts.Counts.{Counts}
use Rattle.grail_evaluator.specs.declared.outcome.Reached.{Reached}
use Rattle.grail_evaluator.specs.declared.outcome.Reached.TheVariants as reached
use Rattle.grail_evaluator.specs.declared.ends.Ending.{Ending}
use Rattle.grail_evaluator.specs.declared.ends.Ending.TheVariants as ending
use Rattle.grail_evaluator.specs.declared.ends.BlockEnd.{BlockEnd}
use Rattle.grail_evaluator.specs.declared.ends.BlockEnd.TheVariants as end

abbrev pub reached_of : Reached → meaning.Outcome Value
reached_of (reached.Done v s) = meaning.Done (plain v) s.calls s.peak s.low
reached_of (reached.Fuel s) = meaning.Fuel s.calls s.peak
reached_of (reached.Deep s) = meaning.Deep s.peak
reached_of (reached.Trap s) = meaning.Trap s.peak
reached_of reached.Stuck = meaning.Stuck

-- what an operator comes to: a value at no cost, or a trap
abbrev pub computed : Option Tree → meaning.Outcome Value
computed (Some t) = meaning.at_once (plain t)
computed None = meaning.Trap 0

-- what comes behind all that was used so far
abbrev pub onto : Counts → meaning.Outcome Value → meaning.Outcome Value
onto s o = after s.calls s.peak s.low o

-- what calls mean in this code, where so many may wait
abbrev pub calls_in : Code → ℕ → Enter
calls_in code limit = entering (bodies (code_of code)) limit

-- a function's blocks, to run
abbrev pub bodies_of : List Block → List Body
bodies_of blocks = map narrow (map block_of blocks)

-- a function's body is over, or calls another function in tail position; the fuel is that of the whole run
abbrev pub ending_run : Enter → ℕ → ℕ → Ending → meaning.Outcome Value
ending_run enter fuel waits (ending.Over r) = reached_of r
ending_run enter fuel waits (ending.Tail s func args) = onto s (enter (fuel - s.calls) waits true func (plain_all args.items))

-- a block leaves its function, or jumps
abbrev pub end_run : Enter → Later → ℕ → ℕ → BlockEnd → meaning.Outcome Value
end_run enter later fuel waits (end.Leaves e) = ending_run enter fuel waits e
end_run enter later fuel waits (end.Jumps s target env) = onto s (later target (fuel - s.calls) waits (env_of env.items))

-- what follows the lets of a block: its end
abbrev pub onward : List DataType → Enter → Later → Term → ℕ → (ℕ → Locals → meaning.Outcome Value)
onward types enter later term waits = λ left last. term_run types enter later term left waits last

-- ---- what is used

-- a bound of all counts of cells, since a run has less than 2 ^ 64 calls
abbrev pub most_cells : ℕ
most_cells = 2000000000000000000000000

-- So many times a function takes or gives back a cell at most, besides what its calls do: in each of 256 blocks once
-- for each of 256 lets, and once at the end.
abbrev pub cells_a_call : ℕ
cells_a_call = 65792

-- From the old counts to the new ones functions were entered, within the fuel, and at most so many cells were taken or
-- given back besides what they do.
pub record Used (fuel steps : ℕ) (old new : Counts) : Type 0 where
  pub more : old.calls ≤ new.calls
  pub within : new.calls ≤ fuel
  pub cells : new.peak + new.low + cells_a_call * old.calls ≤ old.peak + old.low + steps + cells_a_call * new.calls

-- the same without calls
pub record Stepped (steps : ℕ) (old new : Counts) : Type 0 where
  pub same : new.calls ≡ old.calls
  pub cells : new.peak + new.low ≤ old.peak + old.low + steps

-- this holds of the counts, where the run goes on
abbrev pub OnReached : (Counts → Type 0) → Reached → Type 0
OnReached P (reached.Done v s) = P s
OnReached P r = ⊤

abbrev pub OnEnding : (Counts → Type 0) → Ending → Type 0
OnEnding P (ending.Over r) = OnReached P r
OnEnding P (ending.Tail s func args) = P s

abbrev pub OnEnd : (Counts → Type 0) → BlockEnd → Type 0
OnEnd P (end.Leaves e) = OnEnding P e
OnEnd P (end.Jumps s target env) = P s
