-- Cited by contracts.
-- Steps of a run that the source language and code have in common.
use Rattle.std.specs.Prelude.{ℕ, zero, suc, Bool, true, false, cond, ◌==◌, ◌&&◌, not, if◌then◌else◌, List}
use Rattle.camelot_values.specs.Value.{Value, Flag, Dia}
use Rattle.camelot_values.specs.Outcome.{Outcome, Done, Fuel, Deep, Stuck, after, entered}

-- what a call means: the fuel, the number of waiting calls, whether the call is in tail position, the function's number
-- and its arguments
abbrev pub Enter : Type 0
Enter = ℕ → ℕ → Bool → ℕ → List Value → Outcome Value

-- one of two, by a truth value
abbrev pub chosen : Value → Outcome Value → Outcome Value → Outcome Value
chosen (Flag true) first second = first
chosen (Flag false) first second = second
chosen v first second = Stuck

-- what follows, where this is a diamond
abbrev pub on_diamond : Value → Outcome Value → Outcome Value
on_diamond Dia next = next
on_diamond v next = Stuck

-- a value in a new cell, taken from the free list: net 1, and peak 1
abbrev pub in_new_cell : Value → Outcome Value
in_new_cell v = Done v 0 1 0

-- what follows once a cell was given back to the free list: net -1 before it
abbrev pub cell_freed : Outcome Value → Outcome Value
cell_freed next = after 0 0 1 next

-- a call that isn't in tail position is one too many to wait
abbrev pub is_too_deep : ℕ → ℕ → Bool → Bool
is_too_deep limit waits tail = not tail && (waits == limit)

-- ---- calls

-- what the bodies of a program's functions mean, where it is known what calls mean: the function's number, the fuel,
-- the number of waiting calls and the arguments
abbrev pub Bodies : Type 0
Bodies = Enter → ℕ → ℕ → ℕ → List Value → Outcome Value

-- A call of a function takes one unit of fuel, which is looked at first, and then the depth: at most `limit` calls may
-- wait, and a call in tail position doesn't wait. The clock makes the recursion structural: where it is at least the
-- fuel, it changes nothing.
abbrev pub calls : Bodies → ℕ → ℕ → Enter
calls bodies limit clock zero waits tail func args = Fuel 0 0
calls bodies limit zero (suc fuel) waits tail func args = Fuel 0 0
calls bodies limit (suc clock) (suc fuel) waits tail func args = if is_too_deep limit waits tail then Deep 0
    else entered (bodies (calls bodies limit clock) func fuel (cond tail waits (suc waits)) args)

-- what a call means, its fuel being the clock
abbrev pub entering : Bodies → ℕ → Enter
entering bodies limit = λ fuel. calls bodies limit fuel fuel

-- an entry: no call waits, and it is in tail position
abbrev pub run_from : Bodies → ℕ → ℕ → ℕ → List Value → Outcome Value
run_from bodies limit func fuel args = entering bodies limit fuel 0 true func args
