-- Private: words for functions of this crate.
-- How many cells a run can take, by the lets of its code that build in new ones: a call takes no more than there are
-- such lets.
use Rattle.std.specs.Prelude.{ℕ, ◌+◌, ◌*◌, ◌≤◌, List, [], ◌∷◌}
use Rattle.camelot_values.specs.Value.{Value}
use Rattle.camelot_values.specs.Outcome.{Outcome, Done, Fuel, Deep, Trap, Stuck, peak_of}
use Rattle.grail_blocks.specs.declared.blocks.Place.{Place}
use Rattle.grail_blocks.specs.declared.blocks.Place.TheVariants as place
use Rattle.grail_code.specs.Meaning.{run_of}
use Rattle.cell_machine.specs.Endings.{most_calls}
use Rattle.grail_code.specs.Code.{Op, Make, Let, Block, Func, Code}

-- 1 for a let that builds in a new cell
abbrev pub new_place : Place → ℕ
new_place place.New = 1
new_place p = 0

abbrev pub new_cells : Op → ℕ
new_cells (Make con args p) = new_place p
new_cells op = 0

abbrev pub new_lets : List Let → ℕ
new_lets [] = 0
new_lets (b ∷ bs) = new_cells b.op + new_lets bs

abbrev pub new_blocks : List Block → ℕ
new_blocks [] = 0
new_blocks (b ∷ bs) = new_lets b.lets + new_blocks bs

abbrev pub new_funcs : List Func → ℕ
new_funcs [] = 0
new_funcs (f ∷ fs) = new_blocks f.blocks + new_funcs fs

-- at most `once` cells, and `each` for each function that was entered, within the fuel
abbrev pub Takes : (once each fuel : ℕ) → Outcome Value → Type 0
Takes once each fuel (Done v calls peak low) = (calls ≤ fuel) × (peak ≤ once + calls * each)
Takes once each fuel (Fuel calls peak) = peak ≤ once + fuel * each
Takes once each fuel (Deep peak) = peak ≤ once + fuel * each
Takes once each fuel (Trap peak) = peak ≤ once + fuel * each
Takes once each fuel Stuck = Unit {0}

-- any run of this code with so much fuel takes at most so many cells
abbrev pub TakesAtMost : Code → ℕ → ℕ → Type 0
TakesAtMost p fuel most = (entry : ℕ) (args : List Value) → peak_of (run_of p most_calls entry fuel args) ≤ most

-- this run takes at most so many cells
abbrev pub RunTakes : Code → ℕ → ℕ → List Value → ℕ → Type 0
RunTakes p entry fuel args most = peak_of (run_of p most_calls entry fuel args) ≤ most
