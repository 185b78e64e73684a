-- Cited by contracts.
-- What is kept of a state between two steps: its counters, its frames from the oldest on, each with the words of its
-- ready locals, and its cells. And the state that goes on from there.
use Rattle.std.specs.Prelude.{◌≡◌, ℕ, suc, ℤ, pos, negsuc, ◌+◌, ◌-◌, ◌-ℤ◌, ◌≤◌, ◌<◌, max, List, [], ◌∷◌, ◌++◌, map, reverse, replicate, length, slice_get}
use Rattle.std.specs.Option.{option_map_or}
use Rattle.std.specs.List.{AllByRecursion}
use Rattle.cell_span.specs.declared.cell.Cell.{Cell}
use Rattle.machine_image.specs.Images.{Frame}
use Rattle.machine_image.specs.Words as words
use Rattle.machine_image.specs.declared.state.State.{State}
use Rattle.grail_blocks.specs.States as states
use Rattle.grail_code.specs.Code.{Code}
use Rattle.grail_code.specs.WellFormed.{local_kinds}
use Rattle.licence.specs.Books.{book_of}
use Rattle.licence.specs.Licensed.{Licensed}
use Rattle.cell_machine.specs.State.{Activation, Configuration, most_calls}
use Rattle.cell_machine.specs.Bounds.{bounds, put_back}
use Rattle.cell_machine.specs.Dead.{ready_running, ready_waiting}
use Rattle.cell_machine.specs.Counted.{IsFit}

-- Net is the number of cells taken less those given back. Frames stand from the oldest on, and their places count lets
-- from 1.
pub record Saved : Type 0 where
  pub calls : ℕ
  pub net : ℤ
  pub peak : ℕ
  pub fuel : ℕ
  pub free : ℕ
  pub frames : List Frame
  pub cells : List Cell

-- what the code keeps so
abbrev pub saved_of : State → Saved
saved_of s = record {
  calls = s.calls;
  net = s.net;
  peak = s.peak;
  fuel = s.fuel;
  free = s.free;
  frames = map words.frame_of s.frames.items;
  cells = s.cells.items;
}

-- ---- what is kept of a state

-- a frame with its ready locals, where they are in this state
abbrev pub frame_kept : states.State → Activation → Frame
frame_kept s fr = record { func = fr.func; block = fr.block; place = suc fr.place; live = bounds s 0 fr.words }

abbrev pub waiting_kept : Code → Activation → Frame
waiting_kept p fr = frame_kept (ready_waiting p fr) fr

abbrev pub running_kept : Code → Activation → Frame
running_kept p fr = frame_kept (ready_running p fr) fr

-- the frame that runs is the youngest
abbrev pub kept : Code → Configuration → Saved
kept p s = record {
  calls = s.calls;
  net = pos s.peak -ℤ pos s.low;
  peak = s.peak;
  fuel = s.fuel;
  free = s.head;
  frames = reverse (map (waiting_kept p) s.waiting) ++ running_kept p s.frame ∷ [];
  cells = s.cells;
}

-- ---- the state that goes on from what was kept

-- how many locals a function has
abbrev pub width_at : Code → (func : ℕ) → ℕ
width_at p func = option_map_or (λ f. length (local_kinds f)) (slice_get p.funcs func) 0

-- the words of a frame: 0 but for those that were kept
abbrev pub frame_back : Code → Frame → Activation
frame_back p f = record { func = f.func; block = f.block; place = f.place - 1; words = put_back (replicate (width_at p f.func) 0) f.live }

-- frames from the youngest on
abbrev pub frames_back : Code → List Frame → List Activation
frames_back p fs = reverse (map (frame_back p) fs)

-- the youngest; a frame of the first function, where there is none
abbrev pub youngest : List Activation → Activation
youngest [] = record { func = 0; block = 0; place = 0; words = [] }
youngest (fr ∷ frs) = fr

abbrev pub others : List Activation → List Activation
others [] = []
others (fr ∷ frs) = frs

-- the highest net: that of the peak, or what it is now
abbrev pub highest : ℤ → (peak : ℕ) → ℕ
highest (pos n) peak = max peak n
highest (negsuc n) peak = peak

-- how far the net is below a number
abbrev pub below : ℤ → (top : ℕ) → ℕ
below (pos n) top = top - n
below (negsuc n) top = top + suc n

abbrev pub configuration_of : Code → Saved → Configuration
configuration_of p s = record {
  cells = s.cells;
  head = s.free;
  frame = youngest (frames_back p s.frames);
  waiting = others (frames_back p s.frames);
  fuel = s.fuel;
  calls = s.calls;
  peak = highest s.net s.peak;
  low = below s.net (highest s.net s.peak);
}

-- ---- what goes on

-- each kept word is that of a local of the frame's function
abbrev pub HasItsLocals : Code → Frame → Type 0
HasItsLocals p f = AllByRecursion (λ b. b.local < width_at p f.func) f.live

-- What is kept can go on by a licence in so many cells: it is a fit state, whose frames have words of their own locals
-- alone, and whose counters are within their ranges.
pub record CanGoOn (l : Licensed) (s : Saved) (size : ℕ) : Type 0 where
  pub cells : length s.cells ≡ size
  pub some : 1 ≤ length s.frames
  pub locals : AllByRecursion (HasItsLocals l.code) s.frames
  pub fit : IsFit l.code (book_of l.cert) most_calls (configuration_of l.code s)
  pub peak : highest s.net s.peak ≤ 1099511627776
  pub steps : s.calls + s.fuel ≤ 1099511627776
  -- net and free cells together are at most the cells
  pub within : length fit.sound.free + (configuration_of l.code s).peak ≤ size + (configuration_of l.code s).low
