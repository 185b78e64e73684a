-- Cited by contracts.
-- What is judged of what was kept of a run, from its own data alone: each frame stands at its place, its ready words
-- stand for values, no cell is in two of them or in one and the free list, and the free cells pay for what all ask for.
use Rattle.std.specs.Prelude.{◌≡◌, ℕ, suc, ◌+◌, ◌-◌, ◌/◌, ◌≤◌, false, List, [], ◌∷◌, ◌++◌, length, slice_get, Option, Some, IsSomeAnd}
use Rattle.cell_span.specs.declared.cell.Cell.{Cell}
use Rattle.camelot_values.specs.Value.{Value}
use Rattle.grail_code.specs.Code.{Call, Block, Func, Code}
use Rattle.annotations.specs.Vectors.{AtLeast}
use Rattle.licence.specs.Books.{book_of}
use Rattle.licence.specs.Licensed.{Licensed}
use Rattle.licence.specs.Rules.{naturals, Account, account_before}
use Rattle.frame_locals.specs.Lending.{lends_at}
use Rattle.frame_locals.specs.Places.{ready_at, waits_at}
use Rattle.machine_image.specs.Images.{Frame}
use Rattle.cell_machine.specs.Cells.{inline_base}
use Rattle.cell_machine.specs.Saved.{Saved, frame_back, HasItsLocals, highest, below}
use Rattle.cell_machine.specs.Stands.{IsFreeList, RepeatsNone}
use Rattle.cell_machine.specs.State.{most_calls}
use Rattle.pause_image.specs.Found.{Found, taken, units}

-- ---- frames

-- the words of a frame that is kept
abbrev pub words_of : Code → Frame → List ℕ
words_of p f = (frame_back p f).words

abbrev pub account_of : Licensed → Frame → Block → Account ℕ
account_of l f b = account_before naturals l.code.types (book_of l.cert) f.func f.block b (f.place - 1)

-- a frame that runs: its place is a let or the end of a block, nothing is lent there, and its values are these
pub record RunsThere (l : Licensed) (cells : List Cell) (f : Frame) (os : List (Option Value)) : Type 0 where
  pub h : Func
  pub b : Block
  pub func : slice_get l.code.funcs f.func ≡ Some h
  pub block : slice_get h.blocks f.block ≡ Some b
  pub place : f.place - 1 ≤ length b.lets
  pub unlent : lends_at l.code f.func f.block ≡ false
  pub locals : HasItsLocals l.code f
  pub found : Found l.code.types cells h (ready_at l.code f.func f.block (f.place - 1)) 0 (words_of l.code f) os

-- A frame that waits below this one: it stands at a call of a function with the next one's result, which carries at
-- most what the next function's result does.
pub record WaitsThere (l : Licensed) (cells : List Cell) (f next : Frame) (os : List (Option Value)) : Type 0 where
  pub h : Func
  pub b : Block
  pub k : Func
  pub target : ℕ
  pub callee : ℕ
  pub args : List ℕ
  pub func : slice_get l.code.funcs f.func ≡ Some h
  pub block : slice_get h.blocks f.block ≡ Some b
  pub call : slice_get b.lets (f.place - 1) ≡ Some (record { target = target; op = Call callee args })
  pub above : slice_get l.code.funcs next.func ≡ Some k
  pub result : IsSomeAnd (slice_get l.code.funcs callee) (λ g. g.result ≡ k.result)
  pub suffices : AtLeast l.code.types k.result ((book_of l.cert).result next.func) ((book_of l.cert).result callee)
  pub unlent : lends_at l.code f.func f.block ≡ false
  pub locals : HasItsLocals l.code f
  pub found : Found l.code.types cells h (waits_at l.code f.func f.block (f.place - 1)) 0 (words_of l.code f) os

-- all frames, from the oldest on
abbrev pub FramesThere : Licensed → List Cell → List Frame → List (List (Option Value)) → Type 0
FramesThere l cells [] [] = ⊥
FramesThere l cells [] (os ∷ oss) = ⊥
FramesThere l cells (f ∷ fs) [] = ⊥
FramesThere l cells (f ∷ []) (os ∷ []) = RunsThere l cells f os
FramesThere l cells (f ∷ []) (os ∷ ps ∷ oss) = ⊥
FramesThere l cells (f ∷ g ∷ fs) (os ∷ oss) = WaitsThere l cells f g os × FramesThere l cells (g ∷ fs) oss

-- the cells of all their values
abbrev pub all_taken : Licensed → List Cell → List Frame → List (List (Option Value)) → List ℕ
all_taken l cells [] oss = []
all_taken l cells (f ∷ fs) [] = []
all_taken l cells (f ∷ fs) (os ∷ oss) = taken l.code.types cells (words_of l.code f) os ++ all_taken l cells fs oss

-- ---- what they ask for

-- a frame that runs: what is left at its place, and what its values carry
abbrev pub running_asks : (l : Licensed) (cells : List Cell) (f : Frame) (os : List (Option Value)) → RunsThere l cells f os → ℕ
running_asks l cells f os r = (account_of l f r.b).left + units l.code.types (account_of l f r.b).carried 0 os

-- One that waits: what is left once its callee's need is taken, what its values carry, and what it was promised back
-- beyond what the next function promises.
abbrev pub waiting_asks : (l : Licensed) (cells : List Cell) (f next : Frame) (os : List (Option Value)) → WaitsThere l cells f next os → ℕ
waiting_asks l cells f next os w =
    (((account_of l f w.b).left - (book_of l.cert).need w.callee) + units l.code.types (account_of l f w.b).carried 0 os)
    + ((book_of l.cert).back w.callee - (book_of l.cert).back next.func)

abbrev pub all_asks : (l : Licensed) (cells : List Cell) (fs : List Frame) (oss : List (List (Option Value))) → FramesThere l cells fs oss → ℕ
all_asks l cells [] [] h = 0
all_asks l cells [] (os ∷ oss) h = 0
all_asks l cells (f ∷ fs) [] h = 0
all_asks l cells (f ∷ []) (os ∷ []) h = running_asks l cells f os h
all_asks l cells (f ∷ []) (os ∷ ps ∷ oss) h = 0
all_asks l cells (f ∷ g ∷ fs) (os ∷ oss) h = waiting_asks l cells f g os h.0 + all_asks l cells (g ∷ fs) oss h.1

-- ---- the whole

pub record IsJudged (l : Licensed) (s : Saved) (size : ℕ) : Type 0 where
  pub cells : length s.cells ≡ size
  pub few_cells : size ≤ inline_base
  pub few_frames : length s.frames ≤ suc most_calls
  pub values : List (List (Option Value))
  pub frames : FramesThere l s.cells s.frames values
  pub free : List ℕ
  pub list : IsFreeList s.cells s.free free
  pub once : RepeatsNone (all_taken l s.cells s.frames values ++ free)
  pub enough : all_asks l s.cells s.frames values frames / (book_of l.cert).unit ≤ length free
  pub peak : highest s.net s.peak ≤ 1099511627776
  pub steps : s.calls + s.fuel ≤ 1099511627776
  -- net and free cells together are from 0 to the number of cells
  pub counted : below s.net (highest s.net s.peak) ≤ length free + highest s.net s.peak
  pub within : length free + highest s.net s.peak ≤ size + below s.net (highest s.net s.peak)
