-- Cited by contracts.
-- The shape of frames that somebody wrote down: each stands at a place of the code, and has words of just the locals
-- that are ready there. Frames stand from the oldest on, and their places count lets from 1.
use Rattle.std.specs.Prelude.{◌≡◌, ℕ, zero, suc, ◌-◌, ◌≤◌, ◌<◌, false, if◌then◌else◌, List, [], ◌∷◌, map, length, drop, slice_get, Some, IsSomeAnd}
use Rattle.grail_blocks.specs.States as states
use Rattle.grail_code.specs.Code.{Call, Block, Func}
use Rattle.grail_code.specs.WellFormed.{local_kinds}
use Rattle.annotations.specs.Vectors.{AtLeast}
use Rattle.licence.specs.Books.{book_of}
use Rattle.licence.specs.Licensed.{Licensed}
use Rattle.frame_locals.specs.Lending.{lends_at}
use Rattle.frame_locals.specs.Places.{is_ready, ready_at, waits_at}
use Rattle.machine_image.specs.Images.{Frame}
use Rattle.cell_machine.specs.State.{most_calls}

-- ---- one frame

-- of so many locals from this one on, those that are ready
abbrev pub ready_among : states.State → (local count : ℕ) → List ℕ
ready_among s x zero = []
ready_among s x (suc n) = if is_ready (s x) then x ∷ ready_among s (suc x) n else ready_among s (suc x) n

-- the frame has words of just the locals that are ready
abbrev pub HasJustReady : Func → states.State → Frame → Type 0
HasJustReady h s f = map (λ b. b.local) f.live ≡ ready_among s 0 (length (local_kinds h))

-- A frame that runs: it is at a let or at the end of a block, has just its ready locals, and none is lent.
pub record RunsAt (l : Licensed) (f : Frame) : Type 0 where
  pub h : Func
  pub b : Block
  pub func : slice_get l.code.funcs f.func ≡ Some h
  pub block : slice_get h.blocks f.block ≡ Some b
  pub first : 1 ≤ f.place
  pub place : f.place - 1 ≤ length b.lets
  pub unlent : lends_at l.code f.func f.block ≡ false
  pub just : HasJustReady h (ready_at l.code f.func f.block (f.place - 1)) f

-- A frame that waits below this one: it is at a call of a function with the next one's result, which carries at most
-- what the next function's result does; it has just the locals that are ready once the call's operands are used.
pub record WaitsAt (l : Licensed) (f next : Frame) : Type 0 where
  pub h : Func
  pub b : Block
  pub k : Func
  pub target : ℕ
  pub callee : ℕ
  pub args : List ℕ
  pub func : slice_get l.code.funcs f.func ≡ Some h
  pub block : slice_get h.blocks f.block ≡ Some b
  pub first : 1 ≤ f.place
  pub call : slice_get b.lets (f.place - 1) ≡ Some (record { target = target; op = Call callee args })
  pub above : slice_get l.code.funcs next.func ≡ Some k
  pub result : IsSomeAnd (slice_get l.code.funcs callee) (λ g. g.result ≡ k.result)
  pub suffices : AtLeast l.code.types k.result ((book_of l.cert).result next.func) ((book_of l.cert).result callee)
  pub unlent : lends_at l.code f.func f.block ≡ false
  pub just : HasJustReady h (waits_at l.code f.func f.block (f.place - 1)) f

-- ---- all frames

-- the first of these frames, which waits below the second one, or runs
abbrev pub IsShaped : Licensed → List Frame → Type 0
IsShaped l [] = ⊥
IsShaped l (f ∷ []) = RunsAt l f
IsShaped l (f ∷ g ∷ fs) = WaitsAt l f g

-- the frame of this number, of which there are 65,537 at most
pub record IsShapedAt (l : Licensed) (fs : List Frame) (number : ℕ) : Type 0 where
  pub few : number ≤ most_calls
  pub shaped : IsShaped l (drop number fs)

abbrev pub AreShaped : Licensed → List Frame → Type 0
AreShaped l fs = (n : ℕ) → n < length fs → IsShapedAt l fs n

-- the first frame that isn't as the code says
pub record IsShapeFault (l : Licensed) (fs : List Frame) (number : ℕ) : Type 0 where
  pub there : number < length fs
  pub before : (n : ℕ) → n < number → IsShapedAt l fs n
  pub wrong : IsShapedAt l fs number → ⊥
