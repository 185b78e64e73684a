-- Cited by contracts.
-- The values that words of frames stand for: each word has one, and no cell is in two of them. And what they carry.
use Rattle.std.specs.Prelude.{◌≡◌, ℕ, ◌+◌, ◌-◌, ◌≤◌, ◌<◌, List, [], ◌∷◌, ◌++◌, length, slice_get, Option, Some, None, IsSomeAnd}
use Rattle.std.specs.Option.{option_map_or}
use Rattle.cell_span.specs.declared.cell.Cell.{Cell}
use Rattle.camelot_values.specs.Value.{Value}
use Rattle.camelot_values.specs.Kinds.{DataType}
use Rattle.camelot_values.specs.Typing.{Fits}
use Rattle.camelot_values.specs.declared.kinds.Kind.{Kind}
use Rattle.grail_code.specs.Code.{Op, Lit, Flag, Copy, Prim, Make, Call, Let, Block, Code, Func}
use Rattle.grail_code.specs.WellFormed.{kind_of}
use Rattle.annotations.specs.Vectors.{potential}
use Rattle.licence.specs.Books.{Carried, book_of}
use Rattle.licence.specs.Licensed.{Licensed}
use Rattle.frame_accounts.specs.Accounts.{account_of, block_at}
use Rattle.machine_image.specs.Images.{Bound, Frame}
use Rattle.cell_machine.specs.Stands.{Stands, footprint, times}

-- ---- one word

-- the kind of a local of this function, where there is one
abbrev pub kind_in : Option Func → (local : ℕ) → Option Kind
kind_in None x = None
kind_in (Some h) x = kind_of h x

-- The word stands for this value of the kind. Its footprint has cells that are there, each once, and none of those that
-- were taken before.
pub record IsOwn (types : List DataType) (cells : List Cell) (before : List ℕ) (kind : Kind) (word : ℕ) (v : Value) : Type 0 where
  pub fits : Fits types kind v
  pub stands : Stands types cells v word
  pub once : (at : ℕ) → times at before + times at (footprint types cells v word) ≤ 1
  pub inside : (at : ℕ) → 1 ≤ times at (footprint types cells v word) → at < length cells

-- the same of a word of a frame, by the kind of its local
abbrev pub IsOwnWord : Code → List Cell → (before : List ℕ) → Frame → Bound → Value → Type 0
IsOwnWord p cells before f b v = IsSomeAnd (kind_in (slice_get p.funcs f.func) b.local) (λ q. IsOwn p.types cells before q b.word v)

-- ---- the words of a frame

-- the cells of their values, in order
abbrev pub words_cells : Code → List Cell → List Bound → List Value → List ℕ
words_cells p cells [] vs = []
words_cells p cells (b ∷ bs) [] = []
words_cells p cells (b ∷ bs) (v ∷ vs) = footprint p.types cells v b.word ++ words_cells p cells bs vs

-- each of these words of a frame has its value, where the earlier ones took theirs
abbrev pub AreOwnWords : Code → List Cell → (before : List ℕ) → Frame → List Bound → List Value → Type 0
AreOwnWords p cells before f [] [] = Unit {0}
AreOwnWords p cells before f [] (v ∷ vs) = ⊥
AreOwnWords p cells before f (b ∷ bs) [] = ⊥
AreOwnWords p cells before f (b ∷ bs) (v ∷ vs) = IsOwnWord p cells before f b v × AreOwnWords p cells (before ++ footprint p.types cells v b.word) f bs vs

-- ---- the words of all frames

abbrev pub frames_cells : Code → List Cell → List Frame → List (List Value) → List ℕ
frames_cells p cells [] vss = []
frames_cells p cells (f ∷ fs) [] = []
frames_cells p cells (f ∷ fs) (vs ∷ vss) = words_cells p cells f.live vs ++ frames_cells p cells fs vss

abbrev pub AreOwnFrames : Code → List Cell → (before : List ℕ) → List Frame → List (List Value) → Type 0
AreOwnFrames p cells before [] [] = Unit {0}
AreOwnFrames p cells before [] (vs ∷ vss) = ⊥
AreOwnFrames p cells before (f ∷ fs) [] = ⊥
AreOwnFrames p cells before (f ∷ fs) (vs ∷ vss) = AreOwnWords p cells before f f.live vs × AreOwnFrames p cells (before ++ words_cells p cells f.live vs) fs vss

-- the first word that has no value so: a local of a frame, whose frame has this number
pub record IsValueFault (p : Code) (cells : List Cell) (fs : List Frame) (number local : ℕ) : Type 0 where
  pub older : List Frame
  pub frame : Frame
  pub younger : List Frame
  pub frames : fs ≡ older ++ frame ∷ younger
  pub count : number ≡ length older
  pub lower : List Bound
  pub bound : Bound
  pub higher : List Bound
  pub bounds : frame.live ≡ lower ++ bound ∷ higher
  pub is : local ≡ bound.local
  -- the words before it have values
  pub values : List (List Value)
  pub own : AreOwnFrames p cells [] older values
  pub lower_values : List Value
  pub lower_own : AreOwnWords p cells (frames_cells p cells older values) frame lower lower_values
  pub none : (v : Value) → IsOwnWord p cells (frames_cells p cells older values ++ words_cells p cells lower lower_values) frame bound v → ⊥

-- ---- what frames ask for

-- the units that are left at the frame's place, and what locals carry there
abbrev pub left_at : Licensed → Frame → ℕ
left_at l f = option_map_or (λ b. (account_of l f.func f.block b (f.place - 1)).left) (block_at l.code f.func f.block) 0

abbrev pub carried_at : Licensed → Frame → Carried ℕ
carried_at l f = option_map_or (λ b. (account_of l f.func f.block b (f.place - 1)).carried) (block_at l.code f.func f.block) (λ x con. 0)

abbrev pub callee_of : Op → ℕ
callee_of (Call callee args) = callee
callee_of (Lit z) = 0
callee_of (Flag b) = 0
callee_of (Copy x) = 0
callee_of (Prim op x y) = 0
callee_of (Make con args into) = 0

-- the function that is called at this place of a block, or at the frame's place
abbrev pub callee_in : Block → (place : ℕ) → ℕ
callee_in b place = option_map_or (λ (t : Let). callee_of t.op) (slice_get b.lets place) 0

abbrev pub callee_at : Licensed → Frame → ℕ
callee_at l f = option_map_or (λ (b : Block). callee_in b (f.place - 1)) (block_at l.code f.func f.block) 0

-- what the values of these words carry
abbrev pub words_units : List DataType → Carried ℕ → List Bound → List Value → ℕ
words_units types carried [] vs = 0
words_units types carried (b ∷ bs) [] = 0
words_units types carried (b ∷ bs) (v ∷ vs) = potential types (carried b.local) v + words_units types carried bs vs

-- A frame that runs asks for what is left at its place and what its values carry. One that waits asks for what is left
-- once its callee's need is taken, what its values carry, and what it was promised back beyond what the next function
-- promises.
abbrev pub frames_ask : Licensed → List Frame → List (List Value) → ℕ
frames_ask l [] vss = 0
frames_ask l (f ∷ fs) [] = 0
frames_ask l (f ∷ []) (vs ∷ vss) = left_at l f + words_units l.code.types (carried_at l f) f.live vs
frames_ask l (f ∷ g ∷ fs) (vs ∷ vss) =
    (((left_at l f - (book_of l.cert).need (callee_at l f)) + words_units l.code.types (carried_at l f) f.live vs)
    + ((book_of l.cert).back (callee_at l f) - (book_of l.cert).back g.func))
    + frames_ask l (g ∷ fs) vss
