-- Private: words for functions of this crate.
-- How the cells of the frames' values are taken: a mark for each, and what the frames ask for is added up.
use Rattle.std.specs.Prelude.{◌≡◌, ℕ, ◌+◌, ◌-◌, ◌≤◌, Bool, false, List, [], ◌∷◌, ◌++◌, length, replicate, slice_get, Option, Some, None, Result, Ok, Err}
use Rattle.cell_span.specs.declared.cell.Cell.{Cell}
use Rattle.camelot_values.specs.Value.{Value}
use Rattle.camelot_values.specs.Kinds.{DataType}
use Rattle.camelot_values.specs.declared.kinds.Kind.{Kind}
use Rattle.cell_owners.specs.Marks.{AreMarkedBy}
use Rattle.cell_owners.specs.Values.{AnswerIs}
use Rattle.frame_accounts.specs.Accounts.{AreCarried}
use Rattle.grail_code.specs.Code.{Block, Func, Code}
use Rattle.grail_code.specs.WellFormed.{kind_of}
use Rattle.annotations.specs.Vectors.{Vector}
use Rattle.licence.specs.Books.{Carried, book_of}
use Rattle.licence.specs.Licensed.{Licensed}
use Rattle.machine_image.specs.Images.{Bound, Frame}
use Rattle.pause_image.specs.Owning.{IsOwnWord, AreOwnWords, words_cells, words_units, AreOwnFrames, frames_cells, frames_ask, left_at, carried_at, callee_at, callee_in, IsValueFault}
use Rattle.pause_image.specs.declared.owning.WordAt.{WordAt}

-- no cell has an owner
abbrev pub blank : List Cell → List Bool
blank cells = replicate (length cells) false

abbrev pub UnitsAtMost : {E : Type 0} → ℕ → Result ℕ E → Type 0
UnitsAtMost most (Ok n) = n ≤ most
UnitsAtMost most (Err e) = Unit {0}

-- ---- one word

abbrev pub WordAnswer : List DataType → List Cell → Option Kind → Vector → (word : ℕ) → (before behind : List Bool) → Option ℕ → Type 0
WordAnswer types cells None vector word before behind o = o ≡ None
WordAnswer types cells (Some q) vector word before behind o = AnswerIs types cells vector q word before behind o

-- the word of a local of this function; no word of another local has a value
abbrev pub WordIs : List DataType → List Cell → Func → Bound → Vector → (before behind : List Bool) → Option ℕ → Type 0
WordIs types cells h b vector before behind o = WordAnswer types cells (kind_of h b.local) vector b.word before behind o

-- ---- the words of a frame

-- it is a frame of this function, these cells have marks, and each local carries what its vector says
pub record Begins (p : Code) (cells : List Cell) (h : Func) (before : List ℕ) (f : Frame) (carried : Carried ℕ) (vectors : List Vector) (marks : List Bool) : Type 0 where
  pub func : slice_get p.funcs f.func ≡ Some h
  pub marked : AreMarkedBy (blank cells) before marks
  pub carries : AreCarried carried vectors

-- each word has its value, whose cells have marks now, and they carry so much together
pub record WordsTaken (p : Code) (cells : List Cell) (before : List ℕ) (f : Frame) (carried : Carried ℕ) (bs : List Bound) (marks : List Bool) (units : ℕ) : Type 0 where
  pub values : List Value
  pub own : AreOwnWords p cells before f bs values
  pub marked : AreMarkedBy (blank cells) (before ++ words_cells p cells bs values) marks
  pub sum : units ≡ words_units p.types carried bs values

-- the word of this local is the first that has none
pub record WordFails (p : Code) (cells : List Cell) (before : List ℕ) (f : Frame) (bs : List Bound) (local : ℕ) : Type 0 where
  pub lower : List Bound
  pub bound : Bound
  pub higher : List Bound
  pub bounds : bs ≡ lower ++ bound ∷ higher
  pub is : local ≡ bound.local
  pub values : List Value
  pub own : AreOwnWords p cells before f lower values
  pub none : (v : Value) → IsOwnWord p cells (before ++ words_cells p cells lower values) f bound v → ⊥

abbrev pub WordsAre : (p : Code) (cells : List Cell) (before : List ℕ) (f : Frame) (carried : Carried ℕ) (bs : List Bound) (marks : List Bool) → Result ℕ ℕ → Type 0
WordsAre p cells before f carried bs marks (Ok units) = WordsTaken p cells before f carried bs marks units
WordsAre p cells before f carried bs marks (Err local) = WordFails p cells before f bs local

-- ---- a frame

-- what it asks for beside what its values carry, where it runs, or waits below the first of these
abbrev pub asked_of : Licensed → Block → (place : ℕ) → (others : List Frame) → (left : ℕ) → ℕ
asked_of l b place [] left = left
asked_of l b place (g ∷ gs) left = (left - (book_of l.cert).need (callee_in b place)) + ((book_of l.cert).back (callee_in b place) - (book_of l.cert).back g.func)

-- what it asks for in front of these
abbrev pub frame_asks : Licensed → Frame → (others : List Frame) → List Value → ℕ
frame_asks l f [] vs = left_at l f + words_units l.code.types (carried_at l f) f.live vs
frame_asks l f (g ∷ gs) vs =
    ((left_at l f - (book_of l.cert).need (callee_at l f)) + words_units l.code.types (carried_at l f) f.live vs)
    + ((book_of l.cert).back (callee_at l f) - (book_of l.cert).back g.func)

pub record FrameTaken (l : Licensed) (cells : List Cell) (before : List ℕ) (f : Frame) (others : List Frame) (marks : List Bool) (asked : ℕ) : Type 0 where
  pub values : List Value
  pub own : AreOwnWords l.code cells before f f.live values
  pub marked : AreMarkedBy (blank cells) (before ++ words_cells l.code cells f.live values) marks
  pub asks : asked ≡ frame_asks l f others values

abbrev pub FrameIs : (l : Licensed) (cells : List Cell) (before : List ℕ) (f : Frame) (others : List Frame) (marks : List Bool) → Result ℕ ℕ → Type 0
FrameIs l cells before f others marks (Ok asked) = FrameTaken l cells before f others marks asked
FrameIs l cells before f others marks (Err local) = WordFails l.code cells before f f.live local

-- ---- all frames

pub record FramesTaken (l : Licensed) (cells : List Cell) (fs : List Frame) (marks : List Bool) (asked : ℕ) : Type 0 where
  pub values : List (List Value)
  pub own : AreOwnFrames l.code cells [] fs values
  pub marked : AreMarkedBy (blank cells) (frames_cells l.code cells fs values) marks
  pub asks : asked ≡ frames_ask l fs values

abbrev pub FramesAre : (l : Licensed) (cells : List Cell) (fs : List Frame) (marks : List Bool) → Result ℕ WordAt → Type 0
FramesAre l cells fs marks (Ok asked) = FramesTaken l cells fs marks asked
FramesAre l cells fs marks (Err at) = IsValueFault l.code cells fs at.frame at.local
