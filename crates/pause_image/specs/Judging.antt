-- Private: words for functions of this crate.
-- How frames are judged.
use Rattle.std.specs.Prelude.{◌≡◌, ℕ, zero, suc, ◌==◌, ◌≤◌, Bool, true, false, if◌then◌else◌, List, [], ◌∷◌, map, replicate, length, slice_get, Some, IsSomeAnd, Option, None}
use Rattle.std.specs.Option.{option_map_or}
use Rattle.annotations.specs.Vectors.{Vector, AtLeast, at}
use Rattle.cell_span.specs.declared.cell.Cell.{Cell}
use Rattle.grail_code.specs.Code.{Call, Let, Block, Func}
use Rattle.licence.specs.Books.{book_of}
use Rattle.licence.specs.Licensed.{Licensed}
use Rattle.frame_locals.specs.Marking.{is_set}
use Rattle.machine_image.specs.Images.{Bound, Frame}
use Rattle.machine_image.specs.Words as words
use Rattle.machine_image.specs.declared.state.Bound.{Bound as DeclaredBound}
use Rattle.machine_image.specs.declared.state.Frame.{Frame as DeclaredFrame}

-- it is so exactly where this is true
abbrev pub Tells : Bool → Type 0 → Type 0
Tells true A = A
Tells false A = A → ⊥

-- ---- words and marks

abbrev pub plain_bounds : List DeclaredBound → List Bound
plain_bounds bs = map words.bound_of bs

abbrev pub plain_frames : List DeclaredFrame → List Frame
plain_frames fs = map words.frame_of fs

abbrev pub bound_locals : List Bound → List ℕ
bound_locals bs = map (λ b. b.local) bs

abbrev pub is_empty : {A : Type 0} → List A → Bool
is_empty [] = true
is_empty (x ∷ xs) = false

-- what is left of these numbers behind this one, where it stands in front
abbrev pub behind_first : (local : ℕ) → List ℕ → Option (List ℕ)
behind_first x [] = None
behind_first x (y ∷ ys) = if y == x then Some ys else None

-- what is left of them behind a local, which stands in front exactly where it has a mark
abbrev pub behind_local : List Bool → (local : ℕ) → List ℕ → Option (List ℕ)
behind_local marks x ys = if is_set marks x then behind_first x ys else Some ys

-- of so many marks from this local on, those that are set are just these
abbrev pub just_set : List Bool → (local count : ℕ) → List ℕ → Bool
just_set marks x zero ys = is_empty ys
just_set marks x (suc n) ys = option_map_or (just_set marks (suc x) n) (behind_local marks x ys) false

-- ---- calls

-- a let at this place calls this function
pub record CallsAt (b : Block) (place callee : ℕ) : Type 0 where
  pub target : ℕ
  pub args : List ℕ
  pub call : slice_get b.lets place ≡ Some (record { target = target; op = Call callee args })

abbrev pub MayCall : Block → (place : ℕ) → Option ℕ → Type 0
MayCall b place (Some callee) = CallsAt b place callee
MayCall b place None = (callee : ℕ) → CallsAt b place callee → ⊥

-- the result of this function can be that of the function which was called
pub record MayReturn (l : Licensed) (callee next : ℕ) : Type 0 where
  pub k : Func
  pub above : slice_get l.code.funcs next ≡ Some k
  pub result : IsSomeAnd (slice_get l.code.funcs callee) (λ g. g.result ≡ k.result)
  pub suffices : AtLeast l.code.types k.result ((book_of l.cert).result next) ((book_of l.cert).result callee)
