-- Cited by contracts: `lender_from` and `oldest_first`. The other words are for functions of this crate.
-- How what is kept of a state is gathered and laid again.
use Rattle.std.specs.List.{AllByRecursion}
use Rattle.std.specs.Prelude.{◌≡◌, ℕ, suc, ◌-◌, ◌≤◌, Bool, if◌then◌else◌, List, [], ◌∷◌, ◌++◌, map, reverse, take, drop, Option, Some, None}
use Rattle.grail_code.specs.Code.{Code}
use Rattle.frame_locals.specs.Marking.{is_set}
use Rattle.frame_locals.specs.Lending.{lends_at}
use Rattle.machine_image.specs.Images.{Bound, Frame}
use Rattle.machine_image.specs.Words as words
use Rattle.machine_image.specs.declared.state.Bound.{Bound as DeclaredBound}
use Rattle.machine_image.specs.declared.state.Frame.{Frame as DeclaredFrame}
use Rattle.cell_machine.specs.State.{Activation, Configuration}
use Rattle.cell_machine.specs.FrameWords.{position_in, frame_of, frame_of_position, top_of, waiting_of}
use Rattle.cell_machine.specs.Saved.{frames_back}
use Rattle.cell_machine.specs.Walking.{IsPlace}
use Rattle.cell_machine.specs.declared.frames.Frames.{Frames}
use Rattle.cell_machine.specs.declared.frames.Caller.{Caller}
use Rattle.cell_machine.specs.declared.packed.Packed.{Packed}
use Rattle.cell_machine.specs.declared.packed.Position.{Position}

-- ---- frames that lend

-- all frames, the one that runs last
abbrev pub oldest_first : Configuration → List Activation
oldest_first s = reverse s.waiting ++ s.frame ∷ []

-- the number of the first of these frames in whose block a parameter is lent, where the first frame has this number
abbrev pub lender_from : Code → ℕ → List Activation → Option ℕ
lender_from p n [] = None
lender_from p n (fr ∷ frs) = if lends_at p fr.func fr.block then Some n else lender_from p (suc n) frs

-- the same of callers, by the positions of their addresses
abbrev pub lender_at : Code → List Position → ℕ → List Caller → Option ℕ
lender_at p ps n [] = None
lender_at p ps n (c ∷ cs) = if lends_at p (position_in ps c.at).func (position_in ps c.at).block then Some n else lender_at p ps (suc n) cs

-- the number of the frame that runs, where it lends and none before it does
abbrev pub or_last : Option ℕ → Bool → ℕ → Option ℕ
or_last (Some n) lends last = Some n
or_last None lends last = if lends then Some last else None

-- ---- gathering

-- each caller waits at one of the first places of a block
abbrev pub StandNear : List Position → List Caller → Type 0
StandNear ps cs = AllByRecursion (λ c. (position_in ps c.at).place ≤ 256) cs

-- a local with its word, where it has a mark
abbrev pub bound_marked : List Bool → ℕ → ℕ → List Bound
bound_marked marks x w = if is_set marks x then record { local = x; word = w } ∷ [] else []

-- the locals that have a mark, with their words; the first one has this number
abbrev pub bounds_marked : List Bool → ℕ → List ℕ → List Bound
bounds_marked marks x [] = []
bounds_marked marks x (w ∷ ws) = bound_marked marks x w ++ bounds_marked marks (suc x) ws

-- the frames of callers whose words lie one behind the other, the oldest first
abbrev pub in_order : List Position → List Caller → List ℕ → List Activation
in_order ps [] ws = []
in_order ps (c ∷ cs) ws = frame_of ps c (take c.width ws) ∷ in_order ps cs (drop c.width ws)

-- ---- laying

-- the frame stands at a place of the code
abbrev pub IsPlaceOf : Code → Frame → Type 0
IsPlaceOf p f = IsPlace p f.func f.block (f.place - 1)

abbrev pub plain_frames : List DeclaredFrame → List Frame
plain_frames fs = map words.frame_of fs

abbrev pub plain_bounds : List DeclaredBound → List Bound
plain_bounds bs = map words.bound_of bs

-- where a frame stands
abbrev pub position_of : Frame → Position
position_of f = record { func = f.func; block = f.block; place = f.place - 1 }

-- these frames are laid, the last one as the one that runs
pub record AreLaid (p : Code) (k : Packed) (s : Frames) (last : Position) (frames : List Frame) : Type 0 where
  pub are : frames_back p frames ≡ frame_of_position last (top_of s) ∷ waiting_of k s
