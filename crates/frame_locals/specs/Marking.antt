-- Cited by contracts.
-- Marks of the locals that are ready, and what the events of a block do to them.
use Rattle.std.specs.Prelude.{◌≡◌, ℕ, ◌<◌, Bool, true, false, if◌then◌else◌, List, [], ◌∷◌, length, Option, Some, None, slice_get, slice_set}
use Rattle.std.specs.Option.{option_map_or}
use Rattle.grail_blocks.specs.Events.{Event, Use, Look, Bind, Reads, uses_of, let_events}
use Rattle.grail_blocks.specs.States as states
use Rattle.grail_code.specs.Code.{Let}
use Rattle.frame_locals.specs.Places.{is_ready}

-- each local has a mark, as far as there are marks, which says whether it is ready
unfoldable pub AreMarks : states.State → List Bool → Type 0
AreMarks s marks = (x : ℕ) → x < length marks → slice_get marks x ≡ Some (is_ready (s x))

-- the mark is there, and set
abbrev pub is_set : List Bool → ℕ → Bool
is_set marks x = option_map_or (λ mark. mark) (slice_get marks x) false

-- ---- by the marks of what is owned

abbrev pub use_mark : (owned marks : List Bool) → ℕ → List Bool
use_mark owned marks x = if is_set owned x then slice_set marks x false else marks

abbrev pub marks_after : (owned marks : List Bool) → List Event → List Bool
marks_after owned marks [] = marks
marks_after owned marks (Bind x ∷ events) = marks_after owned (slice_set marks x true) events
marks_after owned marks (Use x ∷ events) = marks_after owned (use_mark owned marks x) events
marks_after owned marks (Look x ∷ events) = marks_after owned marks events

abbrev pub marks_behind : Reads → (owned marks : List Bool) → List Let → List Bool
marks_behind reads owned marks [] = marks
marks_behind reads owned marks (l ∷ ls) = marks_behind reads owned (marks_after owned marks (let_events reads l)) ls

-- those of the operands of a let, where there is one
abbrev pub marks_used : Reads → (owned marks : List Bool) → Option Let → List Bool
marks_used reads owned marks None = marks
marks_used reads owned marks (Some l) = marks_after owned marks (uses_of reads l.op)
