-- Private: words for functions of this crate.
-- A piece of a run, with what lies before it and behind it.
use Rattle.std.specs.Prelude.{◌≡◌, ◌+◌, length, Option, Some, None}
use Rattle.cell_span.specs.Range.{Range, Meet}

-- what lies before the piece begins where the run does, and ends where the piece begins
abbrev pub IsBefore : (whole piece : Range) → Option Range → Type 0
IsBefore w piece None = piece.first ≡ w.first
IsBefore w piece (Some b) = (b.arena ≡ w.arena) × (b.first ≡ w.first) × (b.first + length b.cells ≡ piece.first)

-- what lies behind it begins where the piece ends, and ends where the run does
abbrev pub IsBehind : (whole piece : Range) → Option Range → Type 0
IsBehind w piece None = piece.first + length piece.cells ≡ w.first + length w.cells
IsBehind w piece (Some b) = (b.arena ≡ w.arena) × (piece.first + length piece.cells ≡ b.first) × (b.first + length b.cells ≡ w.first + length w.cells)

-- they are the run's parts
pub record ArePartsOf (w : Range) (b : Option Range) (piece : Range) (n : Option Range) : Type 0 where
  pub arena : piece.arena ≡ w.arena
  pub before : IsBefore w piece b
  pub behind : IsBehind w piece n

-- they can be joined
abbrev pub MeetsBehind : Range → Option Range → Type 0
MeetsBehind piece None = Unit {0}
MeetsBehind piece (Some b) = Meet piece b

abbrev pub MeetsBefore : Option Range → Range → Type 0
MeetsBefore None piece = Unit {0}
MeetsBefore (Some b) piece = Meet b piece
