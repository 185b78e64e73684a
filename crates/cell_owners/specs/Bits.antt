-- Private: words for functions of this crate.
-- Marks as bits, 64 to a word: the cell at offset 0 has the lowest bit of the first word.
use Rattle.std.specs.Prelude.{ℕ, ◌*◌, ◌/◌, ◌%◌, ◌≤◌, ◌==◌, Bool, List, length, map, slice_index_or}
use Rattle.std.specs.Int.{bit_at}
use Rattle.std.specs.List.{range_with_len}

-- the mark of the cell at this offset
abbrev pub bit_of : List ℕ → ℕ → Bool
bit_of words at = bit_at (slice_index_or words (at / 64) 0) (at % 64) == 1

-- the marks of so many cells
abbrev pub marks_of : List ℕ → ℕ → List Bool
marks_of words count = map (bit_of words) (range_with_len 0 count)

-- there is a bit for each of so many cells
abbrev pub HasBits : List ℕ → ℕ → Type 0
HasBits words count = count ≤ 64 * length words
