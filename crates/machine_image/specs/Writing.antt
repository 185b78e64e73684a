-- Private: words for functions of this crate.
-- Pieces of an image's text.
use Rattle.std.specs.Prelude.{ℕ, List, [], ◌∷◌, ◌++◌}
use Rattle.text_lines.specs.Numbers.{number}
use Rattle.text_lines.specs.Cuts.{spaced}
use Rattle.text_lines.specs.Spellings.{text_of_words}
use Rattle.machine_image.specs.Images.{Frame, Cell, Bound, frame_lines, bound_words, cell_words}

-- words with a space between two, and a line feed
abbrev pub line_text : List (List ℕ) → List ℕ
line_text ws = spaced ws ++ 10 ∷ []

-- a number behind a space
abbrev pub number_text : ℕ → List ℕ
number_text n = 32 ∷ number n

abbrev pub bound_text : Bound → List ℕ
bound_text b = line_text (bound_words b)

abbrev pub cell_text : Cell → List ℕ
cell_text c = line_text (cell_words c)

abbrev pub frame_text : Frame → List ℕ
frame_text f = text_of_words (frame_lines f)
