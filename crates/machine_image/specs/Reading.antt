-- Private: words for functions of this crate.
-- What was read of an image between two lines, and what a line makes of it.
use Rattle.std.specs.Prelude.{ℕ, zero, suc, ℤ, pos, negsuc, ◌+◌, ◌-◌, ◌==◌, ◌&&◌, nat_le, nat_lt, Bool, true, false, if◌then◌else◌, Option, Some, None, List, [], ◌∷◌, ◌++◌, length, map, flat_map, codes}
use Rattle.std.specs.Option.{option_map}
use Rattle.std.specs.Str.{bytes_eq}
use Rattle.text_lines.specs.Cuts.{and_then, only_if, number_of}
use Rattle.text_lines.specs.Machines.{Machine}
use Rattle.text_lines.specs.Spellings.{Spelling, machine_of}
use Rattle.machine_image.specs.Images.{Counts, Bound, Frame, Cell, Image, IsImage, first_words, frame_words, cell_words, bound_words, end_words, frame_lines, front_lines, image_lines, image_format}

-- ---- lines

pub data Line : Type 0 where
  LFrame : (func block place : ℕ) → Line
  LLocal : Bound → Line
  LCell : Cell → Line
  LEnd : Line

abbrev pub within : ℕ → ℕ → Option ℕ
within most n = only_if (nat_le n most) (Some n)

-- a number of 32 bits
unfoldable pub word_number : List ℕ → Option ℕ
word_number w = and_then (number_of w) (within 4294967295)

unfoldable pub numbers_of : List (List ℕ) → Option (List ℕ)
numbers_of [] = Some []
numbers_of (w ∷ ws) = and_then (word_number w) (λ n. option_map (λ ns. n ∷ ns) (numbers_of ws))

abbrev pub frame_by : List ℕ → Option Line
frame_by (f ∷ b ∷ p ∷ []) = Some (LFrame f b p)
frame_by ns = None

abbrev pub local_by : List ℕ → Option Line
local_by (l ∷ w ∷ []) = Some (LLocal (record { local = l; word = w }))
local_by ns = None

abbrev pub cell_by : List ℕ → Option Line
cell_by (t ∷ a ∷ b ∷ c ∷ d ∷ []) = Some (LCell (record { tag = t; w0 = a; w1 = b; w2 = c; w3 = d }))
cell_by ns = None

abbrev pub end_by : List ℕ → Option Line
end_by [] = Some LEnd
end_by ns = None

abbrev pub line_by : List ℕ → List ℕ → Option Line
line_by tag ns =
    if bytes_eq tag (codes "frame") then frame_by ns else
    if bytes_eq tag (codes "local") then local_by ns else
    if bytes_eq tag (codes "cell") then cell_by ns else
    if bytes_eq tag (codes "end") then end_by ns else None

unfoldable pub line_of : List (List ℕ) → Option Line
line_of [] = None
line_of (tag ∷ ws) = and_then (numbers_of ws) (line_by tag)

abbrev pub line_words : Line → List (List ℕ)
line_words (LFrame f b p) = frame_words f b p
line_words (LLocal b) = bound_words b
line_words (LCell c) = cell_words c
line_words LEnd = end_words

-- the words behind these
unfoldable pub keyed : List (List ℕ) → List (List ℕ) → Option (List (List ℕ))
keyed [] [] = Some []
keyed [] (w ∷ ws) = None
keyed (k ∷ ks) [] = None
keyed (k ∷ ks) (t ∷ []) = None
keyed (k ∷ ks) (t ∷ w ∷ ws) = only_if (bytes_eq t k) (option_map (λ vs. w ∷ vs) (keyed ks ws))

abbrev pub count_keys : List (List ℕ)
count_keys = codes "calls" ∷ codes "net" ∷ codes "peak" ∷ codes "fuel" ∷ codes "free" ∷ codes "cells" ∷ []

abbrev pub below_zero : ℕ → Option ℤ
below_zero zero = None
below_zero (suc n) = Some (negsuc n)

unfoldable pub net_of : List ℕ → Option ℤ
net_of [] = None
net_of (b ∷ bs) = if b == 45 then and_then (word_number bs) below_zero else option_map pos (word_number (b ∷ bs))

-- at most 2^40
unfoldable pub long_number : List ℕ → Option ℕ
long_number w = and_then (number_of w) (within 1099511627776)

abbrev pub counts_by : (calls : ℕ) (net : ℤ) (peak fuel free cells : ℕ) → Counts
counts_by calls net peak fuel free cells = record { calls = calls; net = net; peak = peak; fuel = fuel; free = free; cells = cells }

unfoldable pub counts_from : List (List ℕ) → Option Counts
counts_from (c ∷ n ∷ p ∷ f ∷ h ∷ s ∷ []) = and_then (long_number c) (λ calls. and_then (net_of n) (λ net. and_then (long_number p) (λ peak. and_then (long_number f) (λ fuel. and_then (word_number h) (λ free. and_then (word_number s) (λ cells. only_if (nat_le (calls + fuel) 1099511627776) (Some (counts_by calls net peak fuel free cells))))))))
counts_from vs = None

abbrev pub counts_of : List (List ℕ) → Option Counts
counts_of ws = and_then (keyed count_keys ws) counts_from

abbrev pub same_words : List (List ℕ) → List (List ℕ) → Bool
same_words [] [] = true
same_words [] (w ∷ ws) = false
same_words (v ∷ vs) [] = false
same_words (v ∷ vs) (w ∷ ws) = bytes_eq v w && same_words vs ws

-- ---- fronts

pub data Front : Type 0 where
  Start : Front
  -- behind the first line
  Named : Front
  -- behind the numbers
  Counted : Counts → Front
  -- in the last of these frames, or in the cells
  Framed : Counts → List Frame → Frame → List Cell → Front
  Done : Image → Front

abbrev pub frame_by_three : ℕ → ℕ → ℕ → Frame
frame_by_three f b p = record { func = f; block = b; place = p; live = [] }

abbrev pub with_local : Frame → Bound → Frame
with_local f b = record { func = f.func; block = f.block; place = f.place; live = f.live ++ b ∷ [] }

-- a local may stand behind these
abbrev pub is_above : List Bound → ℕ → Bool
is_above [] n = true
is_above (b ∷ []) n = nat_lt b.local n
is_above (b ∷ c ∷ bs) n = is_above (c ∷ bs) n

abbrev pub is_empty : {A : Type 0} → List A → Bool
is_empty [] = true
is_empty (x ∷ xs) = false

abbrev pub image_by : Counts → List Frame → List Cell → Image
image_by c fs cs = record { counts = c; frames = fs; cells = cs }

abbrev pub first_frame : Counts → Line → Option Front
first_frame c (LFrame f b p) = Some (Framed c [] (frame_by_three f b p) [])
first_frame c (LLocal b) = None
first_frame c (LCell d) = None
first_frame c LEnd = None

abbrev pub take_line : Counts → List Frame → Frame → List Cell → Line → Option Front
take_line c fs f cs (LFrame g b p) = only_if (is_empty cs) (Some (Framed c (fs ++ f ∷ []) (frame_by_three g b p) cs))
take_line c fs f cs (LLocal b) = only_if (is_empty cs && is_above f.live b.local) (Some (Framed c fs (with_local f b) cs))
take_line c fs f cs (LCell d) = only_if (nat_lt (length cs) c.cells) (Some (Framed c fs f (cs ++ d ∷ [])))
take_line c fs f cs LEnd = only_if (length cs == c.cells) (Some (Done (image_by c (fs ++ f ∷ []) cs)))

abbrev pub step : Front → List (List ℕ) → Option Front
step Start ws = only_if (same_words ws first_words) (Some Named)
step Named ws = option_map Counted (counts_of ws)
step (Counted c) ws = and_then (line_of ws) (first_frame c)
step (Framed c fs f cs) ws = and_then (line_of ws) (take_line c fs f cs)
step (Done i) ws = None

abbrev pub may_end : Front → Bool
may_end Start = false
may_end Named = false
may_end (Counted c) = false
may_end (Framed c fs f cs) = false
may_end (Done i) = true

-- ---- the least image that goes on so

abbrev pub no_counts : Counts
no_counts = counts_by 0 (pos 0) 0 0 0 0

abbrev pub no_cell : Cell
no_cell = record { tag = 0; w0 = 0; w1 = 0; w2 = 0; w3 = 0 }

abbrev pub no_cells : ℕ → List Cell
no_cells zero = []
no_cells (suc n) = no_cell ∷ no_cells n

abbrev pub closed : Front → Image
closed Start = image_by no_counts (frame_by_three 0 0 0 ∷ []) []
closed Named = image_by no_counts (frame_by_three 0 0 0 ∷ []) []
closed (Counted c) = image_by c (frame_by_three 0 0 0 ∷ []) (no_cells c.cells)
closed (Framed c fs f cs) = image_by c (fs ++ f ∷ []) (cs ++ no_cells (c.cells - length cs))
closed (Done i) = i

abbrev pub told : Front → List (List (List ℕ))
told Start = []
told Named = first_words ∷ []
told (Counted c) = front_lines c
told (Framed c fs f cs) = front_lines c ++ (flat_map frame_lines (fs ++ f ∷ []) ++ map cell_words cs)
told (Done i) = image_lines i

abbrev pub image_spelling : Spelling image_format
image_spelling = record { State = Front; start = Start; step = step; ends = may_end; closed = closed; told = told; IsGood = λ s. IsImage (closed s); lines = image_lines }

abbrev pub image_machine : Machine image_format
image_machine = machine_of image_spelling
