-- Cited by contracts.
-- Images of paused runs as plain data, and their text.
use Rattle.std.specs.Prelude.{◌≡◌, ℕ, suc, ℤ, pos, negsuc, ◌+◌, ◌<◌, ◌≤◌, List, [], ◌∷◌, ◌++◌, length, map, flat_map, codes}
use Rattle.std.specs.List.{AllByRecursion}
use Rattle.text_lines.specs.Numbers.{number}
use Rattle.text_lines.specs.Formats.{Format}
use Rattle.text_lines.specs.Spellings.{text_of_words}

-- the six numbers: how many functions were entered, the cells taken less those given back, the greatest that this was,
-- how many functions may still be entered, the first free cell, and how many cells there are
pub record Counts : Type 0 where
  pub calls : ℕ
  pub net : ℤ
  pub peak : ℕ
  pub fuel : ℕ
  pub free : ℕ
  pub cells : ℕ

-- a live local and its word
pub record Bound : Type 0 where
  pub local : ℕ
  pub word : ℕ

-- a call that hasn't returned: its function, block and place, and its live locals
pub record Frame : Type 0 where
  pub func : ℕ
  pub block : ℕ
  pub place : ℕ
  pub live : List Bound

pub record Cell : Type 0 where
  pub tag : ℕ
  pub w0 : ℕ
  pub w1 : ℕ
  pub w2 : ℕ
  pub w3 : ℕ

-- frames stand from the oldest on
pub record Image : Type 0 where
  pub counts : Counts
  pub frames : List Frame
  pub cells : List Cell

-- ---- form

-- 32 bits
abbrev pub Is32 : ℕ → Type 0
Is32 n = n ≤ 4294967295

-- 32 bits and a sign
abbrev pub IsNet : ℤ → Type 0
IsNet (pos n) = Is32 n
IsNet (negsuc n) = suc n ≤ 4294967295

pub record CountsAreFormed (c : Counts) : Type 0 where
  pub steps : c.calls + c.fuel ≤ 1099511627776
  pub net : IsNet c.net
  pub peak : c.peak ≤ 1099511627776
  pub free : Is32 c.free
  pub cells : Is32 c.cells

pub record BoundIsFormed (b : Bound) : Type 0 where
  pub local : Is32 b.local
  pub word : Is32 b.word

-- each local is above the one before
abbrev pub IsRising : List Bound → Type 0
IsRising [] = Unit {0}
IsRising (b ∷ []) = Unit {0}
IsRising (b ∷ c ∷ bs) = (b.local < c.local) × IsRising (c ∷ bs)

pub record FrameIsFormed (f : Frame) : Type 0 where
  pub func : Is32 f.func
  pub block : Is32 f.block
  pub place : Is32 f.place
  pub live : AllByRecursion BoundIsFormed f.live
  pub rising : IsRising f.live

pub record CellIsFormed (c : Cell) : Type 0 where
  pub tag : Is32 c.tag
  pub w0 : Is32 c.w0
  pub w1 : Is32 c.w1
  pub w2 : Is32 c.w2
  pub w3 : Is32 c.w3

-- at least one
abbrev pub IsFilled : {A : Type 0} → List A → Type 0
IsFilled [] = ⊥
IsFilled (x ∷ xs) = Unit {0}

-- all that is asked of an image
pub record IsImage (i : Image) : Type 0 where
  pub counts : CountsAreFormed i.counts
  pub some : IsFilled i.frames
  pub frames : AllByRecursion FrameIsFormed i.frames
  pub cells : AllByRecursion CellIsFormed i.cells
  pub size : length i.cells ≡ i.counts.cells

-- ---- text

abbrev pub net_word : ℤ → List ℕ
net_word (pos n) = number n
net_word (negsuc n) = 45 ∷ number (suc n)

abbrev pub first_words : List (List ℕ)
first_words = codes "grail" ∷ codes "image" ∷ codes "1" ∷ []

abbrev pub counts_words : Counts → List (List ℕ)
counts_words c =
    codes "calls" ∷ number c.calls ∷ codes "net" ∷ net_word c.net ∷ codes "peak" ∷ number c.peak ∷ codes "fuel" ∷ number c.fuel ∷ codes "free" ∷ number c.free
    ∷ codes "cells" ∷ number c.cells ∷ []

abbrev pub frame_words : ℕ → ℕ → ℕ → List (List ℕ)
frame_words func block place = codes "frame" ∷ map number (func ∷ block ∷ place ∷ [])

abbrev pub bound_words : Bound → List (List ℕ)
bound_words b = codes "local" ∷ map number (b.local ∷ b.word ∷ [])

abbrev pub cell_words : Cell → List (List ℕ)
cell_words c = codes "cell" ∷ map number (c.tag ∷ c.w0 ∷ c.w1 ∷ c.w2 ∷ c.w3 ∷ [])

abbrev pub end_words : List (List ℕ)
end_words = codes "end" ∷ []

abbrev pub frame_lines : Frame → List (List (List ℕ))
frame_lines f = frame_words f.func f.block f.place ∷ map bound_words f.live

abbrev pub front_lines : Counts → List (List (List ℕ))
front_lines c = first_words ∷ counts_words c ∷ []

abbrev pub image_lines : Image → List (List (List ℕ))
image_lines i = front_lines i.counts ++ (flat_map frame_lines i.frames ++ (map cell_words i.cells ++ end_words ∷ []))

-- each line with its line feed
unfoldable pub image_text : Image → List ℕ
image_text i = text_of_words (image_lines i)

-- one kind of faults: a line without form
abbrev pub image_format : Format
image_format = record { Value = Image; text = image_text; IsFormed = IsImage; most = 0; Asks = λ k i. Unit {0} }
