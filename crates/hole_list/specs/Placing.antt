-- Cited by contracts.
-- Placement by first fit (Knuth, The Art of Computer Programming, volume 1, 2.5): where a run of cells is taken, and
-- how runs that come back are merged with their neighbours. Holes are runs in ascending order, no two of which meet.
-- The code moves the cells themselves.
pub use Rattle.hole_list.specs.declared.run.Run.{Run}
use Rattle.std.specs.Prelude.{◌≡◌, ℕ, ◌+◌, ◌-◌, ◌<◌, ◌≤◌, max, ◌==◌, ◌⊎◌, nat_le, nat_lt, if◌then◌else◌, List, [], ◌∷◌, Option, Some, None}
use Rattle.std.specs.Option.{option_map}

-- ---- runs

-- so many cells in a row, from this index of the arena on
abbrev pub run : ℕ → ℕ → Run
run first size = record { first = first; size = size }

-- the index behind the last cell
abbrev pub end_of : Run → ℕ
end_of r = r.first + r.size

-- ---- taking

-- a run that was taken, and the holes that are left
pub record Taken : Type 0 where
  pub run : Run
  pub holes : List Run

abbrev pub taken : Run → List Run → Taken
taken r holes = record { run = r; holes = holes }

-- a hole less its first cells; nothing where these are all
abbrev pub rest_of_run : Run → ℕ → List Run → List Run
rest_of_run h size hs = if h.size == size then hs else run (h.first + size) (h.size - size) ∷ hs

-- with this hole in front, which stays
abbrev pub behind : Run → Taken → Taken
behind h t = taken t.run (h ∷ t.holes)

-- the front of the first hole that has so many cells
abbrev pub take_run : List Run → ℕ → Option Taken
take_run [] size = None
take_run (h ∷ hs) size = if nat_le size h.size then Some (taken (run h.first size) (rest_of_run h size hs)) else option_map (behind h) (take_run hs size)

-- the greatest size of a hole, and 0 where there is none
abbrev pub largest : List Run → ℕ
largest [] = 0
largest (h ∷ hs) = max h.size (largest hs)

-- ---- giving back

-- two runs that meet as one
abbrev pub both : Run → Run → Run
both r s = run r.first (r.size + s.size)

-- a run becomes a hole, which is merged with the hole that ends where it begins, and with the one that begins where it
-- ends
abbrev pub give_run : List Run → Run → List Run
give_run [] r = r ∷ []
give_run (h ∷ hs) r =
    if nat_lt (end_of r) h.first then r ∷ h ∷ hs
    else if end_of r == h.first then both r h ∷ hs
    else if end_of h == r.first then give_run hs (both h r)
    else h ∷ give_run hs r

-- ---- what holes keep

-- each has a cell, ends before the next one begins, and the two don't meet
abbrev pub AreApart : List Run → Type 0
AreApart [] = Unit {0}
AreApart (h ∷ []) = 1 ≤ h.size
AreApart (h ∷ k ∷ hs) = (1 ≤ h.size) × (end_of h < k.first) × AreApart (k ∷ hs)

-- the first run is a part of the second
pub record IsPartOf (r base : Run) : Type 0 where
  pub from : base.first ≤ r.first
  pub to : end_of r ≤ end_of base

-- the run has no cell of these
abbrev pub AreFreeOf : List Run → Run → Type 0
AreFreeOf [] r = Unit {0}
AreFreeOf (h ∷ hs) r = ((end_of r ≤ h.first) ⊎ (end_of h ≤ r.first)) × AreFreeOf hs r

-- 1 where the run has the cell of this index, and 0 where it hasn't
unfoldable pub in_run : Run → ℕ → ℕ
in_run r index = if nat_le r.first index then (if nat_lt index (end_of r) then 1 else 0) else 0

-- how many of these runs have the cell of this index
abbrev pub times_in : List Run → ℕ → ℕ
times_in [] index = 0
times_in (r ∷ rs) index = in_run r index + times_in rs index

-- all their cells
abbrev pub total : List Run → ℕ
total [] = 0
total (r ∷ rs) = r.size + total rs

-- Each index of the base run is in just one hole or one run that is out, and no other index is in any. So no two of all
-- these runs overlap.
abbrev pub AreParts : (base : Run) → (holes out : List Run) → Type 0
AreParts base holes out = (index : ℕ) → times_in holes index + times_in out index ≡ in_run base index

-- ---- the runs that are out, in ascending order

-- each has a cell and ends before the next one begins; the two may meet
abbrev pub AreOrdered : List Run → Type 0
AreOrdered [] = Unit {0}
AreOrdered (r ∷ []) = 1 ≤ r.size
AreOrdered (r ∷ s ∷ rs) = (1 ≤ r.size) × (end_of r ≤ s.first) × AreOrdered (s ∷ rs)

-- it is one of them
abbrev pub IsOut : List Run → Run → Type 0
IsOut [] r = ⊥
IsOut (s ∷ ss) r = (s ≡ r) ⊎ IsOut ss r

-- with this one at its place
abbrev pub with_run : List Run → Run → List Run
with_run [] r = r ∷ []
with_run (s ∷ ss) r = if nat_lt r.first s.first then r ∷ s ∷ ss else s ∷ with_run ss r

-- without the one that begins here
abbrev pub without_run : List Run → ℕ → List Run
without_run [] first = []
without_run (s ∷ ss) first = if s.first == first then ss else s ∷ without_run ss first
