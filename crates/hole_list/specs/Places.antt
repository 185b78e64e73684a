-- Private: words for functions of this crate.
-- Where in the list of holes, and in that of the runs that are out, something is taken or given back.
use Rattle.std.specs.List.{AllByRecursion}
use Rattle.std.specs.Prelude.{◌≡◌, ℕ, zero, suc, ◌+◌, nat_le, nat_lt, if◌then◌else◌, List, [], ◌∷◌, length}
use Rattle.cell_span.specs.Arenas.{Arena}
use Rattle.cell_span.specs.Range.{Range, joined}
use Rattle.hole_list.specs.declared.run.Run.{Run}
use Rattle.hole_list.specs.Holes.{rest_of}

-- how many holes stand before the first one that has so many cells
abbrev pub too_small : List Range → ℕ → ℕ
too_small [] size = 0
too_small (h ∷ hs) size = if nat_le size (length h.cells) then 0 else suc (too_small hs size)

-- how many holes stand before the first one that doesn't end before this index
abbrev pub ends_before : List Range → ℕ → ℕ
ends_before [] first = 0
ends_before (h ∷ hs) first = if nat_lt (h.first + length h.cells) first then suc (ends_before hs first) else 0

-- how many runs stand before the first one that doesn't begin before this index
abbrev pub begin_before : List Run → ℕ → ℕ
begin_before [] first = 0
begin_before (r ∷ rs) first = if nat_lt r.first first then suc (begin_before rs first) else 0

-- the hole at a place less its first cells
abbrev pub cut_at : List Range → ℕ → ℕ → List Range
cut_at [] at size = []
cut_at (h ∷ hs) zero size = rest_of h size hs
cut_at (h ∷ hs) (suc at) size = h ∷ cut_at hs at size

-- a range behind the hole at a place, as one with it
abbrev pub add_behind : List Range → ℕ → Range → List Range
add_behind [] at r = []
add_behind (h ∷ hs) zero r = joined h r ∷ hs
add_behind (h ∷ hs) (suc at) r = h ∷ add_behind hs at r

-- a range before the hole at a place, as one with it
abbrev pub add_before : List Range → ℕ → Range → List Range
add_before [] at r = []
add_before (h ∷ hs) zero r = joined r h ∷ hs
add_before (h ∷ hs) (suc at) r = h ∷ add_before hs at r

-- the first of these holes behind a range, as one with it
abbrev pub add_first : Range → List Range → List Range
add_first r [] = r ∷ []
add_first r (h ∷ hs) = joined r h ∷ hs

-- a range between the hole at a place and the next one, as one with both
abbrev pub add_between : List Range → ℕ → Range → List Range
add_between [] at r = []
add_between (h ∷ hs) zero r = add_first (joined h r) hs
add_between (h ∷ hs) (suc at) r = h ∷ add_between hs at r

-- all are of this arena
abbrev pub AreOf : Arena → List Range → Type 0
AreOf arena hs = AllByRecursion (λ h. h.arena ≡ arena) hs
