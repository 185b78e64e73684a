-- Private: words for functions of this crate.
-- What the fields of holes say, and what they keep.
use Rattle.std.specs.Prelude.{◌≡◌, ◌+◌, ◌≤◌, map, vec_capacity}
use Rattle.cell_span.specs.Arenas.{arena_of}
use Rattle.hole_list.specs.Placing.{total}
use Rattle.hole_list.specs.Holes.{Holed, AreHoles, run_of}
use Rattle.hole_list.specs.declared.holes.Holes.TheInside.{Inside}

-- the holes as a caller sees them
abbrev pub holed_of : Inside → Holed
holed_of s = record { arena = arena_of s.arena; base = s.base; most_out = s.most_out; holes = s.spans.items; out = s.runs.items }

-- what the fields keep, and that there is room for all that may come: one hole more than runs that may be out, and
-- these runs
pub record IsKept (s : Inside) : Type 0 where
  pub holes : AreHoles (holed_of s)
  pub free : s.free ≡ total (map run_of s.spans.items)
  pub hole_room : s.most_out + 1 ≤ vec_capacity s.spans
  pub run_room : s.most_out ≤ vec_capacity s.runs
