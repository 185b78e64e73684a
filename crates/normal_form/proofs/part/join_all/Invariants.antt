use Rattle.std.proofs.Common.{◌≡◌, ◌++◌, map}
use Rattle.std.specs.Vec.Iter.{into_iter_items}
use Rattle.normal_form.specs.Parts.{line_of, body_of, joined_bodies}
use Rattle.normal_form.proofs.part.join_all.Given as goal

abbrev pub invariant-bodies : goal.invariant-bodies
invariant-bodies l = map line_of l.lines.items ++ joined_bodies l.to l.target (map body_of (into_iter_items l.body-iterator)) ≡ map line_of l.fn.lines.items ++ joined_bodies l.to l.target (map body_of l.fn.bodies.items)
