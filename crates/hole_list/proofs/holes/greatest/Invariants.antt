use Rattle.std.proofs.Common.{◌≡◌, max, map, drop}
use Rattle.hole_list.specs.Placing.{largest}
use Rattle.hole_list.specs.Holes.{run_of}
use Rattle.hole_list.proofs.holes.greatest.Given as goal

abbrev pub invariant-loop-span : goal.invariant-loop-span
invariant-loop-span l = max l.most (largest (map run_of (drop l.span-index l.spans))) ≡ largest (map run_of l.spans)
