use Rattle.std.proofs.Common.{◌≡◌, drop, map}
use Rattle.std.specs.Prelude.{flat_map}
use Rattle.camelot_values.specs.Kinds.{constructor_of}
use Rattle.camelot_values.specs.Search.{spread}
use Rattle.camelot_values.proofs.reach.meet_all.Given as goal

abbrev pub invariant-cons : goal.invariant-cons
invariant-cons l = spread (flat_map (λ c. c.fields) (map constructor_of (drop l.con-index l.con-items))) l.marks ≡ spread (flat_map (λ c. c.fields) (map constructor_of l.con-items)) l.initial.marks
