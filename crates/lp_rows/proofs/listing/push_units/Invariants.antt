use Rattle.std.proofs.Common.{◌≡◌, ◌++◌, drop, map}
use Rattle.lp_rows.specs.Plain.{plain, units_of}
use Rattle.lp_rows.proofs.listing.push_units.Given as goal

abbrev pub invariant-cons : goal.invariant-cons
invariant-cons l = map plain l.list.items ++ (map (units_of l.origin) (drop l.con-index l.cons)) ≡ map plain l.initial.list.items ++ map (units_of l.origin) l.cons
