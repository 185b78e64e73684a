-- Private: words for functions of this crate.
-- Runs within numbers of 32 bits.
use Rattle.std.specs.Prelude.{◌≤◌, List, Option, Some, None}
use Rattle.std.specs.List.{AllByRecursion, AllByRecursion-prop}
use Rattle.std.specs.Coded.{Unit-prop, le_prop}
use Rattle.hole_list.specs.declared.run.Run.{Run}
use Rattle.hole_list.specs.Placing.{end_of}

abbrev pub IsWithin : Run → Type 0
IsWithin r = end_of r ≤ 4294967295

abbrev pub AreWithin : List Run → Type 0
AreWithin rs = AllByRecursion IsWithin rs

abbrev pub IsLeaseWithin : Option Run → Type 0
IsLeaseWithin None = Unit {0}
IsLeaseWithin (Some r) = IsWithin r

abbrev pub AreLeasesWithin : List (Option Run) → Type 0
AreLeasesWithin ls = AllByRecursion IsLeaseWithin ls

-- ---- propositions

pub within_prop : (rs : List Run) → IsProp (AreWithin rs)
within_prop rs = AllByRecursion-prop IsWithin (λ r. le_prop) rs

lease_prop : (o : Option Run) → IsProp (IsLeaseWithin o)
lease_prop None = Unit-prop
lease_prop (Some r) = le_prop

pub leases_prop : (ls : List (Option Run)) → IsProp (AreLeasesWithin ls)
leases_prop ls = AllByRecursion-prop IsLeaseWithin lease_prop ls
