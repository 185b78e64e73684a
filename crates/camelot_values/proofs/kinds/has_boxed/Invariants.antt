use Rattle.std.proofs.Common.{◌≡◌, map, drop}
use Rattle.std.specs.Prelude.{not}
use Rattle.std.specs.List.{list_any}
use Rattle.camelot_values.specs.Kinds.{constructor_of}
use Rattle.camelot_values.proofs.kinds.has_boxed.Given as goal

abbrev pub invariant-cons : goal.invariant-cons
invariant-cons l = list_any (λ c. not c.inline) (map constructor_of (drop l.con-index l.def.cons.items)) ≡ list_any (λ c. not c.inline) (map constructor_of l.def.cons.items)
