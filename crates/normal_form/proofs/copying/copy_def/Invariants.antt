use Rattle.std.proofs.Common.{◌≡◌, ◌++◌, drop, map}
use Rattle.camelot_values.specs.Kinds.{constructor_of}
use Rattle.normal_form.proofs.copying.copy_def.Given as goal

abbrev pub invariant-cons : goal.invariant-cons
invariant-cons l = map constructor_of l.cons.items ++ map constructor_of (drop l.con-index l.def.cons.items) ≡ map constructor_of l.def.cons.items
