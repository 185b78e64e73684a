use Rattle.std.proofs.Common.{◌≡◌, [], drop, map}
use Rattle.camelot_values.specs.Kinds.{data_type_of}
use Rattle.grail_check.specs.Faulting.{types_fault}
use Rattle.grail_check.proofs.types.check_types.Given as goal

abbrev pub invariant-walk : goal.invariant-walk
invariant-walk l = types_fault l.types (map (λ word. word.now) l.names.keys) (map (λ word. word.now) l.cons.keys) (map data_type_of (drop l.def-index l.def-items)) ≡ types_fault l.types [] [] l.types
