use Rattle.std.proofs.Common.{◌≡◌, [], ◌++◌, take, drop, map}
use Rattle.std.specs.Prelude.{flat_map}
use Rattle.camelot_tree.specs.Tree.{data_type_of}
use Rattle.camelot_tree.specs.Programs.{program_of}
use Rattle.camelot_types.specs.Declaring.{each_type_checked}
use Rattle.camelot_types.proofs.types.check_types.Given as goal

abbrev pub invariant-types : goal.invariant-types
invariant-types l = record {
  checked : each_type_checked (program_of l.program) (map (λ t. t.name.word) (map data_type_of (take l.index l.program.types.items))) l.names (map data_type_of (drop l.index l.program.types.items))
      ≡ each_type_checked (program_of l.program) [] [] (map data_type_of l.program.types.items);
  names : l.names ++ map (λ c. c.name.word) (flat_map (λ t. t.cons) (map data_type_of (drop l.index l.program.types.items))) ≡ map (λ c. c.name.word) (flat_map (λ t. t.cons) (map data_type_of l.program.types.items));
}
