use Rattle.std.proofs.Common.{◌≡◌, ◌+◌, drop, map}
use Rattle.std.specs.Option.{option_map}
use Rattle.camelot_values.specs.Names.{place_among}
use Rattle.camelot_tree.specs.Tree.{data_type_of}
use Rattle.camelot_types.proofs.atoms.type_number.Given as goal

abbrev pub invariant-types : goal.invariant-types
invariant-types l = option_map (λ k. l.index + k) (place_among (map (λ t. t.name.word) (map data_type_of (drop l.index l.types))) l.name.word) ≡ place_among (map (λ t. t.name.word) (map data_type_of l.types)) l.name.word
