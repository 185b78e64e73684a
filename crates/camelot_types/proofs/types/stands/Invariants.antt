use Rattle.std.proofs.Common.{◌≡◌, drop, map}
use Rattle.camelot_values.specs.Names.{stands}
use Rattle.camelot_tree.specs.Tree.{data_type_of}
use Rattle.camelot_types.proofs.types.stands.Given as goal

abbrev pub invariant-earlier : goal.invariant-earlier
invariant-earlier l = stands (map (λ t. t.name.word) (map data_type_of (drop l.other-index l.earlier))) l.name.word ≡ stands (map (λ t. t.name.word) (map data_type_of l.earlier)) l.name.word
