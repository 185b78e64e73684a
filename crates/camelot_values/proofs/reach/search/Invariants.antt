use Rattle.std.proofs.Common.{map}
use Rattle.camelot_values.specs.Kinds.{data_type_of}
use Rattle.camelot_values.specs.Search.{Searched}
use Rattle.camelot_values.proofs.SearchLaws.{weight}
use Rattle.camelot_values.proofs.reach.search.Given as goal

abbrev pub invariant-search : goal.invariant-search
invariant-search l = Searched (map data_type_of l.types) l.first l.marks

abbrev pub decreases-search : goal.decreases-search
decreases-search l = weight l.marks
