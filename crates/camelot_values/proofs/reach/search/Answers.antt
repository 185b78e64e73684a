use Rattle.std.proofs.Common.{map, sym, subst}
use Rattle.camelot_values.specs.Kinds.{data_type_of}
use Rattle.camelot_values.specs.Search.{Searched}
use Rattle.camelot_values.proofs.SearchLaws.{one_type_more}
use Rattle.camelot_values.proofs.reach.search.Goals as goal

pub search-preserved : goal.search-preserved
search-preserved c =
    subst (Searched (map data_type_of c.args.types.now) c.args.first) (sym c.visit.ensures)
    (one_type_more (map data_type_of c.args.types.now) c.args.first c.in-Some.place c.search.marks c.search.invariant c.in-Some.ensures)
