use Rattle.std.proofs.Common.{map}
use Rattle.camelot_values.specs.Kinds.{data_type_of}
use Rattle.camelot_values.proofs.SearchLaws.{first_search}
use Rattle.camelot_values.proofs.reach.search_from.Goals as goal

pub search-requires : goal.search-requires
search-requires c = first_search (map data_type_of c.args.types.now) c.args.first c.requires.first
