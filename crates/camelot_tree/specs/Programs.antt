-- Cited by contracts.
-- A program of the code as plain data.
use Rattle.std.specs.Prelude.{map}
use Rattle.camelot_tree.specs.declared.program.Program.{Program}
use Rattle.camelot_tree.specs.Tree.{Source, data_type_of, function_of}

abbrev pub program_of : Program → Source
program_of p = record { types = map data_type_of p.types.items; funs = map function_of p.funs.items }
