-- Cited by contracts.
-- A typed program of the code as plain data.
use Rattle.std.specs.Prelude.{map}
use Rattle.camelot_tree.specs.Programs.{program_of}
use Rattle.camelot_typing.specs.declared.typed.Typed.{Typed}
use Rattle.camelot_typing.specs.Typed as plain
use Rattle.camelot_typing.specs.Typed.{Typing, kinds_of}

abbrev pub typing_of : Typed → Typing
typing_of t = plain.typing (program_of t.program) (map kinds_of t.funs.items)
