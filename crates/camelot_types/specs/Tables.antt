-- Private: words for functions of this crate.
-- What the code knows of the whole program, as plain data.
use Rattle.std.specs.Prelude.{map}
use Rattle.camelot_typing.specs.Kinds.{Head}
use Rattle.camelot_typing.specs.Kinds as plain
use Rattle.camelot_types.specs.declared.guess.Guess.{Guess}
use Rattle.camelot_types.specs.declared.globals.FunHead.{FunHead}
use Rattle.camelot_types.specs.declared.globals.Globals.{Globals}

abbrev pub head_view : FunHead → Head Guess
head_view h = record { name = h.name.now; params = h.params.items; result = h.result }

abbrev pub globals_view : Globals → plain.Globals Guess
globals_view g = record { types = g.types.now; heads = map head_view g.heads.items }
