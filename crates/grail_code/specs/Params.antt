-- Private: a word for functions of this crate.
-- Parameters as they are read.
use Rattle.std.specs.Prelude.{Bool}
use Rattle.camelot_values.specs.declared.kinds.Kind.{Kind}
use Rattle.grail_code.specs.declared.decoder.blocks.Param.{Param}

-- its kind and its mark
abbrev pub param_of : Param → Kind × Bool
param_of p = (p.kind, p.read)
