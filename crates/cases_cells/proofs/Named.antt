-- The constructors of a code have upper names.
use Rattle.std.proofs.Common.{List, [], ◌∷◌, ◌++◌}
use Rattle.std.specs.List.{AllByRecursion}
use Rattle.camelot_values.specs.Kinds.{DataType, Constructor}
use Rattle.camelot_values.specs.Names.{IsUpperName}
use Rattle.grail_code.specs.Code.{Code}
use Rattle.grail_code.specs.Spelling.{Format, FitsCode, FitsType, FitsCon}
use Rattle.grail_code.specs.WellFormed.{IsWellFormed}
use Rattle.cases_cells.specs.Jobs.{IsGood}
use Rattle.value_text.specs.Grammar.{AreNamed}

both : (cs : List Constructor) (ds : List Constructor) → AllByRecursion FitsCon cs → AllByRecursion (λ c. IsUpperName c.name) ds
    → AllByRecursion (λ c. IsUpperName c.name) (cs ++ ds)
both [] ds a b = b
both (c ∷ cs) ds a b = (a.0.name, both cs ds a.1 b)

all_named : (types : List DataType) → AllByRecursion FitsType types → AreNamed types
all_named [] a = tt
all_named (t ∷ types) a = both t.cons _ a.0.cons.each (all_named types a.1)

pub code_named : {f : Format} (p : Code) → FitsCode f p → AreNamed p.types
code_named p f = all_named p.types f.types.each

pub good : {f : Format} (p : Code) → IsWellFormed p → FitsCode f p → IsGood p
good p well fits = record { well = well; named = code_named p fits; distinct = well.con_names }
