-- The values of verified code can be read: the bytes spell names.
use Rattle.std.proofs.Common.{◌≡◌, ℕ, List, [], ◌∷◌, ◌++◌, Ok, sym, ap, subst}
use Rattle.std.specs.List.{AllByRecursion}
use Rattle.camelot_values.specs.Kinds.{DataType, Constructor}
use Rattle.camelot_values.specs.Names.{IsUpperName}
use Rattle.grail_code.specs.Code.{Code}
use Rattle.grail_code.specs.Spelling.{Format, FitsCode, FitsType, FitsCon}
use Rattle.grail_code.specs.WellFormed.{IsWellFormed}
use Rattle.licence.specs.Licensed.{Licensed}
use Rattle.grail_verifier.specs.Verdicts.{IsVerdict}
use Rattle.value_text.specs.Grammar.{AreNamed}
use Rattle.cases_cells.specs.Covered.{IsReadable}

both : (cs : List Constructor) (ds : List Constructor) → AllByRecursion FitsCon cs → AllByRecursion (λ c. IsUpperName c.name) ds
    → AllByRecursion (λ c. IsUpperName c.name) (cs ++ ds)
both [] ds a b = b
both (c ∷ cs) ds a b = (a.0.name, both cs ds a.1 b)

all_named : (types : List DataType) → AllByRecursion FitsType types → AreNamed types
all_named [] a = tt
all_named (t ∷ types) a = both t.cons _ a.0.cons.each (all_named types a.1)

readable : {f : Format} (p : Code) → IsWellFormed p → FitsCode f p → IsReadable p
readable p well fits = record { named = all_named p.types fits.types.each; distinct = well.con_names }

pub verified_readable : (code cert : List ℕ) (l : Licensed) → IsVerdict code cert (Ok l) → IsReadable l.code
verified_readable code cert l v =
    let same : l.code ≡ v.code = ap (λ x. x.code) v.says.1.says.0 in
    subst IsReadable (sym same) (readable v.code v.says.0 v.spelled.fits)
