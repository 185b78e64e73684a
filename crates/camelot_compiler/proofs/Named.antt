-- Code that has a spelling has names of their forms.
use Rattle.std.proofs.Common.{List, [], ◌∷◌}
use Rattle.std.specs.List.{AllByRecursion}
use Rattle.camelot_values.specs.Kinds.{Constructor, DataType}
use Rattle.camelot_values.specs.Names.{IsLowerName, IsUpperName}
use Rattle.grail_code.specs.Code.{Func, Code}
use Rattle.grail_code.specs.Limits.{TypeIsNamed, IsNamed}
use Rattle.grail_code.specs.Spelling.{Second, FitsCon, FitsType, FitsFunc, FitsCode}

cons_named : (cs : List Constructor) → AllByRecursion FitsCon cs → AllByRecursion (λ c. IsUpperName c.name) cs
cons_named [] h = tt
cons_named (c ∷ cs) h = (h.0.name, cons_named cs h.1)

types_named : (ts : List DataType) → AllByRecursion FitsType ts → AllByRecursion TypeIsNamed ts
types_named [] h = tt
types_named (t ∷ ts) h = (record { name = h.0.name; cons = cons_named t.cons h.0.cons.each }, types_named ts h.1)

funcs_named : (fs : List Func) → AllByRecursion (FitsFunc Second) fs → AllByRecursion (λ f. IsLowerName f.name) fs
funcs_named [] h = tt
funcs_named (f ∷ fs) h = (h.0.name, funcs_named fs h.1)

pub fits_named : (p : Code) → FitsCode Second p → IsNamed p
fits_named p h = record { types = types_named p.types h.types.each; funcs = funcs_named p.funcs h.funcs.each }
