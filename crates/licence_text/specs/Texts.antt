-- Cited by contracts.
-- What a licence grants, as text (`CERTIFICATES.md`, "The bounds as text"): a line with the units of a cell, and one
-- for each function of the certificate, in its order. Parameters ascend, in each the constructors ascend, and none has
-- 0 units: certificates keep that.
use Rattle.std.specs.Prelude.{ℕ, List, ◌++◌, flat_map, codes, decimal}
use Rattle.camelot_values.specs.Kinds.{DataType, constructor_name}
use Rattle.certificate.specs.Certificates.{VarCert, FuncCert}
use Rattle.licence.specs.Licensed.{Licensed}

-- ` + V*CON(I)`: so many units for each node of the constructor in the parameter of this number, counted from 0
abbrev pub term_text : List DataType → (param : ℕ) → (ℕ × ℕ) → List ℕ
term_text types param p = (codes " + " ++ decimal p.1) ++ (codes "*" ++ constructor_name types p.0) ++ (codes "(" ++ decimal param) ++ codes ")"

-- the terms of a parameter
abbrev pub param_text : List DataType → VarCert → List ℕ
param_text types v = flat_map (term_text types v.var) v.vector

-- `function NAME (N + V*CON(I))/U` with all terms: the units of a run of the function, over the units of a cell
abbrev pub function_text : List DataType → (unit : ℕ) → FuncCert → List ℕ
function_text types unit f =
    (codes "function " ++ f.name) ++ (codes " (" ++ decimal f.need) ++ flat_map (param_text types) f.params ++ (codes ")/" ++ decimal unit) ++ codes "\n"

abbrev pub unit_text : ℕ → List ℕ
unit_text unit = (codes "accepted unit " ++ decimal unit) ++ codes "\n"

unfoldable pub bounds_text : Licensed → List ℕ
bounds_text l = unit_text l.cert.unit ++ flat_map (function_text l.code.types l.cert.unit) l.cert.funcs
