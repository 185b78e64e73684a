-- The system from its parts.
use Rattle.std.proofs.Common.{◌≡◌, ◌≤◌, List, length, map, sym, ap, ◌∙◌, arith}
use Rattle.std.proofs.lemmas.List.{length-map}
use Rattle.dual_simplex.specs.Systems.{plain_row, plain_system}
use Rattle.dual_simplex.specs.declared.system.System.{System}
use Rattle.grail_code.specs.Code.{Code}
use Rattle.grail_code.specs.Limits.{IsWithinLimits}
use Rattle.lp_system.specs.Unknowns.{unknowns_of, funcs_unknowns}
use Rattle.lp_system.specs.Forms.{cost_of, rows_of, system_of}
use Rattle.lp_rows.specs.Plain.{plain}
use Rattle.lp_rows.specs.Walk.{funcs_rows}
use Rattle.lp_rows.specs.declared.unknown.Unknown.{Unknown as DeclaredUnknown}
use Rattle.lp_rows.proofs.Bridge.{rows_are}

all_listed : (p : Code) (list : List DeclaredUnknown) → map plain list ≡ funcs_unknowns p.types 0 p.funcs → map plain list ≡ unknowns_of p
unfolding unknowns_of
all_listed p list e = e

pub few_listed : (p : Code) (list : List DeclaredUnknown) → length (unknowns_of p) ≤ 512 → map plain list ≡ funcs_unknowns p.types 0 p.funcs → length list ≤ 512
few_listed p list h e = let n : length (map plain list) ≡ length list = length-map list plain in omega (arith, h, n, ap length (all_listed p list e))

pub system_is : (p : Code) (list : List DeclaredUnknown) (s : System) → IsWithinLimits p → map plain list ≡ funcs_unknowns p.types 0 p.funcs
    → s.unknowns ≡ length list → s.costs.items ≡ map cost_of (map plain list)
    → map plain_row s.rows.items ≡ funcs_rows p (map plain list) 0 p.funcs → plain_system s ≡ system_of p
unfolding system_of
system_is p list s within e n c r = λ i. record { unknowns = count i; costs = costs i; rows = rows i }
  where
    listed : map plain list ≡ unknowns_of p
    listed = all_listed p list e

    count : s.unknowns ≡ length (unknowns_of p)
    count = n ∙ sym (length-map list plain) ∙ ap length listed

    costs : s.costs.items ≡ map cost_of (unknowns_of p)
    costs = c ∙ ap (map cost_of) listed

    rows : map plain_row s.rows.items ≡ rows_of p
    rows = r ∙ ap (λ us. funcs_rows p us 0 p.funcs) listed ∙ rows_are p within
