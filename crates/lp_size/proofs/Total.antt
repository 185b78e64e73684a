-- Nothing is cut: the counts are the numbers of unknowns and of rows.
use Rattle.std.proofs.Common.{◌≡◌, ℕ, length, ◌∙◌}
use Rattle.grail_code.specs.Code.{Code}
use Rattle.grail_code.specs.WellFormed.{IsWellFormed}
use Rattle.grail_code.specs.Limits.{IsWithinLimits}
use Rattle.lp_system.specs.Unknowns.{unknowns_of}
use Rattle.lp_system.specs.Forms.{rows_of}
use Rattle.lp_size.specs.Counting.{funcs_onto, funcs_count_onto}
use Rattle.lp_size.proofs.Caps.{small}
use Rattle.lp_size.proofs.Bounds.{rows_few, unknowns_few}
use Rattle.lp_size.proofs.Listed.{unknowns_counted}
use Rattle.lp_size.proofs.Walking.{rows_counted}

pub all_unknowns : (p : Code) (n : ℕ) → IsWellFormed p → IsWithinLimits p → n ≡ funcs_count_onto p.types 0 p.funcs → n ≡ length (unknowns_of p)
all_unknowns p n w l e = e ∙ unknowns_counted p ∙ small (length (unknowns_of p)) (unknowns_few p w l)

pub all_rows : (p : Code) (n : ℕ) → IsWellFormed p → IsWithinLimits p → n ≡ funcs_onto p 0 0 p.funcs → n ≡ length (rows_of p)
all_rows p n w l e = e ∙ rows_counted p w l ∙ small (length (rows_of p)) (rows_few p w l)
