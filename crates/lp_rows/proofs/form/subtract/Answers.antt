use Rattle.std.proofs.Common.{to_z-of_z, w64, FitsSigned, pos, rules, slice_index_or}
use Rattle.lp_rows.specs.Plain.{plain}
use Rattle.lp_rows.proofs.Turns.{difference_turn_of, difference_done_of}
use Rattle.lp_rows.proofs.form.subtract.Goals as goal

pub factors-preserved : goal.factors-preserved
factors-preserved c =
    let fm : FitsSigned w64 c.less.result = record { sfits = c.less.type_inv } in
    let fo : FitsSigned w64 (slice_index_or c.factors.factors c.factors.place (pos 0)) = search rules in
    let e = simp to_z-of_z at c.less.ensures in
    simp to_z-of_z (difference_turn_of c.factors.factors _ c.factors.place c.less.result c.factors.rest.now _ (plain c.args.unknown.now) c.if-place-factors.false c.in-len1-up.len_at_least e c.factors.invariant)

pub returns-in_default : goal.returns-in_default
returns-in_default c = difference_done_of c.factors.factors _ c.factors.place c.factors.rest.now (plain c.args.unknown.now) c.in_default.len_below c.factors.invariant
