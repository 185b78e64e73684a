use Rattle.std.proofs.Common.{to_z-of_z, w64, FitsSigned, pos, rules, slice_index_or}
use Rattle.lp_rows.specs.Plain.{plain}
use Rattle.lp_rows.proofs.Turns.{sum_turn_of, sum_done_of}
use Rattle.lp_rows.proofs.form.add.Goals as goal

pub factors-preserved : goal.factors-preserved
factors-preserved c =
    let fm : FitsSigned w64 c.more.result = record { sfits = c.more.type_inv } in
    let fo : FitsSigned w64 (slice_index_or c.factors.factors c.factors.place (pos 0)) = search rules in
    let e = simp to_z-of_z at c.more.ensures in
    simp to_z-of_z (sum_turn_of c.factors.factors _ c.factors.place c.more.result c.factors.rest.now _ (plain c.args.unknown.now) c.if-place-factors.false c.in-len1-up.len_at_least e c.factors.invariant)

pub returns-in_default : goal.returns-in_default
returns-in_default c = sum_done_of c.factors.factors _ c.factors.place c.factors.rest.now (plain c.args.unknown.now) c.in_default.len_below c.factors.invariant
