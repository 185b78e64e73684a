use Rattle.std.proofs.Common.{to_z-of_z, w64, FitsSigned, pos, rules, slice_index_or}
use Rattle.lp_rows.specs.Plain.{plain}
use Rattle.lp_rows.proofs.Turns.{number_turn, left_turn, no_unknowns, no_terms}
use Rattle.lp_rows.specs.Dense.{ticks}
use Rattle.std.specs.Prelude.{map}
use Rattle.lp_rows.proofs.rows.left_terms.Goals.{in_default, in-len1-up+in_default-factors}
use Rattle.lp_rows.proofs.rows.left_terms.Goals as goal

pub unknowns-preserved : goal.unknowns-preserved
unknowns-preserved c =
    let fl : FitsSigned w64 c.less.result = record { sfits = c.less.type_inv } in
    let fo : FitsSigned w64 (slice_index_or c.unknowns.factors.now 0 (pos 0)) = search rules in
    let e = simp to_z-of_z at c.less.ensures in
    let pushed = simp to_z-of_z at c.in_ok-push_term.ensures in
    record {
      number = number_turn c.unknowns.number _ c.unknowns.rest.now c.in-len1-up.len_at_least c.unknowns.invariant.number;
      terms = left_turn c.unknowns.terms.items c.push_term.new.terms.items _ c.unknowns.number c.less.result c.unknowns.factors.now c.unknowns.rest.now _ (plain c.args.need.now) c.in-len1-up-factors.len_at_least c.in-len1-up.len_at_least
          e c.unknowns.invariant.terms pushed;
    }

pub returns : goal.returns
returns c = elim c.if-rest-lt1.branch [
  | in_default w ↦ no_unknowns c.unknowns.terms.items _ c.unknowns.number c.unknowns.factors.now c.unknowns.rest.now (plain c.args.need.now) w.in_default.len_below c.unknowns.invariant.terms
  | in-len1-up+in_default-factors w ↦ no_terms c.unknowns.terms.items _ c.unknowns.number c.unknowns.factors.now (ticks (map plain c.unknowns.rest.now) (plain c.args.need.now)) w.in_default-factors.len_below c.unknowns.invariant.terms
]
