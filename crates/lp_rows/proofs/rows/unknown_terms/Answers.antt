use Rattle.std.proofs.Common.{to_z-of_z, w64, FitsSigned}
use Rattle.lp_rows.specs.Plain.{plain}
use Rattle.lp_rows.proofs.Turns.{number_turn, unknown_turn}
use Rattle.lp_rows.proofs.rows.unknown_terms.Goals as goal

pub unknowns-preserved : goal.unknowns-preserved
unknowns-preserved c =
    let fl : FitsSigned w64 c.less.result = record { sfits = c.less.type_inv } in
    let ft : FitsSigned w64 c.tick.result = record { sfits = c.tick.type_inv } in
    let e = simp to_z-of_z at c.less.ensures in
    let pushed = simp to_z-of_z at c.in_ok-push_term.ensures in
    record {
      number = number_turn c.unknowns.number _ c.unknowns.rest.now c.in-len1-up.len_at_least c.unknowns.invariant.number;
      terms = unknown_turn c.unknowns.terms.items c.push_term.new.terms.items _ c.unknowns.number c.less.result c.tick.result c.unknowns.rest.now _ (plain c.args.have.now) (plain c.args.need.now) c.in-len1-up.len_at_least
          c.tick.ensures e c.unknowns.invariant.terms pushed;
    }
