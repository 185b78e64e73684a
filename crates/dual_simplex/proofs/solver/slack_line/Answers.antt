use Rattle.std.proofs.Common.{◌≡◌, ◌∙◌, ap, arith, rules, pos, replicate, length, get_or, to_z-of_z, to_z, of_z, w64, FitsSigned}
use Rattle.std.proofs.lemmas.List.{length-replicate, length-set}
use Rattle.std.specs.List.{list_all}
use Rattle.dual_simplex.specs.Equation.{is_small}
use Rattle.dual_simplex.specs.Systems.{spread}
use Rattle.dual_simplex.specs.declared.system.Summand.{Summand}
use Rattle.dual_simplex.proofs.Loops.{get_any}
use Rattle.dual_simplex.proofs.First.{zeros_small, ascending_at, term_turn}
use Rattle.dual_simplex.proofs.solver.slack_line.Goals as goal

pub loop-term-init : goal.loop-term-init
loop-term-init c =
    let e : c.in_ok-factors.factors.items ≡ replicate c.args.unknowns (pos 0) = search rules in
    record {
      width = ap length e ∙ length-replicate c.args.unknowns (pos 0);
      small = ap (list_all is_small) e ∙ zeros_small c.args.unknowns;
      value = ap (λ xs. spread xs c.args.row.now.terms.items) e;
    }

pub index_mut-requires : goal.index_mut-requires
index_mut-requires c =
    let d : Summand = record { unknown = 0; factor = pos 0 } in
    let h = rw (← c.deref-term-items.ensures.value) at c.requires.ascending in
    let k = ascending_at c.args.unknowns 0 c.deref-term-items.result.now c.loop-term.term-index d h c.loop-term-test.true in
    omega (arith, k.0, c.loop-term.invariant.width)

pub loop-term-preserved : goal.loop-term-preserved
loop-term-preserved c =
    let d : Summand = record { unknown = 0; factor = pos 0 } in
    let ts = c.deref-term-items.result.now in
    let i = c.loop-term.term-index in
    let t = get_or ts i d in
    let f : FitsSigned w64 t.factor = search rules in
    let h = rw (← c.deref-term-items.ensures.value) at c.requires.ascending in
    let before = rw (← c.deref-term-items.ensures.value) at c.loop-term.invariant.value in
    let is = get_any ts i d t c.loop-term-test.true in
    let k = term_turn c.args.unknowns 0 c.loop-term.factors.items _ ts i t (to_z w64 (of_z w64 t.factor)) c.loop-term-test.true is (to_z-of_z f) h c.loop-term.invariant.small before in
    record {
      width = length-set c.loop-term.factors.items t.unknown (to_z w64 (of_z w64 t.factor)) ∙ c.loop-term.invariant.width;
      small = k.0;
      value = rw (← c.deref-term-items.ensures.value) k.1;
    }
