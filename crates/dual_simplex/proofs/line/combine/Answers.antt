use Rattle.std.proofs.Common.{to_z-of_z, to_z, of_z, w64, FitsSigned, ◌≡◌, rules, arith, ap, ◌∙◌, sym, false, take, drop, ◌++◌, length}
use Rattle.std.specs.Prelude.{pos, int_div}
use Rattle.std.specs.List.{list_all}
use Rattle.std.proofs.lemmas.Result.{err_from_is_err_and}
use Rattle.dual_simplex.specs.Equation.{Equation, is_small, mixed, combined, divided}
use Rattle.dual_simplex.specs.Lines.{plain_line}
use Rattle.dual_simplex.proofs.Sound.{combined_is, on_ok, match_both, fits_divisor, fits_from, fits_not_constant, fits_not_factors}
use Rattle.dual_simplex.proofs.Loops.{refilled}
use mir.Syntax.{w128}
use Rattle.dual_simplex.proofs.line.combine.Goals as goal

pub mix_into-requires-clause-scale : goal.mix_into-requires-clause-scale
mix_into-requires-clause-scale c =
    let fd : FitsSigned w64 c.args.solved.now.divisor = search rules in
    simp to_z-of_z (fits_divisor (plain_line c.args.solved.now) c.requires.other.small)

pub returns-in_err-line-2-clause-small : goal.returns-in_err-line-2-clause-small
returns-in_err-line-2-clause-small c =
    let d = c.args.solved.now.divisor in
    let k = c.args.line.now.constant in
    let l = c.args.solved.now.constant in
    let fs : FitsSigned w64 d = search rules in
    let fk : FitsSigned w64 k = search rules in
    let fl : FitsSigned w64 l = search rules in
    let ft = c.ranges.times in
    let fn : FitsSigned w128 c.mix.result = record { sfits = c.mix.type_inv } in
    let other = simp to_z-of_z at c.mix.ensures.value in
    let wrapped : is_small (int_div (to_z w128 (of_z w128 c.mix.result)) (pos c.args.shared)) ≡ false = c.in_err-line-2.ensures in
    let wide = simp to_z-of_z at wrapped in
    let e : is_small (int_div (mixed d c.args.times k l) (pos c.args.shared)) ≡ false = ap (λ x. is_small (int_div x (pos c.args.shared))) (sym other) ∙ wide in
    let p = err_from_is_err_and c.from_residual-in_err-line-2.result c.from_residual-in_err-line-2.ensures.1 in
    rw p.1 (fits_not_constant (divided c.args.shared (combined c.args.times (plain_line c.args.solved.now) (plain_line c.args.line.now))) e)

pub returns-clause-value : goal.returns-clause-value
returns-clause-value c =
    let d = c.args.solved.now.divisor in
    let o = c.args.line.now.divisor in
    let k = c.args.line.now.constant in
    let l = c.args.solved.now.constant in
    let fs : FitsSigned w64 d = search rules in
    let fo : FitsSigned w64 o = search rules in
    let fk : FitsSigned w64 k = search rules in
    let fl : FitsSigned w64 l = search rules in
    let ft = c.ranges.times in
    let fm : FitsSigned w128 c.product.result = record { sfits = c.product.type_inv } in
    let fn : FitsSigned w128 c.mix.result = record { sfits = c.mix.type_inv } in
    let fx : FitsSigned w64 c.in_ok-line.field-0 = search rules in
    let fy : FitsSigned w64 c.in_ok-line-2.field-0 = search rules in
    let value = simp to_z-of_z at c.product.ensures.value in
    let other = simp to_z-of_z at c.mix.ensures.value in
    let got = simp to_z-of_z at c.in_ok-line.ensures in
    let got2 = simp to_z-of_z at c.in_ok-line-2.ensures in
    let x = to_z-of_z fx ∙ got.0 ∙ ap (λ z. int_div z (pos c.args.shared)) value in
    let y = to_z-of_z fy ∙ got2.0 ∙ ap (λ z. int_div z (pos c.args.shared)) other in
    let into = c.args.line.now.factors in
    let same = refilled into.len c.mix_into.new.owns into.items into.ok.0 (omega arith) in
    let mixed_in = rw (c.deref_mut.ensures.value, c.deref.ensures.value) at (simp to_z-of_z at c.mix_into.ensures.mixed) in
    on_ok c.mix_into.result (λ h. combined_is c.args.times (plain_line c.args.solved.now) (plain_line c.args.line.now) c.args.shared _ _ _ x y (same ∙ h)) mixed_in

pub returns-clause-small : goal.returns-clause-small
returns-clause-small c =
    let fs : FitsSigned w64 c.args.solved.now.divisor = search rules in
    let ft = c.ranges.times in
    let fx : FitsSigned w64 c.in_ok-line.field-0 = search rules in
    let fy : FitsSigned w64 c.in_ok-line-2.field-0 = search rules in
    let p = ap is_small (to_z-of_z fx) ∙ c.in_ok-line.ensures.1 in
    let q = ap is_small (to_z-of_z fy) ∙ c.in_ok-line-2.ensures.1 in
    let into = c.args.line.now.factors in
    let same = refilled into.len c.mix_into.new.owns into.items into.ok.0 (omega arith) in
    let new : Equation = record { variable = c.args.line.now.variable; divisor = to_z w64 (of_z w64 c.in_ok-line.field-0); constant = to_z w64 (of_z w64 c.in_ok-line-2.field-0); factors = take into.len (c.mix_into.new.owns ++ drop (length c.mix_into.new.owns) into.items) } in
    let small = rw (c.deref_mut.ensures.value, c.deref.ensures.value) at (simp to_z-of_z at c.mix_into.ensures.small) in
    match_both c.mix_into.result (λ h. fits_from new p q (ap (list_all is_small) same ∙ h))
    (λ h. fits_not_factors (divided c.args.shared (combined c.args.times (plain_line c.args.solved.now) (plain_line c.args.line.now))) h) small
