use Rattle.std.proofs.Common.{to_z-of_z, w64, FitsSigned, ◌≡◌, rules, arith, ◌∙◌}
use Rattle.dual_simplex.specs.Equation.{mixed, combined}
use Rattle.dual_simplex.specs.Lines.{plain_line}
use Rattle.dual_simplex.proofs.Cut.{product_small}
use Rattle.dual_simplex.proofs.Loops.{refilled}
use Rattle.dual_simplex.proofs.Sound.{plainly_combined, fits_divisor, fits_constant}
use Rattle.dual_simplex.proofs.line.combine_small.Goals as goal

pub mix_small-line-requires : goal.mix_small-line-requires
mix_small-line-requires c =
    let d = c.args.solved.now.divisor in
    let fs : FitsSigned w64 d = search rules in
    let fk : FitsSigned w64 c.args.line.now.constant = search rules in
    let fl : FitsSigned w64 c.args.solved.now.constant = search rules in
    let ft = c.ranges.times in
    simp to_z-of_z (fits_constant (combined c.args.times (plain_line c.args.solved.now) (plain_line c.args.line.now)) c.requires.small)

pub returns : goal.returns
returns c =
    let line = c.args.line.now in
    let solved = c.args.solved.now in
    let whole = combined c.args.times (plain_line solved) (plain_line line) in
    let fs : FitsSigned w64 solved.divisor = search rules in
    let fd : FitsSigned w64 line.divisor = search rules in
    let fk : FitsSigned w64 line.constant = search rules in
    let fl : FitsSigned w64 solved.constant = search rules in
    let ft = c.ranges.times in
    let fm : FitsSigned w64 c.mix_small-line.result = record { sfits = c.mix_small-line.type_inv } in
    let x = product_small solved.divisor line.divisor fs fd (fits_divisor whole c.requires.small) in
    let value : c.mix_small-line.result ≡ mixed solved.divisor c.args.times line.constant solved.constant = simp to_z-of_z at c.mix_small-line.ensures in
    let all = rw (c.deref_mut.ensures.value, c.deref.ensures.value) at (simp to_z-of_z at c.mix_all.ensures) in
    let into = line.factors in
    let same = refilled into.len c.mix_all.new.owns into.items into.ok.0 (omega arith) in
    plainly_combined c.args.times (plain_line solved) (plain_line line) _ _ _ x (to_z-of_z fm ∙ value) (same ∙ all)
