use Rattle.std.proofs.Common.{to_z, of_z, w64, length, subst, sym, ap, ◌∙◌, refl, pos, ◌∷◌}
use Rattle.std.specs.Prelude.{◌<ℤ◌}
use Rattle.dual_simplex.specs.Division.{common_divisor}
use Rattle.dual_simplex.specs.Equation.{without, combined, lowest}
use Rattle.dual_simplex.specs.Lines.{plain_line}
use Rattle.dual_simplex.proofs.Sound.{sound_without, sound_lowest, on_ok_match, product_positive}
use Rattle.dual_simplex.proofs.line.put_in_within.Goals as goal

pub shared_divisor-shared-requires-clause-own : goal.shared_divisor-shared-requires-clause-own
shared_divisor-shared-requires-clause-own c = sound_without _ c.args.place (plain_line c.args.line.now) c.requires.own

pub combine-requires-clause-own : goal.combine-requires-clause-own
combine-requires-clause-own c = sound_without _ c.args.place (plain_line c.args.line.now) c.requires.own

pub reduce-requires-clause-positive : goal.reduce-requires-clause-positive
reduce-requires-clause-positive c =
    subst (λ e. pos 0 <ℤ e.divisor) (sym c.combine_small.ensures)
    (product_positive c.args.solved.now.divisor c.args.line.now.divisor c.requires.other.positive c.requires.own.positive)

pub returns-then-stays_small-clause-sound : goal.returns-then-stays_small-clause-sound
returns-then-stays_small-clause-sound c =
    let own = without c.args.place (plain_line c.args.line.now) in
    let solved = plain_line c.args.solved.now in
    let times = to_z w64 (of_z w64 c.index-times.result.now) in
    let whole = combined times solved own in
    sound_lowest (length c.args.solved.now.factors.items) times solved own (plain_line c.reduce.new.line) (common_divisor whole.divisor (whole.constant ∷ whole.factors))
    c.requires.other (sound_without _ c.args.place (plain_line c.args.line.now) c.requires.own) refl
    (c.reduce.ensures.value ∙ ap lowest c.combine_small.ensures) c.reduce.ensures.small

pub returns-clause-sound : goal.returns-clause-sound
returns-clause-sound c =
    let own = without c.args.place (plain_line c.args.line.now) in
    on_ok_match _ c.combine.result
    (λ value small. sound_lowest (length c.args.solved.now.factors.items) (to_z w64 (of_z w64 c.index-times.result.now)) (plain_line c.args.solved.now) own
    (plain_line c.combine.new.line) c.shared_divisor-shared.result c.requires.other (sound_without _ c.args.place (plain_line c.args.line.now) c.requires.own)
    c.shared_divisor-shared.ensures.value value small)
    c.combine.ensures.value c.combine.ensures.small
