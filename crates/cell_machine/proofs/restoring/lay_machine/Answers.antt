use Rattle.std.proofs.Common.{sym, subst}
use Rattle.std.specs.List.{AllByRecursion}
use Rattle.cell_machine.specs.Saved.{saved_of}
use Rattle.cell_machine.specs.Saving.{plain_frames, IsPlaceOf}
use Rattle.cell_machine.proofs.RestoringLaws.{places_of, low_few}
use Rattle.cell_machine.proofs.restoring.lay_machine.Goals as goal

pub lay_frames-at-requires-clause-there : goal.lay_frames-at-requires-clause-there
lay_frames-at-requires-clause-there c =
    subst (λ p. AllByRecursion (IsPlaceOf p) (plain_frames c.deref-2.result.now)) (sym c.code-code.ensures)
    (subst (λ fs. AllByRecursion (IsPlaceOf c.args.licence.now.code) (plain_frames fs)) (sym c.deref-2.ensures.value) (places_of c.args.licence.now (saved_of c.args.state.now) _ c.requires.fits))

pub low_of-requires : goal.low_of-requires
low_of-requires c = record { within = low_few c.args.licence.now (saved_of c.args.state.now) _ c.requires.few c.requires.fits }
