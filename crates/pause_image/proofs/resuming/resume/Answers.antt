use Rattle.std.proofs.Common.{◌≤◌, length, subst, arith}
use Rattle.stops.specs.Stopping.{FaultIs}
use Rattle.cell_machine.specs.Cells.{inline_base}
use Rattle.cell_machine.specs.Saved.{saved_of}
use Rattle.pause_image.specs.Faults.{IsFaultOf, IsRight}
use Rattle.pause_image.specs.RightLaws.{right_goes_on}
use Rattle.pause_image.proofs.Verdicts.{right_memory}
use Rattle.pause_image.proofs.resuming.resume.Goals as goal

pub restore-requires-clause-fits : goal.restore-requires-clause-fits
restore-requires-clause-fits c =
    let few : length c.args.span.cells ≤ inline_base = omega (arith, c.limits.ensures.within, c.limits.ensures.few) in
    right_goes_on c.args.licence.now c.args.image.now (length c.args.span.cells) (saved_of c.in-Ok.state) c.kept.ensures few
    (subst (λ n. IsRight c.args.licence.now c.args.image.now n (saved_of c.in-Ok.state)) c.len-len.ensures.count c.in-Ok.ensures)

pub returns-in-Err-clause-right : goal.returns-in-Err-clause-right
returns-in-Err-clause-right c = λ s right.
    let few : length c.args.span.cells ≤ inline_base = omega (arith, c.limits.ensures.within, c.limits.ensures.few) in
    right_memory c.args.licence.now c.args.image.now (length c.args.span.cells) s c.in-Err.fault c.kept.ensures few right
    (subst (λ n. FaultIs (IsFaultOf c.args.licence.now c.args.image.now n) c.in-Err.fault) c.len-len.ensures.count c.in-Err.ensures)
