use Rattle.std.proofs.Common.{◌≡◌, Some}
use Rattle.std.specs.Prelude.{slice_get}
use Rattle.grail_check.proofs.ReadyLaws.{covered}
use Rattle.grail_check.proofs.body.is_covered.Goals as goal

pub returns-in-Some-Some : goal.returns-in-Some-Some
returns-in-Some-Some c done =
    let found : slice_get c.args.body.params.now c.args.block ≡ Some (Some c.in-Some-Some.params) = cc in
    covered c.args.body.params.now _ c.args.block c.in-Some-Some.params c.args.set.now.words c.args.body.known found (c.is_within.ensures done)
