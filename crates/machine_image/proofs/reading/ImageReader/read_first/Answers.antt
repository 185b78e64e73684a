use Rattle.std.proofs.Common.{◌≡◌, false, rules}
use Rattle.std.specs.Prelude.{codes}
use Rattle.std.specs.Str.{bytes_eq}
use Rattle.machine_image.proofs.Stepping.{other_first}
use Rattle.machine_image.proofs.reading.ImageReader.read_first.Goals as goal

pub returns-then-ne-clause-step : goal.returns-then-ne-clause-step
returns-then-ne-clause-step c =
    let other : bytes_eq c.args.line.now (codes "grail image 1") ≡ false = search rules in
    other_first c.args.self.now c.args.line.now c.requires.stage other
