use Rattle.machine_image.specs.Parts.{front_of}
use Rattle.machine_image.proofs.Stepping.{next}
use Rattle.machine_image.proofs.reading.ImageReaderLineReader.line.Goals as goal

pub returns-in-Ok-clause-taken : goal.returns-in-Ok-clause-taken
returns-in-Ok-clause-taken c = next (front_of c.args.self.now) (front_of c.read_line.new.self) c.args.line.now c.requires.good c.in-Ok.ensures.step
