use Rattle.std.proofs.Common.{◌≡◌, Some, subst}
use Rattle.text_lines.specs.Cuts.{words}
use Rattle.machine_image.specs.Reading.{LFrame, LLocal, LCell, LEnd}
use Rattle.machine_image.specs.Words.{bound_of, cell_of}
use Rattle.machine_image.specs.Parts.{line_as, line_at, front_of}
use Rattle.machine_image.proofs.Stepping.{some_further}
use Rattle.machine_image.proofs.reading.ImageReader.read_further.Goals as goal

pub returns-in-Some-Cell-clause-step : goal.returns-in-Some-Cell-clause-step
returns-in-Some-Cell-clause-step c =
    some_further c.args.self.now c.args.line.now (LCell (cell_of c.in-Some-Cell.cell)) (front_of c.add_cell.new.self) c.add_cell.result c.requires.stage
    (subst (λ l. Some (line_as l) ≡ line_at (words c.args.line.now)) c.in-Some-Cell.field-0-is c.in-Some-Cell.ensures) c.add_cell.ensures.step

pub returns-in-Some-Local-clause-step : goal.returns-in-Some-Local-clause-step
returns-in-Some-Local-clause-step c =
    some_further c.args.self.now c.args.line.now (LLocal (bound_of c.in-Some-Local.bound)) (front_of c.add_local.new.self) c.add_local.result c.requires.stage
    (subst (λ l. Some (line_as l) ≡ line_at (words c.args.line.now)) c.in-Some-Local.field-0-is c.in-Some-Local.ensures) c.add_local.ensures.step

pub returns-in-Some-Frame-clause-step : goal.returns-in-Some-Frame-clause-step
returns-in-Some-Frame-clause-step c =
    some_further c.args.self.now c.args.line.now (LFrame c.in-Some-Frame.func c.in-Some-Frame.block c.in-Some-Frame.place) (front_of c.add_frame.new.self) c.add_frame.result c.requires.stage
    (subst (λ l. Some (line_as l) ≡ line_at (words c.args.line.now)) c.in-Some-Frame.field-0-is c.in-Some-Frame.ensures) c.add_frame.ensures.step

pub returns-in-Some-End-clause-step : goal.returns-in-Some-End-clause-step
returns-in-Some-End-clause-step c =
    some_further c.args.self.now c.args.line.now LEnd (front_of c.end.new.self) c.end.result c.requires.stage
    (subst (λ l. Some (line_as l) ≡ line_at (words c.args.line.now)) c.in-Some-End.field-0-is c.in-Some-End.ensures) c.end.ensures.step
