use Rattle.std.proofs.Common.{◌≡◌, Some, None, refl, sym, subst}
use Rattle.text_lines.specs.Cuts.{words}
use Rattle.machine_image.specs.Reading.{first_frame}
use Rattle.machine_image.specs.Words.{frame_of}
use Rattle.machine_image.specs.Parts.{line_as, counts_as, line_at, IsFresh}
use Rattle.machine_image.proofs.Stepping.{some_oldest, other_oldest}
use Rattle.machine_image.proofs.reading.ImageReader.read_oldest.Goals as goal

pub returns-in-Some-Frame-clause-step : goal.returns-in-Some-Frame-clause-step
returns-in-Some-Frame-clause-step c =
    let fresh = subst (λ s. IsFresh s c.args.self.now.frames.items c.args.self.now.cells.items) c.requires.stage c.requires.ready in
    some_oldest c.args.self.now (frame_of c.new_frame.result) c.args.line.now c.in-Some-Frame.func c.in-Some-Frame.block c.in-Some-Frame.place c.requires.stage
    (subst (λ l. Some (line_as l) ≡ line_at (words c.args.line.now)) c.in-Some-Frame.field-0-is c.in-Some-Frame.ensures) fresh.0 fresh.1 c.new_frame.ensures

pub returns-in-Some-Local-clause-step : goal.returns-in-Some-Local-clause-step
returns-in-Some-Local-clause-step c =
    other_oldest c.args.self.now c.args.line.now (line_as c.in-Some-Local.field-0) c.requires.stage c.in-Some-Local.ensures
    (subst (λ l. first_frame (counts_as c.args.self.now.counts) (line_as l) ≡ None) (sym c.in-Some-Local.field-0-is) refl)

pub returns-in-Some-Cell-clause-step : goal.returns-in-Some-Cell-clause-step
returns-in-Some-Cell-clause-step c =
    other_oldest c.args.self.now c.args.line.now (line_as c.in-Some-Cell.field-0) c.requires.stage c.in-Some-Cell.ensures
    (subst (λ l. first_frame (counts_as c.args.self.now.counts) (line_as l) ≡ None) (sym c.in-Some-Cell.field-0-is) refl)

pub returns-in-Some-End-clause-step : goal.returns-in-Some-End-clause-step
returns-in-Some-End-clause-step c =
    other_oldest c.args.self.now c.args.line.now (line_as c.in-Some-End.field-0) c.requires.stage c.in-Some-End.ensures
    (subst (λ l. first_frame (counts_as c.args.self.now.counts) (line_as l) ≡ None) (sym c.in-Some-End.field-0-is) refl)
