use Rattle.std.proofs.Common.{◌++◌, map, ap, ◌∙◌}
use Rattle.std.specs.Prelude.{flat_map}
use Rattle.machine_image.specs.Words.{bound_of, frame_of}
use Rattle.machine_image.specs.Writing.{bound_text}
use Rattle.machine_image.proofs.Pieces.{frame_written}
use Rattle.machine_image.proofs.writing.push_frame.Goals as goal

pub returns : goal.returns
returns c =
    frame_written (frame_of c.args.frame.now) c.args.out.now.items c.push_line.new.out.items c.push_live.new.out.items c.in_ok-push_line.ensures
    (c.in_ok-push_live.ensures ∙ ap (λ l. c.push_line.new.out.items ++ flat_map bound_text (map bound_of l)) c.deref.ensures.value)
