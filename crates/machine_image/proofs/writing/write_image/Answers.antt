use Rattle.std.proofs.Common.{◌++◌, map, ap, ◌∙◌}
use Rattle.std.specs.Prelude.{flat_map}
use Rattle.machine_image.specs.Words.{frame_of, cell_of, image_of}
use Rattle.machine_image.specs.Writing.{frame_text, cell_text}
use Rattle.machine_image.proofs.Pieces.{image_written}
use Rattle.machine_image.proofs.writing.write_image.Goals as goal

pub returns : goal.returns
returns c =
    image_written (image_of c.args.state.now) c.new-out.result.items c.extend_from_slice.new.self.items c.push_counts.new.out.items c.push_frames.new.out.items c.push_cells.new.out.items
    c.extend_from_slice-2.new.self.items c.new-out.ensures.items c.in_ok-extend_from_slice.ensures.items c.in_ok-push_counts.ensures
    (c.in_ok-push_frames.ensures ∙ ap (λ l. c.push_counts.new.out.items ++ flat_map frame_text (map frame_of l)) c.deref.ensures.value)
    (c.in_ok-push_cells.ensures ∙ ap (λ l. c.push_frames.new.out.items ++ flat_map cell_text (map cell_of l)) c.deref-2.ensures.value) c.in_ok-extend_from_slice-2.ensures.items
