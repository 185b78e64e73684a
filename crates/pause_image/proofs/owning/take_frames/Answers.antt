use Rattle.std.proofs.Common.{◌≡◌, ◌+◌, ◌≤◌, ◌<◌, drop, length, map, refl, arith, rules, subst, sym, ap, ◌∙◌}
use Rattle.std.proofs.lemmas.List.{length-map}
use Rattle.std.proofs.lemmas.Option.{slice_get_read}
use Rattle.machine_image.specs.Words.{frame_of}
use Rattle.pause_image.specs.Judging.{plain_frames}
use Rattle.pause_image.specs.Owning.{frames_cells}
use Rattle.pause_image.specs.Taking.{FrameIs, FrameTaken}
use Rattle.pause_image.proofs.Taking.{FramesMidway, drop_here, drop_all, drop_map, read_mapped, room_stays, frames_next, frames_fail, frames_all}
use Rattle.pause_image.proofs.owning.take_frames.Goals as goal

pub returns-clause-frames : goal.returns-clause-frames
returns-clause-frames c = frames_all c.args.licence.now c.args.cells.now (plain_frames c.args.frames.now) c.frames.number c.frames.marks c.frames.asked
    (subst (λ rest. FramesMidway c.args.licence.now c.args.cells.now (plain_frames c.args.frames.now) rest c.frames.number c.frames.marks c.frames.asked)
    (drop_all (plain_frames c.args.frames.now) c.frames.number (omega (arith, c.frames-test.false, length-map c.args.frames.now frame_of))) c.frames.invariant.way)

pub returns-in-Err-clause-frames : goal.returns-in-Err-clause-frames
returns-in-Err-clause-frames c =
    let l = c.args.licence.now in
    let fs = plain_frames c.args.frames.now in
    let f = frame_of c.index-frames-number.result in
    let at = read_mapped frame_of c.args.frames.now c.frames.number c.index-frames-number.result
    (slice_get_read c.args.frames.now (length c.args.frames.now) c.frames.number c.index-frames-number.result refl c.frames-test.true c.index-frames-number.is) in
    let m = subst (λ rest. FramesMidway l c.args.cells.now fs rest c.frames.number c.frames.marks c.frames.asked) (drop_here fs c.frames.number f at) c.frames.invariant.way in
    frames_fail l c.args.cells.now fs f (drop (c.frames.number + 1) fs) c.frames.number c.in-Err.local c.frames.marks c.frames.asked m
    (subst (FrameIs l c.args.cells.now (frames_cells l.code c.args.cells.now m.front m.values) f (plain_frames c.split_at.result.1.now) c.take_frame.new.marks) c.in-Err.is
    (c.in_ok-more.ensures.frame (frames_cells l.code c.args.cells.now m.front m.values) m.marked))

pub frames-preserved : goal.frames-preserved
frames-preserved c =
    let l = c.args.licence.now in
    let fs = plain_frames c.args.frames.now in
    let f = frame_of c.index-frames-number.result in
    let at = read_mapped frame_of c.args.frames.now c.frames.number c.index-frames-number.result
    (slice_get_read c.args.frames.now (length c.args.frames.now) c.frames.number c.index-frames-number.result refl c.frames-test.true c.index-frames-number.is) in
    let m = subst (λ rest. FramesMidway l c.args.cells.now fs rest c.frames.number c.frames.marks c.frames.asked) (drop_here fs c.frames.number f at) c.frames.invariant.way in
    let t = subst (FrameIs l c.args.cells.now (frames_cells l.code c.args.cells.now m.front m.values) f (plain_frames c.split_at.result.1.now) c.take_frame.new.marks) c.in-Ok.is
    (c.in_ok-more.ensures.frame (frames_cells l.code c.args.cells.now m.front m.values) m.marked) in
    let others : plain_frames c.split_at.result.1.now ≡ drop (c.frames.number + 1) fs = ap plain_frames c.split_at.ensures.back ∙ drop_map frame_of c.args.frames.now (c.frames.number + 1) in
    record {
      way = frames_next l c.args.cells.now fs f (drop (c.frames.number + 1) fs) c.frames.number c.frames.marks c.take_frame.new.marks c.frames.asked c.in-Ok.more m
          (subst (λ others. FrameTaken l c.args.cells.now (frames_cells l.code c.args.cells.now m.front m.values) f others c.take_frame.new.marks c.in-Ok.more) others t);
      many = search rules;
      room = room_stays c.frames.vectors.len c.take_frame.new.vectors (drop (length c.take_frame.new.vectors) c.frames.vectors.items) (omega (arith, c.frames.vectors.ok.0, c.frames.invariant.room)) c.take_frame.ensures.room;
      few = search rules;
    }
