use Rattle.std.proofs.Common.{◌≡◌, ◌+◌, ◌≤◌, ◌∷◌, drop, length, refl, arith, subst, sym, ap, ◌∙◌}
use Rattle.std.proofs.lemmas.List.{length-map}
use Rattle.std.proofs.lemmas.Option.{slice_get_read}
use Rattle.machine_image.specs.Words.{frame_of}
use Rattle.pause_image.specs.Judging.{Tells, plain_frames}
use Rattle.pause_image.specs.Shapes.{IsShaped}
use Rattle.pause_image.proofs.Shaping.{ShapedBefore, shaped_next, shaped_too_many, shaped_wrong, shaped_all}
use Rattle.pause_image.proofs.Taking.{drop_here, drop_all, drop_map, read_mapped}
use Rattle.pause_image.proofs.shapes.first_unshaped.Goals as goal

pub frames-preserved : goal.frames-preserved
frames-preserved c =
    let l = c.args.licence.now in
    let fs = plain_frames c.args.frames.now in
    let f = frame_of c.index-frames-number.result in
    let at = read_mapped frame_of c.args.frames.now c.frames.number c.index-frames-number.result
    (slice_get_read c.args.frames.now (length c.args.frames.now) c.frames.number c.index-frames-number.result refl c.frames-test.true c.index-frames-number.is) in
    let others : plain_frames c.split_at.result.1.now ≡ drop (c.frames.number + 1) fs = ap plain_frames c.split_at.ensures.back ∙ drop_map frame_of c.args.frames.now (c.frames.number + 1) in
    record {
      before = shaped_next l fs f (drop (c.frames.number + 1) fs) c.frames.number (subst (λ rest. ShapedBefore l fs rest c.frames.number) (drop_here fs c.frames.number f at) c.frames.invariant.before)
          (omega (arith, c.frames.invariant.few, c.if-number-eq-MOST_FRAMES.false)) (subst (λ others. IsShaped l (f ∷ others)) others c.if-not-is_shaped.ensures.is);
      few = omega (arith, c.frames.invariant.few, c.if-number-eq-MOST_FRAMES.false);
      many = c.is_shaped.ensures.many;
    }

pub returns : goal.returns
returns c = shaped_all c.args.licence.now (plain_frames c.args.frames.now) c.frames.number
    (subst (λ rest. ShapedBefore c.args.licence.now (plain_frames c.args.frames.now) rest c.frames.number)
    (drop_all (plain_frames c.args.frames.now) c.frames.number (omega (arith, c.frames-test.false, length-map c.args.frames.now frame_of))) c.frames.invariant.before)
