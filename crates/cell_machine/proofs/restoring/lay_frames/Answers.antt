use Rattle.std.proofs.Common.{◌∙◌, sym, subst, arith}
use Rattle.grail_code.specs.Code.{code_of}
use Rattle.cell_machine.specs.Saved.{HasItsLocals}
use Rattle.cell_machine.specs.Saving.{IsPlaceOf}
use Rattle.cell_machine.specs.Walking.{IsPlace}
use Rattle.cell_machine.specs.declared.packed.Position.{Position}
use Rattle.cell_machine.proofs.RestoringLaws.{frame_at, next_laid}
use Rattle.cell_machine.proofs.restoring.lay_frames.Goals as goal

pub lay_next-requires-clause-there : goal.lay_next-requires-clause-there
lay_next-requires-clause-there c = frame_at (IsPlaceOf (code_of c.args.code.now)) c.args.kept.now c.each.number c.index-kept-number.result c.requires.there (omega (arith, c.each-test.true)) c.index-kept-number.is

pub lay_next-requires-clause-locals : goal.lay_next-requires-clause-locals
lay_next-requires-clause-locals c = frame_at (HasItsLocals (code_of c.args.code.now)) c.args.kept.now c.each.number c.index-kept-number.result c.requires.locals (omega (arith, c.each-test.true)) c.index-kept-number.is

pub each-preserved : goal.each-preserved
each-preserved c = record {
  laid = next_laid (code_of c.args.code.now) c.args.packed.now c.each.frames c.lay_next.new.frames c.args.kept.now c.each.number c.index-kept-number.result c.each.last c.position_of-last-in-each.result
      c.each.invariant.laid (omega (arith, c.each-test.true)) c.index-kept-number.is c.lay_next.ensures.top c.lay_next.ensures.waiting c.position_of-last-in-each.ensures;
  there = subst (λ (q : Position). IsPlace (code_of c.args.code.now) q.func q.block q.place) (sym c.position_of-last-in-each.ensures)
      (frame_at (IsPlaceOf (code_of c.args.code.now)) c.args.kept.now c.each.number c.index-kept-number.result c.requires.there (omega (arith, c.each-test.true)) c.index-kept-number.is);
  are = c.lay_next.ensures.frames;
  width = c.lay_next.ensures.width ∙ c.each.invariant.width;
}
