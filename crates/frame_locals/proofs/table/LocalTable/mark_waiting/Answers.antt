use Rattle.std.proofs.Common.{length, refl, sym, ap, ◌∙◌, Option, Some, None}
use Rattle.std.specs.Prelude.{slice_get}
use Rattle.std.specs.Option.{option_map}
use Rattle.grail_code.specs.Code.{code_of, func_of, block_of, let_of}
use Rattle.frame_locals.specs.MarkingLaws.{waits_marked, no_func_waits, no_block_waits}
use Rattle.frame_locals.proofs.table.LocalTable.mark_waiting.Goals as goal

pub returns-in-Some-let_in-clause-marks : goal.returns-in-Some-let_in-clause-marks
returns-in-Some-let_in-clause-marks c = waits_marked (code_of c.args.code.now) c.args.func c.args.block c.args.place (length c.args.marks.now) (func_of c.in-Some.of.now) (block_of c.in-Some-block_in.at.now) (Some (let_of c.in-Some-let_in.each.now)) c.owned-owned.result.now c.mark_block.new.marks c.use_op.new.marks
    (sym c.func_at.ensures ∙ ap (option_map (λ f. func_of f.now)) c.in-Some.is)
    (sym c.block_in.ensures ∙ ap (option_map (λ b. block_of b.now)) c.in-Some-block_in.is)
    (sym c.let_in.ensures ∙ ap (option_map (λ l. let_of l.now)) c.in-Some-let_in.is)
    (c.owned-owned.ensures (func_of c.in-Some.of.now) (sym c.func_at.ensures ∙ ap (option_map (λ f. func_of f.now)) c.in-Some.is)) c.mark_block.ensures c.use_op.ensures

pub returns-in-None-let_in-clause-marks : goal.returns-in-None-let_in-clause-marks
returns-in-None-let_in-clause-marks c = waits_marked (code_of c.args.code.now) c.args.func c.args.block c.args.place (length c.args.marks.now) (func_of c.in-Some.of.now) (block_of c.in-Some-block_in.at.now) None c.owned-owned.result.now c.mark_block.new.marks c.mark_block.new.marks
    (sym c.func_at.ensures ∙ ap (option_map (λ f. func_of f.now)) c.in-Some.is)
    (sym c.block_in.ensures ∙ ap (option_map (λ b. block_of b.now)) c.in-Some-block_in.is)
    (sym c.let_in.ensures ∙ ap (option_map (λ l. let_of l.now)) c.in-None-let_in.is)
    (c.owned-owned.ensures (func_of c.in-Some.of.now) (sym c.func_at.ensures ∙ ap (option_map (λ f. func_of f.now)) c.in-Some.is)) c.mark_block.ensures refl

pub returns-in-None-block_in-clause-marks : goal.returns-in-None-block_in-clause-marks
returns-in-None-block_in-clause-marks c = no_block_waits (code_of c.args.code.now) c.args.func c.args.block c.args.place (length c.args.marks.now) (func_of c.in-Some.of.now) c.mark_none.new.marks
    (sym c.func_at.ensures ∙ ap (option_map (λ f. func_of f.now)) c.in-Some.is)
    (sym c.block_in.ensures ∙ ap (option_map (λ b. block_of b.now)) c.in-None-block_in.is) c.mark_none.ensures

pub returns-in-None-clause-marks : goal.returns-in-None-clause-marks
returns-in-None-clause-marks c = no_func_waits (code_of c.args.code.now) c.args.func c.args.block c.args.place (length c.args.marks.now) c.mark_none-in-None.new.marks
    (sym c.func_at.ensures ∙ ap (option_map (λ f. func_of f.now)) c.in-None.is) c.mark_none-in-None.ensures
