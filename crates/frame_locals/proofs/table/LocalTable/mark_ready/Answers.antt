use Rattle.std.proofs.Common.{length, sym, ap, ◌∙◌, Option, Some, None}
use Rattle.std.specs.Prelude.{slice_get}
use Rattle.std.specs.Option.{option_map}
use Rattle.grail_code.specs.Code.{code_of, func_of, block_of, let_of}
use Rattle.frame_locals.specs.MarkingLaws.{place_marked, no_func_marked, no_block_marked}
use Rattle.frame_locals.proofs.table.LocalTable.mark_ready.Goals as goal

pub returns-in-Some-block_in-clause-marks : goal.returns-in-Some-block_in-clause-marks
returns-in-Some-block_in-clause-marks c = place_marked (code_of c.args.code.now) c.args.func c.args.block c.args.place (length c.args.marks.now) (func_of c.in-Some.of.now) (block_of c.in-Some-block_in.at.now) c.owned.result.now c.mark_block.new.marks
    (sym c.func_at.ensures ∙ ap (option_map (λ f. func_of f.now)) c.in-Some.is)
    (sym c.block_in.ensures ∙ ap (option_map (λ b. block_of b.now)) c.in-Some-block_in.is)
    (c.owned.ensures (func_of c.in-Some.of.now) (sym c.func_at.ensures ∙ ap (option_map (λ f. func_of f.now)) c.in-Some.is)) c.mark_block.ensures

pub returns-in-None-block_in-clause-marks : goal.returns-in-None-block_in-clause-marks
returns-in-None-block_in-clause-marks c = no_block_marked (code_of c.args.code.now) c.args.func c.args.block c.args.place (length c.args.marks.now) (func_of c.in-Some.of.now) c.mark_none.new.marks
    (sym c.func_at.ensures ∙ ap (option_map (λ f. func_of f.now)) c.in-Some.is)
    (sym c.block_in.ensures ∙ ap (option_map (λ b. block_of b.now)) c.in-None-block_in.is) c.mark_none.ensures

pub returns-in-None-clause-marks : goal.returns-in-None-clause-marks
returns-in-None-clause-marks c = no_func_marked (code_of c.args.code.now) c.args.func c.args.block c.args.place (length c.args.marks.now) c.mark_none-in-None.new.marks
    (sym c.func_at.ensures ∙ ap (option_map (λ f. func_of f.now)) c.in-None.is) c.mark_none-in-None.ensures
