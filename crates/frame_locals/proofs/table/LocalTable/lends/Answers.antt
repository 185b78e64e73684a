use Rattle.std.proofs.Common.{sym, ap, ◌∙◌}
use Rattle.std.specs.Prelude.{slice_get}
use Rattle.std.specs.Option.{option_map}
use Rattle.grail_code.specs.Code.{code_of}
use Rattle.frame_locals.specs.Marking.{is_set}
use Rattle.frame_locals.specs.Tables.{row_of}
use Rattle.frame_locals.proofs.TableLaws.{lends_told, lends_none}
use Rattle.frame_locals.proofs.table.LocalTable.lends.Goals as goal

pub returns-in-Some : goal.returns-in-Some
returns-in-Some c = c.is_set.ensures ∙ ap (λ l. is_set l c.args.block) c.deref.ensures.value ∙ lends_told (code_of c.args.code.now) c.args.func c.args.block (row_of c.in-Some.row.now)
    (sym (ap (λ t. slice_get t c.args.func) c.requires) ∙ sym c.row_at.ensures ∙ ap (option_map (λ r. row_of r.now)) c.in-Some.is)

pub returns-in-None : goal.returns-in-None
returns-in-None c = lends_none (code_of c.args.code.now) c.args.func c.args.block
    (sym (ap (λ t. slice_get t c.args.func) c.requires) ∙ sym c.row_at.ensures ∙ ap (option_map (λ r. row_of r.now)) c.in-None.is)
