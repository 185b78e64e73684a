use Rattle.std.proofs.Common.{[], sym, ap, ◌∙◌}
use Rattle.std.specs.Prelude.{slice_get}
use Rattle.std.specs.Option.{option_map}
use Rattle.grail_code.specs.Code.{code_of}
use Rattle.frame_locals.specs.Tables.{row_of}
use Rattle.frame_locals.proofs.TableLaws.{owned_told, owned_none}
use Rattle.frame_locals.proofs.table.LocalTable.owned.Goals as goal

pub returns-in-Some : goal.returns-in-Some
returns-in-Some c = λ f k. c.deref.ensures.value ∙ owned_told (code_of c.args.code.now) c.args.func (row_of c.in-Some.row.now) f
    (sym (ap (λ t. slice_get t c.args.func) c.requires) ∙ sym c.row_at.ensures ∙ ap (option_map (λ r. row_of r.now)) c.in-Some.is) k

pub returns-in-None : goal.returns-in-None
returns-in-None c = λ f k. owned_none (code_of c.args.code.now) c.args.func f []
    (sym (ap (λ t. slice_get t c.args.func) c.requires) ∙ sym c.row_at.ensures ∙ ap (option_map (λ r. row_of r.now)) c.in-None.is) k
