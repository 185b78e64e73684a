use Rattle.std.proofs.Common.{◌++◌, ◌∷◌, [], sym, ap, ◌∙◌}
use Rattle.grail_code.specs.Code.{func_of}
use Rattle.grail_code.specs.WellFormed.{local_kinds}
use Rattle.frame_locals.specs.Tables.{owned_from}
use Rattle.frame_locals.proofs.TableLaws.{owned_more}
use Rattle.frame_locals.proofs.table.owned_in.Goals as goal

pub locals-preserved : goal.locals-preserved
locals-preserved c =
    let f = func_of c.args.func.now in
    owned_more c.args.types.now f c.args.reads.now c.locals.number c.in-Some.kind c.locals.owned.items c.push.new.self.items (owned_from c.args.types.now f 0 (local_kinds f))
    c.requires.known c.requires.count c.locals-test.true (sym c.kind_of.ensures ∙ c.in-Some.is)
    (c.in_ok-push.ensures.items ∙ ap (λ v. c.locals.owned.items ++ v ∷ []) c.is_owned.ensures) c.locals.invariant
