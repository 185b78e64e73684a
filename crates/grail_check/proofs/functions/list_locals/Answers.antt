use Rattle.std.proofs.Common.{◌++◌, ◌∷◌, [], sym, ap, ◌∙◌}
use Rattle.grail_code.specs.Code.{func_of}
use Rattle.grail_check.specs.Faulting.{locals_of}
use Rattle.grail_check.proofs.LentLaws.{locals_step}
use Rattle.grail_check.proofs.functions.list_locals.Goals as goal

pub locals-preserved : goal.locals-preserved
locals-preserved c =
    let f = func_of c.args.func.now in
    locals_step c.args.types.now f c.args.reads.now c.locals.number c.in-Some.kind c.locals.locals.items c.push.new.self.items (locals_of c.args.types.now f)
    c.requires.known c.requires.count c.locals-test.true (sym c.kind_of.ensures ∙ c.in-Some.is)
    (c.in_ok-push.ensures.items ∙ ap (λ v. c.locals.locals.items ++ v ∷ []) c.local_of.ensures) c.locals.invariant
