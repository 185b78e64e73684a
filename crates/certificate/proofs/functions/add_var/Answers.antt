use Rattle.std.proofs.Common.{◌≡◌, ap, sym, ◌∙◌, subst, map, ◌++◌, ◌∷◌, []}
use Rattle.certificate.specs.Certificates.{VarIsWithin}
use Rattle.certificate.specs.Words.{var_of, block_of, func_of}
use Rattle.certificate.specs.Reading.{last_var, var_of_words, IsRead, IsStopped}
use Rattle.text_lines.specs.Cuts.{further}
use Rattle.certificate.specs.GrowingLaws.{map_end}
use Rattle.certificate.proofs.FuncSteps.{var_not, var_stopped, var_read}
use Rattle.certificate.specs.declared.types.BlockCert.{BlockCert as DeclaredBlock}
use Rattle.certificate.proofs.functions.add_var.Goals as goal

pub returns-then-not-has_no_makes : goal.returns-then-not-has_no_makes
returns-then-not-has_no_makes c = var_not (further c.args.rest.now) (func_of c.args.f) (sym c.has_no_makes.ensures ∙ c.if-not-has_no_makes.true)

pub returns-in-Err : goal.returns-in-Err
returns-in-Err c =
    let last : c.last_var.result ≡ last_var (map var_of c.in-Some.block.vars.items) = c.last_var.ensures ∙ ap (λ l. last_var (map var_of l)) c.deref.ensures.value in
    let blocks : (func_of c.args.f).blocks ≡ map block_of c.pop.new.self.items ++ block_of c.in-Some.block ∷ [] = ap (map block_of) c.in-Some.ensures.items ∙ map_end block_of c.pop.new.self.items c.in-Some.block in
    var_stopped (further c.args.rest.now) (func_of c.args.f) (map block_of c.pop.new.self.items) (block_of c.in-Some.block) c.in-Err.stop (sym c.has_no_makes.ensures ∙ c.if-not-has_no_makes.false) blocks
    (subst (λ l. IsStopped (var_of_words l (further c.args.rest.now)) VarIsWithin c.in-Err.stop) last c.in-Err.ensures)

pub returns-in-Ok-push-2 : goal.returns-in-Ok-push-2
returns-in-Ok-push-2 c =
    let last : c.last_var.result ≡ last_var (map var_of c.in-Some.block.vars.items) = c.last_var.ensures ∙ ap (λ l. last_var (map var_of l)) c.deref.ensures.value in
    let blocks : (func_of c.args.f).blocks ≡ map block_of c.pop.new.self.items ++ block_of c.in-Some.block ∷ [] = ap (map block_of) c.in-Some.ensures.items ∙ map_end block_of c.pop.new.self.items c.in-Some.block in
    let read = subst (λ l. IsRead (var_of_words l (further c.args.rest.now)) VarIsWithin (var_of c.in-Ok.var)) last c.in-Ok.ensures in
    let new : DeclaredBlock = record { block = c.in-Some.block.block; need = c.in-Some.block.need; vars = c.push.new.self } in
    var_read (further c.args.rest.now) (func_of c.args.f) (map block_of c.pop.new.self.items) (block_of c.in-Some.block) (var_of c.in-Ok.var) (map var_of c.push.new.self.items) (map block_of c.push-2.new.self.items) c.requires (sym c.has_no_makes.ensures ∙ c.if-not-has_no_makes.false) blocks read
    (ap (map var_of) c.in-Ok-push.ensures.items ∙ map_end var_of c.in-Some.block.vars.items c.in-Ok.var) (ap (map block_of) c.in-Ok-push-2.ensures.items ∙ map_end block_of c.pop.new.self.items new)
