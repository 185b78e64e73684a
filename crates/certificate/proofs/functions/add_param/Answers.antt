use Rattle.std.proofs.Common.{◌≡◌, ap, sym, ◌∙◌, subst, map}
use Rattle.certificate.specs.Certificates.{VarIsWithin}
use Rattle.certificate.specs.Words.{var_of, func_of}
use Rattle.certificate.specs.Reading.{last_var, var_of_words, IsRead}
use Rattle.text_lines.specs.Cuts.{further}
use Rattle.certificate.specs.GrowingLaws.{map_end}
use Rattle.certificate.proofs.FuncSteps.{param_read}
use Rattle.certificate.proofs.functions.add_param.Goals as goal

pub returns-in-Ok-push : goal.returns-in-Ok-push
returns-in-Ok-push c =
    let last : c.last_var.result ≡ last_var (map var_of c.args.f.params.items) = c.last_var.ensures ∙ ap (λ l. last_var (map var_of l)) c.deref.ensures.value in
    let read = subst (λ l. IsRead (var_of_words l (further c.args.rest.now)) VarIsWithin (var_of c.in-Ok.param)) last c.in-Ok.ensures in
    param_read (further c.args.rest.now) (func_of c.args.f) (var_of c.in-Ok.param) (map var_of c.push.new.self.items) c.requires (sym c.only_params.ensures ∙ c.if-not-only_params.false) read
    (ap (map var_of) c.in-Ok-push.ensures.items ∙ map_end var_of c.args.f.params.items c.in-Ok.param)
