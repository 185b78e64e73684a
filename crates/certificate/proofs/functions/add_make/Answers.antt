use Rattle.std.proofs.Common.{ap, ◌∙◌, subst, map}
use Rattle.certificate.specs.Words.{make_of, func_of}
use Rattle.certificate.specs.Reading.{make_of_words, IsRead}
use Rattle.text_lines.specs.Cuts.{further}
use Rattle.certificate.specs.GrowingLaws.{map_end}
use Rattle.certificate.specs.Certificates.{MakeIsWithin}
use Rattle.certificate.proofs.FuncSteps.{make_read}
use Rattle.certificate.proofs.functions.add_make.Goals as goal

pub returns-in-Ok-push : goal.returns-in-Ok-push
returns-in-Ok-push c =
    let read = subst (λ l. IsRead (make_of_words (map make_of l) (further c.args.rest.now)) MakeIsWithin (make_of c.in-Ok.make)) c.deref.ensures.value c.in-Ok.ensures in
    make_read (further c.args.rest.now) (func_of c.args.f) (make_of c.in-Ok.make) (map make_of c.push.new.self.items) c.requires read (ap (map make_of) c.in-Ok-push.ensures.items ∙ map_end make_of c.args.f.makes.items c.in-Ok.make)
