use Rattle.std.proofs.Common.{◌≡◌, ap, sym, ◌∙◌, subst, map}
use Rattle.certificate.specs.Certificates.{BlockIsWithin}
use Rattle.certificate.specs.Words.{block_of, func_of}
use Rattle.certificate.specs.Reading.{last_block, block_of_words, IsRead, IsStopped}
use Rattle.text_lines.specs.Cuts.{further}
use Rattle.certificate.specs.GrowingLaws.{map_end}
use Rattle.certificate.proofs.FuncSteps.{block_not, block_stopped, block_read}
use Rattle.certificate.proofs.functions.add_block.Goals as goal

pub returns-then-not-has_no_makes : goal.returns-then-not-has_no_makes
returns-then-not-has_no_makes c = block_not (further c.args.rest.now) (func_of c.args.f) (sym c.has_no_makes.ensures ∙ c.if-not-has_no_makes.true)

pub returns-in-Err : goal.returns-in-Err
returns-in-Err c =
    let last : c.last_block.result ≡ last_block (func_of c.args.f).blocks = c.last_block.ensures ∙ ap (λ l. last_block (map block_of l)) c.deref.ensures.value in
    block_stopped (further c.args.rest.now) (func_of c.args.f) c.in-Err.stop (sym c.has_no_makes.ensures ∙ c.if-not-has_no_makes.false) (subst (λ l. IsStopped (block_of_words l (further c.args.rest.now)) BlockIsWithin c.in-Err.stop) last c.in-Err.ensures)

pub returns-in-Ok-push : goal.returns-in-Ok-push
returns-in-Ok-push c =
    let last : c.last_block.result ≡ last_block (func_of c.args.f).blocks = c.last_block.ensures ∙ ap (λ l. last_block (map block_of l)) c.deref.ensures.value in
    let read = subst (λ l. IsRead (block_of_words l (further c.args.rest.now)) BlockIsWithin (block_of c.in-Ok.block)) last c.in-Ok.ensures in
    block_read (further c.args.rest.now) (func_of c.args.f) (block_of c.in-Ok.block) (map block_of c.push.new.self.items) c.requires (sym c.has_no_makes.ensures ∙ c.if-not-has_no_makes.false) read
    (ap (map block_of) c.in-Ok-push.ensures.items ∙ map_end block_of _ c.in-Ok.block)
