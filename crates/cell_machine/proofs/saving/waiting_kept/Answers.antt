use Rattle.machine_image.specs.Words.{bound_of}
use Rattle.std.proofs.Common.{◌≡◌, ◌+◌, suc, map, arith, ◌∙◌, ap}
use Rattle.grail_code.specs.Code.{code_of}
use Rattle.frame_locals.specs.Places.{waits_at}
use Rattle.cell_machine.proofs.SavingLaws.{marked_ready}
use Rattle.cell_machine.proofs.saving.waiting_kept.Goals as goal

pub returns : goal.returns
returns c =
    let next : c.args.at.place + 1 ≡ suc c.args.at.place = omega arith in
    ap (λ n. record { func = c.args.at.func; block = c.args.at.block; place = n; live = map bound_of c.in_ok-live_in.field-0.items }) next
    ∙ ap (λ l. record { func = c.args.at.func; block = c.args.at.block; place = suc c.args.at.place; live = l })
    (c.in_ok-live_in.ensures ∙ marked_ready (waits_at (code_of c.args.code.now) c.args.at.func c.args.at.block c.args.at.place) c.mark_waiting.new.marks c.args.words.now
    c.mark_waiting.ensures.marks c.mark_waiting.ensures.count c.requires.few)
