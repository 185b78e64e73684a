use Rattle.std.proofs.Common.{◌≡◌, ◌-◌, ◌≤◌, ◌<◌, List, [], map, length, arith, subst, sym, ap, ◌∙◌}
use Rattle.std.specs.List.{AllByRecursion}
use Rattle.std.proofs.lemmas.List.{length-map}
use Rattle.std.specs.Option.{option_map_or}
use Rattle.annotations.specs.Vectors.{Vector}
use Rattle.machine_image.specs.Words.{bound_of, frame_of}
use Rattle.grail_code.specs.Code.{Block, block_of, func_of}
use Rattle.frame_accounts.specs.Accounts.{AreCarried, account_of}
use Rattle.pause_image.specs.Judging.{plain_bounds, plain_frames}
use Rattle.pause_image.specs.Owning.{carried_at}
use Rattle.pause_image.specs.Taking.{WordsAre, WordsTaken, WordFails, asked_of}
use Rattle.pause_image.proofs.Taking.{vectors_of, shaped_few, frame_begins, frame_taken}
use Rattle.pause_image.proofs.owning.take_frame.Goals as goal

pub take_words-requires-clause-small : goal.take_words-requires-clause-small
take_words-requires-clause-small c =
    let room : length c.account_at-left.new.vectors ≡ 256 = c.account_at-left.ensures.count ∙ c.requires.room in
    subst (λ n. AllByRecursion (λ b. b.local < n) (plain_bounds c.deref.result.now)) (sym room)
    (subst (λ bs. AllByRecursion (λ b. b.local < 256) (plain_bounds bs)) (sym c.deref.ensures.value) (shaped_few c.args.licence.now (frame_of c.args.frame.now) (plain_frames c.args.others.now) c.kept.ensures.limits c.requires.shaped).small)

pub take_words-requires-clause-few_words : goal.take_words-requires-clause-few_words
take_words-requires-clause-few_words c =
    omega (
      arith,
      (shaped_few c.args.licence.now (frame_of c.args.frame.now) (plain_frames c.args.others.now) c.kept.ensures.limits c.requires.shaped).few,
      ap (λ bs. length (plain_bounds bs)) c.deref.ensures.value,
      length-map c.args.frame.now.live.items bound_of,
      length-map c.deref.result.now bound_of,
    )

pub returns-in-Ok-clause-frame : goal.returns-in-Ok-clause-frame
returns-in-Ok-clause-frame c = λ before are.
    let l = c.args.licence.now in
    let f = frame_of c.args.frame.now in
    let begins = frame_begins l c.args.cells.now f (func_of c.func_there-func.result.now) (block_of c.block_there-block.result.now) before c.args.marks.now (vectors_of c.account_at-left.new.vectors) c.func_there-func.ensures c.block_there-block.ensures are
    (λ b at. subst (λ n. AreCarried (account_of l f.func f.block b n).carried (vectors_of c.account_at-left.new.vectors)) c.saturating_sub-place.ensures (c.account_at-left.ensures.carried b at)) in
    let words = subst (WordsAre l.code c.args.cells.now before f (carried_at l f) (plain_bounds c.deref.result.now) c.take_words.new.marks) c.in-Ok.is (c.in_ok-units.ensures.words before f (carried_at l f) begins) in
    frame_taken l c.args.cells.now f (func_of c.func_there-func.result.now) (block_of c.block_there-block.result.now) (plain_frames c.args.others.now) before c.take_words.new.marks c.account_at-left.result
    c.asked_beside-beside.result c.in-Ok.units c.func_there-func.ensures c.block_there-block.ensures
    (λ b at. c.account_at-left.ensures.left b at ∙ ap (λ n. (account_of l f.func f.block b n).left) c.saturating_sub-place.ensures)
    (c.asked_beside-beside.ensures.is ∙ ap (λ n. asked_of l (block_of c.block_there-block.result.now) n (plain_frames c.args.others.now) c.account_at-left.result) c.saturating_sub-place.ensures)
    (subst (λ bs. WordsTaken l.code c.args.cells.now before f (carried_at l f) (plain_bounds bs) c.take_words.new.marks c.in-Ok.units) c.deref.ensures.value words)

pub returns-in-Err-clause-frame : goal.returns-in-Err-clause-frame
returns-in-Err-clause-frame c = λ before are.
    let l = c.args.licence.now in
    let f = frame_of c.args.frame.now in
    let begins = frame_begins l c.args.cells.now f (func_of c.func_there-func.result.now) (block_of c.block_there-block.result.now) before c.args.marks.now (vectors_of c.account_at-left.new.vectors) c.func_there-func.ensures c.block_there-block.ensures are
    (λ b at. subst (λ n. AreCarried (account_of l f.func f.block b n).carried (vectors_of c.account_at-left.new.vectors)) c.saturating_sub-place.ensures (c.account_at-left.ensures.carried b at)) in
    let words = subst (WordsAre l.code c.args.cells.now before f (carried_at l f) (plain_bounds c.deref.result.now) c.take_words.new.marks) c.in-Err.is (c.in_ok-units.ensures.words before f (carried_at l f) begins) in
    subst (λ bs. WordFails l.code c.args.cells.now before f (plain_bounds bs) c.in-Err.local) c.deref.ensures.value words
