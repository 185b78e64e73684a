use Rattle.std.proofs.Common.{sym, subst, ◌<◌, length}
use Rattle.std.specs.List.{AllByRecursion}
use Rattle.cell_machine.specs.FrameWords.{top_of}
use Rattle.cell_machine.specs.Saving.{plain_bounds}
use Rattle.cell_machine.proofs.RestoringLaws.{there_at}
use Rattle.cell_machine.proofs.restoring.bind_kept.Goals as goal

pub bind-requires-clause-there : goal.bind-requires-clause-there
bind-requires-clause-there c = there_at (length (top_of c.each.frames)) c.args.live.now c.each.bound-index _
    (subst (λ n. AllByRecursion (λ b. b.local < n) (plain_bounds c.args.live.now)) (sym c.each.invariant.many) c.requires.there) c.each-test.true
