use Rattle.code_gen.specs.Marked.{with_these}
use Rattle.code_gen.proofs.Marking.{marked_more, marked_all}
use Rattle.code_gen.proofs.marks.mark_all.Goals as goal

pub loop-local-preserved : goal.loop-local-preserved
loop-local-preserved c live m =
    marked_more c.insert.new.self c.args.locals.now c.loop-local.local-index live c.loop-local-test.true (c.insert.ensures (with_these _ live) (c.loop-local.invariant live m))

pub returns : goal.returns
returns c live m = marked_all c.loop-local.marks c.args.locals.now c.loop-local.local-index live c.loop-local-test.false c.loop-local.auto.local-index-end (c.loop-local.invariant live m)
