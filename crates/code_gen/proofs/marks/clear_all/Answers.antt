use Rattle.code_gen.specs.Marked.{unless_among}
use Rattle.code_gen.proofs.Marking.{cleared_more, cleared_all}
use Rattle.code_gen.proofs.marks.clear_all.Goals as goal

pub loop-local-preserved : goal.loop-local-preserved
loop-local-preserved c live m =
    cleared_more c.remove.new.self c.args.locals.now c.loop-local.local-index live c.loop-local-test.true (c.remove.ensures (unless_among _ live) (c.loop-local.invariant live m))

pub returns : goal.returns
returns c live m = cleared_all c.loop-local.marks c.args.locals.now c.loop-local.local-index live c.loop-local-test.false c.loop-local.auto.local-index-end (c.loop-local.invariant live m)
