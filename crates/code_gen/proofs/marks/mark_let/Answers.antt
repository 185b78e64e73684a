use Rattle.std.proofs.Common.{ap}
use Rattle.grail_blocks.specs.Blocks.{op_of}
use Rattle.grail_blocks.specs.Events.{operands_of, taken}
use Rattle.normal_form.specs.Live.{unless_bound}
use Rattle.code_gen.specs.Marked.{with_these}
use Rattle.code_gen.proofs.Marking.{marked_made}
use Rattle.code_gen.proofs.marks.mark_let.Goals as goal

pub returns-in-Make : goal.returns-in-Make
returns-in-Make c live m =
    let l = c.args.l.now in
    let after = unless_bound l.target live in
    let is = ap (λ o. operands_of (op_of o)) c.in-Make.is in
    marked_made c.mark_all.new.marks (operands_of (op_of l.op)) c.in-Make.args.items c.deref.result.now (taken c.in-Make.place) after is c.deref.ensures
    (c.mark_all.ensures (with_these (taken c.in-Make.place) after) (c.mark_place.ensures after (c.remove.ensures live m)))
