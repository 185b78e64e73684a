use Rattle.normal_form.specs.Live.{unless_bound}
use Rattle.code_gen.specs.Marked.{has}
use Rattle.code_gen.proofs.Marking.{cleared_arm, itself_marked}
use Rattle.code_gen.proofs.marks.behind_arm.Goals as goal

pub returns-in-Keep : goal.returns-in-Keep
returns-in-Keep c =
    let later = has c.args.later in
    let a = c.args.arm.now in
    let d = c.in-Keep.diamond in
    cleared_arm c.clear_all.new.marks c.deref.result.now a.fields.items a.cell d later c.deref.ensures.value c.in-Keep.is (c.clear_all.ensures (unless_bound d later) (c.remove.ensures later (itself_marked c.args.later)))
