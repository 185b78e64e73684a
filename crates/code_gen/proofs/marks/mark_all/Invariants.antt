use Rattle.std.proofs.Common.{take}
use Rattle.normal_form.specs.Live.{Marks}
use Rattle.code_gen.specs.Marked.{IsMarked, with_these}
use Rattle.code_gen.proofs.marks.mark_all.Given as goal

abbrev pub invariant-loop-local : goal.invariant-loop-local
invariant-loop-local l = (live : Marks) → IsMarked l.initial.marks live → IsMarked l.marks (with_these (take l.local-index l.locals) live)
