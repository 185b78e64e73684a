use Rattle.std.proofs.Common.{take}
use Rattle.normal_form.specs.Live.{Marks}
use Rattle.code_gen.specs.Marked.{IsMarked, unless_among}
use Rattle.code_gen.proofs.marks.clear_all.Given as goal

abbrev pub invariant-loop-local : goal.invariant-loop-local
invariant-loop-local l = (live : Marks) → IsMarked l.initial.marks live → IsMarked l.marks (unless_among (take l.local-index l.locals) live)
