use Rattle.std.proofs.Common.{◌≡◌, drop, map}
use Rattle.grail_code.specs.Code.{code_of, let_of}
use Rattle.grail_code.specs.WellFormed.{reads_of}
use Rattle.frame_locals.specs.Marking.{marks_behind}
use Rattle.frame_locals.proofs.marking.pass_lets.Given as goal

abbrev pub invariant-lets : goal.invariant-lets
invariant-lets l = marks_behind (reads_of (code_of l.code)) l.owned l.marks (map let_of (drop l.each-index l.lets)) ≡ marks_behind (reads_of (code_of l.code)) l.owned l.initial.marks (map let_of l.lets)
