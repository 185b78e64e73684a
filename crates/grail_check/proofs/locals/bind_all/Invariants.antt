use Rattle.std.proofs.Common.{◌≡◌, drop}
use Rattle.grail_check.specs.Faulting.{bind_all}
use Rattle.grail_check.proofs.locals.bind_all.Given as goal

abbrev pub invariant-locals : goal.invariant-locals
invariant-locals l = bind_all l.marks (drop l.local-index l.locals) ≡ bind_all l.initial.marks l.locals
