use Rattle.std.proofs.Common.{◌≡◌, drop}
use Rattle.grail_check.specs.Marked.{mark_all}
use Rattle.grail_check.proofs.lent.mark_all.Given as goal

abbrev pub invariant-locals : goal.invariant-locals
invariant-locals l = mark_all l.reads (drop l.local-index l.locals) ≡ mark_all l.initial.reads l.locals
