use Rattle.std.proofs.Common.{◌≡◌, ◌++◌, drop, map}
use Rattle.camelot_typing.specs.Typed.{kinds_of}
use Rattle.camelot_types.specs.Tables.{head_view}
use Rattle.camelot_types.specs.Solving.{settled_funs}
use Rattle.camelot_types.proofs.settle.settled_funs.Given as goal

abbrev pub invariant-heads : goal.invariant-heads
invariant-heads l = map kinds_of l.kinds.items ++ settled_funs l.table (map head_view (drop l.index l.heads)) (map (λ v. v.items) (drop l.index l.atoms)) ≡ settled_funs l.table (map head_view l.heads) (map (λ v. v.items) l.atoms)
