use Rattle.std.proofs.Common.{◌-◌, vec_len}
use Rattle.host_io.proofs.Reading.{Reading}
use Rattle.host_io.proofs.source.read_all.Given as goal

abbrev pub invariant-loop-all : goal.invariant-loop-all
invariant-loop-all g l = Reading l.limit (g.S.Source.left l.initial.source) (g.S.Source.left l.source) (g.S.Source.taken l.initial.source) (g.S.Source.taken l.source) (g.S.Source.faults l.initial.source) (g.S.Source.faults l.source) l.all.items

abbrev pub decreases-loop-all : goal.decreases-loop-all
decreases-loop-all g l = l.limit - vec_len l.all
