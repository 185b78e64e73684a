use Rattle.dual_simplex.proofs.Cut.{mixed_wraps}
use Rattle.dual_simplex.proofs.narrow.mix_small.Goals as goal

pub returns : goal.returns
returns c =
    let a = c.args in
    mixed_wraps a.scale a.times a.own a.other c.ranges.scale c.ranges.times c.ranges.own c.ranges.other c.requires
