use Rattle.std.proofs.Common.{◌≤◌, sym, subst}
use Rattle.camelot_values.specs.Outcome.{peak_of}
use Rattle.grail_code.specs.Limits.{IsWithinLimits}
use Rattle.grail_code.specs.Meaning.{run_of}
use Rattle.grail_code.specs.Soundness.{HaveBlocks}
use Rattle.licence.proofs.Bounds.{peak_within, bound_is}
use Rattle.licence.proofs.licence.Licence.bound.Goals as goal

pub returns-clause-peak : goal.returns-clause-peak
returns-clause-peak c limit fuel =
    let is = bound_is c.args.self.now c.cert.result.now c.args.entry c.args.args.now c.units_at.result c.unit.result c.units_at.ensures.is c.unit.ensures c.cert.ensures in
    subst (λ n. peak_of (run_of c.args.self.now.code limit c.args.entry fuel c.args.args.now) ≤ n) (sym is)
    (peak_within c.args.self.now c.args.entry c.args.args.now c.kept.ensures (subst IsWithinLimits c.code.ensures c.limits.ensures.limits) (subst HaveBlocks c.code.ensures c.limits.ensures.blocks) c.requires.fits limit fuel)
