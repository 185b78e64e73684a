use Rattle.std.proofs.Common.{◌≡◌, length, rules}
use Rattle.lp_rows.proofs.Locals.{pushed_on}
use Rattle.lp_rows.proofs.slots.extend.Goals as goal

pub slots-preserved : goal.slots-preserved
slots-preserved c =
    let k : c.len-number.result ≡ length c.slots.slots.items = search rules in
    pushed_on c.args.site.func c.args.site.block c.len-number.result c.slots.slots.items c.push.new.self.items c.own.result _ c.in_ok-push.ensures.items c.own.ensures k c.slots.invariant
