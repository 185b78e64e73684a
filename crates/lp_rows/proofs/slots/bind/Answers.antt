use Rattle.std.proofs.Common.{refl}
use Rattle.lp_rows.proofs.Locals.{set_is}
use Rattle.lp_rows.proofs.slots.bind.Goals as goal

pub returns : goal.returns
returns c = set_is c.args.site.func c.args.site.block c.extend.new.slots.items _ c.args.origin c.args.local _ refl c.in_ok-extend.ensures.long c.in_ok-extend.ensures.same
