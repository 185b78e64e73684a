use Rattle.std.proofs.Common.{◌++◌, subst, sym}
use Rattle.grail_code.specs.WellFormed.{kept_diamond}
use Rattle.grail_check.specs.Sets.{AreUsable}
use Rattle.grail_check.proofs.ReadyLaws.{usable_kept}
use Rattle.grail_check.proofs.exits.usable_in.Goals as goal

pub returns-in-Keep : goal.returns-in-Keep
returns-in-Keep c =
    subst (λ k. AreUsable c.args.marks.now (c.args.fields.now ++ kept_diamond k) c.insert.new.self.words) (sym c.in-Keep.is)
    (usable_kept c.args.marks.now c.args.fields.now c.ready-set.result.words c.extend.new.self.words c.insert.new.self.words c.in-Keep.diamond c.ready-set.ensures c.extend.ensures c.insert.ensures.only)
