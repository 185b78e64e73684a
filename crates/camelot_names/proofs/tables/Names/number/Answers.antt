use Rattle.std.proofs.Common.{◌∙◌}
use Rattle.camelot_names.proofs.NameLaws.{place_within}
use Rattle.camelot_names.proofs.tables.Names.number.Goals as goal

pub returns-clause-within : goal.returns-clause-within
returns-clause-within c = rw (← c.self.view_is) (place_within c.copied.result _ c.args.name.now (c.copied.ensures ∙ c.get.ensures.value ∙ c.self.invariant c.args.name.now))
