use Rattle.std.proofs.Common.{sym, ◌∙◌}
use Rattle.certificate.specs.Words.{make_of}
use Rattle.certificate.proofs.ItemSteps.{last_of_makes}
use Rattle.certificate.proofs.items.makes_on.Goals as goal

pub returns-in-len1-up : goal.returns-in-len1-up
returns-in-len1-up c = λ b p e f. c.is_behind.ensures b p e f ∙ sym (last_of_makes make_of c.args.makes.now c.last-item.result b p c.in-len1-up.len_at_least c.last-item.is)
