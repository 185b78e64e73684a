use Rattle.std.proofs.Common.{◌≡◌}
use Rattle.grail_code.specs.Code.{code_of}
use Rattle.certificate.specs.Certificates.{IsWithin}
use Rattle.lp_system.specs.Found.{certificate_of}
use Rattle.lp_constraints.proofs.Concluding.{all_values, wide, of_none}
use Rattle.lp_constraints.proofs.conclude.certified.Goals as goal

pub certificate-requires-clause-all : goal.certificate-requires-clause-all
certificate-requires-clause-all c = all_values (code_of c.args.code.now) c.args.unit c.args.values.now c.requires.least

pub returns-in-Ok-None-clause-found : goal.returns-in-Ok-None-clause-found
returns-in-Ok-None-clause-found c = wide (code_of c.args.code.now) c.args.unit c.args.price_unit c.args.values.now c.args.prices.now c.requires.small c.requires.outcome
    (of_none c.in-Ok-None.field-0 (IsWithin (certificate_of (code_of c.args.code.now) c.args.unit c.args.values.now) → ⊥) (λ cert. cert ≡ certificate_of (code_of c.args.code.now) c.args.unit c.args.values.now) c.in-Ok-None.field-0-is c.in-Ok-None.ensures)
