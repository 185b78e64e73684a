use Rattle.camelot_host.proofs.Verdicts.{one_verdict, no_tenant_fault}
use Rattle.camelot_host.proofs.Migrating.{migrated_or_refused}
use Rattle.camelot_host.proofs.laws.one_verdict.Goals as goal

pub returns : goal.returns
returns c = one_verdict c.law_of_scripts.ensures.right_line c.law_of_scripts.ensures.right_count c.law_of_scripts.ensures.right_repeat c.law_of_compiling.ensures.one c.law_of_licences.ensures.apart
    (migrated_or_refused c.law_of_bundles.ensures.one c.law_of_faults.ensures.apart c.one_meaning.ensures.one)
    (no_tenant_fault c.law_of_tenant_scripts.ensures.right_line c.law_of_tenant_scripts.ensures.right_count c.law_of_tenant_scripts.ensures.right_repeat c.law_of_tenant_scripts.ensures.right_tenant)
