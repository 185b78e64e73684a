use Rattle.std.proofs.Common.{◌≡◌, ◌++◌, map, drop}
use Rattle.job_world.specs.Plans.{leases_of}
use Rattle.job_world.specs.Words.{plan_of}
use Rattle.job_world.proofs.jobs.Jobs.sizes.Given as goal

abbrev pub invariant-plans : goal.invariant-plans
invariant-plans l = l.sizes.items ++ leases_of (map plan_of (drop l.plan-index l.plan-items)) ≡ leases_of l.self.plans
