use Rattle.std.proofs.Common.{drop}
use Rattle.script_service.proofs.Filing.{AreMade}
use Rattle.script_service.proofs.lines.plan_lines.Given as goal

abbrev pub invariant-plans : goal.invariant-plans
invariant-plans g l = AreMade g.K.Kept.keeps l.jobs l.arena l.plans l.lines.items (drop l.plan-index l.plans)
