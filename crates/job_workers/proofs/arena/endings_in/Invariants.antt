use Rattle.std.proofs.Common.{◌≡◌, map}
use Rattle.job_workers.specs.Filings.{ending_in}
use Rattle.job_workers.proofs.arena.endings_in.Given as goal

abbrev pub invariant-payloads : goal.invariant-payloads
invariant-payloads g l = l.endings.items ≡ map ending_in l.yielded
