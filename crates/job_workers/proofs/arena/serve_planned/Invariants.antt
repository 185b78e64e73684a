use Rattle.job_world.specs.Plans.{leases_of}
use Rattle.job_workers.proofs.arena.serve_planned.Given as goal

abbrev pub ghosts-serve_named-N-DeskName : goal.ghosts-serve_named-N-DeskName
ghosts-serve_named-N-DeskName g a = record { arena = a.span.arena; sizes = leases_of a.jobs.now.plans }

abbrev pub ghosts-serve_named-N-JobName : goal.ghosts-serve_named-N-JobName
ghosts-serve_named-N-JobName g a = record { planned = a.jobs.now }
