use Rattle.job_workers.proofs.Turns.{next_only}
use Rattle.job_workers.proofs.rest.serve_next.Goals as goal

pub run_and_give-requires-clause-only : goal.run_and_give-requires-clause-only
run_and_give-requires-clause-only g c = next_only c.args.desk.now c.next.new.self c.in-Granted.lease c.requires.none_out c.kept.ensures.sound c.in-Granted.ensures
