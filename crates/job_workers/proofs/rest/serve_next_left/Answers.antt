use Rattle.job_workers.proofs.Turns.{left_only}
use Rattle.job_workers.proofs.rest.serve_next_left.Goals as goal

pub run_and_give-requires-clause-only : goal.run_and_give-requires-clause-only
run_and_give-requires-clause-only g c = left_only c.args.desk.now c.next_left.new.self c.in-Some.lease c.requires.none_out c.kept-in-Some.ensures.sound c.in-Some.ensures
