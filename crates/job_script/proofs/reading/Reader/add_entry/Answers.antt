use Rattle.std.proofs.Common.{map}
use Rattle.job_script.specs.Words.{entry_of}
use Rattle.job_script.proofs.Growing.{head_early, head_stopped}
use Rattle.job_script.proofs.reading.Reader.add_entry.Goals as goal

pub returns-in_default : goal.returns-in_default
returns-in_default c =
    head_early c.args.self.now.text.now c.args.self.now.arena c.args.self.now.workers (map entry_of c.args.self.now.items.items) c.args.self.now.programs c.args.self.now.jobs c.args.self.now.rest.now c.args.self.now.number c.requires.going.going c.requires.more
    c.in_default.ensures

pub returns-in-Err : goal.returns-in-Err
returns-in-Err c =
    rw c.stop_at.ensures (head_stopped c.in-Err.stop c.args.self.now.text.now c.args.self.now.arena c.args.self.now.workers (map entry_of c.args.self.now.items.items) c.args.self.now.programs c.args.self.now.jobs c.args.self.now.rest.now c.in-Some.line.now
    c.in-Some.after.now c.args.self.now.number c.requires.going.going c.in-Some.ensures c.in-Err.ensures)
