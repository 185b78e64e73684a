use Rattle.std.proofs.Common.{◌+◌, map, refl, sym, subst}
use Rattle.job_script.specs.Scripts.{AJob}
use Rattle.job_script.specs.Words.{entry_of}
use Rattle.job_script.specs.Heads.{job_view}
use Rattle.job_script.specs.Steps.{Going}
use Rattle.job_script.proofs.Growing.{job_refused, job_done}
use Rattle.job_script.proofs.Placing.{items_more, shorter}
use Rattle.job_script.proofs.reading.Reader.add_job.Goals as goal

pub returns-in-Err : goal.returns-in-Err
returns-in-Err c =
    rw c.stop_at.ensures (job_refused c.in-Err.stop c.args.self.now.text.now c.args.self.now.arena c.args.self.now.workers (map entry_of c.args.self.now.items.items) c.args.self.now.programs c.args.self.now.jobs c.args.self.now.rest.now c.args.line.now
    c.args.after.now (job_view c.args.job.now) c.args.self.now.number c.requires.going.going c.requires.line c.requires.head (record { least = c.requires.some; most = c.requires.fuel }) c.in-Err.ensures)

pub returns : goal.returns
returns c = record {
  text = refl;
  going = record {
    text = refl;
    short = c.requires.going.short;
    going = subst (λ l. Going c.args.self.now.text.now c.args.self.now.arena c.args.self.now.workers l c.args.self.now.programs c.add_name.new.names c.args.after.now (c.args.self.now.number + 1))
        (sym (items_more c.args.self.now.items.items c.push.new.self.items c.job_entry-entry.result (AJob (job_view c.args.job.now)) c.in-Ok-push.ensures.items c.job_entry-entry.ensures))
        (job_done c.args.self.now.text.now c.args.self.now.arena c.args.self.now.workers (map entry_of c.args.self.now.items.items) c.args.self.now.programs c.args.self.now.jobs c.add_name.new.names c.args.self.now.rest.now c.args.line.now c.args.after.now
        (job_view c.args.job.now) c.args.self.now.number c.requires.going.going c.requires.line c.requires.head (record { least = c.requires.some; most = c.requires.fuel }) c.in-Ok.ensures);
  };
  shorter = shorter c.args.self.now.rest.now c.args.line.now c.args.after.now c.requires.line;
}
