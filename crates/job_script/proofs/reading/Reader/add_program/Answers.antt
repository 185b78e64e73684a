use Rattle.std.proofs.Common.{◌+◌, map, refl, sym, subst}
use Rattle.job_script.specs.Words.{entry_of}
use Rattle.job_script.specs.Steps.{Going}
use Rattle.job_script.specs.Reading.{program_by}
use Rattle.job_script.proofs.Growing.{program_refused, program_open, program_done}
use Rattle.job_script.proofs.Placing.{items_more, behind_shorter}
use Rattle.job_script.proofs.reading.Reader.add_program.Goals as goal

pub returns-in-Err : goal.returns-in-Err
returns-in-Err c =
    rw c.stop_at.ensures (program_refused c.in-Err.stop c.args.self.now.text.now c.args.self.now.arena c.args.self.now.workers (map entry_of c.args.self.now.items.items) c.args.self.now.programs c.args.self.now.jobs c.args.self.now.rest.now
    c.args.line.now c.args.after.now c.args.name.now c.args.language c.args.self.now.number c.requires.going.going c.requires.line c.requires.head c.in-Err.ensures)

pub returns-in-Err-read_body : goal.returns-in-Err-read_body
returns-in-Err-read_body c =
    program_open c.args.self.now.text.now c.args.self.now.arena c.args.self.now.workers (map entry_of c.args.self.now.items.items) c.args.self.now.programs c.args.self.now.jobs c.add_name.new.names c.args.self.now.rest.now c.args.line.now c.args.after.now
    c.args.name.now c.args.language c.args.self.now.number c.in-Err-read_body.lines c.requires.going.going c.requires.line c.requires.head c.in-Ok.ensures c.in-Err-read_body.ensures.found

pub returns : goal.returns
returns c = record {
  text = refl;
  going = record {
    text = refl;
    short = c.requires.going.short;
    going = subst (λ l. Going c.args.self.now.text.now c.args.self.now.arena c.args.self.now.workers l c.add_name.new.names c.args.self.now.jobs c.in-Ok-read_body.body.after.now (c.args.self.now.number + 2 + c.in-Ok-read_body.body.lines))
        (sym (items_more c.args.self.now.items.items c.push.new.self.items _ (program_by c.args.name.now c.args.language c.in-Ok-read_body.body.text.now) c.in-Ok-push.ensures.items refl))
        (program_done c.args.self.now.text.now c.args.self.now.arena c.args.self.now.workers (map entry_of c.args.self.now.items.items) c.args.self.now.programs c.args.self.now.jobs c.add_name.new.names c.args.self.now.rest.now c.args.line.now
        c.args.after.now c.args.name.now c.args.language c.args.self.now.number c.in-Ok-read_body.body.lines c.in-Ok-read_body.body.text.now c.in-Ok-read_body.body.after.now c.requires.going.going c.requires.line c.requires.head c.in-Ok.ensures
        c.in-Ok-read_body.ensures.found);
  };
  shorter = behind_shorter c.args.self.now.rest.now c.args.line.now c.args.after.now c.in-Ok-read_body.body.after.now c.in-Ok-read_body.body.lines c.requires.line c.in-Ok-read_body.ensures.short;
}
