use Rattle.std.proofs.Common.{refl, sym, ◌∙◌}
use Rattle.job_script.specs.Words.{script_of}
use Rattle.text_lines.specs.ReadingLaws.{reading_end}
use Rattle.job_script.specs.Reading.{Between, script_machine}
use Rattle.job_script.specs.StateLaws.{script_shows}
use Rattle.job_script.proofs.Placing.{none_left}
use Rattle.job_script.proofs.reading.read_whole.Goals as goal

pub returns : goal.returns
returns c =
    reading_end script_machine script_shows c.args.text.now (Between (script_of (record { arena = c.entries.reader.arena; workers = c.entries.reader.workers; items = c.entries.reader.items }))) c.entries.reader.rest.now c.entries.reader.number c.entries.invariant.going.going.reading
    (none_left c.entries.reader.rest.now (sym c.is_empty.ensures ∙ c.entries-test.false)) refl
