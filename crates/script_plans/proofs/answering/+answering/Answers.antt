use Rattle.job_script.specs.Text.{EntryIsShort}
use Rattle.script_plans.proofs.Parts.{of_parts}
use Rattle.script_plans.proofs.answering.+answering.Goals as goal

pub answer_programs-answer_both-requires-clause-front : goal.answer_programs-answer_both-requires-clause-front
answer_programs-answer_both-requires-clause-front g t c κs within =
    (of_parts (EntryIsShort 4294967295) c.args.entries.now c.split_at.result.0.now c.split_at.result.1.now c.split_at.ensures.by_index.0 c.requires).0

pub answer_programs-answer_both-requires-clause-back : goal.answer_programs-answer_both-requires-clause-back
answer_programs-answer_both-requires-clause-back g t c κs within =
    (of_parts (EntryIsShort 4294967295) c.args.entries.now c.split_at.result.0.now c.split_at.result.1.now c.split_at.ensures.by_index.0 c.requires).1
