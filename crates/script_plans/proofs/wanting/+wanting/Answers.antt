use Rattle.job_script.specs.Text.{EntryIsShort}
use Rattle.script_plans.proofs.Parts.{of_parts}
use Rattle.script_plans.proofs.wanting.+wanting.Goals as goal

pub want_jobs-want_both-requires-clause-front : goal.want_jobs-want_both-requires-clause-front
want_jobs-want_both-requires-clause-front g t c κs within =
    (of_parts (EntryIsShort 4294967295) c.args.entries.now c.split_at.result.0.now c.split_at.result.1.now c.split_at.ensures.by_index.0 c.requires.short).0

pub want_jobs-want_both-requires-clause-back : goal.want_jobs-want_both-requires-clause-back
want_jobs-want_both-requires-clause-back g t c κs within =
    (of_parts (EntryIsShort 4294967295) c.args.entries.now c.split_at.result.0.now c.split_at.result.1.now c.split_at.ensures.by_index.0 c.requires.short).1
