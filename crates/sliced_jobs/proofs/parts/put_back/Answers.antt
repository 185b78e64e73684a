use Rattle.sliced_jobs.proofs.Pieces.{joined_back}
use Rattle.sliced_jobs.proofs.parts.put_back.Goals as goal

pub returns : goal.returns
returns c w h = joined_back w c.args.piece c.join_behind.result c.join_before.result c.args.before c.args.behind h c.join_behind.ensures.first c.join_behind.ensures.arena
    c.join_behind.ensures.end c.join_before.ensures.first c.join_before.ensures.end c.join_before.ensures.arena
