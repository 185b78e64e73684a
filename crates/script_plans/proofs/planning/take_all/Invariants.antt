use Rattle.std.proofs.Common.{map}
use Rattle.std.specs.Vec.Iter.{into_iter_items}
use Rattle.job_script.specs.Words.{entry_of}
use Rattle.script_plans.specs.Rows.{row_of}
use Rattle.script_plans.specs.Turns.{planning_of}
use Rattle.script_plans.proofs.AllWanted.{Taking}
use Rattle.script_plans.proofs.planning.take_all.Given as goal

abbrev pub invariant-entries : goal.invariant-entries
invariant-entries l = Taking l.arena (map entry_of l.entries) (map row_of l.rows) l.place (planning_of l.taken) (into_iter_items l.wanted-iterator)
