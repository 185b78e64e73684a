use Rattle.std.proofs.Common.{map}
use Rattle.std.specs.Vec.Iter.{into_iter_items}
use Rattle.job_script.specs.Words.{entry_of}
use Rattle.script_plans.specs.Answers.{licensing_of}
use Rattle.script_plans.proofs.AllAnswered.{Adding}
use Rattle.script_plans.proofs.licensing.add_all.Given as goal

abbrev pub invariant-answers : goal.invariant-answers
invariant-answers l = Adding (map entry_of l.entries) (licensing_of l.programs) (into_iter_items l.answered-iterator)
