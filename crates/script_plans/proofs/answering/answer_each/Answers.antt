use Rattle.std.proofs.Common.{◌≤◌, length, rules}
use Rattle.script_plans.proofs.AllAnswered.{answered_end}
use Rattle.script_plans.proofs.answering.answer_each.Goals as goal

pub returns : goal.returns
returns c =
    let all : length c.args.entries.now ≤ c.entries.entry-index = search rules in
    answered_end c.args.entries.now c.entries.entry-index c.entries.answers.items all c.entries.invariant.answered
