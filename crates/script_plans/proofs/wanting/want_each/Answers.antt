use Rattle.std.proofs.Common.{◌≤◌, length, map, rules}
use Rattle.script_plans.specs.Rows.{row_of}
use Rattle.script_plans.proofs.AllWanted.{wanted_end}
use Rattle.script_plans.proofs.wanting.want_each.Goals as goal

pub returns : goal.returns
returns c =
    let all : length c.args.entries.now ≤ c.entries.entry-index = search rules in
    wanted_end c.args.licences.now (map row_of c.args.rows.now) c.args.entries.now c.entries.entry-index c.entries.all.items all c.entries.invariant.wanted
