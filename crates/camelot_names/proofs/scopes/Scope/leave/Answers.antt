use Rattle.std.proofs.Common.{rules, ◌<◌, ◌∙◌, length}
use Rattle.camelot_names.proofs.ScopeLaws.{still_left}
use Rattle.camelot_names.proofs.scopes.Scope.leave.Goals as goal

pub loop-self-preserved : goal.loop-self-preserved
loop-self-preserved g c =
    let more : c.args.len < length c.loop-self.self = search rules in
    still_left c.loop-self.self c.unbind.new.self c.args.len more c.unbind.ensures ∙ c.loop-self.invariant
