use Rattle.std.proofs.Common.{subst, sym}
use Rattle.camelot_host.specs.Replies.{command_named, IsReply}
use Rattle.camelot_host.specs.declared.command.Command.{Command}
use Rattle.camelot_host.proofs.hosting.work.Goals as goal

pub returns-in_ok-drill_jobs-in-Drill : goal.returns-in_ok-drill_jobs-in-Drill
returns-in_ok-drill_jobs-in-Drill g c =
    subst (λ (k : Command). IsReply (command_named k) c.args.input.items c.in_ok-drill_jobs-in-Drill.field-0) (sym c.in-Drill.is) (c.in_ok-drill_jobs-in-Drill.ensures c.args.input.items)
