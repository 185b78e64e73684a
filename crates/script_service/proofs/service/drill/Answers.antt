use Rattle.job_script.specs.Words.{script_of}
use Rattle.script_service.proofs.Handing.{is_summary}
use Rattle.script_service.proofs.service.drill.Goals as goal

pub returns : goal.returns
returns g c =
    is_summary c.args.jobs c.args.workers (script_of c.in_ok-script.script) c.in_ok-text.text.items c.in_ok-served.served c.in_ok-script.ensures.made c.in_ok-served.ensures c.in_ok-text.ensures
