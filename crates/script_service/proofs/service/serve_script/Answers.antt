use Rattle.script_service.proofs.Handing.{is_report}
use Rattle.script_service.proofs.service.serve_script.Goals as goal

pub returns-in-Ok-report_served : goal.returns-in-Ok-report_served
returns-in-Ok-report_served g c = is_report c.args.input.now c.in-Ok-report_served.reported.text.items c.in-Ok.served c.in-Ok-report_served.reported.arena c.in-Ok.ensures c.in-Ok-report_served.ensures.text c.in-Ok-report_served.ensures.arena
