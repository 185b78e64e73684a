use Rattle.script_service.proofs.Handing.{handed}
use Rattle.script_service.proofs.service.serve_read.Goals as goal

pub returns : goal.returns
returns g c =
    let plans = c.in_ok-plans.plans in
    let served = c.in_ok-span.field-0 in
    handed g.K.Kept.keeps g.K.Kept.never_stuck (record { script = c.args.script; plans = plans; journal = served.journal; endings = served.endings; arena = served.span }) c.in_ok-plans.ensures.programs c.in_ok-plans.ensures.planned
    c.in_ok-plans.ensures.few c.in_ok-span.ensures.ended c.in_ok-span.ensures.legal c.in_ok-span.ensures.whole c.in_ok-span.ensures.size c.in_ok-span.ensures.cells
