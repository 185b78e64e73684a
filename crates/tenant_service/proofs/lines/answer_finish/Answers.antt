use Rattle.std.proofs.lemmas.Result.{MatchResult-from_err}
use Rattle.tenant_service.specs.Rooms.{Finishes}
use Rattle.tenant_service.specs.Steps.{FinishedIs}
use Rattle.tenant_service.proofs.Stepping.{finish_told, done_stands}
use Rattle.tenant_service.proofs.lines.answer_finish.Goals as goal

pub returns : goal.returns
returns c = λ rs are.
    finish_told c.args.licences.now c.args.shared.now c.finish.new.shared rs c.args.number (Finishes c.args.name.now) c.args.tenant.now c.args.name.now c.args.out.now.items c.push_finished.new.out.items c.in_ok-told.told
    c.in_ok-push_finished.ensures (c.in_ok-told.ensures rs are)

pub returns-in_err-push_finished : goal.returns-in_err-push_finished
returns-in_err-push_finished c = λ rs are.
    MatchResult-from_err _ _ _ c.from_residual-in_err-push_finished.ensures.0
    (λ _. done_stands c.args.licences.now c.args.shared.now c.finish.new.shared rs c.args.number (Finishes c.args.name.now) (FinishedIs c.args.licences.now c.args.name.now c.in_ok-told.told) (c.in_ok-told.ensures rs are))

pub returns-in_err-told : goal.returns-in_err-told
returns-in_err-told c = λ rs are. MatchResult-from_err _ _ _ c.from_residual.ensures.0 (λ _. record { rs = rs; are = c.in_err-told.ensures rs are })
