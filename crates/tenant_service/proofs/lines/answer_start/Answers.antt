use Rattle.std.proofs.lemmas.Result.{MatchResult-from_err}
use Rattle.tenant_service.specs.Rooms.{Starts}
use Rattle.tenant_service.specs.Steps.{StartedIs}
use Rattle.tenant_service.proofs.Stepping.{start_told, done_stands}
use Rattle.tenant_service.proofs.lines.answer_start.Goals as goal

pub returns : goal.returns
returns c = λ rs fuel fate are is.
    start_told c.args.licences.now c.args.shared.now c.start.new.shared rs c.args.number (Starts c.args.name.now fuel fate) c.args.tenant.now c.args.name.now c.args.out.now.items c.push_started.new.out.items c.in_ok-told.told
    c.in_ok-push_started.ensures (c.in_ok-told.ensures rs fuel fate are is)

pub returns-in_err-push_started : goal.returns-in_err-push_started
returns-in_err-push_started c = λ rs fuel fate are is.
    MatchResult-from_err _ _ _ c.from_residual-in_err-push_started.ensures.0
    (λ _. done_stands c.args.licences.now c.args.shared.now c.start.new.shared rs c.args.number (Starts c.args.name.now fuel fate) (StartedIs c.args.name.now c.in_ok-told.told) (c.in_ok-told.ensures rs fuel fate are is))

pub returns-in_err-told : goal.returns-in_err-told
returns-in_err-told c = λ rs fuel fate are is. MatchResult-from_err _ _ _ c.from_residual.ensures.0 (λ _. record { rs = rs; are = c.in_err-told.ensures rs fuel fate are is })
