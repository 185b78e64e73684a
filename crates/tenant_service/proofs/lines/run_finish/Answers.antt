use Rattle.std.proofs.Common.{map}
use Rattle.std.proofs.lemmas.Result.{MatchResult-from_err}
use Rattle.tenant_script.specs.Words.{tenant_view}
use Rattle.tenant_service.specs.Running.{rooms_of}
use Rattle.tenant_service.proofs.Stepping.{line_done, number_fewer}
use Rattle.tenant_service.proofs.lines.run_finish.Goals as goal

pub answer_finish-requires-clause-few : goal.answer_finish-requires-clause-few
answer_finish-requires-clause-few c = number_fewer (map tenant_view c.args.tenants.now) c.number_of-number.result c.args.tenant.now c.args.shared.now 4097 c.number_of-number.ensures c.requires.ready.fewer

pub returns : goal.returns
returns c = λ rooms holds.
    let ts = map tenant_view c.args.tenants.now in
    line_done c.args.licences.now ts rooms c.number_of-number.result c.args.tenant.now _ c.args.out.now.items c.answer_finish.new.out.items c.args.shared.now c.answer_finish.new.shared c.requires.distinct c.number_of-number.ensures holds
    (c.in_ok-answer_finish.ensures (rooms_of ts rooms) holds.are)

pub returns-in_err-answer_finish : goal.returns-in_err-answer_finish
returns-in_err-answer_finish c = λ rooms holds.
    MatchResult-from_err _ _ _ c.from_residual.ensures.0 (λ _. c.in_err-answer_finish.ensures (rooms_of (map tenant_view c.args.tenants.now) rooms) holds.are)
