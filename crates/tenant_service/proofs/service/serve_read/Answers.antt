use Rattle.std.proofs.Common.{ℕ}
use Rattle.std.specs.Global.{Vec}
use Rattle.std.proofs.lemmas.Result.{IfOk-weaker}
use Rattle.tenant_service.proofs.Serving.{answer_from, begun_from, budgets_from, ready_from}
use Rattle.tenant_service.proofs.service.serve_read.Goals as goal

pub open_rooms-requires-clause-budgets : goal.open_rooms-requires-clause-budgets
open_rooms-requires-clause-budgets g c =
    budgets_from c.args.script.now c.deref-2.result.now c.in_ok-span.span c.in_ok-budgets.budgets.items c.deref-2.ensures.value c.requires c.in_ok-span.ensures c.in_ok-budgets.ensures

pub write_script-answer-requires-clause-ready : goal.write_script-answer-requires-clause-ready
write_script-answer-requires-clause-ready g c = ready_from c.args.script.now c.deref-3.result.now c.deref-4.result.now c.deref-3.ensures.value c.deref-4.ensures.value c.requires

pub write_script-answer-requires-clause-begun : goal.write_script-answer-requires-clause-begun
write_script-answer-requires-clause-begun g c =
    begun_from c.deref-5.result.now c.args.script.now c.deref-3.result.now c.deref-2.result.now c.in_ok-budgets.budgets.items c.in_ok-shared.shared c.deref-3.ensures.value c.deref-2.ensures.value c.requires c.in_ok-budgets.ensures
    (c.in_ok-shared.ensures.rooms c.deref-5.result.now) c.in_ok-shared.ensures.budgets

pub returns : goal.returns
returns g c =
    IfOk-weaker _ _ _ (
    λ (text : Vec ℕ) w.
    answer_from c.args.script.now c.deref.result.now c.deref-4.result.now c.deref-3.result.now c.in_ok-programs.programs c.deref-7.result.now text.items c.deref.ensures.value c.deref-3.ensures.value c.deref-4.ensures.value
    c.deref-7.ensures.value c.in_ok-programs.ensures w)
    c.write_script-answer.ensures.written
