use Rattle.std.proofs.Common.{map, arith}
use Rattle.std.proofs.lemmas.Result.{MatchResult-from_err}
use Rattle.script_plans.specs.Rows.{row_of, row_among, row_program}
use Rattle.tenant_script.specs.Words.{tenant_view}
use Rattle.tenant_service.specs.Running.{HasFate, rooms_of}
use Rattle.tenant_service.proofs.Stepping.{asked_fate, line_done, number_fewer}
use Rattle.tenant_service.proofs.lines.run_start.Goals as goal

pub call-requires-clause-short : goal.call-requires-clause-short
call-requires-clause-short c = omega (arith, c.requires.ready.short)

pub answer_start-requires-clause-few : goal.answer_start-requires-clause-few
answer_start-requires-clause-few c = number_fewer (map tenant_view c.args.tenants.now) c.number_of-number.result c.args.tenant.now c.args.shared.now 4096 c.number_of-number.ensures c.requires.ready.fewer

pub returns : goal.returns
returns c = λ rooms holds.
    let ts = map tenant_view c.args.tenants.now in
    let f : HasFate c.args.licences.now (row_program (row_among (map row_of c.args.rows.now) c.args.program.now)) c.args.entry.now c.args.args.now c.args.fuel c.in_ok-asked.asked =
    asked_fate c.args.licences.now (row_program (row_among (map row_of c.args.rows.now) c.args.program.now)) c.args.entry.now c.args.args.now c.args.fuel c.in_ok-asked.asked c.requires.ready.within c.in_ok-asked.ensures in
    record {
      fate = f.fate;
      is = f.is;
      within = f.within;
      done = line_done c.args.licences.now ts rooms c.number_of-number.result c.args.tenant.now _ c.args.out.now.items c.answer_start.new.out.items c.args.shared.now c.answer_start.new.shared c.requires.distinct c.number_of-number.ensures holds
          (c.in_ok-answer_start.ensures (rooms_of ts rooms) c.args.fuel f.fate holds.are f.of);
    }

pub returns-in_err-answer_start : goal.returns-in_err-answer_start
returns-in_err-answer_start c = λ rooms holds.
    let ts = map tenant_view c.args.tenants.now in
    let f : HasFate c.args.licences.now (row_program (row_among (map row_of c.args.rows.now) c.args.program.now)) c.args.entry.now c.args.args.now c.args.fuel c.in_ok-asked.asked =
    asked_fate c.args.licences.now (row_program (row_among (map row_of c.args.rows.now) c.args.program.now)) c.args.entry.now c.args.args.now c.args.fuel c.in_ok-asked.asked c.requires.ready.within c.in_ok-asked.ensures in
    MatchResult-from_err _ _ _ c.from_residual-in_err-answer_start.ensures.0 (λ _. c.in_err-answer_start.ensures (rooms_of ts rooms) c.args.fuel f.fate holds.are f.of)

pub returns-in_err-asked : goal.returns-in_err-asked
returns-in_err-asked c = λ rooms holds. MatchResult-from_err _ _ _ c.from_residual.ensures.0 (λ _. c.requires.ready.stands)
