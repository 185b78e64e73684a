use Rattle.std.proofs.Common.{◌≡◌, ◌-◌, ◌<◌, ◌≤◌, arith, length, ap, ◌∙◌, subst}
use Rattle.std.specs.Prelude.{IfOk}
use Rattle.grail_code.specs.Code.{term_of}
use Rattle.grail_code.specs.Meaning.{jumps_from, body_run}
use Rattle.grail_evaluator.specs.Trees.{plain, plain_all}
use Rattle.grail_evaluator.specs.Locals.{env_of}
use Rattle.grail_evaluator.specs.Ends.{reached_of, onto, calls_in, bodies_of, onward, ending_run, end_run, Used}
use Rattle.grail_evaluator.proofs.CallLaws.{is_over, over_uses, lets_more, lets_over, lets_end, from_is, jump_is, jump_stuck, body_is, no_body, function_is, entered_is}
use Rattle.grail_evaluator.proofs.evaluator.Evaluator.+run.Goals as goal

-- ---- a block

pub block-lets-preserved : goal.block-lets-preserved
block-lets-preserved t c =
    let own = c.args.self.now in
    let enter = calls_in own.code.now own.limit in
    let block = c.index-blocks-number.result in
    let next = onward own.code.now.types enter (jumps_from own.code.now.types enter (bodies_of c.args.blocks.now) c.args.number) (term_of block.term) c.args.waits in
    let less : c.lets.binding-index < length block.lets.items = rw c.deref-binding-items.ensures.value at c.lets-test.true in
    let is = rw c.deref-binding-items.ensures.value at c.binding-item.is in
    let did = rw (c.in-Done.is, c.deref.ensures.value) at c.in_ok-reached.ensures.means in
    let used = rw c.in-Done.is at c.in_ok-reached.ensures.used in
    record {
      same = lets_more enter block.lets.items c.lets.binding-index c.binding-item.result own.fuel c.args.waits c.lets.counts c.in-Done.used (plain c.in-Done.value) (env_of c.lets.env.items) (env_of c.bind.new.env.items) next _ less is did c.in_ok-bind-in-Done.ensures c.lets.invariant.same;
      more = omega (arith, used.more, c.lets.invariant.more);
      within = used.within;
      cells = omega (arith, used.cells, c.lets.invariant.cells);
    }

pub block-returns-in_default : goal.block-returns-in_default
block-returns-in_default t c =
    let own = c.args.self.now in
    let enter = calls_in own.code.now own.limit in
    let block = c.index-blocks-number.result in
    let next = onward own.code.now.types enter (jumps_from own.code.now.types enter (bodies_of c.args.blocks.now) c.args.number) (term_of block.term) c.args.waits in
    let less : c.lets.binding-index < length block.lets.items = rw c.deref-binding-items.ensures.value at c.lets-test.true in
    let is = rw c.deref-binding-items.ensures.value at c.binding-item.is in
    let did = rw c.deref.ensures.value at c.in_ok-reached.ensures.means in
    let whole = c.lets.invariant.same ∙ ap (onto c.args.counts) (from_is own.code.now.types enter c.args.blocks.now c.args.number (own.fuel - c.args.counts.calls) c.args.waits block (env_of c.args.env.items) c.requires.there c.index-blocks-number.is) in
    record {
      means = lets_over enter block.lets.items c.lets.binding-index c.binding-item.result (own.fuel - c.lets.counts.calls) c.args.waits c.lets.counts (reached_of c.in_ok-reached.reached) (env_of c.lets.env.items) next _
          (is_over c.in_ok-reached.reached c.in_default.not-Done) less is did whole;
      used = over_uses (Used own.fuel 257 c.args.counts) c.in_ok-reached.reached c.in_default.not-Done;
    }

pub block-returns-clause-means : goal.block-returns-clause-means
block-returns-clause-means t c =
    let own = c.args.self.now in
    let enter = calls_in own.code.now own.limit in
    let block = c.index-blocks-number.result in
    let later = jumps_from own.code.now.types enter (bodies_of c.args.blocks.now) c.args.number in
    let next = onward own.code.now.types enter later (term_of block.term) c.args.waits in
    let all : length block.lets.items ≤ c.lets.binding-index = rw c.deref-binding-items.ensures.value at c.lets-test.false in
    let whole = c.lets.invariant.same ∙ ap (onto c.args.counts) (from_is own.code.now.types enter c.args.blocks.now c.args.number (own.fuel - c.args.counts.calls) c.args.waits block (env_of c.args.env.items) c.requires.there c.index-blocks-number.is) in
    subst (λ o. IfOk c.exit.result (λ end. end_run enter later own.fuel c.args.waits end ≡ o))
    (lets_end enter block.lets.items c.lets.binding-index (own.fuel - c.lets.counts.calls) c.args.waits c.lets.counts (env_of c.lets.env.items) next _ all whole)
    (c.exit.ensures.means enter later own.fuel c.args.waits)

-- ---- the blocks of a function

pub blocks-returns-in-None-clause-means : goal.blocks-returns-in-None-clause-means
blocks-returns-in-None-clause-means t c =
    let own = c.args.self.now in
    let enter = calls_in own.code.now own.limit in
    let none = rw c.in-None.is at c.in_ok-handed-in-Jumps.ensures in
    let jumped = rw c.in-Jumps.is at c.in_ok-end.ensures.means in
    jump_stuck own.code.now.types enter c.args.blocks.now c.blocks-2.number c.in-Jumps.target (own.fuel - c.in-Jumps.used.calls) c.args.waits c.in-Jumps.used (env_of c.in-Jumps.bound.items) none ∙ jumped ∙ c.blocks-2.invariant.same

pub blocks-blocks-2-preserved : goal.blocks-blocks-2-preserved
blocks-blocks-2-preserved t c =
    let own = c.args.self.now in
    let enter = calls_in own.code.now own.limit in
    let handed = rw (c.in-Some.is, c.deref.ensures.value) at c.in_ok-handed-in-Jumps.ensures in
    let jumped = rw c.in-Jumps.is at c.in_ok-end.ensures.means in
    let used = rw c.in-Jumps.is at c.in_ok-end.ensures.used in
    record {
      same = ap (onto c.in-Jumps.used) (jump_is own.code.now.types enter c.args.blocks.now c.blocks-2.number c.in-Jumps.target (own.fuel - c.in-Jumps.used.calls) c.args.waits (env_of c.in-Jumps.bound.items) (env_of c.in-Some.next.items) handed.0 handed.2) ∙ jumped ∙ c.blocks-2.invariant.same;
      there = handed.1;
      more = omega (arith, used.more, c.blocks-2.invariant.more);
      within = used.within;
      cells = omega (arith, used.cells, c.blocks-2.invariant.cells, handed.0);
    }

-- ---- functions and calls

pub body-returns-in-Some-clause-means : goal.body-returns-in-Some-clause-means
body-returns-in-Some-clause-means t c =
    let own = c.args.self.now in
    let enter = calls_in own.code.now own.limit in
    let found = rw c.deref.ensures.value at c.in-Some.ensures.lookup in
    subst (λ o. IfOk c.function.result (λ ending. ending_run enter own.fuel c.args.waits ending ≡ onto c.args.counts (body_run own.code.now.types enter o (own.fuel - c.args.counts.calls) c.args.waits (plain_all c.args.args.items))))
    (body_is own.code.now.funcs.items c.args.func c.in-Some.func.now found.3.0 found.1) c.function.ensures.means

pub body-returns-in-None-clause-means : goal.body-returns-in-None-clause-means
body-returns-in-None-clause-means t c =
    let own = c.args.self.now in
    let found = rw c.deref.ensures.value at c.in-None.ensures.lookup in
    no_body own.code.now.types (calls_in own.code.now own.limit) own.code.now.funcs.items c.args.func (own.fuel - c.args.counts.calls) c.args.waits c.args.counts (plain_all c.args.args.items) found.3

pub function-returns-clause-means : goal.function-returns-clause-means
function-returns-clause-means t c =
    let own = c.args.self.now in
    let enter = calls_in own.code.now own.limit in
    subst (λ o. IfOk c.blocks-2.result (λ ending. ending_run enter own.fuel c.args.waits ending ≡ onto c.args.counts o))
    (function_is own.code.now.types enter c.args.func.now (own.fuel - c.args.counts.calls) c.args.waits (env_of c.in_ok-env.env.items) c.args.args.items (omega (arith, c.args.args.ok.0, c.args.func.now.params.ok.0)) c.in_ok-env.ensures)
    (rw c.deref.ensures.value at c.blocks-2.ensures.means)

pub calls-returns-in-Over-clause-means : goal.calls-returns-in-Over-clause-means
calls-returns-in-Over-clause-means t c =
    let own = c.args.self.now in
    let ended = rw (c.in-Over.is, c.entered.ensures) at c.in_ok-ending.ensures.means in
    let less : c.calls.counts.calls < own.fuel = omega (arith, c.if-counts-self.false, c.calls.invariant.within) in
    ended ∙ entered_is own.code.now own.limit own.fuel c.args.waits c.calls.func c.calls.counts (plain_all c.calls.args.items) less ∙ c.calls.invariant.same

pub calls-calls-preserved : goal.calls-calls-preserved
calls-calls-preserved t c =
    let own = c.args.self.now in
    let ended = rw (c.in-Tail.is, c.entered.ensures) at c.in_ok-ending.ensures.means in
    let used = rw (c.in-Tail.is, c.entered.ensures) at c.in_ok-ending.ensures.used in
    let less : c.calls.counts.calls < own.fuel = omega (arith, c.if-counts-self.false, c.calls.invariant.within) in
    record {
      same = ended ∙ entered_is own.code.now own.limit own.fuel c.args.waits c.calls.func c.calls.counts (plain_all c.calls.args.items) less ∙ c.calls.invariant.same;
      more = omega (arith, used.more, c.calls.invariant.more);
      within = used.within;
      cells = omega (arith, used.cells, c.calls.invariant.cells);
    }
