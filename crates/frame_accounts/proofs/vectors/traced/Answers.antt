use Rattle.std.proofs.Common.{◌-◌, length, map, take, refl, sym, ap, ◌∙◌, arith}
use Rattle.std.proofs.lemmas.Option.{slice_get_read}
use Rattle.grail_code.specs.Code.{let_of}
use Rattle.certificate.specs.Words.{func_of, var_of}
use Rattle.frame_accounts.specs.Walk.{carried_from, source_of, vectors_at}
use Rattle.frame_accounts.proofs.VectorLaws.{let_read, one_back, vectors_none}
use Rattle.frame_accounts.proofs.vectors.traced.Goals as goal

pub lets-preserved : goal.lets-preserved
lets-preserved c = record {
  within = omega (arith, c.lets.invariant.within);
  same = ap (λ s. carried_from (vectors_at c.args.here.licence.now.code.types c.args.here.licence.now.cert (func_of c.args.here.own.now) c.args.here.block (take (c.lets.count - 1) (map let_of c.args.front.now))) (source_of s)) (sym c.in-Local.is)
      ∙ one_back c.args.here.licence.now.code.types c.args.here.licence.now.cert (func_of c.args.here.own.now) c.args.here.block (map let_of c.args.front.now) (c.lets.count - 1) c.lets.count
      (let_of c.index-front-count.result) c.lets.sought (source_of c.source_before.result)
      (let_read c.args.front.now (c.lets.count - 1) c.index-front-count.result (slice_get_read c.args.front.now (length c.args.front.now) (c.lets.count - 1) c.index-front-count.result refl (omega (arith, c.lets.invariant.within, c.lets-test.true)) c.index-front-count.is))
      (omega (arith, c.lets-test.true)) c.source_before.ensures
      ∙ c.lets.invariant.same;
}

pub returns-in-Told : goal.returns-in-Told
returns-in-Told c = ap (λ s. carried_from (vectors_at c.args.here.licence.now.code.types c.args.here.licence.now.cert (func_of c.args.here.own.now) c.args.here.block (take (c.lets.count - 1) (map let_of c.args.front.now))) (source_of s)) (sym c.in-Told.is)
    ∙ one_back c.args.here.licence.now.code.types c.args.here.licence.now.cert (func_of c.args.here.own.now) c.args.here.block (map let_of c.args.front.now) (c.lets.count - 1) c.lets.count
    (let_of c.index-front-count.result) c.lets.sought (source_of c.source_before.result)
    (let_read c.args.front.now (c.lets.count - 1) c.index-front-count.result (slice_get_read c.args.front.now (length c.args.front.now) (c.lets.count - 1) c.index-front-count.result refl (omega (arith, c.lets.invariant.within, c.lets-test.true)) c.index-front-count.is))
    (omega (arith, c.lets-test.true)) c.source_before.ensures
    ∙ c.lets.invariant.same

pub returns : goal.returns
returns c = c.vector_of.ensures
    ∙ vectors_none c.args.here.licence.now.code.types c.args.here.licence.now.cert (func_of c.args.here.own.now) c.args.here.block (map let_of c.args.front.now) c.lets.count c.lets.sought (map var_of c.args.here.vars.now)
    (omega (arith, c.lets-test.false)) c.args.here.begins
    ∙ c.lets.invariant.same
