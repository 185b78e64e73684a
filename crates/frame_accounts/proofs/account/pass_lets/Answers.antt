use Rattle.std.proofs.Common.{◌++◌, ◌∷◌, [], length, map, take, refl, sym, ap, ◌∙◌, arith}
use Rattle.std.specs.Option.{option_map_or}
use Rattle.std.proofs.lemmas.List.{length-take-le, take-map}
use Rattle.std.proofs.lemmas.Option.{slice_get_read}
use Rattle.grail_code.specs.Code.{let_of}
use Rattle.certificate.specs.Words.{func_of, make_of}
use Rattle.frame_accounts.specs.Walk.{listed, vectors_at}
use Rattle.frame_accounts.proofs.LineLaws.{made_next, left_next}
use Rattle.frame_accounts.proofs.VectorLaws.{vectors_begin, left_begin, one_left, let_read, lets_more}
use Rattle.frame_accounts.proofs.account.pass_lets.Goals as goal

pub lets-init : goal.lets-init
lets-init c = record {
  within = omega arith;
  long = refl;
  rest = c.requires.makes;
  left = c.requires.need ∙ left_begin c.args.here.licence.now.code.types c.args.here.licence.now.cert (func_of c.args.here.own.now) c.args.here.block;
  few = omega (arith, c.requires.little);
  told = c.requires.told ∙ ap (listed (length c.args.vectors.now)) (vectors_begin c.args.here.licence.now.code.types c.args.here.licence.now.cert (func_of c.args.here.own.now) c.args.here.block);
}

pub bind-requires-clause-made : goal.bind-requires-clause-made
bind-requires-clause-made c = c.in_front-made.ensures
    ∙ made_next (func_of c.args.here.own.now) c.args.here.block c.lets.count (length (take c.lets.count c.args.lets.now)) (map make_of c.lets.rest.now) (map make_of c.makes_from-rest.result.now)
    c.lets.invariant.rest c.makes_from-rest.ensures (length-take-le c.lets.count c.args.lets.now (omega (arith, c.lets.invariant.within)))

pub bind-requires-clause-told : goal.bind-requires-clause-told
bind-requires-clause-told c = c.lets.invariant.told
    ∙ ap (λ n. listed n (vectors_at c.args.here.licence.now.code.types c.args.here.licence.now.cert (func_of c.args.here.own.now) c.args.here.block (take c.lets.count (map let_of c.args.lets.now)))) (sym c.lets.invariant.long)
    ∙ ap (λ ls. listed (length c.lets.vectors) (vectors_at c.args.here.licence.now.code.types c.args.here.licence.now.cert (func_of c.args.here.own.now) c.args.here.block ls)) (take-map let_of c.lets.count c.args.lets.now)

pub lets-preserved : goal.lets-preserved
lets-preserved c =
    let here = slice_get_read c.args.lets.now (length c.args.lets.now) c.lets.count c.index-lets-count.result refl (omega (arith, c.lets-test.true)) c.index-lets-count.is in
    record {
      within = omega (arith, c.lets-test.true);
      long = c.bind.ensures.count ∙ c.lets.invariant.long;
      rest = left_next (func_of c.args.here.own.now) c.args.here.block c.lets.count (map make_of c.lets.rest.now) (map make_of c.makes_from-rest.result.now) c.lets.invariant.rest c.makes_from-rest.ensures;
      left = one_left c.args.here.licence.now.code.types c.args.here.licence.now.cert (func_of c.args.here.own.now) c.args.here.block (map let_of c.args.lets.now) c.lets.count (let_of c.index-lets-count.result)
          (option_map_or (λ v. v.now) c.in_front-made.result []) c.lets.left c.left_after-left.result (let_read c.args.lets.now c.lets.count c.index-lets-count.result here)
          (c.in_front-made.ensures ∙ made_next (func_of c.args.here.own.now) c.args.here.block c.lets.count c.lets.count (map make_of c.lets.rest.now) (map make_of c.makes_from-rest.result.now) c.lets.invariant.rest c.makes_from-rest.ensures refl)
          c.lets.invariant.left c.left_after-left.ensures.is;
      few = omega (arith, c.left_after-left.ensures.few, c.lets.invariant.few);
      told = c.bind.ensures.told
          ∙ ap (λ n. listed n (vectors_at c.args.here.licence.now.code.types c.args.here.licence.now.cert (func_of c.args.here.own.now) c.args.here.block (map let_of (take c.lets.count c.args.lets.now) ++ let_of c.index-lets-count.result ∷ []))) c.lets.invariant.long
          ∙ ap (λ ls. listed (length c.args.vectors.now) (vectors_at c.args.here.licence.now.code.types c.args.here.licence.now.cert (func_of c.args.here.own.now) c.args.here.block ls)) (lets_more c.args.lets.now c.lets.count c.index-lets-count.result here);
    }
