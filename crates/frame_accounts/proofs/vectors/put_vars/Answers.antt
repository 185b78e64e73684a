use Rattle.std.proofs.Common.{◌-◌, [], length, map, refl, ap, ◌∙◌, arith}
use Rattle.std.specs.Option.{option_map, option_map_or}
use Rattle.std.proofs.lemmas.Option.{slice_get-map, slice_get_read}
use Rattle.certificate.specs.Words.{var_of}
use Rattle.frame_accounts.proofs.VectorLaws.{one_var}
use Rattle.frame_accounts.proofs.vectors.put_vars.Goals as goal

pub vars-preserved : goal.vars-preserved
vars-preserved c = record {
  within = omega (arith, c.vars.invariant.within);
  long = c.put.ensures.count ∙ c.vars.invariant.long;
  told = one_var (length c.args.vectors.now) (c.vars.count - 1) c.vars.count (map var_of c.args.vars.now) (var_of c.index-vars-count.result)
      (map (λ o. option_map_or (λ v. v.now) o []) c.vars.vectors) (map (λ o. option_map_or (λ v. v.now) o []) c.put.new.vectors)
      (slice_get-map var_of c.args.vars.now (c.vars.count - 1) ∙ ap (option_map var_of) (slice_get_read c.args.vars.now (length c.args.vars.now) (c.vars.count - 1) c.index-vars-count.result refl (omega (arith, c.vars.invariant.within, c.vars-test.true)) c.index-vars-count.is))
      (omega (arith, c.vars-test.true)) c.vars.invariant.told c.put.ensures.told;
}
