use Rattle.std.proofs.Common.{[], ◌∷◌, ap, length, map, subst, sym, arith}
use Rattle.std.proofs.lemmas.List.{length-append}
use Rattle.grail_code.specs.Code.{block_of}
use Rattle.grail_check.specs.Sets.{MayHaveAll, HaveParams}
use Rattle.grail_check.proofs.ReadyLaws.{one_block_more}
use Rattle.grail_check.proofs.body.params_of.Goals as goal

pub each-preserved : goal.each-preserved
each-preserved c = record {
  count = omega (arith, ap length c.in_ok-push.ensures.items, length-append c.each.sets.items (c.of.result ∷ []), c.each.invariant.count);
  have =
      subst (λ sets. HaveParams sets (map block_of c.args.blocks.now)) (sym c.in_ok-push.ensures.items)
      (one_block_more block_of c.each.sets.items c.of.result c.args.blocks.now c.block-item.result c.each.block-index c.each.invariant.count c.each-test.true c.block-item.is c.each.invariant.have
      (subst (λ xs. MayHaveAll c.of.result xs) c.deref.ensures c.of.ensures));
}
