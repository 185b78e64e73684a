use Rattle.std.proofs.Common.{arith}
use Rattle.grail_evaluator.specs.Locals.{env_of}
use Rattle.grail_evaluator.proofs.LocalLaws.{one_field_more}
use Rattle.grail_evaluator.proofs.locals.bind_all.Goals as goal

pub fields-preserved : goal.fields-preserved
fields-preserved c = record {
  left = one_field_more (env_of c.fields.env.items) (env_of c.bind.new.env.items) c.args.fields.now c.args.values.now c.fields.place 0 c.in_ok-value.value c.index-values-place.result _
      (omega arith) (omega arith) c.index-values-place.is c.in_ok-value.ensures c.in_ok-bind.ensures c.fields.invariant.left;
  equal = c.fields.invariant.equal;
}
