use Rattle.std.proofs.Common.{◌≡◌, length, drop}
use Rattle.camelot_values.specs.Value.{parts}
use Rattle.grail_code.specs.Meaning.{put_all}
use Rattle.grail_evaluator.specs.Trees.{plain_all}
use Rattle.grail_evaluator.specs.Locals.{env_of}
use Rattle.grail_evaluator.proofs.locals.bind_all.Given as goal

abbrev pub invariant-fields : goal.invariant-fields
invariant-fields l = record {
  left : put_all (env_of l.env.items) (drop l.place l.fields) (parts (plain_all (drop l.place l.values))) ≡ put_all (env_of l.initial.env.items) l.fields (parts (plain_all l.values));
  equal : length l.fields ≡ length l.values;
}
