use Rattle.std.proofs.Common.{◌≡◌, ◌++◌, drop}
use Rattle.std.specs.Prelude.{flat_map}
use Rattle.std.specs.List.{AllByRecursion}
use Rattle.grail_code.specs.Spelling.{FitsKind, param_bytes, marked}
use Rattle.grail_code.proofs.encoder.blocks.each_param.Given as goal

abbrev pub invariant-params : goal.invariant-params
invariant-params l = record {
  written : l.out.items ++ flat_map param_bytes (marked (drop l.place l.kinds) (drop l.place l.reads)) ≡ l.initial.out.items ++ flat_map param_bytes (marked l.kinds l.reads);
  left : AllByRecursion FitsKind (drop l.place l.kinds);
}
