use Rattle.std.proofs.Common.{◌≡◌, map, take}
use Rattle.grail_code.specs.CodeReader.{kinds_of, marks_of}
use Rattle.grail_code.specs.Params.{param_of}
use Rattle.grail_code.proofs.decoder.blocks.apart.Given as goal

abbrev pub invariant-params : goal.invariant-params
invariant-params l = record {
  kinds_are : l.kinds.items ≡ kinds_of (map param_of (take l.param-index l.params));
  marks_are : l.reads.items ≡ marks_of (map param_of (take l.param-index l.params));
}
