use Rattle.std.proofs.Common.{◌/◌, length, length-take-le, replicate}
use Rattle.grail_bundle.proofs.Decoding.{none_other}
use Rattle.grail_bundle.proofs.lines.push_line.Goals as goal

pub returns-then-not-decode_line : goal.returns-then-not-decode_line
returns-then-not-decode_line c = none_other c.args.line.now _ (length-take-le (length c.args.line.now / 2) (replicate 32 0) c.if-size-gt32.false) c.if-not-decode_line.ensures.line
