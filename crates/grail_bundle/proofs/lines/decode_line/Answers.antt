use Rattle.std.proofs.Common.{length, sym, ◌∙◌}
use Rattle.hex.specs.Hex.{encode_lower}
use Rattle.std.specs.Prelude.{◌≡◌}
use Rattle.grail_bundle.proofs.Decoding.{other_long, other_refused, compared, on_ok}
use Rattle.grail_bundle.proofs.lines.decode_line.Goals as goal

pub returns-then-line-gt64-clause-line : goal.returns-then-line-gt64-clause-line
returns-then-line-gt64-clause-line c = other_long c.args.line.now (length c.args.bytes.now) c.requires c.if-line-gt64.true

pub returns-then-is_err-clause-line : goal.returns-then-is_err-clause-line
returns-then-is_err-clause-line c = other_refused c.args.line.now (length c.args.bytes.now) c.decode_to_slice.result c.decode_to_slice.new.out c.decode_to_slice.ensures.value (sym c.is_err.ensures.value ∙ c.if-is_err.true)

pub returns-clause-line : goal.returns-clause-line
returns-clause-line c =
    let written : c.encode_to_slice.new.output ≡ encode_lower c.decode_to_slice.new.out = on_ok c.encode_to_slice.result (c.encode_to_slice.new.output ≡ encode_lower c.decode_to_slice.new.out) c.encode_to_slice.ensures.written (sym c.is_err-2.ensures.value ∙ c.if-is_err-2.false) in
    compared c.args.line.now (length c.args.bytes.now) c.decode_to_slice.result c.decode_to_slice.new.out c.encode_to_slice.new.output c.eq.result c.decode_to_slice.ensures.value written c.eq.ensures
