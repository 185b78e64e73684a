use Rattle.std.proofs.Common.{◌≡◌, length, take, bytes_eq, sym, ◌∙◌, rules}
use Rattle.grail_bundle.specs.Bundles.{first_line}
use Rattle.grail_bundle.proofs.Decoding.{end_is, end_none}
use Rattle.grail_bundle.proofs.reading.is_end.Goals as goal

pub returns-then-is_empty : goal.returns-then-is_empty
returns-then-is_empty c = end_none c.args.code.now c.args.rest.now (sym c.is_empty.ensures ∙ c.if-is_empty.true)

pub returns : goal.returns
returns c =
    let starts : c.starts_with.result ≡ bytes_eq first_line (take (length first_line) c.args.rest.now) = search rules in
    end_is c.args.code.now c.args.rest.now c.starts_with.result (sym c.is_empty.ensures ∙ c.if-is_empty.false) starts
