use Rattle.std.proofs.Common.{arith, ◌++◌}
use Rattle.grail_bundle.specs.Bundles.{digit_lines}
use Rattle.grail_bundle.proofs.Wrapping.{one_line, last_line}
use Rattle.grail_bundle.proofs.writing.push_lines.Goals as goal

pub lines-preserved : goal.lines-preserved
lines-preserved c =
    one_line c.lines.text.items c.extend_from_slice.new.self.items c.push.new.self.items c.lines.rest.now c.split_at.result.0.now c.split_at.result.1.now (c.args.text.now.items ++ digit_lines c.args.digits.now)
    (omega arith) c.split_at.ensures.front c.split_at.ensures.back c.in_ok-extend_from_slice.ensures.items c.in_ok-push.ensures.items c.lines.invariant

pub returns : goal.returns
returns c =
    last_line c.lines.text.items c.extend_from_slice-2.new.self.items c.push-2.new.self.items c.lines.rest.now (c.args.text.now.items ++ digit_lines c.args.digits.now)
    (omega arith) c.in_ok-extend_from_slice-2.ensures.items c.in_ok-push-2.ensures.items c.lines.invariant
