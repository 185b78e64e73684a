use Rattle.std.proofs.Common.{arith}
use Rattle.frame_accounts.proofs.TableLaws.{no_more_lines}
use Rattle.frame_accounts.proofs.table.lines_before.Goals as goal

pub returns : goal.returns
returns c = no_more_lines c.args.lines.now c.lines.count c.args.block c.lines.invariant (omega (arith, c.lines-test.false))
