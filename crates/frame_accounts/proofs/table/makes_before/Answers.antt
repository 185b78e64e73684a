use Rattle.std.proofs.Common.{arith}
use Rattle.frame_accounts.proofs.TableLaws.{no_more_makes}
use Rattle.frame_accounts.proofs.table.makes_before.Goals as goal

pub returns : goal.returns
returns c = no_more_makes c.args.makes.now c.makes.count c.args.block c.makes.invariant (omega (arith, c.makes-test.false))
