use Rattle.std.proofs.Common.{Err}
use Rattle.annotations.proofs.Rows.{found}
use Rattle.annotations.proofs.reach.is_among.Goals as goal

pub returns-in-Err : goal.returns-in-Err
returns-in-Err c = found c.args.numbers.now c.args.number (Err c.in-Err.field-0) c.requires c.in-Err.ensures.position
