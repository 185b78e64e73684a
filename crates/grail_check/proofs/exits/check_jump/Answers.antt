use Rattle.std.proofs.Common.{◌++◌}
use Rattle.grail_code.specs.Code.{func_of}
use Rattle.grail_code.specs.WellFormed.{kept_diamond}
use Rattle.grail_check.proofs.ReadyLaws.{no_fault}
use Rattle.grail_check.proofs.exits.check_jump.Goals as goal

pub returns-then-is_covered : goal.returns-then-is_covered
returns-then-is_covered c = no_fault (func_of c.args.body.func.now) c.args.marks.now (c.args.fields.now ++ kept_diamond c.args.cell) c.usable_in-usable.result.words c.args.target c.usable_in-usable.ensures (c.is_covered.ensures c.if-is_covered.true)
