use Rattle.std.proofs.Common.{arith}
use Rattle.job_script.proofs.Counted.{name_within}
use Rattle.job_script.proofs.making.name_of.Goals as goal

pub index-requires : goal.index-requires
index-requires c = omega (arith, name_within c.args.count c.args.number c.args.texts.now.names.items c.requires.made.names c.requires.least c.requires.most, c.args.texts.now.names.ok)
