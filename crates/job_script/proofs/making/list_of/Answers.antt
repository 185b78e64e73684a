use Rattle.std.proofs.Common.{◌∙◌, arith}
use Rattle.job_script.proofs.Counted.{list_there, list_within}
use Rattle.job_script.proofs.making.list_of.Goals as goal

pub index-requires : goal.index-requires
index-requires c = omega (arith, list_within c.args.count c.args.number c.args.texts.now.lists.items c.requires.made.lists c.requires.least c.requires.most, c.args.texts.now.lists.ok)

pub returns : goal.returns
returns c = c.deref.ensures.value ∙ list_there c.args.count c.args.number c.args.texts.now.lists.items c.index.result.now _ c.requires.made.lists c.index.ensures c.requires.least c.requires.most
