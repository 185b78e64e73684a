use Rattle.licence.proofs.Bounds.{entry_is, index_there}
use Rattle.licence.proofs.Vectors.{item_got}
use Rattle.licence.proofs.bound.certified.Goals as goal

pub returns : goal.returns
returns c = record {
  is = entry_is c.funcs.result.now c.cert.result.now c.args.licence.now c.args.entry c.index-funcs-entry.result c.funcs.ensures c.cert.ensures
      (item_got c.funcs.result.now c.args.entry c.index-funcs-entry.result c.index-funcs-entry.result
      (index_there c.funcs.result.now c.cert.result.now c.args.licence.now c.args.entry c.args.args.now c.funcs.ensures c.cert.ensures c.kept.ensures c.requires.fits) c.index-funcs-entry.is);
}
