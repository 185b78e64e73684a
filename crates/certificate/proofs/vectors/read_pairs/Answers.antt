use Rattle.std.proofs.Common.{arith, []}
use Rattle.certificate.specs.Reading.{vector_from}
use Rattle.text_lines.specs.Cuts.{further}
use Rattle.certificate.proofs.Pairs.{pairs_more, pairs_within}
use Rattle.certificate.proofs.vectors.read_pairs.Goals as goal

pub pairs-preserved : goal.pairs-preserved
pairs-preserved c = record {
  whole = pairs_more (vector_from [] (further c.args.rest.now)) c.pairs.pairs.items c.push.new.self.items c.pairs.last.now c.cut_pair.result.0.now c.cut_pair.result.1.now c.pairs.left.now c.in-Some.word.now c.in-Some.after.now
      c.in-Some-read_pair.pair.0 c.in-Some-read_pair.pair.1 c.pairs.invariant.whole c.in-Some.ensures.words c.cut_pair.ensures.con c.cut_pair.ensures.units c.in-Some-read_pair.ensures (omega arith) (omega arith) c.in-Ok.ensures.ok;
  within = pairs_within c.pairs.pairs.items c.push.new.self.items c.in-Some-read_pair.pair.0 c.in-Some-read_pair.pair.1 c.pairs.invariant.within (omega arith) (omega arith) c.in-Ok.ensures.ok;
}
