use Rattle.grail_code.proofs.SpellingWrites.{thing_fits}
use Rattle.grail_code.proofs.encoder.writer.each.Goals as goal

pub encode-requires : goal.encode-requires
encode-requires g c = thing_fits g.T.Encode.Fits g.T.Encode.plain c.args.things.now c.things.thing-index c.thing-item.result c.requires c.things-test.true c.thing-item.is
