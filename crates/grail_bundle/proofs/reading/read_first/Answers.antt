use Rattle.std.specs.Prelude.{codes}
use Rattle.grail_bundle.proofs.Decoding.{same_text}
use Rattle.grail_bundle.proofs.Stopping.{first_read}
use Rattle.grail_bundle.proofs.reading.read_first.Goals as goal

pub returns : goal.returns
returns c =
    first_read c.args.text.now c.in-Some.line.now c.in-Some.rest.now c.in-Some.ensures
    (same_text c.in-Some.line.now c.as_slice.result.now (codes "grail code") c.ne.result c.ne.ensures c.if-ne.false c.as_slice.ensures)
