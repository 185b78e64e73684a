use Rattle.certificate.proofs.Pairs.{vector_form}
use Rattle.certificate.proofs.vectors.read_vector.Goals as goal

pub of-requires : goal.of-requires
of-requires c = vector_form c.args.rest.now c.in-Ok.pairs.items c.in-Ok.ensures
