use Rattle.std.proofs.lemmas.List.{map-set}
use Rattle.grail_verifier.proofs.lets.put.Goals as goal

pub returns-then-local-slots : goal.returns-then-local-slots
returns-then-local-slots c = map-set _ _ _ _
