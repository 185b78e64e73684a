use Rattle.std.proofs.Common.{◌≡◌, drop, map}
use Rattle.camelot_values.specs.Names.{stands}
use Rattle.camelot_types.proofs.names.stands.Given as goal

abbrev pub invariant-earlier : goal.invariant-earlier
invariant-earlier l = stands (map (λ n. n.now.word) (drop l.other-index l.earlier)) l.name.word ≡ stands (map (λ n. n.now.word) l.earlier) l.name.word
