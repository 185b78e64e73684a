use Rattle.std.proofs.Common.{◌≡◌, ◌++◌, drop, map}
use Rattle.camelot_types.specs.Solving.{settled}
use Rattle.camelot_types.proofs.settle.settled_all.Given as goal

abbrev pub invariant-guesses : goal.invariant-guesses
invariant-guesses l = l.kinds.items ++ map (settled l.table) (drop l.guess-index l.guesses) ≡ map (settled l.table) l.guesses
