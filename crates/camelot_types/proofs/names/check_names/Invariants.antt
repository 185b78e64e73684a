use Rattle.std.proofs.Common.{◌≡◌, [], take, drop, map}
use Rattle.camelot_types.specs.Solving.{names_checked}
use Rattle.camelot_types.proofs.names.check_names.Given as goal

abbrev pub invariant-names : goal.invariant-names
invariant-names l = names_checked (map (λ n. n.now.word) (take l.index l.names)) (map (λ n. n.now) (drop l.index l.names)) ≡ names_checked [] (map (λ n. n.now) l.names)
