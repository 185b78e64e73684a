use Rattle.std.proofs.Common.{◌≡◌, ◌≤◌, ◌*◌, ◌+◌, drop, map}
use Rattle.camelot_tree.specs.Tree.{function_of}
use Rattle.camelot_types.specs.Solving.{unknowns}
use Rattle.camelot_types.proofs.heads.unknowns.Given as goal

abbrev pub invariant-funs : goal.invariant-funs
invariant-funs l = record {
  number : l.count ≤ 17 * l.fun-index;
  left : l.count + unknowns (map function_of (drop l.fun-index l.funs)) ≡ unknowns (map function_of l.funs);
}
