use Rattle.std.proofs.Common.{◌≡◌, ◌≤◌, ◌*◌, ◌++◌, drop, map}
use Rattle.camelot_tree.specs.Programs.{program_of}
use Rattle.camelot_tree.specs.Tree.{function_of}
use Rattle.camelot_types.specs.Walk.{head_guesses}
use Rattle.camelot_types.specs.Tables.{head_view}
use Rattle.camelot_types.proofs.heads.head_guesses.Given as goal

abbrev pub invariant-funs : goal.invariant-funs
invariant-funs l = record {
  number : l.first ≤ 17 * l.fun-index;
  left : map head_view l.heads.items
      ++ head_guesses (program_of l.program) l.first (map function_of (drop l.fun-index l.funs)) ≡ head_guesses (program_of l.program) 0 (map function_of l.funs);
}
