use Rattle.std.proofs.Common.{◌≡◌, ◌+◌, ◌++◌, drop}
use Rattle.camelot_tree.specs.Programs.{program_of}
use Rattle.camelot_types.specs.Walk.{param_guesses}
use Rattle.camelot_types.proofs.heads.param_guesses.Given as goal

abbrev pub invariant-params : goal.invariant-params
invariant-params l = record {
  number : l.number ≡ l.first + l.param-index;
  left : l.guesses.items ++ param_guesses (program_of l.program) l.number (drop l.param-index l.params) ≡ param_guesses (program_of l.program) l.first l.params;
}
