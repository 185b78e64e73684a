use Rattle.std.proofs.Common.{◌≡◌, drop}
use Rattle.camelot_tree.specs.Programs.{program_of}
use Rattle.camelot_types.specs.Declaring.{params_checked}
use Rattle.camelot_types.proofs.headers.check_params.Given as goal

abbrev pub invariant-params : goal.invariant-params
invariant-params l = params_checked (program_of l.program) (drop l.param-index l.params) ≡ params_checked (program_of l.program) l.params
