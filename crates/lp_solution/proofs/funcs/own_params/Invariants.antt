use Rattle.std.proofs.Common.{◌≡◌}
use Rattle.std.specs.List.{range_with_len}
use Rattle.lp_solution.proofs.funcs.own_params.Given as goal

abbrev pub invariant-params : goal.invariant-params
invariant-params l = l.numbers.items ≡ range_with_len 0 l.number
