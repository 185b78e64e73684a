use Rattle.std.proofs.Common.{◌≤◌}
use Rattle.std.specs.Prelude.{vec_len}
use Rattle.value_text.proofs.names.front_con.Given as goal

abbrev pub invariant-names : goal.invariant-names
invariant-names l = l.place ≤ vec_len l.def.cons

abbrev pub decreases-names : goal.decreases-names
decreases-names l = l.place
