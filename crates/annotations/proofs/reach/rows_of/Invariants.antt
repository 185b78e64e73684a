use Rattle.std.proofs.Common.{◌≡◌, map}
use Rattle.std.specs.List.{range_with_len}
use Rattle.annotations.specs.Tables.{reached_from}
use Rattle.annotations.proofs.reach.rows_of.Given as goal

abbrev pub invariant-types : goal.invariant-types
invariant-types l = map (λ r. r.items) l.rows.items ≡ map (reached_from l.types) (range_with_len 0 l.number)
