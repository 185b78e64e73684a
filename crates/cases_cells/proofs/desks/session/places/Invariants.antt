use Rattle.std.proofs.Common.{◌≡◌, ◌≤◌, replicate, None}
use Rattle.std.specs.Prelude.{vec_capacity}
use Rattle.cases_cells.proofs.desks.session.places.Given as goal

abbrev pub invariant-loop : goal.invariant-loop
invariant-loop g l = record { items : l.places.items ≡ replicate l.counter None; room : l.jobs ≤ vec_capacity l.places }
