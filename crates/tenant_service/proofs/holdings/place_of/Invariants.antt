use Rattle.std.proofs.Common.{◌≡◌, ◌+◌, drop}
use Rattle.std.specs.Option.{option_map}
use Rattle.camelot_values.specs.Names.{place_among}
use Rattle.tenant_service.specs.Granting.{names_of}
use Rattle.tenant_service.proofs.holdings.place_of.Given as goal

abbrev pub invariant-jobs : goal.invariant-jobs
invariant-jobs l = option_map (λ k. l.at + k) (place_among (names_of (drop l.at l.held)) l.name) ≡ place_among (names_of l.held) l.name
