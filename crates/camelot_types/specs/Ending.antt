-- Private: words for functions of this crate.
-- How the answers about bodies tell what the walk comes to.
use Rattle.std.specs.Prelude.{◌≡◌, map, Result, Ok, Err}
use Rattle.camelot_types.specs.declared.fault.TypeFault.{TypeFault}
use Rattle.stops.specs.declared.stop.Stop.{Stop}
use Rattle.camelot_types.specs.declared.bodies.BodyWork.{BodyWork}
use Rattle.camelot_types.specs.declared.bodies.BodiesWork.{BodiesWork}
use Rattle.camelot_types.specs.Solving.{Walked, Goes, Work, Bodies}
use Rattle.camelot_types.specs.Doing.{StopsWith}

abbrev pub FindsBody : Walked Work → Result BodyWork (Stop TypeFault) → Type 0
FindsBody o (Ok w) = o ≡ Goes (record { table = w.table.items; atoms = w.atoms.items })
FindsBody o (Err stop) = StopsWith o stop

abbrev pub bodies_of : BodiesWork → Bodies
bodies_of w = record { table = w.table.items; atoms = map (λ v. v.items) w.atoms.items }

abbrev pub FindsBodies : Walked Bodies → Result BodiesWork (Stop TypeFault) → Type 0
FindsBodies o (Ok w) = o ≡ Goes (bodies_of w)
FindsBodies o (Err stop) = StopsWith o stop
