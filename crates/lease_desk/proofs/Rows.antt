-- Worked rows.
use Rattle.std.proofs.Common.{◌≡◌, ℕ, List, [], ◌∷◌, Some, None, refl}
use Rattle.hole_list.specs.Placing.{run, largest}
use Rattle.lease_desk.specs.declared.event.Event.{Event}
use Rattle.lease_desk.specs.declared.event.Event.TheVariants as event
use Rattle.lease_desk.specs.Journal.{DeskState, replay, after_event}

abbrev sizes : List ℕ
sizes = 4 ∷ 4 ∷ 2 ∷ []

abbrev events : List Event
events = event.Took 0 0 4 ∷ event.Took 1 4 4 ∷ event.Took 2 8 2 ∷ event.Gave 1 4 4 ∷ event.Gave 0 0 4 ∷ []

abbrev behind_them : DeskState
behind_them = record { asked = 3; waiting = []; holes = run 0 8 ∷ []; leases = None ∷ None ∷ Some (run 8 2) ∷ [] }

row : replay 10 sizes events ≡ Some behind_them
unfolding replay after_event
row = refl

gave_first : replay 10 sizes (event.Gave 0 0 4 ∷ []) ≡ None
unfolding replay after_event
gave_first = refl

full_while_fits : replay 10 sizes (event.Full 0 4 10 ∷ []) ≡ None
unfolding replay after_event
full_while_fits = refl

not_next : replay 10 sizes (event.Took 1 0 4 ∷ []) ≡ None
unfolding replay after_event
not_next = refl

great : largest (run 0 8 ∷ []) ≡ 8
great = refl
