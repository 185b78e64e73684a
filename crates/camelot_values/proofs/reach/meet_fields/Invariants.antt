use Rattle.std.proofs.Common.{◌≡◌, drop}
use Rattle.camelot_values.specs.Search.{spread}
use Rattle.camelot_values.proofs.reach.meet_fields.Given as goal

abbrev pub invariant-fields : goal.invariant-fields
invariant-fields l = spread (drop l.kind-index l.con.fields.items) l.marks ≡ spread l.con.fields.items l.initial.marks
