use Rattle.std.proofs.Common.{◌≡◌, [], ◌∷◌, drop, reverse}
use Rattle.camelot_values.specs.Nodes.{fits_nodes}
use Rattle.camelot_values.proofs.value.Flat.fits.Given as goal

abbrev pub invariant-items : goal.invariant-items
invariant-items l = fits_nodes l.types (l.fn.kind ∷ []) l.item-items ≡ fits_nodes l.types (reverse l.due.items) (drop l.item-index l.item-items)
