-- Cited by contracts.
-- What an arm says of the cell of the matched value.
use Rattle.std.specs.Prelude.{Bool, true, false}
use Rattle.camelot_tree.specs.declared.tree.ArmCell.{ArmCell}
use Rattle.camelot_tree.specs.declared.tree.ArmCell.TheVariants as cell

-- an `@` stands in the arm
abbrev pub has_cell : ArmCell → Bool
has_cell cell.Plain = false
has_cell x = true
