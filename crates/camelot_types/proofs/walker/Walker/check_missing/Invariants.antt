use Rattle.std.proofs.Common.{◌≡◌, drop}
use Rattle.camelot_types.specs.Solving.{missing_checked}
use Rattle.camelot_types.specs.Tables.{globals_view}
use Rattle.camelot_types.proofs.walker.Walker.check_missing.Given as goal

abbrev pub invariant-siblings : goal.invariant-siblings
invariant-siblings l = missing_checked (globals_view l.globals).types l.there l.line (drop l.sibling-index l.sibling-items) ≡ missing_checked (globals_view l.globals).types l.there l.line l.sibling-items
