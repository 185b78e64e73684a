use Rattle.std.proofs.Common.{◌≡◌, ◌++◌, take, drop, map}
use Rattle.camelot_types.specs.Solving.{replaced}
use Rattle.camelot_types.proofs.table.replace.Given as goal

abbrev pub invariant-entries : goal.invariant-entries
invariant-entries l = take l.entry-index l.table ++ map (replaced l.number l.new) (drop l.entry-index l.table) ≡ map (replaced l.number l.new) l.initial.table
