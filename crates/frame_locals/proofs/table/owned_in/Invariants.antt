use Rattle.std.proofs.Common.{◌≡◌, ◌++◌, drop}
use Rattle.grail_code.specs.Code.{func_of}
use Rattle.grail_code.specs.WellFormed.{local_kinds}
use Rattle.frame_locals.specs.Tables.{owned_from}
use Rattle.frame_locals.proofs.table.owned_in.Given as goal

abbrev pub invariant-locals : goal.invariant-locals
invariant-locals l = l.owned.items ++ owned_from l.types (func_of l.func) l.number (drop l.number (local_kinds (func_of l.func))) ≡ owned_from l.types (func_of l.func) 0 (local_kinds (func_of l.func))
