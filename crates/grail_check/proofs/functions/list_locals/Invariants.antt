use Rattle.std.proofs.Common.{◌≡◌, ◌++◌, drop}
use Rattle.grail_code.specs.Code.{func_of}
use Rattle.grail_code.specs.WellFormed.{local_kinds}
use Rattle.grail_check.specs.Faulting.{locals_from, locals_of}
use Rattle.grail_check.proofs.functions.list_locals.Given as goal

abbrev pub invariant-locals : goal.invariant-locals
invariant-locals l = l.locals.items ++ locals_from l.types (func_of l.func) l.number (drop l.number (local_kinds (func_of l.func))) ≡ locals_of l.types (func_of l.func)
