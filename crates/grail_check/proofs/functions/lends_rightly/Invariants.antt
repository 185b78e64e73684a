use Rattle.std.proofs.Common.{◌≡◌, drop}
use Rattle.grail_code.specs.Code.{func_of}
use Rattle.grail_check.specs.Faulting.{lends_from}
use Rattle.grail_check.proofs.functions.lends_rightly.Given as goal

abbrev pub invariant-params : goal.invariant-params
invariant-params l = lends_from l.types (func_of l.func) l.number (drop l.number (func_of l.func).params) ≡ lends_from l.types (func_of l.func) 0 (func_of l.func).params
