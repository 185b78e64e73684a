use Rattle.std.proofs.Common.{◌≡◌, ◌++◌, drop, map}
use Rattle.grail_code.specs.Code.{func_of}
use Rattle.lp_system.specs.Unknowns.{vars_unknowns}
use Rattle.lp_rows.specs.Plain.{plain}
use Rattle.lp_rows.proofs.listing.push_vars.Given as goal

abbrev pub invariant-vars : goal.invariant-vars
invariant-vars l = map plain l.list.items ++ vars_unknowns l.reach.types.now (func_of l.body) l.func l.block (drop l.var-index l.vars) ≡ map plain l.initial.list.items ++ vars_unknowns l.reach.types.now (func_of l.body) l.func l.block l.vars
