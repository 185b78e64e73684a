use Rattle.std.proofs.Common.{◌≡◌, ◌++◌, drop, map}
use Rattle.grail_code.specs.Code.{func_of, code_of}
use Rattle.lp_system.specs.Unknowns.{funcs_unknowns}
use Rattle.lp_rows.specs.Plain.{plain}
use Rattle.lp_rows.proofs.listing.unknowns.Given as goal

abbrev pub invariant-funcs : goal.invariant-funcs
invariant-funcs l = record {
  number : l.number ≡ l.func-index;
  all : map plain l.list.items ++ funcs_unknowns (code_of l.code).types l.number (map func_of (drop l.func-index l.code.funcs.items)) ≡ funcs_unknowns (code_of l.code).types 0 (code_of l.code).funcs;
}
