use Rattle.std.proofs.Common.{map, drop}
use Rattle.std.specs.List.{AllByRecursion}
use Rattle.job_script.specs.Text.{EntryIsShort}
use Rattle.job_script.specs.Words.{entry_of}
use Rattle.script_plans.specs.Rows.{row_of}
use Rattle.script_plans.proofs.AllWanted.{AreSoFar}
use Rattle.script_plans.proofs.wanting.want_each.Given as goal

abbrev pub invariant-entries : goal.invariant-entries
invariant-entries l = record {
  wanted : AreSoFar l.licences (map row_of l.rows) (map entry_of l.entries) (map entry_of (drop l.entry-index l.entries)) l.all.items;
  short : AllByRecursion (EntryIsShort 4294967295) (map entry_of (drop l.entry-index l.entries));
}
