use Rattle.std.proofs.Common.{◌≡◌, map, drop}
use Rattle.std.specs.List.{AllByRecursion}
use Rattle.job_script.specs.Scripts.{EntryIsWithin}
use Rattle.job_script.specs.Text.{EntryIsShort}
use Rattle.job_script.specs.Words.{entry_of}
use Rattle.script_plans.specs.Rows.{row_of}
use Rattle.script_plans.specs.Turns.{planning_of}
use Rattle.script_plans.proofs.Taking.{Going}
use Rattle.script_plans.proofs.planning.take_in_turn.Given as goal

abbrev pub invariant-entries : goal.invariant-entries
invariant-entries l = record {
  going : Going l.arena (map entry_of l.entries) (map entry_of (drop l.entry-index l.entries)) (map row_of l.rows) l.place (planning_of l.taken);
  short : AllByRecursion (EntryIsShort 4294967295) (map entry_of (drop l.entry-index l.entries));
  within : AllByRecursion EntryIsWithin (map entry_of (drop l.entry-index l.entries));
  place : l.place ≡ l.entry-index;
}
