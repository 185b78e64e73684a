use Rattle.std.proofs.Common.{◌≡◌, ◌++◌, map, drop}
use Rattle.job_script.specs.Words.{entry_of}
use Rattle.run_reports.specs.Report.{asked_name, event_lines}
use Rattle.run_reports.proofs.reporting.push_events.Given as goal

abbrev pub invariant-events : goal.invariant-events
invariant-events l = l.out.items ++ event_lines (asked_name (map entry_of l.items) l.asked) (drop l.event-index l.journal) ≡ l.initial.out.items ++ event_lines (asked_name (map entry_of l.items) l.asked) l.journal
