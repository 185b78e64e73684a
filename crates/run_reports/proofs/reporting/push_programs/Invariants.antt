use Rattle.std.proofs.Common.{◌≡◌, ◌++◌, map, drop}
use Rattle.job_script.specs.Words.{entry_of}
use Rattle.run_reports.specs.Report.{program_lines}
use Rattle.run_reports.proofs.reporting.push_programs.Given as goal

abbrev pub invariant-items : goal.invariant-items
invariant-items l = l.out.items ++ program_lines (map entry_of (drop l.entry-index l.items)) l.rest ≡ l.initial.out.items ++ program_lines (map entry_of l.items) l.lines
