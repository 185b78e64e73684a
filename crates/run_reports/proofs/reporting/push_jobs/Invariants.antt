use Rattle.std.proofs.Common.{◌≡◌, ◌++◌, map, drop}
use Rattle.job_script.specs.Words.{entry_of}
use Rattle.run_reports.specs.Report.{job_lines}
use Rattle.run_reports.specs.Lines.{line_of}
use Rattle.run_reports.proofs.reporting.push_jobs.Given as goal

abbrev pub invariant-items : goal.invariant-items
invariant-items l = l.out.items ++ job_lines (map entry_of (drop l.entry-index l.items)) (map (line_of l.licences) (drop l.at l.lines)) ≡ l.initial.out.items ++ job_lines (map entry_of l.items) (map (line_of l.licences) l.lines)
