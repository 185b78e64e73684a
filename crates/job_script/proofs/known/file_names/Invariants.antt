use Rattle.std.proofs.Common.{◌-◌, length, map}
use Rattle.job_script.specs.Known.{AreFiled}
use Rattle.job_script.proofs.known.file_names.Given as goal

abbrev pub invariant-each : goal.invariant-each
invariant-each l = AreFiled l.keys.keys (map (λ word. word.now) l.words) l.filed

abbrev pub decreases-each : goal.decreases-each
decreases-each l = length l.words - l.filed
