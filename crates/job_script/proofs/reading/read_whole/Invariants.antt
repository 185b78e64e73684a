use Rattle.std.proofs.Common.{length}
use Rattle.job_script.specs.Places.{IsGoing}
use Rattle.job_script.proofs.reading.read_whole.Given as goal

abbrev pub invariant-entries : goal.invariant-entries
invariant-entries l = record { going : IsGoing l.text l.reader }

abbrev pub decreases-entries : goal.decreases-entries
decreases-entries l = length l.reader.rest.now
