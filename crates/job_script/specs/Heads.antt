-- Cited by contracts.
-- What the reader of lines answers, as plain data.
use Rattle.std.specs.Prelude.{◌≡◌, ℕ, List, Option, Some, None}
use Rattle.std.specs.Borrow.{Bor}
use Rattle.job_script.specs.Scripts.{Job}
use Rattle.job_script.specs.Reading.{Head, HProgram, HJob, job_by}
use Rattle.job_script.specs.declared.heads.Head.{Head as DeclaredHead}
use Rattle.job_script.specs.declared.heads.Head.TheVariants as head
use Rattle.job_script.specs.declared.heads.JobLine.{JobLine}

abbrev pub job_view : JobLine → Job
job_view j = job_by j.name.now j.program.now j.entry.now j.fuel j.args.now

abbrev pub head_view : DeclaredHead → Head
head_view (head.Program name language) = HProgram name.now language
head_view (head.Job j) = HJob (job_view j)

-- the same bytes, or both nothing
abbrev pub SameBytes : Option (List ℕ) → Option (Bor (List ℕ)) → Type 0
SameBytes found None = found ≡ None
SameBytes found (Some bytes) = found ≡ Some bytes.now
