-- Cited by contracts.
-- What stands behind each answer of the reader.
use Rattle.std.specs.Prelude.{ℕ, List}
use Rattle.job_script.specs.Text.{IsLineFault, IsCountFault, IsRepeatFault}
use Rattle.job_script.specs.declared.reading.ScriptFault.{ScriptFault}
use Rattle.job_script.specs.declared.reading.ScriptFault.TheVariants as fault

-- the cause of the fault
abbrev pub HasCause : List ℕ → ScriptFault → Type 0
HasCause text (fault.Line line) = IsLineFault text line
HasCause text (fault.Count line) = IsCountFault text line
HasCause text (fault.Repeat line) = IsRepeatFault text line
