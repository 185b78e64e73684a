-- Cited by contracts.
-- What is answered of the programs of entries, in order, and what is then known of them.
use Rattle.std.specs.Prelude.{◌≡◌, ℕ, suc, ◌≤◌, List, [], ◌∷◌, ◌++◌, length, map, Option, Result, Ok, Err}
use Rattle.licence.specs.Licensed.{Licensed}
use Rattle.job_script.specs.Scripts.{Program, Entry, AProgram, AJob}
use Rattle.cause_texts.specs.declared.cause.Cause.{Cause}
use Rattle.run_reports.specs.declared.outcome.ProgramLine.{ProgramLine}
use Rattle.script_plans.specs.declared.answering.Answered.{Answered}
use Rattle.script_plans.specs.declared.licensing.LicensedPrograms.{LicensedPrograms}
use Rattle.script_plans.specs.declared.rows.Known.{Known}
use Rattle.script_plans.specs.Programs.{ProgramText, Meaning, IsLicenceOf, IsRefusedFor, text_in, program_of, program_named}
use Rattle.script_plans.specs.Fates.{IsProgramLine}
use Rattle.script_plans.specs.Lines.{AreProgramLines}
use Rattle.script_plans.specs.Rows.{Row, row_of, row_among, row_program, IsKnown, AreRows}

-- the program has this licence, whatever its calls mean
pub record IsLicenceFor (p : ProgramText) (l : Licensed) : Type 0 where
  pub meaning : Meaning
  pub is : IsLicenceOf p l meaning

-- what is answered of a program, its licence or why it has none, is so
abbrev pub IsAnswer : ProgramText → Result Licensed Cause → Type 0
IsAnswer p (Ok l) = IsLicenceFor p l
IsAnswer p (Err cause) = IsRefusedFor p cause

-- the answer to this program, with its name
pub record IsAnswerTo (p : Program) (a : Answered) : Type 0 where
  pub name : a.name.now ≡ p.name
  pub program : text_in a.language a.text.now ≡ program_of p
  pub is : IsAnswer (program_of p) a.licence

-- one answer more, to this program
pub record HasOneMore (p : Program) (old new : List Answered) : Type 0 where
  pub answered : Answered
  pub is : IsAnswerTo p answered
  pub more : new ≡ old ++ answered ∷ []

-- the same of an entry: there is none to a job
abbrev pub IsAnswerAdded : Entry → (old new : List Answered) → Type 0
IsAnswerAdded (AProgram p) old new = HasOneMore p old new
IsAnswerAdded (AJob j) old new = new ≡ old

-- each program of these entries has its answer
abbrev pub AreAnswered : List Entry → List Answered → Type 0
AreAnswered [] [] = Unit {0}
AreAnswered (AProgram p ∷ entries) (a ∷ answers) = IsAnswerTo p a × AreAnswered entries answers
AreAnswered (AJob j ∷ entries) answers = AreAnswered entries answers
AreAnswered entries answers = ⊥

-- ---- from the programs so far to one more

-- the programs so far: a row and a line for each, and the licences of those that aren't refused
pub record Licensing : Type 0 where
  pub rows : List Row
  pub licences : List Licensed
  pub lines : List ProgramLine

abbrev pub licensing_of : LicensedPrograms → Licensing
licensing_of p = record { rows = map row_of p.rows.items; licences = p.licences.items; lines = p.lines.items }

-- One program more has its line, its row, and a licence where it isn't refused.
pub record IsProgramAdded (name : List ℕ) (p : ProgramText) (old new : Licensing) : Type 0 where
  pub line : ProgramLine
  pub is : IsProgramLine p line
  pub lines : new.lines ≡ old.lines ++ line ∷ []
  pub known : Option Known
  pub rows : new.rows ≡ old.rows ++ record { name = name; program = p; known = known } ∷ []
  pub more : List Licensed
  pub licences : new.licences ≡ old.licences ++ more
  pub count : length new.licences ≤ suc (length old.licences)
  pub knows : IsKnown new.licences p known

-- the same of an entry: nothing is done for a job
abbrev pub IsTaken : Entry → (old new : Licensing) → Type 0
IsTaken (AProgram p) old new = IsProgramAdded p.name (program_of p) old new
IsTaken (AJob j) old new = new ≡ old

-- All programs have their lines and rows: each row is known, and the first row of a name is that of the first program.
pub record AreLicensed (script : List Entry) (l : Licensing) : Type 0 where
  pub told : AreProgramLines script l.lines
  pub kept : AreRows l.licences l.rows
  pub programs : (name : List ℕ) → program_named script name ≡ row_program (row_among l.rows name)
