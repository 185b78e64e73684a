-- Cited by contracts.
-- Where the reader is in a text, between two lines.
use Rattle.std.specs.Prelude.{◌≡◌, ℕ, ◌+◌, ◌<◌, ◌≤◌, true, false, List, [], ◌∷◌, ◌++◌, length}
use Rattle.std.specs.List.{AllByRecursion}
use Rattle.camelot_values.specs.Names.{stands}
use Rattle.text_lines.specs.Lines.{IsOneLine, text_of_lines}
use Rattle.text_lines.specs.Machines.{Reading}
use Rattle.job_script.specs.Scripts.{Entry, IsTextLine, program_names, job_names}
use Rattle.job_script.specs.Reading.{Between, script_by, script_machine}
use Rattle.job_script.specs.declared.stop.LineStop.{LineStop}
use Rattle.job_script.specs.declared.stop.LineStop.TheVariants as stop

-- between two entries, with the names that stand
pub record Going (text : List ℕ) (arena workers : ℕ) (items : List Entry) (programs jobs : List (List ℕ)) (rest : List ℕ) (number : ℕ) : Type 0 where
  pub reading : Reading script_machine text (Between (script_by arena workers items)) rest number
  pub programs_are : programs ≡ program_names items
  pub jobs_are : jobs ≡ job_names items

-- the text of a program, of so many lines, stands in front, and behind it the line `.`
pub record HasBody (rest body after : List ℕ) (size : ℕ) : Type 0 where
  pub lines : List (List ℕ)
  pub each : AllByRecursion IsTextLine lines
  pub is : body ≡ text_of_lines lines
  pub parts : rest ≡ body ++ (46 ∷ 10 ∷ after)
  pub count : size ≡ length lines

-- so many lines of a program were read
pub record HasLines (rest left : List ℕ) (size : ℕ) : Type 0 where
  pub lines : List (List ℕ)
  pub each : AllByRecursion IsTextLine lines
  pub parts : rest ≡ text_of_lines lines ++ left
  pub count : size ≡ length lines
  pub few : size + length left ≤ length rest

-- the text ends behind so many lines of a program
pub record IsOpen (rest : List ℕ) (size : ℕ) : Type 0 where
  pub lines : List (List ℕ)
  pub left : List ℕ
  pub each : AllByRecursion IsTextLine lines
  pub parts : rest ≡ text_of_lines lines ++ left
  pub one : IsOneLine left
  pub count : size ≡ length lines

-- the name is added to fewer than the most, and didn't stand before
pub record IsAdded (most : ℕ) (names : List (List ℕ)) (name : List ℕ) (longer : List (List ℕ)) : Type 0 where
  pub few : length names < most
  pub new : stands names name ≡ false
  pub is : longer ≡ names ++ name ∷ []

pub record Stood (most : ℕ) (names : List (List ℕ)) (name : List ℕ) : Type 0 where
  pub few : length names < most
  pub old : stands names name ≡ true

-- why it isn't added
abbrev pub IsRefused : ℕ → List (List ℕ) → List ℕ → LineStop → Type 0
IsRefused most names name stop.Line = ⊥
IsRefused most names name stop.Count = most ≤ length names
IsRefused most names name stop.Repeat = Stood most names name
IsRefused most names name stop.Memory = Unit {0}
