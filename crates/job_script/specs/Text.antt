-- Cited by contracts.
-- The text of scripts (`SCRIPTS.md`): lines that end with a line feed, of words one space apart. A script has one text,
-- and a text is that of one script at most.
use Rattle.std.specs.Prelude.{ℕ, zero, suc, ◌≤◌, List, [], ◌∷◌, ◌++◌, length, flat_map, codes}
use Rattle.text_lines.specs.Lines.{text_of_lines}
use Rattle.text_lines.specs.Numbers.{number}
use Rattle.text_lines.specs.Formats.{Format, IsText, IsFault}
use Rattle.job_script.specs.Scripts.{Job, Entry, AProgram, AJob, Script, IsFormed, IsWithin, HasOnce}
use Rattle.job_script.specs.declared.types.Language.{Language}
use Rattle.job_script.specs.declared.types.Language.TheVariants.{Camelot, Grail}

-- ---- lines

-- `arena N`
abbrev pub arena_line : ℕ → List ℕ
arena_line n = codes "arena" ++ 32 ∷ number n

-- `workers N`
abbrev pub workers_line : ℕ → List ℕ
workers_line n = codes "workers" ++ 32 ∷ number n

abbrev pub language_name : Language → List ℕ
language_name Camelot = codes "camelot"
language_name Grail = codes "grail"

-- `program NAME camelot` or `program NAME grail`
abbrev pub program_line : List ℕ → Language → List ℕ
program_line name language = codes "program" ++ 32 ∷ (name ++ 32 ∷ language_name language)

-- a space and the arguments, where there are any
abbrev pub args_part : List ℕ → List ℕ
args_part [] = []
args_part (b ∷ bs) = 32 ∷ b ∷ bs

-- `job NAME PROGRAM ENTRY FUEL`, with arguments or without
abbrev pub job_line : Job → List ℕ
job_line j = codes "job" ++ 32 ∷ (j.name ++ 32 ∷ (j.program ++ 32 ∷ (j.entry ++ 32 ∷ (number j.fuel ++ args_part j.args))))

-- ---- the text

-- a program's first line, its text, and the line `.`; the line of a job
abbrev pub entry_text : Entry → List ℕ
entry_text (AProgram p) = text_of_lines (program_line p.name p.language ∷ []) ++ (p.text ++ text_of_lines (codes "." ∷ []))
entry_text (AJob j) = text_of_lines (job_line j ∷ [])

unfoldable pub script_text : Script → List ℕ
script_text s = text_of_lines (arena_line s.arena ∷ workers_line s.workers ∷ []) ++ flat_map entry_text s.items

-- ---- the format

-- the limits, and then that no name stands twice
abbrev pub script_asks : ℕ → Script → Type 0
script_asks zero s = IsWithin s
script_asks (suc zero) s = HasOnce s
script_asks (suc (suc k)) s = Unit {0}

-- A form: numbers of any size, and any number of programs and jobs. Behind it two demands.
abbrev pub script_format : Format
script_format = record { Value = Script; text = script_text; IsFormed = IsFormed; most = 2; Asks = script_asks }

-- the bytes are the text of this script
abbrev pub IsScriptText : List ℕ → Script → Type 0
IsScriptText bytes s = IsText script_format bytes s

-- ---- the first line that is wrong

-- the first line that has no form
abbrev pub IsLineFault : List ℕ → ℕ → Type 0
IsLineFault text number = IsFault script_format 0 text number

-- the first line that has a form but a number outside its limits, or a program or a job too many
abbrev pub IsCountFault : List ℕ → ℕ → Type 0
IsCountFault text number = IsFault script_format 1 text number

-- the first line that is right but for the name of a program or a job that stood before
abbrev pub IsRepeatFault : List ℕ → ℕ → Type 0
IsRepeatFault text number = IsFault script_format 2 text number

-- ---- what is said of each text

-- the text of a program, or the arguments of a job, have no more bytes than this
abbrev pub EntryIsShort : ℕ → Entry → Type 0
EntryIsShort most (AProgram p) = length p.text ≤ most
EntryIsShort most (AJob j) = length j.args ≤ most
