-- Cited by contracts.
-- Scripts as plain data (`SCRIPTS.md`): the cells of the arena, the workers, and programs and jobs in the order of the
-- text.
use Rattle.std.specs.Prelude.{◌≡◌, ℕ, ◌≤◌, ◌||◌, Bool, List, [], ◌∷◌, length}
use Rattle.std.specs.List.{AllByRecursion}
use Rattle.camelot_values.specs.Names.{is_lower, is_upper, IsName, IsLowerName, AreDistinct}
use Rattle.text_lines.specs.Lines.{IsOneLine, text_of_lines}
use Rattle.job_script.specs.declared.types.Language.{Language}

-- a program in Camelot, or its Grail bundle; the text is its lines with their line feeds
pub record Program : Type 0 where
  pub name : List ℕ
  pub language : Language
  pub text : List ℕ

-- a call of this entry of this program with so much fuel; the arguments are bytes, none where there are no arguments
pub record Job : Type 0 where
  pub name : List ℕ
  pub program : List ℕ
  pub entry : List ℕ
  pub fuel : ℕ
  pub args : List ℕ

pub data Entry : Type 0 where
  AProgram : Program → Entry
  AJob : Job → Entry

pub record Script : Type 0 where
  pub arena : ℕ
  pub workers : ℕ
  pub items : List Entry

-- ---- form

-- `a` to `z` or `A` to `Z`
abbrev pub is_letter : ℕ → Bool
is_letter b = is_lower b || is_upper b

-- the name of a program or a job: a letter, then letters, digits or `_`, and at most 64 bytes
abbrev pub IsWord : List ℕ → Type 0
IsWord word = IsName is_letter word

-- a line of a program: its end is the line `.`
pub record IsTextLine (line : List ℕ) : Type 0 where
  pub one : IsOneLine line
  pub goes_on : line ≡ 46 ∷ [] → ⊥

-- the text of a program is such lines
pub record IsBody (text : List ℕ) : Type 0 where
  pub lines : List (List ℕ)
  pub each : AllByRecursion IsTextLine lines
  pub is : text ≡ text_of_lines lines

pub record ProgramIsFormed (p : Program) : Type 0 where
  pub name : IsWord p.name
  pub text : IsBody p.text

pub record JobIsFormed (j : Job) : Type 0 where
  pub name : IsWord j.name
  pub program : IsWord j.program
  pub entry : IsLowerName j.entry
  pub args : IsOneLine j.args

abbrev pub EntryIsFormed : Entry → Type 0
EntryIsFormed (AProgram p) = ProgramIsFormed p
EntryIsFormed (AJob j) = JobIsFormed j

-- the form alone: numbers of any size, and as many programs and jobs as there are, under any names
pub record IsFormed (s : Script) : Type 0 where
  pub items : AllByRecursion EntryIsFormed s.items

-- ---- limits

-- the names of the programs, and of the jobs, in order
abbrev pub program_names : List Entry → List (List ℕ)
program_names [] = []
program_names (AProgram p ∷ es) = p.name ∷ program_names es
program_names (AJob j ∷ es) = program_names es

abbrev pub job_names : List Entry → List (List ℕ)
job_names [] = []
job_names (AProgram p ∷ es) = job_names es
job_names (AJob j ∷ es) = j.name ∷ job_names es

-- from 1 to the most
pub record IsUpTo (limit n : ℕ) : Type 0 where
  pub least : 1 ≤ n
  pub most : n ≤ limit

-- fuel is at most 2^40
abbrev pub EntryIsWithin : Entry → Type 0
EntryIsWithin (AProgram p) = Unit {0}
EntryIsWithin (AJob j) = IsUpTo 1099511627776 j.fuel

-- an arena of at most 2^22 cells, 16 workers, 64 programs and 4096 jobs
pub record IsWithin (s : Script) : Type 0 where
  pub arena : IsUpTo 4194304 s.arena
  pub workers : IsUpTo 16 s.workers
  pub fuels : AllByRecursion EntryIsWithin s.items
  pub programs : length (program_names s.items) ≤ 64
  pub jobs : length (job_names s.items) ≤ 4096

-- ---- names

-- no two programs have the same name, and no two jobs; a job may have a program's name, and its program need not be
-- there
pub record HasOnce (s : Script) : Type 0 where
  pub programs : AreDistinct (program_names s.items)
  pub jobs : AreDistinct (job_names s.items)

pub record IsScript (s : Script) : Type 0 where
  pub formed : IsFormed s
  pub within : IsWithin s
  pub once : HasOnce s
