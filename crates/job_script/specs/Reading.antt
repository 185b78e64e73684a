-- Cited by contracts.
-- The reader as functions on lines: what comes of a script's front when one more line is added to it, limits and
-- repeats left out.
use Rattle.std.specs.Prelude.{◌≡◌, ℕ, ◌==◌, Bool, true, false, if◌then◌else◌, Option, Some, None, List, [], ◌∷◌, ◌++◌, codes}
use Rattle.std.specs.Option.{option_map}
use Rattle.std.specs.Str.{bytes_eq}
use Rattle.camelot_values.specs.Names.{is_name, is_lower_name}
use Rattle.text_lines.specs.Lines.{text_of_lines}
use Rattle.text_lines.specs.Cuts.{and_then, only_if, upto, from, behind, word_of, number_of}
use Rattle.text_lines.specs.Machines.{Machine}
use Rattle.job_script.specs.Scripts.{Job, Entry, AProgram, AJob, Script, is_letter, IsUpTo, IsFormed}
use Rattle.job_script.specs.Text.{arena_line, program_line, script_text, script_format}
use Rattle.job_script.specs.declared.stop.LineStop.{LineStop}
use Rattle.job_script.specs.declared.stop.LineStop.TheVariants as stop
use Rattle.job_script.specs.declared.types.Language.{Language}
use Rattle.job_script.specs.declared.types.Language.TheVariants.{Camelot, Grail}

-- ---- what was read

-- it is this, within the limits
pub record IsRead {A : Type 0} (found : Option A) (Fits : A → Type 0) (x : A) : Type 0 where
  pub is : found ≡ Some x
  pub fits : Fits x

-- it is there, and beyond the limits
pub record IsWide {A : Type 0} (found : Option A) (Fits : A → Type 0) : Type 0 where
  pub x : A
  pub is : found ≡ Some x
  pub wide : Fits x → ⊥

-- why it isn't read
abbrev pub IsStopped : {A : Type 0} → Option A → (A → Type 0) → LineStop → Type 0
IsStopped found Fits stop.Line = found ≡ None
IsStopped found Fits stop.Count = IsWide found Fits
IsStopped found Fits stop.Repeat = ⊥
IsStopped found Fits stop.Memory = Unit {0}

-- ---- the parts of a line

-- the name of a program or a job
abbrev pub is_word : List ℕ → Bool
is_word word = is_name is_letter word

-- the number behind this word, alone on a line
unfoldable pub number_behind : List ℕ → List ℕ → Option ℕ
number_behind tag line = only_if (bytes_eq (upto 32 line) tag) (number_of (behind (from 32 line)))

-- the language of a program, behind a space
abbrev pub language_of : List ℕ → Option Language
language_of rest = if bytes_eq rest (codes " camelot") then Some Camelot else only_if (bytes_eq rest (codes " grail")) (Some Grail)

-- nothing, or a space and arguments
abbrev pub args_of : List ℕ → Option (List ℕ)
args_of [] = Some []
args_of (b ∷ []) = None
args_of (b ∷ c ∷ cs) = only_if (b == 32) (Some (c ∷ cs))

-- ---- the first line of a program, and the line of a job

pub data Head : Type 0 where
  HProgram : (name : List ℕ) (language : Language) → Head
  HJob : Job → Head

abbrev pub HeadFits : Head → Type 0
HeadFits (HProgram name language) = Unit {0}
HeadFits (HJob j) = IsUpTo 1099511627776 j.fuel

abbrev pub job_by : (name program entry : List ℕ) → ℕ → List ℕ → Job
job_by name program entry fuel args = record { name = name; program = program; entry = entry; fuel = fuel; args = args }

unfoldable pub program_of : List ℕ → Option Head
program_of rest = and_then (word_of rest) (λ p. and_then (language_of p.1) (λ language. only_if (is_word p.0) (Some (HProgram p.0 language))))

-- the fuel and the arguments of a job of these names
unfoldable pub fuel_of : (name program entry rest : List ℕ) → Option Head
fuel_of name program entry rest = and_then (word_of rest) (λ p. and_then (args_of p.1) (λ args. option_map (λ fuel. HJob (job_by name program entry fuel args)) (number_of p.0)))

unfoldable pub entry_of_job : (name program rest : List ℕ) → Option Head
entry_of_job name program rest = and_then (word_of rest) (λ p. only_if (is_lower_name p.0) (fuel_of name program p.0 p.1))

unfoldable pub job_of : List ℕ → Option Head
job_of rest = and_then (word_of rest) (λ p. only_if (is_word p.0) (and_then (word_of p.1) (λ q. only_if (is_word q.0) (entry_of_job p.0 q.0 q.1))))

unfoldable pub head_of : List ℕ → Option Head
head_of line = if bytes_eq (upto 32 line) (codes "program") then program_of (from 32 line) else only_if (bytes_eq (upto 32 line) (codes "job")) (job_of (from 32 line))

-- ---- states between two lines

pub data State : Type 0 where
  -- before the first line
  Start : State
  -- behind the arena's
  Sized : ℕ → State
  -- behind the workers', a program or a job: what was read is this script
  Between : Script → State
  -- in the text of a program, of which this was read
  Inside : Script → (name : List ℕ) (language : Language) (text : List ℕ) → State

abbrev pub script_by : ℕ → ℕ → List Entry → Script
script_by arena workers items = record { arena = arena; workers = workers; items = items }

-- one more entry
abbrev pub add : Script → Entry → Script
add s e = record { arena = s.arena; workers = s.workers; items = s.items ++ e ∷ [] }

abbrev pub program_by : List ℕ → Language → List ℕ → Entry
program_by name language text = AProgram (record { name = name; language = language; text = text })

abbrev pub enter : Script → Head → State
enter s (HProgram name language) = Inside s name language []
enter s (HJob j) = Between (add s (AJob j))

-- one more line
abbrev pub step : State → List ℕ → Option State
step Start line = option_map Sized (number_behind (codes "arena") line)
step (Sized arena) line = option_map (λ workers. Between (script_by arena workers [])) (number_behind (codes "workers") line)
step (Between s) line = option_map (enter s) (head_of line)
step (Inside s name language text) line = Some (if bytes_eq line (codes ".") then Between (add s (program_by name language text)) else Inside s name language (text ++ text_of_lines (line ∷ [])))

-- the least script that goes on so
abbrev pub closed : State → Script
closed Start = script_by 1 1 []
closed (Sized arena) = script_by arena 1 []
closed (Between s) = s
closed (Inside s name language text) = add s (program_by name language text)

-- the lines that it has read
abbrev pub so_far : State → List ℕ
so_far Start = []
so_far (Sized arena) = text_of_lines (arena_line arena ∷ [])
so_far (Between s) = script_text s
so_far (Inside s name language text) = script_text s ++ (text_of_lines (program_line name language ∷ []) ++ text)

-- the text may end between two entries
abbrev pub may_end : State → Bool
may_end Start = false
may_end (Sized arena) = false
may_end (Between s) = true
may_end (Inside s name language text) = false

abbrev pub script_machine : Machine script_format
script_machine = record { State = State; start = Start; step = step; ends = may_end; closed = closed; so_far = so_far; IsGood = λ s. IsFormed (closed s) }
