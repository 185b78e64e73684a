-- Private: words for functions of this crate.
-- The reader as functions on lines: what comes of a tenant script's front when one more line is added to it, limits,
-- repeats and tenants that aren't there left out.
use Rattle.std.specs.Prelude.{ℕ, Bool, true, false, if◌then◌else◌, Option, Some, None, List, [], ◌∷◌, ◌++◌, codes}
use Rattle.std.specs.Option.{option_map}
use Rattle.std.specs.Str.{bytes_eq}
use Rattle.text_lines.specs.Lines.{text_of_lines}
use Rattle.text_lines.specs.Cuts.{and_then, only_if, upto, from, behind, word_of}
use Rattle.text_lines.specs.Machines.{Machine}
use Rattle.job_script.specs.Scripts.{Job}
use Rattle.job_script.specs.Text.{arena_line, program_line}
use Rattle.job_script.specs.Reading.{is_word, number_behind, job_of, program_of, Head as JobHead, HProgram as JHProgram, HJob}
use Rattle.job_script.specs.declared.types.Language.{Language}
use Rattle.tenant_script.specs.Tenants.{Tenant, Entry, AProgram, AStart, AFinish, TenantScript, IsFormed}
use Rattle.tenant_script.specs.Text.{tenants_text, tenants_format}

-- ---- the parts of a line

pub data Head : Type 0 where
  HTenant : Tenant → Head
  HProgram : (name : List ℕ) (language : Language) → Head
  HStart : (tenant : List ℕ) → Job → Head
  HFinish : (tenant name : List ℕ) → Head

abbrev pub tenant_by : List ℕ → ℕ → Tenant
tenant_by name cells = record { name = name; cells = cells }

-- what is behind the word `tenant`: a name, and behind it a number
unfoldable pub tenant_of : List ℕ → Option Tenant
tenant_of rest = and_then (word_of rest) (λ p. only_if (is_word p.0) (option_map (tenant_by p.0) (number_behind p.0 (behind rest))))

-- a program's head as one of these
abbrev pub as_program : JobHead → Option Head
as_program (JHProgram name language) = Some (HProgram name language)
as_program (HJob j) = None

-- a job's head as the start of a job of this tenant
abbrev pub as_start : List ℕ → JobHead → Option Head
as_start tenant (JHProgram name language) = None
as_start tenant (HJob j) = Some (HStart tenant j)

-- what is behind the word `start`: a tenant, and behind it what is behind the word `job` in a job's line
unfoldable pub start_of : List ℕ → Option Head
start_of rest = and_then (word_of rest) (λ p. only_if (is_word p.0) (and_then (job_of p.1) (as_start p.0)))

-- what is behind the word `finish`: a tenant and a name
unfoldable pub finish_of : List ℕ → Option Head
finish_of rest = and_then (word_of rest) (λ p. only_if (is_word p.0) (only_if (is_word (behind p.1)) (Some (HFinish p.0 (behind p.1)))))

-- the line of a tenant
unfoldable pub first_of : List ℕ → Option Tenant
first_of line = only_if (bytes_eq (upto 32 line) (codes "tenant")) (tenant_of (from 32 line))

-- a line by its first word
abbrev pub head_by : List ℕ → List ℕ → Option Head
head_by tag rest =
    if bytes_eq tag (codes "tenant") then option_map HTenant (tenant_of rest) else
    if bytes_eq tag (codes "program") then and_then (program_of rest) as_program else
    if bytes_eq tag (codes "start") then start_of rest else
    only_if (bytes_eq tag (codes "finish")) (finish_of rest)

unfoldable pub head_of : List ℕ → Option Head
head_of line = head_by (upto 32 line) (from 32 line)

-- ---- states between two lines

pub data State : Type 0 where
  -- before the first line
  Start : State
  -- behind the arena's
  Sized : ℕ → State
  -- behind a tenant's, a program, a start or a finish: what was read is this script
  Between : TenantScript → State
  -- in the text of a program, of which this was read
  Inside : TenantScript → (name : List ℕ) (language : Language) (text : List ℕ) → State

abbrev pub script_by : ℕ → List Tenant → List Entry → TenantScript
script_by arena tenants items = record { arena = arena; tenants = tenants; items = items }

-- one more tenant
abbrev pub add_tenant : TenantScript → Tenant → TenantScript
add_tenant s t = record { arena = s.arena; tenants = s.tenants ++ t ∷ []; items = s.items }

-- one more entry
abbrev pub add : TenantScript → Entry → TenantScript
add s e = record { arena = s.arena; tenants = s.tenants; items = s.items ++ e ∷ [] }

abbrev pub program_by : List ℕ → Language → List ℕ → Entry
program_by name language text = AProgram (record { name = name; language = language; text = text })

-- a tenant of one cell, for a script that has none yet
abbrev pub least_tenant : Tenant
least_tenant = tenant_by (codes "a") 1

abbrev pub is_empty : {A : Type 0} → List A → Bool
is_empty [] = true
is_empty (x ∷ xs) = false

-- behind the arena's line a tenant's has to come
abbrev pub with_first : ℕ → Tenant → State
with_first arena t = Between (script_by arena (t ∷ []) [])

-- a tenant's comes before all entries
abbrev pub enter : TenantScript → Head → Option State
enter s (HTenant t) = only_if (is_empty s.items) (Some (Between (add_tenant s t)))
enter s (HProgram name language) = Some (Inside s name language [])
enter s (HStart tenant j) = Some (Between (add s (AStart tenant j)))
enter s (HFinish tenant name) = Some (Between (add s (AFinish tenant name)))

-- one more line of a program's text, or its end
abbrev pub text_step : TenantScript → (name : List ℕ) → Language → (text line : List ℕ) → Bool → State
text_step s name language text line true = Between (add s (program_by name language text))
text_step s name language text line false = Inside s name language (text ++ text_of_lines (line ∷ []))

-- one more line
abbrev pub step : State → List ℕ → Option State
step Start line = option_map Sized (number_behind (codes "arena") line)
step (Sized arena) line = option_map (with_first arena) (first_of line)
step (Between s) line = and_then (head_of line) (enter s)
step (Inside s name language text) line = Some (text_step s name language text line (bytes_eq line (codes ".")))

-- the least script that goes on so
abbrev pub closed : State → TenantScript
closed Start = script_by 1 (least_tenant ∷ []) []
closed (Sized arena) = script_by arena (least_tenant ∷ []) []
closed (Between s) = s
closed (Inside s name language text) = add s (program_by name language text)

-- the lines that it has read
abbrev pub so_far : State → List ℕ
so_far Start = []
so_far (Sized arena) = text_of_lines (arena_line arena ∷ [])
so_far (Between s) = tenants_text s
so_far (Inside s name language text) = tenants_text s ++ (text_of_lines (program_line name language ∷ []) ++ text)

-- the text may end where a script was read
abbrev pub may_end : State → Bool
may_end Start = false
may_end (Sized arena) = false
may_end (Between s) = true
may_end (Inside s name language text) = false

abbrev pub tenants_machine : Machine tenants_format
tenants_machine = record { State = State; start = Start; step = step; ends = may_end; closed = closed; so_far = so_far; IsGood = λ s. IsFormed (closed s) }
