-- Cited by contracts.
-- The text of tenant scripts: lines that end with a line feed, of words one space apart. A tenant script has one text,
-- and a text is that of one tenant script at most.
use Rattle.std.specs.Prelude.{ℕ, zero, suc, List, [], ◌∷◌, ◌++◌, flat_map, codes}
use Rattle.text_lines.specs.Lines.{text_of_lines}
use Rattle.text_lines.specs.Numbers.{number}
use Rattle.text_lines.specs.Formats.{Format, IsText, IsFault}
use Rattle.job_script.specs.Scripts.{Job}
use Rattle.job_script.specs.Text.{arena_line, program_line, args_part}
use Rattle.tenant_script.specs.Tenants.{Tenant, Entry, AProgram, AStart, AFinish, TenantScript, IsFormed, IsWithin, HasOnce, HasTenants}

-- ---- lines

-- `tenant NAME CELLS`
abbrev pub tenant_line : Tenant → List ℕ
tenant_line t = codes "tenant" ++ 32 ∷ (t.name ++ 32 ∷ number t.cells)

-- ` NAME PROGRAM ENTRY FUEL`, with arguments or without: what is behind the word `job` in the line of a job
abbrev pub call_part : Job → List ℕ
call_part j = 32 ∷ (j.name ++ 32 ∷ (j.program ++ 32 ∷ (j.entry ++ 32 ∷ (number j.fuel ++ args_part j.args))))

-- `start TENANT NAME PROGRAM ENTRY FUEL`, with arguments or without
abbrev pub start_line : List ℕ → Job → List ℕ
start_line tenant j = codes "start" ++ 32 ∷ (tenant ++ call_part j)

-- `finish TENANT NAME`
abbrev pub finish_line : List ℕ → List ℕ → List ℕ
finish_line tenant name = codes "finish" ++ 32 ∷ (tenant ++ 32 ∷ name)

-- ---- the text

abbrev pub tenant_text : Tenant → List ℕ
tenant_text t = text_of_lines (tenant_line t ∷ [])

-- a program's first line, its text, and the line `.`; the line of a start or of a finish
abbrev pub entry_text : Entry → List ℕ
entry_text (AProgram p) = text_of_lines (program_line p.name p.language ∷ []) ++ (p.text ++ text_of_lines (codes "." ∷ []))
entry_text (AStart tenant j) = text_of_lines (start_line tenant j ∷ [])
entry_text (AFinish tenant name) = text_of_lines (finish_line tenant name ∷ [])

-- the arena, the tenants, and the rest
unfoldable pub tenants_text : TenantScript → List ℕ
tenants_text s = (text_of_lines (arena_line s.arena ∷ []) ++ flat_map tenant_text s.tenants) ++ flat_map entry_text s.items

-- ---- the format

-- the limits, with the sum of budgets; then that no name stands twice; then that tenants are there
abbrev pub tenants_asks : ℕ → TenantScript → Type 0
tenants_asks zero s = IsWithin s
tenants_asks (suc zero) s = HasOnce s
tenants_asks (suc (suc zero)) s = HasTenants s
tenants_asks (suc (suc (suc k))) s = Unit {0}

-- A form: numbers of any size, and any number of lines of each sort. Behind it three demands.
abbrev pub tenants_format : Format
tenants_format = record { Value = TenantScript; text = tenants_text; IsFormed = IsFormed; most = 3; Asks = tenants_asks }

-- the bytes are the text of this tenant script
abbrev pub IsTenantsText : List ℕ → TenantScript → Type 0
IsTenantsText bytes s = IsText tenants_format bytes s

-- ---- the first line that is wrong

-- the first line that has no form
abbrev pub IsLineFault : List ℕ → ℕ → Type 0
IsLineFault text number = IsFault tenants_format 0 text number

-- The first line that has a form but a number outside its limits, or is one too many of its sort. So is the line of a
-- tenant with whose cells the budgets pass the arena.
abbrev pub IsCountFault : List ℕ → ℕ → Type 0
IsCountFault text number = IsFault tenants_format 1 text number

-- the first line that is right but for the name of a tenant or of a program that stood before
abbrev pub IsRepeatFault : List ℕ → ℕ → Type 0
IsRepeatFault text number = IsFault tenants_format 2 text number

-- the first line that is right but for its tenant: it is a start or a finish of none of the tenants
abbrev pub IsTenantFault : List ℕ → ℕ → Type 0
IsTenantFault text number = IsFault tenants_format 3 text number
