-- Cited by contracts.
-- What comes of a script of tenants: a line for each program, a reply to each start and each finish in order, and a line
-- for each tenant.
use Rattle.std.specs.Prelude.{ℕ, if◌then◌else◌, List, [], ◌∷◌, ◌++◌, Option, Some, None}
use Rattle.std.specs.Str.{bytes_eq}
use Rattle.run_reports.specs.declared.outcome.ProgramLine.{ProgramLine}
use Rattle.run_reports.specs.Report.{program_text}
use Rattle.script_plans.specs.Programs.{ProgramText, program_of}
use Rattle.script_plans.specs.Fates.{Fate, IsFate, IsWithinBound, IsProgramLine}
use Rattle.tenant_script.specs.Tenants.{Tenant, Entry, AProgram, AStart, AFinish, TenantScript}
use Rattle.tenant_service.specs.Rooms.{Starts, Finishes, whole}
use Rattle.tenant_service.specs.Replies.{Line, Rooms, answers, rooms_after}
use Rattle.tenant_service.specs.Texts.{answers_text, ends_text}

-- ---- programs

-- the text of the first program of this name
abbrev pub program_named : List Entry → (name : List ℕ) → Option ProgramText
program_named [] name = None
program_named (AProgram p ∷ entries) name = if bytes_eq p.name name then Some (program_of p) else program_named entries name
program_named (AStart tenant j ∷ entries) name = program_named entries name
program_named (AFinish tenant job ∷ entries) name = program_named entries name

-- each program has its own line
abbrev pub AreProgramLines : List Entry → List ProgramLine → Type 0
AreProgramLines [] [] = Unit {0}
AreProgramLines (AProgram p ∷ entries) (line ∷ lines) = IsProgramLine (program_of p) line × AreProgramLines entries lines
AreProgramLines (AStart tenant j ∷ entries) lines = AreProgramLines entries lines
AreProgramLines (AFinish tenant job ∷ entries) lines = AreProgramLines entries lines
AreProgramLines entries lines = ⊥

abbrev pub programs_text : List Entry → List ProgramLine → List ℕ
programs_text [] lines = []
programs_text (AProgram p ∷ entries) [] = programs_text entries []
programs_text (AProgram p ∷ entries) (line ∷ lines) = program_text p.name line ++ programs_text entries lines
programs_text (AStart tenant j ∷ entries) lines = programs_text entries lines
programs_text (AFinish tenant job ∷ entries) lines = programs_text entries lines

-- ---- starts

-- each start has its own fate, by the programs of the whole script
abbrev pub AreFates : (script : List Entry) → List Entry → List Fate → Type 0
AreFates script [] [] = Unit {0}
AreFates script (AProgram p ∷ entries) fates = AreFates script entries fates
AreFates script (AStart tenant j ∷ entries) (fate ∷ fates) = IsFate (program_named script j.program) j.entry j.args fate × IsWithinBound j.fuel fate × AreFates script entries fates
AreFates script (AFinish tenant job ∷ entries) fates = AreFates script entries fates
AreFates script entries fates = ⊥

-- the lines of starts, with their fates, and of finishes
abbrev pub lines_from : List Entry → List Fate → List Line
lines_from [] fates = []
lines_from (AProgram p ∷ entries) fates = lines_from entries fates
lines_from (AStart tenant j ∷ entries) [] = lines_from entries []
lines_from (AStart tenant j ∷ entries) (fate ∷ fates) = record { tenant = tenant; own = Starts j.name j.fuel fate } ∷ lines_from entries fates
lines_from (AFinish tenant job ∷ entries) fates = record { tenant = tenant; own = Finishes job } ∷ lines_from entries fates

-- ---- tenants

-- the cells of the tenant of this name
abbrev pub budget_among : List Tenant → (name : List ℕ) → ℕ
budget_among [] name = 0
budget_among (t ∷ ts) name = if bytes_eq t.name name then t.cells else budget_among ts name

-- at first each tenant's piece is free
abbrev pub first_rooms : List Tenant → Rooms
first_rooms ts = λ name. whole (budget_among ts name)

-- ---- the whole

-- a script, a line for each program, and a fate for each start
pub record Served : Type 0 where
  pub script : TenantScript
  pub programs : List ProgramLine
  pub fates : List Fate

pub record AreServed (s : Served) : Type 0 where
  pub are_programs : AreProgramLines s.script.items s.programs
  pub are_fates : AreFates s.script.items s.script.items s.fates

-- what is written for it
abbrev pub served_text : Served → List ℕ
served_text s =
    programs_text s.script.items s.programs
    ++ answers_text (answers (budget_among s.script.tenants) (first_rooms s.script.tenants) (lines_from s.script.items s.fates))
    ++ ends_text s.script.tenants (rooms_after (budget_among s.script.tenants) (first_rooms s.script.tenants) (lines_from s.script.items s.fates))

-- ---- one tenant alone

-- the script without the starts and the finishes of the others
abbrev pub alone : (tenant : List ℕ) → List Entry → List Entry
alone tenant [] = []
alone tenant (AProgram p ∷ entries) = AProgram p ∷ alone tenant entries
alone tenant (AStart owner j ∷ entries) = if bytes_eq owner tenant then AStart owner j ∷ alone tenant entries else alone tenant entries
alone tenant (AFinish owner job ∷ entries) = if bytes_eq owner tenant then AFinish owner job ∷ alone tenant entries else alone tenant entries

-- and of these fates those of its own starts
abbrev pub own_fates : (tenant : List ℕ) → List Entry → List Fate → List Fate
own_fates tenant [] fates = []
own_fates tenant (AProgram p ∷ entries) fates = own_fates tenant entries fates
own_fates tenant (AStart owner j ∷ entries) [] = own_fates tenant entries []
own_fates tenant (AStart owner j ∷ entries) (fate ∷ fates) = if bytes_eq owner tenant then fate ∷ own_fates tenant entries fates else own_fates tenant entries fates
own_fates tenant (AFinish owner job ∷ entries) fates = own_fates tenant entries fates
