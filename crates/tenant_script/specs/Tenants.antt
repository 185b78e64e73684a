-- Cited by contracts.
-- Tenant scripts as plain data: the cells of the arena, the tenants with their budgets, and then programs, starts and
-- finishes in the order of the text.
use Rattle.std.specs.Prelude.{ℕ, ◌+◌, ◌≤◌, List, [], ◌∷◌, length, IsTrue}
use Rattle.std.specs.List.{AllByRecursion}
use Rattle.camelot_values.specs.Names.{AreDistinct, stands}
use Rattle.job_script.specs.Scripts.{Program, Job, IsWord, ProgramIsFormed, JobIsFormed, IsUpTo}

-- a tenant, and the cells that it may hold
pub record Tenant : Type 0 where
  pub name : List ℕ
  pub cells : ℕ

-- a program; the start of a job of a tenant; the end of the tenant's job of this name
pub data Entry : Type 0 where
  AProgram : Program → Entry
  AStart : (tenant : List ℕ) → Job → Entry
  AFinish : (tenant name : List ℕ) → Entry

pub record TenantScript : Type 0 where
  pub arena : ℕ
  pub tenants : List Tenant
  pub items : List Entry

-- ---- form

abbrev pub TenantIsFormed : Tenant → Type 0
TenantIsFormed t = IsWord t.name

-- names are those of scripts of jobs
pub record StartIsFormed (owner : List ℕ) (j : Job) : Type 0 where
  pub tenant : IsWord owner
  pub job : JobIsFormed j

pub record FinishIsFormed (owner job : List ℕ) : Type 0 where
  pub tenant : IsWord owner
  pub name : IsWord job

abbrev pub EntryIsFormed : Entry → Type 0
EntryIsFormed (AProgram p) = ProgramIsFormed p
EntryIsFormed (AStart tenant j) = StartIsFormed tenant j
EntryIsFormed (AFinish tenant name) = FinishIsFormed tenant name

-- The form alone: at least one tenant, numbers of any size, and as many lines as there are, under any names.
pub record IsFormed (s : TenantScript) : Type 0 where
  pub some : 1 ≤ length s.tenants
  pub tenants : AllByRecursion TenantIsFormed s.tenants
  pub items : AllByRecursion EntryIsFormed s.items

-- ---- limits

-- the cells of all tenants
abbrev pub all_cells : List Tenant → ℕ
all_cells [] = 0
all_cells (t ∷ ts) = t.cells + all_cells ts

-- the names of the programs in order
abbrev pub program_names : List Entry → List (List ℕ)
program_names [] = []
program_names (AProgram p ∷ es) = p.name ∷ program_names es
program_names (AStart tenant j ∷ es) = program_names es
program_names (AFinish tenant name ∷ es) = program_names es

-- how many starts there are, of whatever tenant, and how many finishes
abbrev pub start_count : List Entry → ℕ
start_count [] = 0
start_count (AProgram p ∷ es) = start_count es
start_count (AStart tenant j ∷ es) = start_count es + 1
start_count (AFinish tenant name ∷ es) = start_count es

abbrev pub finish_count : List Entry → ℕ
finish_count [] = 0
finish_count (AProgram p ∷ es) = finish_count es
finish_count (AStart tenant j ∷ es) = finish_count es
finish_count (AFinish tenant name ∷ es) = finish_count es + 1

-- a tenant has at least one cell
abbrev pub HasCells : Tenant → Type 0
HasCells t = 1 ≤ t.cells

-- fuel is from 1 to 2^40
abbrev pub EntryIsWithin : Entry → Type 0
EntryIsWithin (AProgram p) = Unit {0}
EntryIsWithin (AStart tenant j) = IsUpTo 1099511627776 j.fuel
EntryIsWithin (AFinish tenant name) = Unit {0}

-- An arena of at most 2^22 cells, and budgets that it has together; at most 64 tenants, 64 programs, 4096 starts and
-- 4096 finishes.
pub record IsWithin (s : TenantScript) : Type 0 where
  pub arena : IsUpTo 4194304 s.arena
  pub cells : AllByRecursion HasCells s.tenants
  pub budgets : all_cells s.tenants ≤ s.arena
  pub tenants : length s.tenants ≤ 64
  pub fuels : AllByRecursion EntryIsWithin s.items
  pub programs : length (program_names s.items) ≤ 64
  pub starts : start_count s.items ≤ 4096
  pub finishes : finish_count s.items ≤ 4096

-- ---- names

abbrev pub tenant_names : List Tenant → List (List ℕ)
tenant_names [] = []
tenant_names (t ∷ ts) = t.name ∷ tenant_names ts

-- No two tenants have the same name, and no two programs. A tenant may have a program's name, and jobs may share one.
pub record HasOnce (s : TenantScript) : Type 0 where
  pub tenants : AreDistinct (tenant_names s.tenants)
  pub programs : AreDistinct (program_names s.items)

-- the tenant of a start or of a finish is one of these
abbrev pub IsOf : List (List ℕ) → Entry → Type 0
IsOf names (AProgram p) = Unit {0}
IsOf names (AStart tenant j) = IsTrue (stands names tenant)
IsOf names (AFinish tenant name) = IsTrue (stands names tenant)

-- Each start and each finish is of a tenant of the script. Its program need not be there, nor need its job run.
abbrev pub HasTenants : TenantScript → Type 0
HasTenants s = AllByRecursion (IsOf (tenant_names s.tenants)) s.items

pub record IsTenantScript (s : TenantScript) : Type 0 where
  pub formed : IsFormed s
  pub within : IsWithin s
  pub once : HasOnce s
  pub known : HasTenants s
