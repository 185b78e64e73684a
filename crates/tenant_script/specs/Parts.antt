-- Private: words for functions of this crate.
-- What the reader stands for between two lines, what it keeps, and why it refuses a line.
use Rattle.std.specs.Prelude.{◌≡◌, ℕ, ◌+◌, ◌<◌, ◌≤◌, List, [], ◌∷◌, ◌++◌, take, drop, length, map, MatchResult}
use Rattle.std.proofs.Common.{arith, Result}
use Rattle.std.specs.List.{AllByRecursion}
use Rattle.camelot_values.specs.Names.{AreDistinct}
use Rattle.text_lines.specs.Lines.{IsOneLine}
use Rattle.text_lines.specs.Formats.{IsRight}
use Rattle.text_lines.specs.Machines.{IsNext, IsRefused}
use Rattle.text_lines.specs.Answers.{KindIs}
use Rattle.text_lines.specs.declared.reading.Refused.{Refused}
use Rattle.text_lines.specs.declared.reading.Refused.TheVariants as refused
use Rattle.job_script.specs.Scripts.{IsUpTo}
use Rattle.job_script.specs.declared.stop.LineStop.{LineStop}
use Rattle.job_script.specs.declared.stop.LineStop.TheVariants as stop
use Rattle.tenant_script.specs.Tenants.{Tenant, Entry, all_cells, HasCells, program_names, start_count, finish_count, tenant_names}
use Rattle.tenant_script.specs.Text.{tenants_format}
use Rattle.tenant_script.specs.Reading.{State, Start, Sized, Between, Inside, script_by, closed, tenants_machine}
use Rattle.tenant_script.specs.Words.{tenant_view, entry_view}
use Rattle.tenant_script.specs.declared.fault.TenantFault.{TenantFault}
use Rattle.tenant_script.specs.declared.fault.TenantFault.TheVariants as fault
use Rattle.tenant_script.specs.declared.fault.Kind.{Kind}
use Rattle.tenant_script.specs.declared.fault.Kind.TheVariants as kind
use Rattle.tenant_script.specs.declared.reading.Stage.{Stage}
use Rattle.tenant_script.specs.declared.reading.Stage.TheVariants as stage
use Rattle.tenant_script.specs.declared.reading.TenantReader.{TenantReader}

-- ---- faults

-- the number of a kind
abbrev pub kind_of : Kind → ℕ
kind_of kind.Line = 0
kind_of kind.Count = 1
kind_of kind.Repeat = 2
kind_of kind.Tenant = 3

pub kinds : (k : Kind) → kind_of k ≤ 3
kinds kind.Line = omega arith
kinds kind.Count = omega arith
kinds kind.Repeat = omega arith
kinds kind.Tenant = omega arith

-- why a line isn't read, as its kind
abbrev pub refused_of : LineStop → Refused Kind
refused_of stop.Line = refused.Kind kind.Line
refused_of stop.Count = refused.Kind kind.Count
refused_of stop.Repeat = refused.Kind kind.Repeat
refused_of stop.Memory = refused.Memory

-- a kind with its line
abbrev pub fault_of : Kind → ℕ → TenantFault
fault_of kind.Line line = fault.Line line
fault_of kind.Count line = fault.Count line
fault_of kind.Repeat line = fault.Repeat line
fault_of kind.Tenant line = fault.Tenant line

-- ---- the reader

abbrev pub state_by : Stage → ℕ → List Tenant → List Entry → State
state_by stage.Start arena ts es = Start
state_by stage.Sized arena ts es = Sized arena
state_by stage.Between arena ts es = Between (script_by arena ts es)
state_by (stage.Inside name language block size) arena ts es = Inside (script_by arena ts es) name.now language (take size block.now)

abbrev pub state_of : TenantReader → State
state_of r = state_by r.stage r.arena (map tenant_view r.tenants.items) (map entry_view r.items.items)

-- what was read of a block ends where these bytes begin
pub record IsRest (block : List ℕ) (size : ℕ) (rest : List ℕ) : Type 0 where
  pub is : drop size block ≡ rest
  pub fits : size ≤ length block
  pub short : length block < 4294967296

-- before the first tenant nothing is there
abbrev pub StageIsReady : Stage → List Tenant → List Entry → List ℕ → Type 0
StageIsReady stage.Start ts es rest = (ts ≡ []) × (es ≡ [])
StageIsReady stage.Sized ts es rest = (ts ≡ []) × (es ≡ [])
StageIsReady stage.Between ts es rest = Unit {0}
StageIsReady (stage.Inside name language block size) ts es rest = IsRest block.now size rest

-- What the reader keeps: the cells that no tenant has, the names that stand, and how many starts and finishes there
-- are.
pub record IsKept (r : TenantReader) : Type 0 where
  pub left : r.left + all_cells (map tenant_view r.tenants.items) ≡ r.arena
  pub names : r.names ≡ tenant_names (map tenant_view r.tenants.items)
  pub programs : r.programs ≡ program_names (closed (state_of r)).items
  pub starts : r.starts ≡ start_count (map entry_view r.items.items)
  pub finishes : r.finishes ≡ finish_count (map entry_view r.items.items)

pub record IsReady (r : TenantReader) (rest : List ℕ) : Type 0 where
  pub stage : StageIsReady r.stage (map tenant_view r.tenants.items) (map entry_view r.items.items) rest
  pub kept : IsKept r

-- the reader before a line
pub record IsBefore (r : TenantReader) (line after : List ℕ) : Type 0 where
  pub one : IsOneLine line
  pub ready : IsReady r (line ++ 10 ∷ after)
  pub right : IsRight tenants_format (closed (state_of r))
  pub short : length after < 4294967296

-- the reader has taken the line
pub record IsTaken (old new : TenantReader) (line after : List ℕ) : Type 0 where
  pub next : IsNext tenants_machine (state_of old) line (state_of new)
  pub ready : IsReady new after

-- the line is refused in this way
abbrev pub IsLeft : TenantReader → List ℕ → Kind → Type 0
IsLeft r line kind = IsRefused tenants_machine (state_of r) line (kind_of kind)

-- it has taken the line, or it tells why it doesn't
abbrev pub LineIs : {A : Type 0} → TenantReader → TenantReader → (line after : List ℕ) → Result A (Refused Kind) → Type 0
LineIs old new line after result = MatchResult result (λ _. IsTaken old new line after) (λ stop. KindIs (IsLeft old line) stop)

-- ---- lines of tenants

-- a number of cells that some arena has
abbrev pub HasSize : Tenant → Type 0
HasSize t = IsUpTo 4194304 t.cells

-- behind one more tenant
abbrev pub with_tenant : TenantReader → Tenant → State
with_tenant r t = Between (script_by r.arena (map tenant_view r.tenants.items ++ t ∷ []) (map entry_view r.items.items))

-- only tenants were read, or none yet, and they are right
pub record HasOnlyTenants (r : TenantReader) : Type 0 where
  pub arena : IsUpTo 4194304 r.arena
  pub cells : AllByRecursion HasCells (map tenant_view r.tenants.items)
  pub once : AreDistinct (tenant_names (map tenant_view r.tenants.items))
  pub none : map entry_view r.items.items ≡ []
  pub programs : r.programs ≡ []
