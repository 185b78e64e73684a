-- Private: words for functions of this crate.
-- The tenants of a script by their numbers, what is known of its programs, and what is done for its entries so far.
use Rattle.std.specs.Prelude.{◌≡◌, ℕ, ◌+◌, ◌<◌, ◌≤◌, List, [], ◌∷◌, ◌++◌, length, map, slice_get, Option, Some, Result}
use Rattle.std.specs.List.{AllByRecursion}
use Rattle.licence.specs.Licensed.{Licensed}
use Rattle.tenant_desk.specs.Desk.{budget}
use Rattle.job_script.specs.Scripts as script
use Rattle.run_reports.specs.declared.outcome.JobCause.{JobCause}
use Rattle.job_world.specs.declared.call.Call.{Call as DeclaredCall}
use Rattle.script_plans.specs.Programs.{ProgramText}
use Rattle.script_plans.specs.Fates.{Fate, IsFate, IsWithinBound}
use Rattle.script_plans.specs.Rows.{Row, AreRows, row_among, row_program}
use Rattle.script_plans.specs.Answers.{Licensing}
use Rattle.tenant_script.specs.Tenants.{Tenant, Entry, AProgram, AStart, AFinish, IsOf, EntryIsWithin, tenant_names, start_count}
use Rattle.tenant_service.specs.declared.holding.Shared.{Shared}
use Rattle.tenant_service.specs.Rooms.{Room, Own, Starts, Finishes, Reply, step}
use Rattle.tenant_service.specs.Replies.{Answer, Rooms, with_room, answers, rooms_after}
use Rattle.tenant_service.specs.Texts.{reply_text, answers_text}
use Rattle.tenant_service.specs.Scripts.{program_named, AreProgramLines, AreFates, lines_from, budget_among, first_rooms}
use Rattle.tenant_service.specs.Service.{ReplyIsMeant}
use Rattle.tenant_service.specs.Holding.{AreRooms, IsFateOf}
use Rattle.tenant_service.specs.Steps.{StandsForRooms, HoldsFewer}

-- ---- programs

-- the programs among these entries, as entries of a script of jobs
abbrev pub programs_in : List Entry → List script.Entry
programs_in [] = []
programs_in (AProgram p ∷ es) = script.AProgram p ∷ programs_in es
programs_in (AStart tenant j ∷ es) = programs_in es
programs_in (AFinish tenant job ∷ es) = programs_in es

-- the text of a program, or the arguments of a job, have no more bytes than this
abbrev pub ItemIsShort : ℕ → Entry → Type 0
ItemIsShort most (AProgram p) = length p.text ≤ most
ItemIsShort most (AStart tenant j) = length j.args ≤ most
ItemIsShort most (AFinish tenant job) = Unit {0}

-- The programs of these entries have their lines and rows: each row is known, and the first row of a name is that of the
-- first program.
pub record AreKnown (items : List Entry) (l : Licensing) : Type 0 where
  pub told : AreProgramLines items l.lines
  pub kept : AreRows l.licences l.rows
  pub programs : (name : List ℕ) → program_named items name ≡ row_program (row_among l.rows name)

-- What comes of a call by these programs: it has a fate, and the code's call is that one, or its cause.
pub record HasFate (licences : List Licensed) (program : Option ProgramText) (entry args : List ℕ) (fuel : ℕ) (asked : Result DeclaredCall JobCause) : Type 0 where
  pub fate : Fate
  pub is : IsFate program entry args fate
  pub within : IsWithinBound fuel fate
  pub of : IsFateOf licences fuel asked fate

-- ---- tenants

-- the tenant of this name has this number
pub record HasTenant (ts : List Tenant) (number : ℕ) (name : List ℕ) : Type 0 where
  pub tenant : Tenant
  pub there : slice_get ts number ≡ Some tenant
  pub is : tenant.name ≡ name

abbrev pub cells_of : Tenant → ℕ
cells_of t = t.cells

-- the rooms of these tenants in their order
abbrev pub rooms_of : List Tenant → Rooms → List Room
rooms_of ts rooms = map (λ (t : Tenant). rooms t.name) ts

-- what the code holds are the rooms of these tenants, and their pieces have their budgets
pub record HoldsRooms (licences : List Licensed) (ts : List Tenant) (rooms : Rooms) (s : Shared) : Type 0 where
  pub are : AreRooms licences s (rooms_of ts rooms)
  pub budgets : map budget s.desk.pieces ≡ map cells_of ts

-- ---- one line

-- the job of a start
abbrev pub job : (name program entry : List ℕ) → (fuel : ℕ) → (args : List ℕ) → script.Job
job name program entry fuel args = record { name = name; program = program; entry = entry; fuel = fuel; args = args }

-- this was written of a line, and it is meant
pub record IsTold (tenant old new : List ℕ) (reply : Reply) : Type 0 where
  pub text : new ≡ old ++ reply_text tenant reply
  pub meant : ReplyIsMeant reply

-- the step that a line of a tenant is
abbrev pub room_by : List Tenant → Rooms → (tenant : List ℕ) → Own → Room
room_by ts rooms tenant own = (step (budget_among ts tenant) (rooms tenant) own).room

abbrev pub reply_by : List Tenant → Rooms → (tenant : List ℕ) → Own → Reply
reply_by ts rooms tenant own = (step (budget_among ts tenant) (rooms tenant) own).reply

-- a line of the tenant of this name was done: its reply stands behind this text, and its room is the one behind the line
pub record LineDone (licences : List Licensed) (ts : List Tenant) (rooms : Rooms) (tenant : List ℕ) (own : Own) (old : List ℕ) (s : Shared) (new : List ℕ) : Type 0 where
  pub told : IsTold tenant old new (reply_by ts rooms tenant own)
  pub holds : HoldsRooms licences ts (with_room rooms tenant (room_by ts rooms tenant own)) s

-- a start was done, by its fate
pub record StartDone (licences : List Licensed) (rows : List Row) (ts : List Tenant) (rooms : Rooms) (tenant : List ℕ) (j : script.Job) (old : List ℕ) (s : Shared) (new : List ℕ) : Type 0 where
  pub fate : Fate
  pub is : IsFate (row_program (row_among rows j.program)) j.entry j.args fate
  pub within : IsWithinBound j.fuel fate
  pub done : LineDone licences ts rooms tenant (Starts j.name j.fuel fate) old s new

-- nothing was done, for a program
pub record NothingDone (licences : List Licensed) (ts : List Tenant) (rooms : Rooms) (old : List ℕ) (s : Shared) (new : List ℕ) : Type 0 where
  pub text : new ≡ old
  pub holds : HoldsRooms licences ts rooms s

abbrev pub EntryDone : List Licensed → List Row → List Tenant → Rooms → Entry → (old : List ℕ) → Shared → (new : List ℕ) → Type 0
EntryDone licences rows ts rooms (AProgram p) old s new = NothingDone licences ts rooms old s new
EntryDone licences rows ts rooms (AStart tenant j) old s new = StartDone licences rows ts rooms tenant j old s new
EntryDone licences rows ts rooms (AFinish tenant job) old s new = LineDone licences ts rooms tenant (Finishes job) old s new

-- a tenant holds fewer jobs than this before a start or a finish
abbrev pub most_held : Entry → ℕ
most_held (AProgram p) = 4097
most_held (AStart tenant j) = 4096
most_held (AFinish tenant job) = 4097

-- the line of this entry can be done
pub record IsReady (licences : List Licensed) (ts : List Tenant) (s : Shared) (e : Entry) : Type 0 where
  pub stands : StandsForRooms licences s
  pub fewer : (number : ℕ) → number < length ts → HoldsFewer s number (most_held e)
  pub known : IsOf (tenant_names ts) e
  pub short : ItemIsShort 4294967295 e
  pub within : EntryIsWithin e

-- ---- all lines

-- what is told of these entries with these fates, and the rooms behind them
abbrev pub told_by : List Tenant → Rooms → List Entry → List Fate → List Answer
told_by ts rooms items fates = answers (budget_among ts) rooms (lines_from items fates)

abbrev pub rooms_by : List Tenant → Rooms → List Entry → List Fate → Rooms
rooms_by ts rooms items fates = rooms_after (budget_among ts) rooms (lines_from items fates)

abbrev pub AreMeant : List Answer → Type 0
AreMeant told = AllByRecursion (λ (a : Answer). ReplyIsMeant a.reply) told

-- Where the entries that are left have these fates, all entries have fates. By these, what is told is this text with
-- what is told of the entries that are left.
pub record Completes (items : List Entry) (ts : List Tenant) (first text : List ℕ) (rooms : Rooms) (left : List Entry) (fates : List Fate) : Type 0 where
  pub all : List Fate
  pub are : AreFates items items all
  pub told : first ++ answers_text (told_by ts (first_rooms ts) items all) ≡ text ++ answers_text (told_by ts rooms left fates)
  pub behind : rooms_by ts (first_rooms ts) items all ≡ rooms_by ts rooms left fates
  pub meant : AreMeant (told_by ts rooms left fates) → AreMeant (told_by ts (first_rooms ts) items all)

-- these entries are left, and all others are done
pub record Going (licences : List Licensed) (items : List Entry) (ts : List Tenant) (first : List ℕ) (left : List Entry) (s : Shared) (text : List ℕ) : Type 0 where
  pub rooms : Rooms
  pub holds : HoldsRooms licences ts rooms s
  pub few : (name : List ℕ) → length (rooms name).held + start_count left ≤ 4096
  pub completes : (fates : List Fate) → AreFates items left fates → Completes items ts first text rooms left fates

-- what can be said of the entries that are left
pub record AreReady (ts : List Tenant) (left : List Entry) : Type 0 where
  pub known : AllByRecursion (IsOf (tenant_names ts)) left
  pub short : AllByRecursion (ItemIsShort 4294967295) left
  pub within : AllByRecursion EntryIsWithin left

-- All lines are done: each start has its fate, the replies stand behind this text, and the rooms are those behind them.
pub record AllDone (licences : List Licensed) (items : List Entry) (ts : List Tenant) (first : List ℕ) (s : Shared) (text : List ℕ) : Type 0 where
  pub fates : List Fate
  pub are : AreFates items items fates
  pub told : text ≡ first ++ answers_text (told_by ts (first_rooms ts) items fates)
  pub holds : HoldsRooms licences ts (rooms_by ts (first_rooms ts) items fates) s
  pub meant : AreMeant (told_by ts (first_rooms ts) items fates)
