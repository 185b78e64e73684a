-- One line of a tenant, from what the code does for its number to what its name's room says.
use Rattle.std.proofs.Common.{◌≡◌, ℕ, ◌<◌, List, ◌++◌, length, Option, Some, None, refl, sym, ap, ◌∙◌, subst}
use Rattle.std.specs.Prelude.{slice_get, slice_set, Result, Ok, Err}
use Rattle.std.proofs.lemmas.Option.{slice_get_within}
use Rattle.camelot_values.specs.Names.{AreDistinct}
use Rattle.licence.specs.Licensed.{Licensed}
use Rattle.job_script.specs.Scripts.{IsUpTo}
use Rattle.job_world.specs.declared.call.Call.{Call as DeclaredCall}
use Rattle.run_reports.specs.declared.outcome.JobCause.{JobCause}
use Rattle.run_reports.specs.Told.{JobLine, Ended, TooLarge, Refused}
use Rattle.script_plans.specs.Programs.{ProgramText}
use Rattle.script_plans.specs.Fates.{Unfit, Calls}
use Rattle.script_plans.specs.Asked.{IsAsked}
use Rattle.tenant_script.specs.Tenants.{Tenant, tenant_names}
use Rattle.tenant_service.specs.declared.holding.Came.{Came}
use Rattle.tenant_service.specs.declared.holding.Shared.{Shared}
use Rattle.tenant_service.specs.declared.holding.Started.{Started}
use Rattle.tenant_service.specs.declared.holding.Started.TheVariants as started
use Rattle.tenant_service.specs.Rooms as rooms
use Rattle.tenant_service.specs.Rooms.{Own, Reply, Room, Starts, step, Step}
use Rattle.tenant_service.specs.Replies.{Rooms, with_room}
use Rattle.tenant_service.specs.Texts.{reply_text}
use Rattle.tenant_service.specs.Scripts.{budget_among}
use Rattle.tenant_service.specs.Service.{ReplyIsMeant}
use Rattle.tenant_service.specs.Holding.{AreRooms}
use Rattle.tenant_service.specs.Steps.{StandsForRooms, StartedIs, CameTo, FinishedIs, HoldsFewer, IsDone}
use Rattle.tenant_service.specs.Running.{HasFate, HasTenant, HoldsRooms, IsTold, LineDone, room_by, rooms_of}
use Rattle.tenant_service.proofs.Numbering.{budget_at, room_at, room_set}

-- ---- what is told is meant

meant_by : (one other : Reply) → one ≡ other → ReplyIsMeant other → ReplyIsMeant one
meant_by one other e h = subst ReplyIsMeant (sym e) h

started_meant : (name : List ℕ) (told : Started) (reply : Reply) → StartedIs name told reply → ReplyIsMeant reply
started_meant name started.Held reply h = meant_by reply (rooms.Holds name) h tt
started_meant name (started.Refused cause) reply h = meant_by reply (rooms.Refuses name cause) h tt
started_meant name (started.Over held size limit) reply h = meant_by reply (rooms.IsOver name held size limit) h tt
started_meant name (started.Full need most) reply h = meant_by reply (rooms.IsFull name need most) h tt
started_meant name (started.Granted first size) reply h = meant_by reply (rooms.Started name first size) h tt

came_meant : (licences : List Licensed) (name : List ℕ) (c : Came) (line : JobLine) → CameTo licences c line → ReplyIsMeant (rooms.Finished name line)
came_meant licences name c (Ended types outcome fuel bound) h = h.4
came_meant licences name c (TooLarge needs arena) h = absurd h
came_meant licences name c (Refused cause) h = absurd h

finished_meant : (licences : List Licensed) (name : List ℕ) (told : Option Came) (reply : Reply) → FinishedIs licences name told reply → ReplyIsMeant reply
finished_meant licences name None reply h = meant_by reply (rooms.Absent name) h tt
finished_meant licences name (Some c) reply h = meant_by reply (rooms.Finished name h.line) h.is (came_meant licences name c h.line h.came)

-- ---- the reply is written

told_more : (licences : List Licensed) (old new : Shared) (rs : List Room) (n : ℕ) (own : Own) (P Q : Reply → Type 0) → ((reply : Reply) → P reply → Q reply) → IsDone licences old new rs n own P → IsDone licences old new rs n own Q
told_more licences old new rs n own P Q f d =
    record { room = d.room; there = d.there; limit = d.limit; budgeted = d.budgeted; told = f (step d.limit d.room own).reply d.told; becomes = d.becomes; budgets = d.budgets }

pub start_told : (licences : List Licensed) (old new : Shared) (rs : List Room) (n : ℕ) (own : Own) (tenant name text after : List ℕ) (told : Started)
    → ((reply : Reply) → StartedIs name told reply → after ≡ text ++ reply_text tenant reply) → IsDone licences old new rs n own (StartedIs name told)
    → IsDone licences old new rs n own (IsTold tenant text after)
start_told licences old new rs n own tenant name text after told each d =
    told_more licences old new rs n own (StartedIs name told) (IsTold tenant text after) (λ reply h. record { text = each reply h; meant = started_meant name told reply h }) d

pub finish_told : (licences : List Licensed) (old new : Shared) (rs : List Room) (n : ℕ) (own : Own) (tenant name text after : List ℕ) (told : Option Came)
    → ((reply : Reply) → FinishedIs licences name told reply → after ≡ text ++ reply_text tenant reply) → IsDone licences old new rs n own (FinishedIs licences name told)
    → IsDone licences old new rs n own (IsTold tenant text after)
finish_told licences old new rs n own tenant name text after told each d =
    told_more licences old new rs n own (FinishedIs licences name told) (IsTold tenant text after) (λ reply h. record { text = each reply h; meant = finished_meant licences name told reply h }) d

pub done_stands : (licences : List Licensed) (old new : Shared) (rs : List Room) (n : ℕ) (own : Own) (P : Reply → Type 0) → IsDone licences old new rs n own P → StandsForRooms licences new
done_stands licences old new rs n own P d = record { rs = slice_set rs n (step d.limit d.room own).room; are = d.becomes }

pub rooms_stand : (licences : List Licensed) (s : Shared) (rs : List Room) → AreRooms licences s rs → StandsForRooms licences s
rooms_stand licences s rs h = record { rs = rs; are = h }

-- ---- the room of its name

pub line_done : (licences : List Licensed) (ts : List Tenant) (rooms : Rooms) (n : ℕ) (tenant : List ℕ) (own : Own) (text after : List ℕ) (old new : Shared) → AreDistinct (tenant_names ts) → HasTenant ts n tenant
    → HoldsRooms licences ts rooms old → IsDone licences old new (rooms_of ts rooms) n own (IsTold tenant text after) → LineDone licences ts rooms tenant own text new after
line_done licences ts rooms n tenant own text after old new distinct has holds d =
    let t = has.tenant in
    let some_room : Some d.room ≡ Some (rooms t.name) = sym d.there ∙ room_at rooms ts n t has.there in
    let room_is : d.room ≡ rooms t.name = cc in
    let limit_is : d.limit ≡ budget_among ts t.name = budget_at ts n t d.limit distinct has.there (ap (λ ns. slice_get ns n) (sym holds.budgets) ∙ d.budgeted) in
    let step_is : step d.limit d.room own ≡ step (budget_among ts tenant) (rooms tenant) own =
    ap (λ b. step b d.room own) limit_is ∙ ap (λ r. step (budget_among ts t.name) r own) room_is ∙ ap (λ name. step (budget_among ts name) (rooms name) own) has.is in
    let set_is : slice_set (rooms_of ts rooms) n (step d.limit d.room own).room ≡ rooms_of ts (with_room rooms tenant (room_by ts rooms tenant own)) =
    ap (λ (s : Step). slice_set (rooms_of ts rooms) n s.room) step_is ∙ room_set ts n t rooms (room_by ts rooms tenant own) distinct has.there
    ∙ ap (λ name. rooms_of ts (with_room rooms name (room_by ts rooms tenant own))) has.is in
    record {
      told = subst (λ (s : Step). IsTold tenant text after s.reply) step_is d.told;
      holds = record { are = subst (AreRooms licences new) set_is d.becomes; budgets = d.budgets ∙ holds.budgets };
    }

-- the number of a name is one of the tenants'
pub number_fewer : (ts : List Tenant) (n : ℕ) (tenant : List ℕ) (s : Shared) (most : ℕ) → HasTenant ts n tenant → ((n : ℕ) → n < length ts → HoldsFewer s n most) → HoldsFewer s n most
number_fewer ts n tenant s most has each = each n (slice_get_within ts n has.tenant has.there)

-- ---- calls

pub asked_fate : (licences : List Licensed) (p : Option ProgramText) (entry args : List ℕ) (fuel : ℕ) (asked : Result DeclaredCall JobCause) → IsUpTo 1099511627776 fuel → IsAsked licences p entry args fuel asked
    → HasFate licences p entry args fuel asked
asked_fate licences p entry args fuel (Ok call) few h = record {
  fate = Calls h.c;
  is = h.is;
  within = h.within;
  of = record {
    licence = h.licence;
    entry = h.entry;
    args = h.args;
    bound = h.bound;
    lease = h.lease;
    fuelled = h.fuel;
    some_fuel = few.least;
    few_fuel = few.most;
    licensed = h.licensed;
    types = h.types;
    run = h.run;
  };
}
asked_fate licences p entry args fuel (Err cause) few h = record { fate = Unfit cause; is = h; within = tt; of = refl }
