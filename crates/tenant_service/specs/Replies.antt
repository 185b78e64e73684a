-- Cited by contracts.
-- The lines of several tenants, in one order, and what is told to each. A line changes the room of its own tenant alone.
use Rattle.std.specs.Prelude.{ℕ, if◌then◌else◌, List, [], ◌∷◌}
use Rattle.std.specs.Str.{bytes_eq}
use Rattle.tenant_service.specs.Rooms.{Room, Own, Reply, step}

-- a line of the tenant of this name, and a reply to it
pub record Line : Type 0 where
  pub tenant : List ℕ
  pub own : Own

pub record Answer : Type 0 where
  pub tenant : List ℕ
  pub reply : Reply

-- the room of each tenant, by its name
abbrev pub Rooms : Type 0
Rooms = List ℕ → Room

-- with this room of a tenant; the others stay
abbrev pub with_room : Rooms → (tenant : List ℕ) → Room → Rooms
with_room rooms tenant room = λ name. if bytes_eq tenant name then room else rooms name

-- what is told, line by line, where tenants have these budgets
abbrev pub answers : (budget : List ℕ → ℕ) → Rooms → List Line → List Answer
answers budget rooms [] = []
answers budget rooms (l ∷ ls) =
    record { tenant = l.tenant; reply = (step (budget l.tenant) (rooms l.tenant) l.own).reply }
    ∷ answers budget (with_room rooms l.tenant (step (budget l.tenant) (rooms l.tenant) l.own).room) ls

-- the rooms behind all lines
abbrev pub rooms_after : (budget : List ℕ → ℕ) → Rooms → List Line → Rooms
rooms_after budget rooms [] = rooms
rooms_after budget rooms (l ∷ ls) = rooms_after budget (with_room rooms l.tenant (step (budget l.tenant) (rooms l.tenant) l.own).room) ls

-- ---- what is one tenant's

-- its own lines
abbrev pub own_lines : (tenant : List ℕ) → List Line → List Own
own_lines tenant [] = []
own_lines tenant (l ∷ ls) = if bytes_eq l.tenant tenant then l.own ∷ own_lines tenant ls else own_lines tenant ls

-- what is told to it
abbrev pub told_to : (tenant : List ℕ) → List Answer → List Reply
told_to tenant [] = []
told_to tenant (a ∷ others) = if bytes_eq a.tenant tenant then a.reply ∷ told_to tenant others else told_to tenant others

-- the lines without those of the others
abbrev pub lines_of : (tenant : List ℕ) → List Line → List Line
lines_of tenant [] = []
lines_of tenant (l ∷ ls) = if bytes_eq l.tenant tenant then l ∷ lines_of tenant ls else lines_of tenant ls
