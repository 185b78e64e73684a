-- The lines of a script, one after the other, from none to all.
use Rattle.std.proofs.Common.{◌≡◌, ℕ, zero, suc, ◌+◌, ◌<◌, ◌≤◌, Bool, true, false, List, [], ◌∷◌, ◌++◌, length, map, get_or, drop, add-one, Option, Some, None, refl, sym, ap, ◌∙◌, subst, append_assoc, append-nil, arith, length-append}
use Rattle.std.specs.Prelude.{if◌then◌else◌, nat_lt, slice_get}
use Rattle.std.specs.Str.{bytes_eq}
use Rattle.std.specs.Global.{Vec}
use Rattle.std.proofs.Math.Seq.{drop-cons}
use Rattle.std.proofs.lemmas.List.{drop_all}
use Rattle.hole_list.specs.Holes.{Holed}
use Rattle.hole_list.specs.Placing.{Taken, take_run}
use Rattle.licence.specs.Licensed.{Licensed}
use Rattle.tenant_desk.specs.Desk.{budget}
use Rattle.job_script.specs.Scripts.{Job, Program}
use Rattle.script_plans.specs.Fates.{Call, Fate, Unfit, Calls, IsFate, lease_of}
use Rattle.script_plans.specs.Rows.{Row, row_among, row_program}
use Rattle.tenant_script.specs.Tenants.{Tenant, Entry, AProgram, AStart, AFinish, start_count}
use Rattle.tenant_script.specs.Words.{entry_view}
use Rattle.tenant_script.specs.declared.types.TenantEntry.{TenantEntry}
use Rattle.tenant_service.specs.declared.holding.Holding.{Holding as DeclaredHolding}
use Rattle.tenant_service.specs.declared.holding.Shared.{Shared}
use Rattle.tenant_service.specs.Rooms.{Holding, Room, Starts, Finishes, IsOver, told, held_named, without_named, placed, asked, by_fate, started, finished, cells_held, step}
use Rattle.tenant_service.specs.Replies.{Rooms, with_room}
use Rattle.tenant_service.specs.Texts.{reply_text, answers_text}
use Rattle.tenant_service.specs.Scripts.{budget_among, program_named, first_rooms}
use Rattle.tenant_service.specs.Holding.{AreHolding, AreRoomsFrom}
use Rattle.tenant_service.specs.Steps.{StandsForRooms, HoldsFewer}
use Rattle.tenant_service.specs.Running.{AllDone, AreReady, Completes, EntryDone, Going, HoldsRooms, IsReady, LineDone, StartDone, NothingDone, cells_of, most_held, reply_by, room_by, rooms_by, rooms_of, told_by}

-- ---- how many jobs are held

without_few : (hs : List Holding) (name : List ℕ) → length (without_named hs name) ≤ length hs
without_few [] name = omega arith
without_few (h ∷ hs) name = by_test (bytes_eq h.name name) (without_few hs name)
  where
    by_test : (b : Bool) → length (without_named hs name) ≤ length hs → length (if b then hs else h ∷ without_named hs name) ≤ length (h ∷ hs)
    by_test true k = omega arith
    by_test false k = omega (arith, k)

placed_few : (room : Room) (name : List ℕ) (c : Call) (fuel : ℕ) (o : Option Taken) → length (placed room name c fuel o).room.held ≤ length room.held + 1
placed_few room name c fuel None = omega arith
placed_few room name c fuel (Some t) = omega (arith, length-append room.held (record { name = name; call = c; fuel = fuel; place = t.run } ∷ []))

asked_few : (limit : ℕ) (room : Room) (name : List ℕ) (c : Call) (fuel : ℕ) → length (asked limit room name c fuel).room.held ≤ length room.held + 1
asked_few limit room name c fuel = by_test (nat_lt limit (cells_held room.held + lease_of c))
  where
    by_test : (b : Bool) → length (if b then told room (IsOver name (cells_held room.held) (lease_of c) limit) else placed room name c fuel (take_run room.holes (lease_of c))).room.held ≤ length room.held + 1
    by_test true = omega arith
    by_test false = placed_few room name c fuel (take_run room.holes (lease_of c))

fate_few : (limit : ℕ) (room : Room) (name : List ℕ) (fuel : ℕ) (fate : Fate) → length (by_fate limit room name fuel fate).room.held ≤ length room.held + 1
fate_few limit room name fuel (Unfit cause) = omega arith
fate_few limit room name fuel (Calls c) = asked_few limit room name c fuel

started_few : (limit : ℕ) (room : Room) (name : List ℕ) (fuel : ℕ) (fate : Fate) (o : Option Holding) → length (started limit room name fuel fate o).room.held ≤ length room.held + 1
started_few limit room name fuel fate None = fate_few limit room name fuel fate
started_few limit room name fuel fate (Some h) = omega arith

start_few : (limit : ℕ) (room : Room) (name : List ℕ) (fuel : ℕ) (fate : Fate) → length (step limit room (Starts name fuel fate)).room.held ≤ length room.held + 1
start_few limit room name fuel fate = started_few limit room name fuel fate (held_named room.held name)

finished_few : (room : Room) (name : List ℕ) (o : Option Holding) → length (finished room name o).room.held ≤ length room.held
finished_few room name None = omega arith
finished_few room name (Some h) = without_few room.held name

finish_few : (limit : ℕ) (room : Room) (name : List ℕ) → length (step limit room (Finishes name)).room.held ≤ length room.held
finish_few limit room name = finished_few room name (held_named room.held name)

-- of each tenant, where one has another room
room_few : (rooms : Rooms) (tenant : List ℕ) (room : Room) (more : ℕ) → ((name : List ℕ) → length (rooms name).held + more ≤ 4096) → length room.held + more ≤ 4096
    → (name : List ℕ) → length (with_room rooms tenant room name).held + more ≤ 4096
room_few rooms tenant room more all this name = by_test (bytes_eq tenant name)
  where
    by_test : (b : Bool) → length (if b then room else rooms name).held + more ≤ 4096
    by_test true = this
    by_test false = all name

-- ---- what the code holds

many_held : (licences : List Licensed) (tenant : ℕ) (piece : Holed) (ds : List DeclaredHolding) (hs : List Holding) → AreHolding licences tenant piece ds hs → length ds ≡ length hs
many_held licences tenant piece [] [] k = refl
many_held licences tenant piece [] (h ∷ hs) k = absurd k
many_held licences tenant piece (d ∷ ds) [] k = absurd k
many_held licences tenant piece (d ∷ ds) (h ∷ hs) k = ap suc (many_held licences tenant piece ds hs k.1)

abbrev count_of : Vec DeclaredHolding → ℕ
count_of v = length v.items

abbrev items_of : Vec DeclaredHolding → List DeclaredHolding
items_of v = v.items

abbrev held_in : Room → ℕ
held_in room = length room.held

counts_from : (licences : List Licensed) (tenant : ℕ) (ps : List Holed) (vs : List (Vec DeclaredHolding)) (rs : List Room) → AreRoomsFrom licences tenant ps (map items_of vs) rs → map count_of vs ≡ map held_in rs
counts_from licences tenant [] [] [] k = refl
counts_from licences tenant [] [] (r ∷ rs) k = absurd k
counts_from licences tenant [] (v ∷ vs) rs k = absurd k
counts_from licences tenant (p ∷ ps) [] rs k = absurd k
counts_from licences tenant (p ∷ ps) (v ∷ vs) [] k = absurd k
counts_from licences tenant (p ∷ ps) (v ∷ vs) (r ∷ rs) k =
    ap (λ n. n ∷ map count_of vs) (many_held licences tenant p v.items r.held k.0.held) ∙ ap (λ ns. length r.held ∷ ns) (counts_from licences (suc tenant) ps vs rs k.1)

count_at : (rooms : Rooms) (ts : List Tenant) (n count most : ℕ) → ((name : List ℕ) → length (rooms name).held < most) → slice_get (map held_in (rooms_of ts rooms)) n ≡ Some count → count < most
count_at rooms [] n count most few e = absurd (grind (arith, e))
count_at rooms (t ∷ ts) zero count most few e = let is : length (rooms t.name).held ≡ count = grind (arith, e) in subst (λ m. m < most) is (few t.name)
count_at rooms (t ∷ ts) (suc n) count most few e = count_at rooms ts n count most few e

map_long : {A B : Type 0} (f : A → B) (xs : List A) → length (map f xs) ≡ length xs
map_long f [] = refl
map_long f (x ∷ xs) = ap suc (map_long f xs)

pieces_many : (licences : List Licensed) (ts : List Tenant) (rooms : Rooms) (s : Shared) → HoldsRooms licences ts rooms s → length s.desk.pieces ≡ length ts
pieces_many licences ts rooms s h = sym (map_long budget s.desk.pieces) ∙ ap length h.budgets ∙ map_long cells_of ts

holds_fewer : (licences : List Licensed) (ts : List Tenant) (rooms : Rooms) (s : Shared) (n most : ℕ) → HoldsRooms licences ts rooms s → ((name : List ℕ) → length (rooms name).held < most) → n < length ts → HoldsFewer s n most
holds_fewer licences ts rooms s n most h few here = record {
  there = omega (arith, here, pieces_many licences ts rooms s h);
  few = λ count e. count_at rooms ts n count most few (ap (λ ns. slice_get ns n) (sym (counts_from licences 0 s.desk.pieces s.held.items (rooms_of ts rooms) h.are.rooms)) ∙ e);
}

-- ---- one entry

few_now : (rooms : Rooms) (e : Entry) (left : List Entry) → ((name : List ℕ) → length (rooms name).held + start_count (e ∷ left) ≤ 4096) → (name : List ℕ) → length (rooms name).held < most_held e
few_now rooms (AProgram p) left few name = omega (arith, few name)
few_now rooms (AStart tenant j) left few name = omega (arith, few name)
few_now rooms (AFinish tenant job) left few name = omega (arith, few name)

is_ready : (licences : List Licensed) (items : List Entry) (ts : List Tenant) (first : List ℕ) (e : Entry) (left : List Entry) (s : Shared) (text : List ℕ) → Going licences items ts first (e ∷ left) s text → AreReady ts (e ∷ left)
    → IsReady licences ts s e
is_ready licences items ts first e left s text g r = record {
  stands = record { rs = rooms_of ts g.rooms; are = g.holds.are };
  fewer = λ n here. holds_fewer licences ts g.rooms s n (most_held e) g.holds (few_now g.rooms e left g.few) here;
  known = r.known.0;
  short = r.short.0;
  within = r.within.0;
}

ready_rest : (ts : List Tenant) (e : Entry) (left : List Entry) → AreReady ts (e ∷ left) → AreReady ts left
ready_rest ts e left r = record { known = r.known.1; short = r.short.1; within = r.within.1 }

-- ---- from the entries that are done to one more

pub first_going : (licences : List Licensed) (items : List Entry) (ts : List Tenant) (first : List ℕ) (s : Shared) → HoldsRooms licences ts (first_rooms ts) s → start_count items ≤ 4096 → Going licences items ts first items s first
first_going licences items ts first s h few = record {
  rooms = first_rooms ts;
  holds = h;
  few = λ name. omega (arith, few);
  completes = λ fates are. record { all = fates; are = are; told = refl; behind = refl; meant = λ m. m };
}

-- a reply was written, and more are to come
written : (text after reply rest whole : List ℕ) → whole ≡ text ++ (reply ++ rest) → after ≡ text ++ reply → whole ≡ after ++ rest
written text after reply rest whole e f = e ∙ sym (append_assoc text reply rest) ∙ ap (λ l. l ++ rest) (sym f)

program_more : (licences : List Licensed) (items : List Entry) (ts : List Tenant) (first : List ℕ) (p : Program) (left : List Entry) (old new : Shared) (text after : List ℕ)
    → (g : Going licences items ts first (AProgram p ∷ left) old text) → NothingDone licences ts g.rooms text new after → Going licences items ts first left new after
program_more licences items ts first p left old new text after g d = record {
  rooms = g.rooms;
  holds = d.holds;
  few = g.few;
  completes = λ fates are.
      let k : Completes items ts first text g.rooms (AProgram p ∷ left) fates = g.completes fates are in
      record { all = k.all; are = k.are; told = k.told ∙ ap (λ l. l ++ answers_text (told_by ts g.rooms left fates)) (sym d.text); behind = k.behind; meant = k.meant };
}

start_more : (licences : List Licensed) (items : List Entry) (rows : List Row) (ts : List Tenant) (first tenant : List ℕ) (j : Job) (left : List Entry) (old new : Shared) (text after : List ℕ)
    → ((name : List ℕ) → program_named items name ≡ row_program (row_among rows name)) → (g : Going licences items ts first (AStart tenant j ∷ left) old text)
    → StartDone licences rows ts g.rooms tenant j text new after → Going licences items ts first left new after
start_more licences items rows ts first tenant j left old new text after named g d =
    let own = Starts j.name j.fuel d.fate in
    let room = room_by ts g.rooms tenant own in
    let later = with_room g.rooms tenant room in
    let this : length room.held + start_count left ≤ 4096 = omega (arith, g.few tenant, start_few (budget_among ts tenant) (g.rooms tenant) j.name j.fuel d.fate) in
    record {
      rooms = later;
      holds = d.done.holds;
      few = room_few g.rooms tenant room (start_count left) (λ name. omega (arith, g.few name)) this;
      completes = λ fates are.
          let fate_is : IsFate (program_named items j.program) j.entry j.args d.fate = subst (λ p. IsFate p j.entry j.args d.fate) (sym (named j.program)) d.is in
          let k : Completes items ts first text g.rooms (AStart tenant j ∷ left) (d.fate ∷ fates) = g.completes (d.fate ∷ fates) (fate_is, d.within, are) in
          record {
            all = k.all;
            are = k.are;
            told = written text after (reply_text tenant (reply_by ts g.rooms tenant own)) (answers_text (told_by ts later left fates)) (first ++ answers_text (told_by ts (first_rooms ts) items k.all)) k.told d.done.told.text;
            behind = k.behind;
            meant = λ m. k.meant (d.done.told.meant, m);
          };
    }

finish_more : (licences : List Licensed) (items : List Entry) (ts : List Tenant) (first tenant job : List ℕ) (left : List Entry) (old new : Shared) (text after : List ℕ)
    → (g : Going licences items ts first (AFinish tenant job ∷ left) old text) → LineDone licences ts g.rooms tenant (Finishes job) text new after → Going licences items ts first left new after
finish_more licences items ts first tenant job left old new text after g d =
    let own = Finishes job in
    let room = room_by ts g.rooms tenant own in
    let later = with_room g.rooms tenant room in
    let this : length room.held + start_count left ≤ 4096 = omega (arith, g.few tenant, finish_few (budget_among ts tenant) (g.rooms tenant) job) in
    record {
      rooms = later;
      holds = d.holds;
      few = room_few g.rooms tenant room (start_count left) g.few this;
      completes = λ fates are.
          let k : Completes items ts first text g.rooms (AFinish tenant job ∷ left) fates = g.completes fates are in
          record {
            all = k.all;
            are = k.are;
            told = written text after (reply_text tenant (reply_by ts g.rooms tenant own)) (answers_text (told_by ts later left fates)) (first ++ answers_text (told_by ts (first_rooms ts) items k.all)) k.told d.told.text;
            behind = k.behind;
            meant = λ m. k.meant (d.told.meant, m);
          };
    }

-- with what is done for one entry more
going_more : (licences : List Licensed) (items : List Entry) (rows : List Row) (ts : List Tenant) (first : List ℕ) (e : Entry) (left : List Entry) (old new : Shared) (text after : List ℕ)
    → ((name : List ℕ) → program_named items name ≡ row_program (row_among rows name)) → Going licences items ts first (e ∷ left) old text
    → ((rooms : Rooms) → HoldsRooms licences ts rooms old → EntryDone licences rows ts rooms e text new after) → Going licences items ts first left new after
going_more licences items rows ts first (AProgram p) left old new text after named g each = program_more licences items ts first p left old new text after g (each g.rooms g.holds)
going_more licences items rows ts first (AStart tenant j) left old new text after named g each = start_more licences items rows ts first tenant j left old new text after named g (each g.rooms g.holds)
going_more licences items rows ts first (AFinish tenant job) left old new text after named g each = finish_more licences items ts first tenant job left old new text after g (each g.rooms g.holds)

-- ---- all entries

all_done : (licences : List Licensed) (items : List Entry) (ts : List Tenant) (first : List ℕ) (s : Shared) (text : List ℕ) → Going licences items ts first [] s text → AllDone licences items ts first s text
all_done licences items ts first s text g =
    let k : Completes items ts first text g.rooms [] [] = g.completes [] tt in
    record {
      fates = k.all;
      are = k.are;
      told = sym (k.told ∙ append-nil text);
      holds = subst (λ (r : Rooms). HoldsRooms licences ts r s) (sym k.behind) g.holds;
      meant = k.meant tt;
    }

pub done_stands : (licences : List Licensed) (items : List Entry) (ts : List Tenant) (first : List ℕ) (s : Shared) (text : List ℕ) → AllDone licences items ts first s text → StandsForRooms licences s
done_stands licences items ts first s text d = record { rs = rooms_of ts (rooms_by ts (first_rooms ts) items d.fates); are = d.holds.are }

-- ---- entries in their order

entry_here : (items : List TenantEntry) (i : ℕ) (d : TenantEntry) → i < length items → map entry_view (drop i items) ≡ entry_view (get_or items i d) ∷ map entry_view (drop (i + 1) items)
entry_here items i d h = ap (map entry_view) (drop-cons items i d h) ∙ ap (λ n. entry_view (get_or items i d) ∷ map entry_view (drop n items)) (sym (add-one i))

none_left : (items : List TenantEntry) (i : ℕ) → length items ≤ i → map entry_view (drop i items) ≡ []
none_left items i h = ap (map entry_view) (drop_all i items h)

pub turn_ready : (licences : List Licensed) (whole : List Entry) (ts : List Tenant) (first : List ℕ) (items : List TenantEntry) (i : ℕ) (d : TenantEntry) (s : Shared) (text : List ℕ) → i < length items
    → Going licences whole ts first (map entry_view (drop i items)) s text → AreReady ts (map entry_view (drop i items)) → IsReady licences ts s (entry_view (get_or items i d))
turn_ready licences whole ts first items i d s text here g r =
    is_ready licences whole ts first (entry_view (get_or items i d)) (map entry_view (drop (i + 1) items)) s text (subst (λ left. Going licences whole ts first left s text) (entry_here items i d here) g)
    (subst (AreReady ts) (entry_here items i d here) r)

pub turn_rest : (ts : List Tenant) (items : List TenantEntry) (i : ℕ) → AreReady ts (map entry_view (drop i items)) → AreReady ts (map entry_view (drop (i + 1) items))
turn_rest ts items i r = subst (λ n. AreReady ts (map entry_view (drop n items))) (sym (add-one i)) (go items i r)
  where
    go : (items : List TenantEntry) (i : ℕ) → AreReady ts (map entry_view (drop i items)) → AreReady ts (map entry_view (drop (suc i) items))
    go [] zero r = r
    go [] (suc i) r = r
    go (x ∷ xs) zero r = ready_rest ts (entry_view x) (map entry_view xs) r
    go (x ∷ xs) (suc i) r = go xs i r

pub turn_more : (licences : List Licensed) (whole : List Entry) (rows : List Row) (ts : List Tenant) (first : List ℕ) (items : List TenantEntry) (i : ℕ) (d : TenantEntry) (old new : Shared) (text after : List ℕ)
    → ((name : List ℕ) → program_named whole name ≡ row_program (row_among rows name)) → i < length items → Going licences whole ts first (map entry_view (drop i items)) old text
    → ((rooms : Rooms) → HoldsRooms licences ts rooms old → EntryDone licences rows ts rooms (entry_view (get_or items i d)) text new after)
    → Going licences whole ts first (map entry_view (drop (i + 1) items)) new after
turn_more licences whole rows ts first items i d old new text after named here g each =
    going_more licences whole rows ts first (entry_view (get_or items i d)) (map entry_view (drop (i + 1) items)) old new text after named
    (subst (λ left. Going licences whole ts first left old text) (entry_here items i d here) g) each

pub turn_end : (licences : List Licensed) (whole : List Entry) (ts : List Tenant) (first : List ℕ) (items : List TenantEntry) (i : ℕ) (s : Shared) (text : List ℕ) → length items ≤ i
    → Going licences whole ts first (map entry_view (drop i items)) s text → AllDone licences whole ts first s text
turn_end licences whole ts first items i s text all g = all_done licences whole ts first s text (subst (λ left. Going licences whole ts first left s text) (none_left items i all) g)
