-- Tenants by number and by name: their names are distinct, so each has one number.
use Rattle.std.proofs.Common.{◌≡◌, ℕ, get_or, drop, add-one, zero, suc, ◌+◌, ◌<◌, ◌≤◌, Bool, true, false, List, [], ◌∷◌, ◌++◌, length, map, Some, refl, sym, ap, ◌∙◌, subst, arith}
use Rattle.std.specs.Prelude.{if◌then◌else◌, ◌||◌, sum, slice_get, slice_set}
use Rattle.std.specs.List.{list_any, AllByRecursion}
use Rattle.std.specs.Str.{bytes_eq}
use Rattle.std.proofs.lemmas.Grind.{common_steps}
use Rattle.std.proofs.Math.Seq.{drop-cons}
use Rattle.std.proofs.lemmas.Option.{slice_get-map, slice_get-get_or}
use Rattle.std.specs.Option.{option_map}
use Rattle.camelot_values.specs.Names.{AreDistinct, stands}
use Rattle.camelot_values.specs.NameLaws.{some_place, same_name, name_itself}
use Rattle.tenant_desk.specs.Desk.{AreBudgets}
use Rattle.tenant_script.specs.Tenants.{Tenant, HasCells, tenant_names, all_cells}
use Rattle.tenant_script.specs.Words.{tenant_view}
use Rattle.tenant_script.specs.declared.types.Tenant.{Tenant as DeclaredTenant}
use Rattle.tenant_service.specs.Rooms.{Room, whole}
use Rattle.tenant_service.specs.Replies.{Rooms, with_room}
use Rattle.tenant_service.specs.Scripts.{budget_among, first_rooms}
use Rattle.tenant_service.specs.Running.{HasTenant, cells_of, rooms_of}

-- ---- names that are distinct

distinct_rest : (w : List ℕ) (ws : List (List ℕ)) → AreDistinct (w ∷ ws) → AreDistinct ws
distinct_rest w ws h v before between rest e = h v (w ∷ before) between rest (ap (λ l. w ∷ l) e)

-- the first one is none of the others
not_among : (w : List ℕ) (ws : List (List ℕ)) → AreDistinct (w ∷ ws) → list_any (bytes_eq w) ws ≡ false
not_among w ws h = by_test (list_any (bytes_eq w) ws) refl
  where
    by_test : (b : Bool) → list_any (bytes_eq w) ws ≡ b → b ≡ false
    by_test false e = refl
    by_test true e =
        let q = some_place (bytes_eq w) ws e in
        let s : w ≡ q.item = same_name w q.item q.holds in
        absurd (h w [] q.before q.rest (ap (λ l. w ∷ l) (q.is ∙ ap (λ x. q.before ++ x ∷ q.rest) (sym s))))

or_first : (a b : Bool) → (a || b) ≡ false → a ≡ false
or_first true b e = e
or_first false b e = refl

or_second : (a b : Bool) → (a || b) ≡ false → b ≡ false
or_second true b e = cc
or_second false b e = e

-- names are the same both ways
apart : (v w : List ℕ) → bytes_eq v w ≡ false → bytes_eq w v ≡ false
apart v w e = by_test (bytes_eq w v) refl
  where
    by_test : (b : Bool) → bytes_eq w v ≡ b → b ≡ false
    by_test false k = refl
    by_test true k =
        let s : w ≡ v = same_name w v k in
        let t : bytes_eq v w ≡ true = ap (λ x. bytes_eq v x) s ∙ name_itself v in
        sym t ∙ e

-- a tenant among those whose names are other ones
other_at : (w : List ℕ) (ts : List Tenant) (n : ℕ) (t : Tenant) → list_any (bytes_eq w) (tenant_names ts) ≡ false → slice_get ts n ≡ Some t → bytes_eq w t.name ≡ false
other_at w [] n t none e = absurd (grind (arith, e))
other_at w (u ∷ ts) zero t none e = let is : u ≡ t = grind (arith, e) in subst (λ (x : Tenant). bytes_eq w x.name ≡ false) is (or_first (bytes_eq w u.name) (list_any (bytes_eq w) (tenant_names ts)) none)
other_at w (u ∷ ts) (suc n) t none e = other_at w ts n t (or_second (bytes_eq w u.name) (list_any (bytes_eq w) (tenant_names ts)) none) e

-- ---- rooms

same_choice : {A : Type 0} (b c : Bool) (x y : A) → b ≡ c → (if b then x else y) ≡ (if c then x else y)
same_choice b c x y e = ap (λ b. if b then x else y) e

-- the room of one tenant is none of those of others
others_stay : (w : List ℕ) (ts : List Tenant) (rooms : Rooms) (room : Room) → list_any (bytes_eq w) (tenant_names ts) ≡ false → rooms_of ts (with_room rooms w room) ≡ rooms_of ts rooms
others_stay w [] rooms room none = refl
others_stay w (u ∷ ts) rooms room none =
    let here : with_room rooms w room u.name ≡ rooms u.name = same_choice (bytes_eq w u.name) false room (rooms u.name) (or_first (bytes_eq w u.name) (list_any (bytes_eq w) (tenant_names ts)) none) in
    let later = others_stay w ts rooms room (or_second (bytes_eq w u.name) (list_any (bytes_eq w) (tenant_names ts)) none) in
    ap (λ (r : Room). r ∷ rooms_of ts (with_room rooms w room)) here ∙ ap (λ (rs : List Room). rooms u.name ∷ rs) later

-- with another room of one tenant, by its name and by its number
pub room_set : (ts : List Tenant) (n : ℕ) (t : Tenant) (rooms : Rooms) (room : Room) → AreDistinct (tenant_names ts) → slice_get ts n ≡ Some t
    → slice_set (rooms_of ts rooms) n room ≡ rooms_of ts (with_room rooms t.name room)
room_set [] n t rooms room h e = absurd (grind (arith, e))
room_set (u ∷ ts) zero t rooms room h e =
    let is : u ≡ t = grind (arith, e) in
    let here : with_room rooms u.name room u.name ≡ room = same_choice (bytes_eq u.name u.name) true room (rooms u.name) (name_itself u.name) in
    let all : room ∷ rooms_of ts rooms ≡ rooms_of (u ∷ ts) (with_room rooms u.name room) =
    ap (λ (r : Room). r ∷ rooms_of ts rooms) (sym here) ∙ ap (λ (rs : List Room). with_room rooms u.name room u.name ∷ rs) (sym (others_stay u.name ts rooms room (not_among u.name (tenant_names ts) h))) in
    subst (λ (x : Tenant). room ∷ rooms_of ts rooms ≡ rooms_of (u ∷ ts) (with_room rooms x.name room)) is all
room_set (u ∷ ts) (suc n) t rooms room h e =
    let off : bytes_eq t.name u.name ≡ false = apart u.name t.name (other_at u.name ts n t (not_among u.name (tenant_names ts) h) e) in
    let here : with_room rooms t.name room u.name ≡ rooms u.name = same_choice (bytes_eq t.name u.name) false room (rooms u.name) off in
    let later = room_set ts n t rooms room (distinct_rest u.name (tenant_names ts) h) e in
    ap (λ (r : Room). r ∷ slice_set (rooms_of ts rooms) n room) (sym here) ∙ ap (λ (rs : List Room). with_room rooms t.name room u.name ∷ rs) later

-- ---- budgets

abbrev budgets_by : List Tenant → List Tenant → List ℕ
budgets_by all ts = map (λ (t : Tenant). budget_among all t.name) ts

others_budget : (u : Tenant) (all ts : List Tenant) → list_any (bytes_eq u.name) (tenant_names ts) ≡ false → budgets_by (u ∷ all) ts ≡ budgets_by all ts
others_budget u all [] none = refl
others_budget u all (v ∷ ts) none =
    let here : budget_among (u ∷ all) v.name ≡ budget_among all v.name =
    same_choice (bytes_eq u.name v.name) false u.cells (budget_among all v.name) (or_first (bytes_eq u.name v.name) (list_any (bytes_eq u.name) (tenant_names ts)) none) in
    let later = others_budget u all ts (or_second (bytes_eq u.name v.name) (list_any (bytes_eq u.name) (tenant_names ts)) none) in
    ap (λ n. n ∷ budgets_by (u ∷ all) ts) here ∙ ap (λ ns. budget_among all v.name ∷ ns) later

pub budgets_are : (ts : List Tenant) → AreDistinct (tenant_names ts) → budgets_by ts ts ≡ map cells_of ts
budgets_are [] h = refl
budgets_are (u ∷ ts) h =
    let here : budget_among (u ∷ ts) u.name ≡ u.cells = same_choice (bytes_eq u.name u.name) true u.cells (budget_among ts u.name) (name_itself u.name) in
    ap (λ n. n ∷ budgets_by (u ∷ ts) ts) here ∙ ap (λ ns. u.cells ∷ ns) (others_budget u ts ts (not_among u.name (tenant_names ts) h) ∙ budgets_are ts (distinct_rest u.name (tenant_names ts) h))

-- a number of each tenant
at_number : (f : Tenant → ℕ) (ts : List Tenant) (n : ℕ) (t : Tenant) → slice_get ts n ≡ Some t → slice_get (map f ts) n ≡ Some (f t)
at_number f [] n t e = absurd (grind (arith, e))
at_number f (u ∷ ts) zero t e = let is : u ≡ t = grind (arith, e) in ap (λ (x : Tenant). Some (f x)) is
at_number f (u ∷ ts) (suc n) t e = at_number f ts n t e

pub room_at : (rooms : Rooms) (ts : List Tenant) (n : ℕ) (t : Tenant) → slice_get ts n ≡ Some t → slice_get (rooms_of ts rooms) n ≡ Some (rooms t.name)
room_at rooms [] n t e = absurd (grind (arith, e))
room_at rooms (u ∷ ts) zero t e = let is : u ≡ t = grind (arith, e) in ap (λ (x : Tenant). Some (rooms x.name)) is
room_at rooms (u ∷ ts) (suc n) t e = room_at rooms ts n t e

-- the budget of a tenant by its number
pub budget_at : (ts : List Tenant) (n : ℕ) (t : Tenant) (limit : ℕ) → AreDistinct (tenant_names ts) → slice_get ts n ≡ Some t → slice_get (map cells_of ts) n ≡ Some limit → limit ≡ budget_among ts t.name
budget_at ts n t limit h e l =
    let one : slice_get (budgets_by ts ts) n ≡ Some (budget_among ts t.name) = at_number (λ (u : Tenant). budget_among ts u.name) ts n t e in
    let two : Some limit ≡ Some (budget_among ts t.name) = sym l ∙ ap (λ ns. slice_get ns n) (sym (budgets_are ts h)) ∙ one in
    cc

-- ---- at first

first_by : (all ts : List Tenant) → rooms_of ts (first_rooms all) ≡ map whole (budgets_by all ts)
first_by all [] = refl
first_by all (t ∷ ts) = ap (λ (rs : List Room). whole (budget_among all t.name) ∷ rs) (first_by all ts)

pub rooms_first : (ts : List Tenant) → AreDistinct (tenant_names ts) → map whole (map cells_of ts) ≡ rooms_of ts (first_rooms ts)
rooms_first ts h = ap (map whole) (sym (budgets_are ts h)) ∙ sym (first_by ts ts)

cells_sum : (ts : List Tenant) → sum (map cells_of ts) ≡ all_cells ts
cells_sum [] = refl
cells_sum (t ∷ ts) = grind (arith, common_steps, cells_sum ts)

cells_count : (ts : List Tenant) → length (map cells_of ts) ≡ length ts
cells_count [] = refl
cells_count (t ∷ ts) = ap suc (cells_count ts)

cells_each : (ts : List Tenant) → AllByRecursion HasCells ts → AllByRecursion (λ b. 1 ≤ b) (map cells_of ts)
cells_each [] h = tt
cells_each (t ∷ ts) h = (h.0, cells_each ts h.1)

pub are_budgets : (cells : ℕ) (ts : List Tenant) (bs : List ℕ) → bs ≡ map cells_of ts → 1 ≤ length ts → length ts ≤ 64 → AllByRecursion HasCells ts → all_cells ts ≤ cells → AreBudgets cells bs
are_budgets cells ts bs e some few each within = subst (AreBudgets cells) (sym e) (record {
  some = omega (arith, some, cells_count ts);
  few = omega (arith, few, cells_count ts);
  each = cells_each ts each;
  within = omega (arith, within, cells_sum ts);
})

-- ---- the number of a name

-- the name is this tenant's, or one of those behind it
among_rest : (t : Tenant) (ts : List Tenant) (name : List ℕ) → stands (tenant_names (t ∷ ts)) name ≡ true → bytes_eq t.name name ≡ false → stands (tenant_names ts) name ≡ true
among_rest t ts name h e = sym (ap (λ b. b || list_any (bytes_eq name) (tenant_names ts)) (apart t.name name e)) ∙ h

pub number_here : (tenants : List DeclaredTenant) (i at : ℕ) (d : DeclaredTenant) (name : List ℕ) → at ≡ i → i < length tenants → bytes_eq (get_or tenants i d).name.now name ≡ true
    → HasTenant (map tenant_view tenants) at name
number_here tenants i at d name same here e = subst (λ n. HasTenant (map tenant_view tenants) n name) (sym same) (record {
  tenant = tenant_view (get_or tenants i d);
  there = slice_get-map tenant_view tenants i ∙ ap (option_map tenant_view) (slice_get-get_or tenants i d here);
  is = same_name (get_or tenants i d).name.now name e;
})

pub number_later : (tenants : List DeclaredTenant) (i : ℕ) (d : DeclaredTenant) (name : List ℕ) → i < length tenants → bytes_eq (get_or tenants i d).name.now name ≡ false
    → stands (tenant_names (map tenant_view (drop i tenants))) name ≡ true → stands (tenant_names (map tenant_view (drop (i + 1) tenants))) name ≡ true
number_later tenants i d name here e h =
    subst (λ n. stands (tenant_names (map tenant_view (drop n tenants))) name ≡ true) (sym (add-one i)) (
    among_rest (tenant_view (get_or tenants i d)) (map tenant_view (drop (suc i) tenants)) name
    (subst (λ (l : List DeclaredTenant). stands (tenant_names (map tenant_view l)) name ≡ true) (drop-cons tenants i d here) h) e)
