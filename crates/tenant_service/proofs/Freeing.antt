-- What is free of each tenant's budget at the end.
use Rattle.std.proofs.Common.{◌≡◌, ℕ, suc, ◌+◌, ◌-◌, ◌<◌, ◌≤◌, List, [], ◌∷◌, ◌++◌, length, map, get_or, drop, add-one, Some, refl, sym, ap, ◌∙◌, subst, append_assoc, append-nil}
use Rattle.std.specs.Prelude.{slice_get, codes, decimal}
use Rattle.std.specs.Option.{option_map}
use Rattle.std.proofs.Math.Seq.{drop-cons}
use Rattle.std.proofs.lemmas.List.{drop_all}
use Rattle.std.proofs.lemmas.Option.{slice_get-map, slice_get-get_or}
use Rattle.hole_list.specs.Holes.{Holed}
use Rattle.licence.specs.Licensed.{Licensed}
use Rattle.tenant_desk.specs.Desk.{held}
use Rattle.tenant_script.specs.Tenants.{Tenant}
use Rattle.tenant_script.specs.Words.{tenant_view}
use Rattle.tenant_script.specs.declared.types.Tenant.{Tenant as DeclaredTenant}
use Rattle.tenant_service.specs.declared.holding.Holding.{Holding as DeclaredHolding}
use Rattle.tenant_service.specs.declared.holding.Shared.{Shared}
use Rattle.tenant_service.specs.Rooms.{Room, cells_held}
use Rattle.tenant_service.specs.Replies.{Rooms}
use Rattle.tenant_service.specs.Texts.{end_text, ends_text}
use Rattle.tenant_service.specs.Holding.{AreRoomsFrom}
use Rattle.tenant_service.specs.Running.{HoldsRooms, rooms_of}
use Rattle.tenant_service.proofs.Numbering.{room_at}

abbrev cells_in : Room → ℕ
cells_in room = cells_held room.held

sums_from : (licences : List Licensed) (tenant : ℕ) (ps : List Holed) (hs : List (List DeclaredHolding)) (rs : List Room) → AreRoomsFrom licences tenant ps hs rs → map held ps ≡ map cells_in rs
sums_from licences tenant [] [] [] k = refl
sums_from licences tenant [] [] (r ∷ rs) k = absurd k
sums_from licences tenant [] (h ∷ hs) rs k = absurd k
sums_from licences tenant (p ∷ ps) [] rs k = absurd k
sums_from licences tenant (p ∷ ps) (h ∷ hs) [] k = absurd k
sums_from licences tenant (p ∷ ps) (h ∷ hs) (r ∷ rs) k = ap (λ n. n ∷ map held ps) k.0.sum ∙ ap (λ ns. cells_in r ∷ ns) (sums_from licences (suc tenant) ps hs rs k.1)

-- what the desk says that a tenant holds are the cells of its jobs
pub held_is : (licences : List Licensed) (ts : List Tenant) (rooms : Rooms) (s : Shared) (n k : ℕ) (t : Tenant) → HoldsRooms licences ts rooms s → slice_get ts n ≡ Some t
    → option_map held (slice_get s.desk.pieces n) ≡ Some k → k ≡ cells_held (rooms t.name).held
held_is licences ts rooms s n k t h e is =
    let one : slice_get (map cells_in (rooms_of ts rooms)) n ≡ Some (cells_in (rooms t.name)) = slice_get-map cells_in (rooms_of ts rooms) n ∙ ap (option_map cells_in) (room_at rooms ts n t e) in
    let two : Some k ≡ Some (cells_in (rooms t.name)) =
    sym is ∙ sym (slice_get-map held s.desk.pieces n) ∙ ap (λ ns. slice_get ns n) (sums_from licences 0 s.desk.pieces (map (λ v. v.items) s.held.items) (rooms_of ts rooms) h.are.rooms) ∙ one in
    cc

pub end_is : (licences : List Licensed) (ts : List Tenant) (rooms : Rooms) (s : Shared) (n k free : ℕ) (t : Tenant) (text after : List ℕ) → option_map held (slice_get s.desk.pieces n) ≡ Some k → free ≡ t.cells - k
    → after ≡ text ++ ((codes "end tenant " ++ t.name) ++ (codes " free " ++ decimal free) ++ codes "\n") → HoldsRooms licences ts rooms s → slice_get ts n ≡ Some t → after ≡ text ++ end_text t (rooms t.name)
end_is licences ts rooms s n k free t text after is less told h e =
    told ∙ ap (λ m. text ++ ((codes "end tenant " ++ t.name) ++ (codes " free " ++ decimal m) ++ codes "\n")) (less ∙ ap (λ m. t.cells - m) (held_is licences ts rooms s n k t h e is))

-- ---- one by one

tenant_here : (tenants : List DeclaredTenant) (i : ℕ) (d : DeclaredTenant) → i < length tenants → map tenant_view (drop i tenants) ≡ tenant_view (get_or tenants i d) ∷ map tenant_view (drop (i + 1) tenants)
tenant_here tenants i d h = ap (map tenant_view) (drop-cons tenants i d h) ∙ ap (λ n. tenant_view (get_or tenants i d) ∷ map tenant_view (drop n tenants)) (sym (add-one i))

tenant_at : (tenants : List DeclaredTenant) (i at : ℕ) (d : DeclaredTenant) → at ≡ i → i < length tenants → slice_get (map tenant_view tenants) at ≡ Some (tenant_view (get_or tenants i d))
tenant_at tenants i at d same here = subst (λ n. slice_get (map tenant_view tenants) n ≡ Some (tenant_view (get_or tenants i d))) (sym same) (slice_get-map tenant_view tenants i ∙ ap (option_map tenant_view) (slice_get-get_or tenants i d here))

pub ends_more : (tenants : List DeclaredTenant) (i at : ℕ) (d : DeclaredTenant) (rooms : Rooms) (text after whole : List ℕ) → at ≡ i → i < length tenants
    → text ++ ends_text (map tenant_view (drop i tenants)) rooms ≡ whole
    → (slice_get (map tenant_view tenants) at ≡ Some (tenant_view (get_or tenants i d)) → after ≡ text ++ end_text (tenant_view (get_or tenants i d)) (rooms (get_or tenants i d).name.now))
    → after ++ ends_text (map tenant_view (drop (i + 1) tenants)) rooms ≡ whole
ends_more tenants i at d rooms text after whole same here e told =
    let rest = ends_text (map tenant_view (drop (i + 1) tenants)) rooms in
    let this = end_text (tenant_view (get_or tenants i d)) (rooms (get_or tenants i d).name.now) in
    ap (λ l. l ++ rest) (told (tenant_at tenants i at d same here)) ∙ append_assoc text this rest ∙ ap (λ ts. text ++ ends_text ts rooms) (sym (tenant_here tenants i d here)) ∙ e

pub ends_all : (tenants : List DeclaredTenant) (i : ℕ) (rooms : Rooms) (text whole : List ℕ) → length tenants ≤ i → text ++ ends_text (map tenant_view (drop i tenants)) rooms ≡ whole → text ≡ whole
ends_all tenants i rooms text whole all e = sym (append-nil text) ∙ ap (λ l. text ++ ends_text (map tenant_view l) rooms) (sym (drop_all i tenants all)) ∙ e
