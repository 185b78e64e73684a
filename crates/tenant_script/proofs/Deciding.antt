-- Each demand holds of a tenant script or not.
use Rattle.std.proofs.Common.{◌≡◌, ℕ, zero, suc, ◌≤◌, Bool, true, false, List, length, refl, inl, inr}
use Rattle.camelot_values.specs.Names.{stands}
use Rattle.text_lines.specs.Machines.{Decides}
use Rattle.text_lines.specs.OptionLaws.{true_false}
use Rattle.job_script.specs.DemandLaws.{Decided, up_to, at_most, each, distinct}
use Rattle.tenant_script.specs.Tenants.{Entry, AProgram, AStart, AFinish, TenantScript, all_cells, program_names, start_count, finish_count, HasCells, EntryIsWithin, IsWithin, tenant_names, HasOnce, IsOf}
use Rattle.tenant_script.specs.Text.{tenants_asks}
use Rattle.tenant_script.specs.Reading.{closed, tenants_machine}

entry_within : (e : Entry) → Decided (EntryIsWithin e)
entry_within (AProgram p) = inl tt
entry_within (AStart tenant j) = up_to 1099511627776 j.fuel
entry_within (AFinish tenant name) = inl tt

-- both hold, or not
both : {A B : Type 0} → Decided A → Decided B → Decided (A × B)
both (inl a) (inl b) = inl (a, b)
both (inl a) (inr b) = inr (λ p. b p.1)
both (inr a) b = inr (λ p. a p.0)

-- the same under another name
told : {A B : Type 0} → (A → B) → (B → A) → Decided A → Decided B
told f g (inl a) = inl (f a)
told f g (inr a) = inr (λ b. a (g b))

within : (s : TenantScript) → Decided (IsWithin s)
within s =
    told (λ p. record { arena = p.0.0.0; cells = p.0.0.1; budgets = p.0.1.0; tenants = p.0.1.1; fuels = p.1.0.0; programs = p.1.0.1; starts = p.1.1.0; finishes = p.1.1.1 })
    (λ w. (((w.arena, w.cells), (w.budgets, w.tenants)), ((w.fuels, w.programs), (w.starts, w.finishes))))
    (both (both (both (up_to 4194304 s.arena) (each HasCells (λ t. at_least t.cells) s.tenants)) (both (at_most (all_cells s.tenants) s.arena) (at_most (length s.tenants) 64)))
    (both (both (each EntryIsWithin entry_within s.items) (at_most (length (program_names s.items)) 64)) (both (at_most (start_count s.items) 4096) (at_most (finish_count s.items) 4096))))
  where
    at_least : (n : ℕ) → Decided (1 ≤ n)
    at_least n = at_most 1 n

once : (s : TenantScript) → Decided (HasOnce s)
once s = told (λ p. record { tenants = p.0; programs = p.1 }) (λ o. (o.tenants, o.programs)) (both (distinct (tenant_names s.tenants)) (distinct (program_names s.items)))

among : (b : Bool) → Decided (b ≡ true)
among true = inl refl
among false = inr (λ h. true_false false h refl)

is_of : (names : List (List ℕ)) (e : Entry) → Decided (IsOf names e)
is_of names (AProgram p) = inl tt
is_of names (AStart tenant j) = among (stands names tenant)
is_of names (AFinish tenant name) = among (stands names tenant)

demand : (k : ℕ) (s : TenantScript) → Decided (tenants_asks k s)
demand zero s = within s
demand (suc zero) s = once s
demand (suc (suc zero)) s = each (IsOf (tenant_names s.tenants)) (is_of (tenant_names s.tenants)) s.items
demand (suc (suc (suc k))) s = inl tt

pub tenants_decides : Decides tenants_machine
tenants_decides = record { asks = λ k s h. demand k (closed s) }
