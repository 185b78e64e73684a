-- The reader of a tenant script: what it takes, and why it refuses a line.
use Rattle.std.proofs.Common.{◌≡◌, ℕ, suc, ◌-◌, ◌<◌, ◌≤◌, true, false, List, [], ◌∷◌, ◌++◌, length, map, Option, Some, None, refl, sym, ap, ◌∙◌, subst, arith, length-append}
use Rattle.std.specs.Prelude.{codes}
use Rattle.std.specs.Global.{Vec}
use Rattle.std.specs.Option.{option_map}
use Rattle.std.specs.List.{AllByRecursion}
use Rattle.camelot_values.specs.Names.{AreDistinct, stands}
use Rattle.text_lines.specs.Formats.{IsRight}
use Rattle.text_lines.specs.Machines.{IsNext}
use Rattle.text_lines.specs.Cuts.{and_then, only_if}
use Rattle.text_lines.specs.OptionLaws.{map_is}
use Rattle.text_lines.specs.FrontLaws.{all_append, all_last}
use Rattle.text_lines.specs.Answers.{KindIs}
use Rattle.job_script.specs.Scripts.{IsUpTo}
use Rattle.job_script.specs.Reading.{number_behind, IsStopped}
use Rattle.job_script.specs.Steps.{IsAdded, IsRefused as NameIsRefused}
use Rattle.job_script.specs.DemandLaws.{distinct_more, distinct_not}
use Rattle.job_script.specs.declared.stop.LineStop.{LineStop}
use Rattle.job_script.specs.declared.stop.LineStop.TheVariants as stop
use Rattle.tenant_script.specs.Tenants.{Tenant, Entry, TenantScript, IsFormed, all_cells, program_names, HasCells, IsWithin, tenant_names, HasOnce, HasTenants}
use Rattle.tenant_script.specs.Text.{tenants_format}
use Rattle.tenant_script.specs.Reading.{HTenant, tenant_of, first_of, head_of, State, Sized, Between, script_by, least_tenant, is_empty, with_first, enter, step, closed, tenants_machine}
use Rattle.tenant_script.specs.StateLaws.{names_append, cells_append, step_formed, within_least, once_first}
use Rattle.tenant_script.specs.Words.{tenant_view, entry_view}
use Rattle.tenant_script.specs.Parts.{refused_of, state_by, state_of, StageIsReady, IsBefore, IsTaken, IsLeft, HasSize, with_tenant, HasOnlyTenants}
use Rattle.tenant_script.specs.declared.fault.Kind.TheVariants as kind
use Rattle.tenant_script.specs.declared.types.Tenant.{Tenant as DeclaredTenant}
use Rattle.tenant_script.specs.declared.reading.Stage.{Stage}
use Rattle.tenant_script.specs.declared.reading.Stage.TheVariants as stage
use Rattle.tenant_script.specs.declared.reading.TenantReader.{TenantReader}

-- ---- why a line is refused, or goes on

-- the plain tenants and entries of a reader
abbrev pub tenants : TenantReader → List Tenant
tenants r = map tenant_view r.tenants.items

abbrev pub entries : TenantReader → List Entry
entries r = map entry_view r.items.items

abbrev pub script : TenantReader → TenantScript
script r = script_by r.arena (tenants r) (entries r)

formed : (r : TenantReader) (line after : List ℕ) (t : State) → IsBefore r line after → step (state_of r) line ≡ Some t → IsFormed (closed t)
formed r line after t b e = step_formed (state_of r) t line b.one b.right.0.0.0 e

pub much : (r : TenantReader) (line after : List ℕ) (t : State) → IsBefore r line after → step (state_of r) line ≡ Some t → (IsWithin (closed t) → ⊥) → IsLeft r line kind.Count
much r line after t b e wide = record { state = t; is = e; below = omega arith; meets = formed r line after t b e; wrong = wide }

pub repeated : (r : TenantReader) (line after : List ℕ) (t : State) → IsBefore r line after → step (state_of r) line ≡ Some t → IsWithin (closed t)
    → (HasOnce (closed t) → ⊥) → IsLeft r line kind.Repeat
repeated r line after t b e w twice = record { state = t; is = e; below = omega arith; meets = (formed r line after t b e, w); wrong = twice }

pub absent : (r : TenantReader) (line after : List ℕ) (t : State) → IsBefore r line after → step (state_of r) line ≡ Some t → IsWithin (closed t)
    → HasOnce (closed t) → (HasTenants (closed t) → ⊥) → IsLeft r line kind.Tenant
absent r line after t b e w o none = record { state = t; is = e; below = omega arith; meets = ((formed r line after t b e, w), o); wrong = none }

pub goes_on : (r : TenantReader) (line after : List ℕ) (t : State) → IsBefore r line after → step (state_of r) line ≡ Some t → IsWithin (closed t)
    → HasOnce (closed t) → HasTenants (closed t) → IsNext tenants_machine (state_of r) line t
goes_on r line after t b e w o k = record { is = e; right = (((formed r line after t b e, w), o), k) }

-- the state, by the stage
pub state_at : (r : TenantReader) (s : Stage) → r.stage ≡ s → state_of r ≡ state_by s r.arena (tenants r) (entries r)
state_at r s e = ap (λ s. state_by s r.arena (tenants r) (entries r)) e

pub step_at : (r : TenantReader) (s : Stage) (line : List ℕ) → r.stage ≡ s → step (state_of r) line ≡ step (state_by s r.arena (tenants r) (entries r)) line
step_at r s line e = ap (λ s. step s line) (state_at r s e)

pub right_at : (r : TenantReader) (s : Stage) (line after : List ℕ) → r.stage ≡ s → IsBefore r line after
    → IsRight tenants_format (closed (state_by s r.arena (tenants r) (entries r)))
right_at r s line after e b = subst (λ t. IsRight tenants_format (closed t)) (state_at r s e) b.right

pub ready_at : (r : TenantReader) (s : Stage) (line after : List ℕ) → r.stage ≡ s → IsBefore r line after → StageIsReady s (tenants r) (entries r) (line ++ 10 ∷ after)
ready_at r s line after e b = subst (λ s. StageIsReady s (tenants r) (entries r) (line ++ 10 ∷ after)) e b.ready.stage

pub programs_at : (r : TenantReader) (s : Stage) (line after : List ℕ) → r.stage ≡ s → IsBefore r line after
    → r.programs ≡ program_names (closed (state_by s r.arena (tenants r) (entries r))).items
programs_at r s line after e b = b.ready.kept.programs ∙ ap (λ t. program_names (closed t).items) (state_at r s e)

-- ---- the arena

pub arena_stopped : (s : LineStop) (r : TenantReader) (line after : List ℕ) → r.stage ≡ stage.Start → IsBefore r line after
    → IsStopped (number_behind (codes "arena") line) (IsUpTo 4194304) s → KindIs (IsLeft r line) (refused_of s)
arena_stopped stop.Line r line after e b h = step_at r stage.Start line e ∙ ap (option_map Sized) h
arena_stopped stop.Count r line after e b h = much r line after (Sized h.x) b (step_at r stage.Start line e ∙ map_is Sized (number_behind (codes "arena") line) h.x h.is) (λ w. h.wide w.arena)
arena_stopped stop.Repeat r line after e b h = absurd h
arena_stopped stop.Memory r line after e b h = tt

pub arena_taken : (r : TenantReader) (line after : List ℕ) (n : ℕ) → r.stage ≡ stage.Start → IsBefore r line after
    → number_behind (codes "arena") line ≡ Some n → IsUpTo 4194304 n
    → IsTaken r (record r { stage = stage.Sized; arena = n; left = n }) line after
arena_taken r line after n e b h k =
    let none = ready_at r stage.Start line after e b in
    record {
      next = goes_on r line after (Sized n) b (step_at r stage.Start line e ∙ map_is Sized (number_behind (codes "arena") line) n h) (within_least n k.least k.most) (once_first n least_tenant) tt;
      ready = record {
        stage = none;
        kept = record {
          left = omega (arith, ap all_cells none.0);
          names = b.ready.kept.names;
          programs = programs_at r stage.Start line after e b;
          starts = b.ready.kept.starts;
          finishes = b.ready.kept.finishes;
        };
      };
    }

-- ---- tenants

names_long : (ts : List Tenant) → length (tenant_names ts) ≡ length ts
names_long [] = refl
names_long (t ∷ ts) = ap suc (names_long ts)

-- a script of tenants alone
within_tenants : (arena : ℕ) (ts : List Tenant) (es : List Entry) → IsUpTo 4194304 arena → AllByRecursion HasCells ts → all_cells ts ≤ arena → length ts ≤ 64 → es ≡ []
    → IsWithin (script_by arena ts es)
within_tenants arena ts es a c b l e = subst (λ es. IsWithin (script_by arena ts es)) (sym e) (record {
  arena = a;
  cells = c;
  budgets = b;
  tenants = l;
  fuels = tt;
  programs = omega arith;
  starts = omega arith;
  finishes = omega arith;
})

known_tenants : (arena : ℕ) (ts : List Tenant) (es : List Entry) → es ≡ [] → HasTenants (script_by arena ts es)
known_tenants arena ts es e = subst (λ es. HasTenants (script_by arena ts es)) (sym e) tt

-- the step of a tenant's line
tenant_step : (r : TenantReader) (line rest : List ℕ) (t : Tenant) → step (state_of r) line ≡ option_map (with_tenant r) (tenant_of rest) → tenant_of rest ≡ Some t
    → step (state_of r) line ≡ Some (with_tenant r t)
tenant_step r line rest t e h = e ∙ ap (option_map (with_tenant r)) h

pub tenant_stopped : (s : LineStop) (r : TenantReader) (line after rest : List ℕ) → IsBefore r line after
    → step (state_of r) line ≡ option_map (with_tenant r) (tenant_of rest) → IsStopped (tenant_of rest) HasSize s → KindIs (IsLeft r line) (refused_of s)
tenant_stopped stop.Line r line after rest b e h = e ∙ ap (option_map (with_tenant r)) h
tenant_stopped stop.Count r line after rest b e h =
    much r line after (with_tenant r h.x) b (tenant_step r line rest h.x e h.is)
    (λ w. h.wide (record { least = all_last HasCells (tenants r) h.x w.cells; most = omega (arith, w.arena.most, w.budgets, cells_append (tenants r) (h.x ∷ [])) }))
tenant_stopped stop.Repeat r line after rest b e h = absurd h
tenant_stopped stop.Memory r line after rest b e h = tt

pub tenant_large : (r : TenantReader) (line after rest : List ℕ) (t : Tenant) → IsBefore r line after
    → step (state_of r) line ≡ option_map (with_tenant r) (tenant_of rest) → tenant_of rest ≡ Some t → r.left < t.cells → IsLeft r line kind.Count
tenant_large r line after rest t b e h k =
    much r line after (with_tenant r t) b (tenant_step r line rest t e h) (λ w. absurd (omega (arith, k, w.budgets, cells_append (tenants r) (t ∷ []), b.ready.kept.left)))

-- with one more tenant that is not too large and not one too many
tenant_within : (r : TenantReader) (line after : List ℕ) (t : Tenant) → IsBefore r line after → HasOnlyTenants r → HasSize t → t.cells ≤ r.left → length r.names < 64
    → IsWithin (closed (with_tenant r t))
tenant_within r line after t b o f k few =
    within_tenants r.arena (tenants r ++ t ∷ []) (entries r) o.arena (all_append HasCells (tenants r) (t ∷ []) o.cells (f.least, tt)) (omega (arith, k, cells_append (tenants r) (t ∷ []), b.ready.kept.left))
    (omega (arith, few, ap length b.ready.kept.names, names_long (tenants r), length-append (tenants r) (t ∷ []))) o.none

pub tenant_named : (s : LineStop) (r : TenantReader) (line after rest : List ℕ) (t : Tenant) → IsBefore r line after → HasOnlyTenants r
    → step (state_of r) line ≡ option_map (with_tenant r) (tenant_of rest) → tenant_of rest ≡ Some t → HasSize t → t.cells ≤ r.left
    → NameIsRefused 64 r.names t.name s → KindIs (IsLeft r line) (refused_of s)
tenant_named stop.Line r line after rest t b o e h f k n = absurd n
tenant_named stop.Count r line after rest t b o e h f k n =
    much r line after (with_tenant r t) b (tenant_step r line rest t e h)
    (λ w. absurd (omega (arith, n, w.tenants, ap length b.ready.kept.names, names_long (tenants r), length-append (tenants r) (t ∷ []))))
tenant_named stop.Repeat r line after rest t b o e h f k n =
    repeated r line after (with_tenant r t) b (tenant_step r line rest t e h) (tenant_within r line after t b o f k n.few)
    (λ w. distinct_not (tenant_names (tenants r)) t.name (subst (λ l. stands l t.name ≡ true) b.ready.kept.names n.old) (subst AreDistinct (names_append (tenants r) (t ∷ [])) w.tenants))
tenant_named stop.Memory r line after rest t b o e h f k n = tt

pub tenant_taken : (r : TenantReader) (ts : Vec DeclaredTenant) (names : List (List ℕ)) (line after rest : List ℕ) (t : Tenant) → IsBefore r line after → HasOnlyTenants r
    → step (state_of r) line ≡ option_map (with_tenant r) (tenant_of rest) → tenant_of rest ≡ Some t → HasSize t → t.cells ≤ r.left
    → IsAdded 64 r.names t.name names → map tenant_view ts.items ≡ tenants r ++ t ∷ []
    → IsTaken r (record r { stage = stage.Between; left = r.left - t.cells; tenants = ts; names = names }) line after
tenant_taken r ts names line after rest t b o e h f k n more = record {
  next = subst (λ l. IsNext tenants_machine (state_of r) line (Between (script_by r.arena l (entries r)))) (sym more) (goes_on r line after (with_tenant r t) b (tenant_step r line rest t e h) (tenant_within r line after t b o f k n.few) (record {
    tenants = subst AreDistinct (sym (names_append (tenants r) (t ∷ []))) (distinct_more (tenant_names (tenants r)) t.name o.once (subst (λ l. stands l t.name ≡ false) b.ready.kept.names n.new));
    programs = subst (λ es. AreDistinct (program_names es)) (sym o.none) (once_first 1 least_tenant).programs;
  }) (known_tenants r.arena (tenants r ++ t ∷ []) (entries r) o.none));
  ready = record {
    stage = tt;
    kept = record {
      left = omega (arith, k, b.ready.kept.left, ap all_cells more, cells_append (tenants r) (t ∷ []));
      names = n.is ∙ ap (λ l. l ++ t.name ∷ []) b.ready.kept.names ∙ sym (names_append (tenants r) (t ∷ [])) ∙ ap tenant_names (sym more);
      programs = o.programs ∙ sym (ap program_names o.none);
      starts = b.ready.kept.starts;
      finishes = b.ready.kept.finishes;
    };
  };
}

-- ---- where a tenant's line may come

first_step : (arena : ℕ) (o : Option Tenant) (ts : List Tenant) (es : List Entry) → ts ≡ [] → es ≡ []
    → option_map (with_first arena) o ≡ option_map (λ t. Between (script_by arena (ts ++ t ∷ []) es)) o
first_step arena None ts es e f = refl
first_step arena (Some t) ts es e f = λ i. Some (Between (script_by arena (sym e i ++ t ∷ []) (sym f i)))

enter_step : (arena : ℕ) (o : Option Tenant) (ts : List Tenant) (es : List Entry) → es ≡ []
    → and_then (option_map HTenant o) (enter (script_by arena ts es)) ≡ option_map (λ t. Between (script_by arena (ts ++ t ∷ []) es)) o
enter_step arena None ts es f = refl
enter_step arena (Some t) ts es f = ap (λ es. only_if (is_empty es) (Some (Between (script_by arena (ts ++ t ∷ []) es)))) f ∙ ap (λ es. Some (Between (script_by arena (ts ++ t ∷ []) es))) (sym f)

pub step_first : (r : TenantReader) (line after rest : List ℕ) → r.stage ≡ stage.Sized → IsBefore r line after → first_of line ≡ tenant_of rest
    → step (state_of r) line ≡ option_map (with_tenant r) (tenant_of rest)
step_first r line after rest e b h =
    let none = ready_at r stage.Sized line after e b in
    step_at r stage.Sized line e ∙ ap (option_map (with_first r.arena)) h ∙ first_step r.arena (tenant_of rest) (tenants r) (entries r) none.0 none.1

pub no_first : (r : TenantReader) (line : List ℕ) → r.stage ≡ stage.Sized → first_of line ≡ None → step (state_of r) line ≡ None
no_first r line e h = step_at r stage.Sized line e ∙ ap (option_map (with_first r.arena)) h

pub step_further : (r : TenantReader) (line rest : List ℕ) → r.stage ≡ stage.Between → entries r ≡ [] → head_of line ≡ option_map HTenant (tenant_of rest)
    → step (state_of r) line ≡ option_map (with_tenant r) (tenant_of rest)
step_further r line rest e f h =
    step_at r stage.Between line e ∙ ap (λ o. and_then o (enter (script r))) h ∙ enter_step r.arena (tenant_of rest) (tenants r) (entries r) f

late_step : (arena : ℕ) (o : Option Tenant) (ts : List Tenant) (es : List Entry) → is_empty es ≡ false → and_then (option_map HTenant o) (enter (script_by arena ts es)) ≡ None
late_step arena None ts es h = refl
late_step arena (Some t) ts es h = ap (λ b. only_if b (Some (Between (script_by arena (ts ++ t ∷ []) es)))) h

pub step_late : (r : TenantReader) (line rest : List ℕ) → r.stage ≡ stage.Between → is_empty (entries r) ≡ false → head_of line ≡ option_map HTenant (tenant_of rest)
    → step (state_of r) line ≡ None
step_late r line rest e f h =
    step_at r stage.Between line e ∙ ap (λ o. and_then o (enter (script r))) h ∙ late_step r.arena (tenant_of rest) (tenants r) (entries r) f

pub only_first : (r : TenantReader) (line after : List ℕ) → r.stage ≡ stage.Sized → IsBefore r line after → HasOnlyTenants r
only_first r line after e b =
    let none = ready_at r stage.Sized line after e b in
    let right = right_at r stage.Sized line after e b in
    record {
      arena = right.0.0.1.arena;
      cells = subst (AllByRecursion HasCells) (sym none.0) tt;
      once = subst (λ ts. AreDistinct (tenant_names ts)) (sym none.0) (once_first 1 least_tenant).programs;
      none = none.1;
      programs = programs_at r stage.Sized line after e b;
    }

pub only_further : (r : TenantReader) (line after : List ℕ) → r.stage ≡ stage.Between → IsBefore r line after → entries r ≡ [] → HasOnlyTenants r
only_further r line after e b f =
    let right = right_at r stage.Between line after e b in
    record { arena = right.0.0.1.arena; cells = right.0.0.1.cells; once = right.0.1.tenants; none = f; programs = programs_at r stage.Between line after e b ∙ ap program_names f }
