-- What is written for an input.
use Rattle.std.proofs.Common.{◌≡◌, ℕ, ◌<◌, ◌≤◌, List, [], ◌∷◌, ◌++◌, length, map, refl, sym, ap, ◌∙◌, subst, arith, length-append, codes}
use Rattle.std.specs.Prelude.{flat_map, replicate}
use Rattle.std.specs.List.{AllByRecursion}
use Rattle.std.proofs.lemmas.Grind.{common_steps}
use Rattle.text_lines.specs.Lines.{text_of_lines}
use Rattle.text_lines.specs.Numbers.{number}
use Rattle.camelot_values.specs.Names.{AreDistinct}
use Rattle.cell_span.specs.declared.cell.Cell.{Cell}
use Rattle.cell_span.specs.Range.{Range, IsNew, IsWhole, blank}
use Rattle.licence.specs.Licensed.{Licensed}
use Rattle.tenant_desk.specs.Desk.{AreBudgets, budget}
use Rattle.job_script.specs.Scripts.{Job}
use Rattle.job_script.specs.Text.{arena_line, program_line, args_part}
use Rattle.run_reports.specs.declared.outcome.ProgramLine.{ProgramLine}
use Rattle.stops.specs.Stopping.{FaultIs}
use Rattle.stops.specs.declared.stop.Stop.{Stop}
use Rattle.stops.specs.declared.stop.Stop.TheVariants as stop
use Rattle.script_plans.specs.Answers.{Licensing, licensing_of}
use Rattle.script_plans.specs.declared.licensing.LicensedPrograms.{LicensedPrograms}
use Rattle.tenant_script.specs.Words.{entry_view, script_view, tenant_view}
use Rattle.tenant_script.specs.declared.types.Tenant.{Tenant as DeclaredTenant}
use Rattle.tenant_script.specs.declared.types.TenantEntry.{TenantEntry}
use Rattle.tenant_script.specs.declared.types.TenantScript.{TenantScript as DeclaredScript}
use Rattle.tenant_script.specs.Tenants.{Tenant, Entry, AProgram, AStart, AFinish, TenantScript, IsFormed, IsTenantScript, tenant_names}
use Rattle.tenant_script.specs.Text.{call_part, start_line, entry_text, tenants_text, IsTenantsText, tenant_text}
use Rattle.tenant_script.specs.Answers.{HasCause}
use Rattle.tenant_script.specs.declared.fault.TenantFault.{TenantFault}
use Rattle.tenant_service.specs.declared.holding.Shared.{Shared}
use Rattle.tenant_service.specs.declared.service.TenantsFault.{TenantsFault}
use Rattle.tenant_service.specs.Rooms.{whole}
use Rattle.tenant_service.specs.Texts.{answers_text, ends_text}
use Rattle.tenant_service.specs.Scripts.{programs_text, first_rooms}
use Rattle.tenant_service.specs.Service.{IsReplied}
use Rattle.tenant_service.specs.Holding.{AreRooms}
use Rattle.tenant_service.specs.Running.{AllDone, AreKnown, AreReady, HoldsRooms, ItemIsShort, cells_of, rooms_by, told_by}
use Rattle.tenant_service.specs.Handed.{IsRefusedFor}
use Rattle.tenant_service.specs.Written.{CanBeServed, IsAnswerTo, IsWritten, tenants_fault}
use Rattle.tenant_service.proofs.Numbering.{are_budgets, rooms_first}

-- ---- how long the parts of a text are

longer_left : (xs ys : List ℕ) → length xs ≤ length (xs ++ ys)
longer_left xs ys = omega (arith, length-append xs ys)

longer_right : (xs ys : List ℕ) → length ys ≤ length (xs ++ ys)
longer_right xs ys = omega (arith, length-append xs ys)

args_long : (args : List ℕ) → length args ≤ length (args_part args)
args_long [] = omega arith
args_long (b ∷ bs) = omega arith

-- what stands behind a word and a space
behind : (w r : List ℕ) → length r ≤ length (w ++ 32 ∷ r)
behind w r = omega (arith, length-append w (32 ∷ r))

call_long : (j : Job) → length (args_part j.args) ≤ length (call_part j)
call_long j =
    omega (
      arith,
      longer_right (number j.fuel) (args_part j.args),
      behind j.entry (number j.fuel ++ args_part j.args),
      behind j.program (j.entry ++ 32 ∷ (number j.fuel ++ args_part j.args)),
      behind j.name (j.program ++ 32 ∷ (j.entry ++ 32 ∷ (number j.fuel ++ args_part j.args))),
    )

start_long : (tenant : List ℕ) (j : Job) → length (args_part j.args) ≤ length (start_line tenant j)
start_long tenant j = omega (arith, call_long j, longer_right tenant (call_part j), behind (codes "start") (tenant ++ call_part j))

entry_long : (e : Entry) → ItemIsShort (length (entry_text e)) e
entry_long (AProgram p) =
    let a = longer_left p.text (text_of_lines (codes "." ∷ [])) in
    let b = longer_right (text_of_lines (program_line p.name p.language ∷ [])) (p.text ++ text_of_lines (codes "." ∷ [])) in
    omega (arith, a, b)
entry_long (AStart tenant j) = omega (arith, args_long j.args, start_long tenant j, longer_left (start_line tenant j ++ 10 ∷ []) [], longer_left (start_line tenant j) (10 ∷ []))
entry_long (AFinish tenant job) = tt

short_more : (m n : ℕ) (e : Entry) → m ≤ n → ItemIsShort m e → ItemIsShort n e
short_more m n (AProgram p) h k = omega (arith, h, k)
short_more m n (AStart tenant j) h k = omega (arith, h, k)
short_more m n (AFinish tenant job) h k = tt

items_short : (n : ℕ) (es : List Entry) → length (flat_map entry_text es) ≤ n → AllByRecursion (ItemIsShort n) es
items_short n [] h = tt
items_short n (e ∷ es) h =
    (short_more (length (entry_text e)) n e (omega (arith, h, longer_left (entry_text e) (flat_map entry_text es))) (entry_long e), items_short n es (omega (arith, h, longer_right (entry_text e) (flat_map entry_text es))))

script_short : (text : List ℕ) (s : TenantScript) → IsTenantsText text s → length text < 4294967296 → AllByRecursion (ItemIsShort 4294967295) s.items
unfolding tenants_text
script_short text s h few =
    let front = text_of_lines (arena_line s.arena ∷ []) ++ flat_map tenant_text s.tenants in
    let long : length (flat_map entry_text s.items) ≤ length text = subst (λ t. length (flat_map entry_text s.items) ≤ length t) h.is (longer_right front (flat_map entry_text s.items)) in
    items_short 4294967295 s.items (omega (arith, long, few))

-- ---- the script that was read

pub can_be_served : (text : List ℕ) (s : TenantScript) → ((text : List ℕ) (s : TenantScript) → IsTenantsText text s → IsTenantScript s) → IsTenantsText text s → length text < 4294967296 → CanBeServed s
can_be_served text s right h few = record { right = right text s h; short = script_short text s h few }

are_ready : (s : TenantScript) → CanBeServed s → AreReady s.tenants s.items
are_ready s h = record { known = h.right.known; short = h.short; within = h.right.within.fuels }

-- ---- the arena

blanks_many : (n : ℕ) (c : Cell) → length (replicate n c) ≡ n
blanks_many n c = grind (arith, common_steps)

cells_many : (r : Range) (n : ℕ) → IsNew r n → length r.cells ≡ n
cells_many r n h = ap length h.blanks ∙ blanks_many n blank

pub new_whole : (r : Range) (n : ℕ) → IsNew r n → IsWhole r
new_whole r n h = record { from = h.first; all = cells_many r n h ∙ sym h.size }

can_budget : (s : TenantScript) (r : Range) (bs : List ℕ) → CanBeServed s → IsNew r s.arena → bs ≡ map cells_of s.tenants → AreBudgets (length r.cells) bs
can_budget s r bs h new is =
    are_budgets (length r.cells) s.tenants bs is h.right.formed.some h.right.within.tenants h.right.within.cells (omega (arith, h.right.within.budgets, cells_many r s.arena new))

first_holds : (licences : List Licensed) (ts : List Tenant) (bs : List ℕ) (s : Shared) → AreDistinct (tenant_names ts) → bs ≡ map cells_of ts → AreRooms licences s (map whole bs) → map budget s.desk.pieces ≡ bs
    → HoldsRooms licences ts (first_rooms ts) s
first_holds licences ts bs s distinct is are budgets = record { are = subst (AreRooms licences s) (ap (map whole) is ∙ rooms_first ts distinct) are; budgets = budgets ∙ is }

-- ---- what is written

pub is_written : (licences : List Licensed) (ts : List Tenant) (items : List Entry) (lines : List ProgramLine) (s : Shared) (start programs text output : List ℕ) → start ≡ [] → programs ≡ start ++ programs_text items lines
    → (d : AllDone licences items ts programs s text) → output ≡ text ++ ends_text ts (rooms_by ts (first_rooms ts) items d.fates) → IsWritten ts items lines output
is_written licences ts items lines s start programs text output none first d last =
    let ends = ends_text ts (rooms_by ts (first_rooms ts) items d.fates) in
    record {
      fates = d.fates;
      are = d.are;
      meant = d.meant;
      is = last ∙ ap (λ l. l ++ ends) (d.told ∙ ap (λ l. l ++ answers_text (told_by ts (first_rooms ts) items d.fates)) (first ∙ ap (λ l. l ++ programs_text items lines) none));
    }

is_answer : (script : TenantScript) (l : Licensing) (output : List ℕ) → AreKnown script.items l → IsWritten script.tenants script.items l.lines output → IsAnswerTo script output
is_answer script l output known w = record {
  served = record { script = script; programs = l.lines; fates = w.fates };
  same = refl;
  are = record { are_programs = known.told; are_fates = w.are };
  meant = w.meant;
  is = w.is;
}

-- two scripts of one text are the same
abbrev pub OneScript : Type 0
OneScript = (s t : TenantScript) → IsFormed s → IsFormed t → tenants_text s ≡ tenants_text t → s ≡ t

pub is_replied : (input : List ℕ) (script : TenantScript) (output : List ℕ) → OneScript → IsTenantsText input script → IsAnswerTo script output → IsReplied input output
is_replied input script output one text a = record {
  served = a.served;
  is_served = record {
    text = subst (IsTenantsText input) (sym a.same) text;
    only = λ t is. one t script is.right.0.0.0 text.right.0.0.0 (is.is ∙ sym text.is) ∙ sym a.same;
    are = a.are;
    meant = a.meant;
  };
  is = a.is;
}

pub refused : (input : List ℕ) (x : Stop TenantFault) (y : TenantsFault) → y ≡ tenants_fault x → FaultIs (HasCause input) x → IsRefusedFor input y
refused input x y e h = subst (IsRefusedFor input) (sym e) (by_stop x h)
  where
    by_stop : (x : Stop TenantFault) → FaultIs (HasCause input) x → IsRefusedFor input (tenants_fault x)
    by_stop (stop.Fault f) h = h
    by_stop stop.Memory h = tt

-- ---- the code's script

-- the tenants and the entries, as the code hands them on
pub ready_from : (script : DeclaredScript) (tenants : List DeclaredTenant) (items : List TenantEntry) → tenants ≡ script.tenants.items → items ≡ script.items.items → CanBeServed (script_view script)
    → AreReady (map tenant_view tenants) (map entry_view items)
ready_from script tenants items t i h =
    subst (λ (l : List DeclaredTenant). AreReady (map tenant_view l) (map entry_view items)) (sym t) (subst (λ (l : List TenantEntry). AreReady (map tenant_view script.tenants.items) (map entry_view l)) (sym i) (are_ready (script_view script) h))

pub begun_from : (licences : List Licensed) (script : DeclaredScript) (tenants others : List DeclaredTenant) (bs : List ℕ) (s : Shared) → tenants ≡ script.tenants.items → others ≡ script.tenants.items → CanBeServed (script_view script)
    → bs ≡ map cells_of (map tenant_view others) → AreRooms licences s (map whole bs) → map budget s.desk.pieces ≡ bs → HoldsRooms licences (map tenant_view tenants) (first_rooms (map tenant_view tenants)) s
begun_from licences script tenants others bs s t o h is are budgets =
    subst (λ (l : List DeclaredTenant). HoldsRooms licences (map tenant_view l) (first_rooms (map tenant_view l)) s) (sym t)
    (first_holds licences (map tenant_view script.tenants.items) bs s h.right.once.tenants (is ∙ ap (λ (l : List DeclaredTenant). map cells_of (map tenant_view l)) o) are budgets)

pub budgets_from : (script : DeclaredScript) (tenants : List DeclaredTenant) (r : Range) (bs : List ℕ) → tenants ≡ script.tenants.items → CanBeServed (script_view script) → IsNew r script.arena → bs ≡ map cells_of (map tenant_view tenants)
    → AreBudgets (length r.cells) bs
budgets_from script tenants r bs t h new is = can_budget (script_view script) r bs h new (is ∙ ap (λ (l : List DeclaredTenant). map cells_of (map tenant_view l)) t)

pub answer_from : (script : DeclaredScript) (given items : List TenantEntry) (tenants : List DeclaredTenant) (p : LicensedPrograms) (lines : List ProgramLine) (output : List ℕ) → given ≡ script.items.items → tenants ≡ script.tenants.items
    → items ≡ script.items.items → lines ≡ p.lines.items → AreKnown (map entry_view given) (licensing_of p) → IsWritten (map tenant_view tenants) (map entry_view items) lines output → IsAnswerTo (script_view script) output
answer_from script given items tenants p lines output g t i l known w =
    is_answer (script_view script) (licensing_of p) output (subst (λ (es : List TenantEntry). AreKnown (map entry_view es) (licensing_of p)) g known) (
    subst (λ (ls : List ProgramLine). IsWritten (map tenant_view script.tenants.items) (map entry_view script.items.items) ls output) l (
    subst (λ (es : List TenantEntry). IsWritten (map tenant_view script.tenants.items) (map entry_view es) lines output) i
    (subst (λ (ts : List DeclaredTenant). IsWritten (map tenant_view ts) (map entry_view items) lines output) t w)))
