-- Laws, for the proofs of this crate and of those above it.
-- The states of the reader: their text, and what a further line keeps.
use Rattle.std.proofs.Common.{◌≡◌, ℕ, zero, suc, ◌+◌, ◌≤◌, Bool, true, false, List, [], ◌∷◌, ◌++◌, length, Some, refl, sym, ap, ◌∙◌, subst, arith, append_assoc, append-nil, length-append}
use Rattle.std.specs.Prelude.{codes, flat_map}
use Rattle.std.specs.List.{AllByRecursion}
use Rattle.std.specs.Str.{bytes_eq}
use Rattle.camelot_values.specs.Names.{AreDistinct}
use Rattle.camelot_values.specs.NameLaws.{same_name, name_itself}
use Rattle.text_lines.specs.Lines.{Free, text_of_lines}
use Rattle.text_lines.specs.Formats.{IsRight}
use Rattle.text_lines.specs.Machines.{run, Leads, IsClosing, Shows}
use Rattle.text_lines.specs.OptionLaws.{some_same, then_some, then_is, only_some, map_some, map_is}
use Rattle.text_lines.specs.FrontLaws.{all_append, all_left, all_last, flat_append, lines_append}
use Rattle.text_lines.specs.ReadingLaws.{run_append}
use Rattle.job_script.specs.Scripts.{IsTextLine, ProgramIsFormed}
use Rattle.job_script.specs.Text.{arena_line, program_line}
use Rattle.job_script.specs.Reading.{number_behind}
use Rattle.job_script.specs.HeadLaws.{number_line_read, number_line_found, number_line_free}
use Rattle.job_script.specs.StateLaws.{body_more, lines_one}
use Rattle.job_script.specs.DemandLaws.{distinct_left}
use Rattle.job_script.specs.declared.types.Language.{Language}
use Rattle.tenant_script.specs.Tenants.{Tenant, Entry, AProgram, AStart, AFinish, TenantScript, TenantIsFormed, EntryIsFormed, IsFormed, all_cells, program_names, start_count, finish_count, HasCells, EntryIsWithin, IsWithin, tenant_names, HasOnce, IsOf, HasTenants, IsTenantScript}
use Rattle.tenant_script.specs.Text.{tenant_line, tenant_text, entry_text, tenants_text, tenants_asks, tenants_format}
use Rattle.tenant_script.specs.Reading.{Head, HTenant, HProgram, HStart, HFinish, first_of, head_of, State, Start, Sized, Between, Inside, script_by, add_tenant, add, program_by, least_tenant, is_empty, with_first, enter, text_step, step, closed, so_far, may_end, tenants_machine}
use Rattle.tenant_script.specs.LineLaws.{head_line, HeadIsFormed, first_read, first_found, head_read, head_found, head_free}

-- ---- lists

pub programs_append : (xs ys : List Entry) → program_names (xs ++ ys) ≡ program_names xs ++ program_names ys
programs_append [] ys = refl
programs_append (AProgram p ∷ xs) ys = ap (λ l. p.name ∷ l) (programs_append xs ys)
programs_append (AStart tenant j ∷ xs) ys = programs_append xs ys
programs_append (AFinish tenant name ∷ xs) ys = programs_append xs ys

pub starts_append : (xs ys : List Entry) → start_count (xs ++ ys) ≡ start_count xs + start_count ys
starts_append [] ys = omega arith
starts_append (AProgram p ∷ xs) ys = starts_append xs ys
starts_append (AStart tenant j ∷ xs) ys = omega (arith, starts_append xs ys)
starts_append (AFinish tenant name ∷ xs) ys = starts_append xs ys

pub finishes_append : (xs ys : List Entry) → finish_count (xs ++ ys) ≡ finish_count xs + finish_count ys
finishes_append [] ys = omega arith
finishes_append (AProgram p ∷ xs) ys = finishes_append xs ys
finishes_append (AStart tenant j ∷ xs) ys = finishes_append xs ys
finishes_append (AFinish tenant name ∷ xs) ys = omega (arith, finishes_append xs ys)

pub names_append : (xs ys : List Tenant) → tenant_names (xs ++ ys) ≡ tenant_names xs ++ tenant_names ys
names_append [] ys = refl
names_append (t ∷ xs) ys = ap (λ l. t.name ∷ l) (names_append xs ys)

pub cells_append : (xs ys : List Tenant) → all_cells (xs ++ ys) ≡ all_cells xs + all_cells ys
cells_append [] ys = omega arith
cells_append (t ∷ xs) ys = omega (arith, cells_append xs ys)

pub none_is : {A : Type 0} (xs : List A) → is_empty xs ≡ true → xs ≡ []
none_is [] h = refl
none_is (x ∷ xs) h = absurd cc

-- ---- the text of a state

-- something behind the middle part, where the last one is empty
put_between : (a b c d : List ℕ) → d ≡ [] → (a ++ (b ++ c)) ++ d ≡ ((a ++ b) ++ d) ++ c
put_between a b c d e =
    ap (λ d. (a ++ (b ++ c)) ++ d) e ∙ append-nil (a ++ (b ++ c)) ∙ sym (append_assoc a b c) ∙ ap (λ l. l ++ c) (sym (append-nil (a ++ b)) ∙ ap (λ d. (a ++ b) ++ d) (sym e))

add_tenant_text : (s : TenantScript) (t : Tenant) → s.items ≡ [] → tenants_text (add_tenant s t) ≡ tenants_text s ++ tenant_text t
unfolding tenants_text
add_tenant_text s t e =
    let a : List ℕ = text_of_lines (arena_line s.arena ∷ []) in
    ap (λ l. (a ++ l) ++ flat_map entry_text s.items) (flat_append tenant_text s.tenants (t ∷ []) ∙ ap (λ l. flat_map tenant_text s.tenants ++ l) (append-nil (tenant_text t)))
    ∙ put_between a (flat_map tenant_text s.tenants) (tenant_text t) (flat_map entry_text s.items) (ap (flat_map entry_text) e)

pub add_text : (s : TenantScript) (e : Entry) → tenants_text (add s e) ≡ tenants_text s ++ entry_text e
unfolding tenants_text
add_text s e =
    let front : List ℕ = text_of_lines (arena_line s.arena ∷ []) ++ flat_map tenant_text s.tenants in
    ap (λ l. front ++ l) (flat_append entry_text s.items (e ∷ []) ∙ ap (λ l. flat_map entry_text s.items ++ l) (append-nil (entry_text e)))
    ∙ sym (append_assoc front (flat_map entry_text s.items) (entry_text e))

first_text : (arena : ℕ) (t : Tenant) → tenants_text (script_by arena (t ∷ []) []) ≡ text_of_lines (arena_line arena ∷ []) ++ tenant_text t
unfolding tenants_text
first_text arena t =
    append-nil (text_of_lines (arena_line arena ∷ []) ++ flat_map tenant_text (t ∷ [])) ∙ ap (λ l. text_of_lines (arena_line arena ∷ []) ++ l) (append-nil (tenant_text t))

enter_far : (s : TenantScript) (h : Head) (t : State) (line : List ℕ) → line ≡ head_line h → enter s h ≡ Some t → so_far t ≡ tenants_text s ++ text_of_lines (line ∷ [])
enter_far s (HTenant u) t line e f =
    let p = only_some (is_empty s.items) (Some (Between (add_tenant s u))) t f in
    ap so_far (sym (some_same (Between (add_tenant s u)) t p.1)) ∙ add_tenant_text s u (none_is s.items p.0) ∙ ap (λ l. tenants_text s ++ text_of_lines (l ∷ [])) (sym e)
enter_far s (HProgram name language) t line e f =
    ap so_far (sym (some_same (Inside s name language []) t f)) ∙ ap (λ l. tenants_text s ++ l) (append-nil (text_of_lines (program_line name language ∷ []))) ∙ ap (λ l. tenants_text s ++ text_of_lines (l ∷ [])) (sym e)
enter_far s (HStart tenant j) t line e f =
    ap so_far (sym (some_same (Between (add s (AStart tenant j))) t f)) ∙ add_text s (AStart tenant j) ∙ ap (λ l. tenants_text s ++ text_of_lines (l ∷ [])) (sym e)
enter_far s (HFinish tenant name) t line e f =
    ap so_far (sym (some_same (Between (add s (AFinish tenant name))) t f)) ∙ add_text s (AFinish tenant name) ∙ ap (λ l. tenants_text s ++ text_of_lines (l ∷ [])) (sym e)

-- the script, a program's first line, its text so far, and one thing more
text_more : (s : TenantScript) (name : List ℕ) (language : Language) (text more : List ℕ)
    → tenants_text s ++ (text_of_lines (program_line name language ∷ []) ++ (text ++ more)) ≡ (tenants_text s ++ (text_of_lines (program_line name language ∷ []) ++ text)) ++ more
text_more s name language text more =
    ap (λ l. tenants_text s ++ l) (sym (append_assoc (text_of_lines (program_line name language ∷ [])) text more)) ∙ sym (append_assoc (tenants_text s) (text_of_lines (program_line name language ∷ []) ++ text) more)

pub step_far : (s t : State) (line : List ℕ) → Free 10 line → step s line ≡ Some t → so_far t ≡ so_far s ++ text_of_lines (line ∷ [])
step_far Start t line f e =
    let (n, n_is, t_is) = map_some Sized (number_behind (codes "arena") line) t e in
    ap so_far t_is ∙ ap (λ l. text_of_lines (l ∷ [])) (sym (number_line_found (codes "arena") line n n_is))
step_far (Sized arena) t line f e =
    let (u, u_is, t_is) = map_some (with_first arena) (first_of line) t e in
    ap so_far t_is ∙ first_text arena u ∙ ap (λ l. text_of_lines (arena_line arena ∷ []) ++ text_of_lines (l ∷ [])) (sym (first_found line u u_is).1)
step_far (Between s) t line f e =
    let (h, h_is, t_is) = then_some (head_of line) (enter s) t e in
    enter_far s h t line (head_found line h f h_is).1 t_is
step_far (Inside s name language text) t line f e =
    ap so_far (sym (some_same (text_step s name language text line (bytes_eq line (codes "."))) t e)) ∙ by_test (bytes_eq line (codes ".")) refl
  where
    by_test : (b : Bool) → bytes_eq line (codes ".") ≡ b
        → so_far (text_step s name language text line b) ≡ (tenants_text s ++ (text_of_lines (program_line name language ∷ []) ++ text)) ++ text_of_lines (line ∷ [])
    by_test true h =
        add_text s (program_by name language text) ∙ ap (λ l. tenants_text s ++ (text_of_lines (program_line name language ∷ []) ++ (text ++ text_of_lines (l ∷ [])))) (sym (same_name line (codes ".") h))
        ∙ text_more s name language text (text_of_lines (line ∷ []))
    by_test false h = text_more s name language text (text_of_lines (line ∷ []))

closing : (s : State) → IsClosing tenants_machine s
closing Start = record { rest = tenants_text (script_by 1 (least_tenant ∷ []) []); is = refl }
closing (Sized arena) = record { rest = tenant_text least_tenant; is = first_text arena least_tenant }
closing (Between s) = record { rest = []; is = sym (append-nil (tenants_text s)) }
closing (Inside s name language text) = record {
  rest = text_of_lines (codes "." ∷ []);
  is = add_text s (program_by name language text) ∙ text_more s name language text (text_of_lines (codes "." ∷ []));
}

-- ---- form

formed_more : (s : TenantScript) (e : Entry) → IsFormed s → EntryIsFormed e → IsFormed (add s e)
formed_more s e h k = record { some = h.some; tenants = h.tenants; items = all_append EntryIsFormed s.items (e ∷ []) h.items (k, tt) }

formed_first : (arena : ℕ) (t : Tenant) → TenantIsFormed t → IsFormed (script_by arena (t ∷ []) [])
formed_first arena t h = record { some = omega arith; tenants = (h, tt); items = tt }

formed_tenant : (s : TenantScript) (t : Tenant) → IsFormed s → TenantIsFormed t → IsFormed (add_tenant s t)
formed_tenant s t h k = record { some = omega (arith, h.some, length-append s.tenants (t ∷ [])); tenants = all_append TenantIsFormed s.tenants (t ∷ []) h.tenants (k, tt); items = h.items }

least_formed : TenantIsFormed least_tenant
least_formed = record { form = refl; short = omega arith }

pub formed_least : IsFormed (script_by 1 (least_tenant ∷ []) [])
formed_least = formed_first 1 least_tenant least_formed

enter_formed : (s : TenantScript) (h : Head) (t : State) → IsFormed s → HeadIsFormed h → enter s h ≡ Some t → IsFormed (closed t)
enter_formed s (HTenant u) t g k f =
    subst (λ t. IsFormed (closed t)) (some_same (Between (add_tenant s u)) t (only_some (is_empty s.items) (Some (Between (add_tenant s u))) t f).1) (formed_tenant s u g k)
enter_formed s (HProgram name language) t g k f =
    subst (λ t. IsFormed (closed t)) (some_same (Inside s name language []) t f) (formed_more s (program_by name language []) g (record { name = k; text = record { lines = []; each = tt; is = refl } }))
enter_formed s (HStart tenant j) t g k f = subst (λ t. IsFormed (closed t)) (some_same (Between (add s (AStart tenant j))) t f) (formed_more s (AStart tenant j) g k)
enter_formed s (HFinish tenant name) t g k f = subst (λ t. IsFormed (closed t)) (some_same (Between (add s (AFinish tenant name))) t f) (formed_more s (AFinish tenant name) g k)

pub step_formed : (s t : State) (line : List ℕ) → Free 10 line → IsFormed (closed s) → step s line ≡ Some t → IsFormed (closed t)
step_formed Start t line f h e =
    let (n, n_is, t_is) = map_some Sized (number_behind (codes "arena") line) t e in subst (λ t. IsFormed (closed t)) (sym t_is) (formed_first n least_tenant least_formed)
step_formed (Sized arena) t line f h e =
    let (u, u_is, t_is) = map_some (with_first arena) (first_of line) t e in subst (λ t. IsFormed (closed t)) (sym t_is) (formed_first arena u (first_found line u u_is).0)
step_formed (Between s) t line f h e =
    let (d, d_is, t_is) = then_some (head_of line) (enter s) t e in enter_formed s d t h (head_found line d f d_is).0 t_is
step_formed (Inside s name language text) t line f h e =
    subst (λ t. IsFormed (closed t)) (some_same (text_step s name language text line (bytes_eq line (codes "."))) t e) (by_test (bytes_eq line (codes ".")) refl)
  where
    dot : bytes_eq line (codes ".") ≡ false → line ≡ codes "." → ⊥
    dot k q = let r : true ≡ false = sym (name_itself (codes ".")) ∙ ap (λ l. bytes_eq l (codes ".")) (sym q) ∙ k in absurd cc

    by_test : (b : Bool) → bytes_eq line (codes ".") ≡ b → IsFormed (closed (text_step s name language text line b))
    by_test true k = h
    by_test false k =
        let p : ProgramIsFormed (record { name = name; language = language; text = text }) = all_last EntryIsFormed s.items (program_by name language text) h.items in
        let items : AllByRecursion EntryIsFormed s.items = all_left EntryIsFormed s.items (program_by name language text ∷ []) h.items in
        formed_more s (program_by name language (text ++ text_of_lines (line ∷ []))) (record { some = h.some; tenants = h.tenants; items = items })
        (record { name = p.name; text = body_more text line p.text (record { one = f; goes_on = dot k }) })

-- ---- demands, from what follows

-- what holds of the first scripts, and is kept backwards
pub record IsBackward (P : TenantScript → Type 0) : Type 0 where
  pub least : P (script_by 1 (least_tenant ∷ []) [])
  pub one : (arena : ℕ) (t : Tenant) → P (script_by arena (t ∷ []) []) → P (script_by arena (least_tenant ∷ []) [])
  pub tenant : (s : TenantScript) (t : Tenant) → s.items ≡ [] → P (add_tenant s t) → P s
  pub entry : (s : TenantScript) (e : Entry) → P (add s e) → P s
  pub text : (s : TenantScript) (name : List ℕ) (language : Language) (text other : List ℕ) → P (add s (program_by name language other))
      → P (add s (program_by name language text))

pub within_least : (arena : ℕ) → 1 ≤ arena → arena ≤ 4194304 → IsWithin (script_by arena (least_tenant ∷ []) [])
within_least arena h k = record {
  arena = record { least = h; most = k };
  cells = (omega arith, tt);
  budgets = omega (arith, h);
  tenants = omega arith;
  fuels = tt;
  programs = omega arith;
  starts = omega arith;
  finishes = omega arith;
}

within_entry : (s : TenantScript) (e : Entry) → IsWithin (add s e) → IsWithin s
within_entry s e h = record {
  arena = h.arena;
  cells = h.cells;
  budgets = h.budgets;
  tenants = h.tenants;
  fuels = all_left EntryIsWithin s.items (e ∷ []) h.fuels;
  programs = omega (arith, h.programs, ap length (programs_append s.items (e ∷ [])), length-append (program_names s.items) (program_names (e ∷ [])));
  starts = omega (arith, h.starts, starts_append s.items (e ∷ []));
  finishes = omega (arith, h.finishes, finishes_append s.items (e ∷ []));
}

within_tenant : (s : TenantScript) (t : Tenant) → s.items ≡ [] → IsWithin (add_tenant s t) → IsWithin s
within_tenant s t e h = record {
  arena = h.arena;
  cells = all_left HasCells s.tenants (t ∷ []) h.cells;
  budgets = omega (arith, h.budgets, cells_append s.tenants (t ∷ []));
  tenants = omega (arith, h.tenants, length-append s.tenants (t ∷ []));
  fuels = h.fuels;
  programs = h.programs;
  starts = h.starts;
  finishes = h.finishes;
}

-- the names of programs with another text
programs_text : (s : TenantScript) (name : List ℕ) (language : Language) (text other : List ℕ)
    → program_names (s.items ++ program_by name language other ∷ []) ≡ program_names (s.items ++ program_by name language text ∷ [])
programs_text s name language text other = programs_append s.items (program_by name language other ∷ []) ∙ sym (programs_append s.items (program_by name language text ∷ []))

within_text : (s : TenantScript) (name : List ℕ) (language : Language) (text other : List ℕ) → IsWithin (add s (program_by name language other))
    → IsWithin (add s (program_by name language text))
within_text s name language text other h = record {
  arena = h.arena;
  cells = h.cells;
  budgets = h.budgets;
  tenants = h.tenants;
  fuels = all_append EntryIsWithin s.items (program_by name language text ∷ []) (all_left EntryIsWithin s.items (program_by name language other ∷ []) h.fuels) (tt, tt);
  programs = subst (λ l. length l ≤ 64) (programs_text s name language text other) h.programs;
  starts = omega (arith, h.starts, starts_append s.items (program_by name language other ∷ []), starts_append s.items (program_by name language text ∷ []));
  finishes = omega (arith, h.finishes, finishes_append s.items (program_by name language other ∷ []), finishes_append s.items (program_by name language text ∷ []));
}

pub within_backward : IsBackward IsWithin
within_backward = record {
  least = within_least 1 (omega arith) (omega arith);
  one = λ arena t h. within_least arena h.arena.least h.arena.most;
  tenant = within_tenant;
  entry = within_entry;
  text = within_text;
}

distinct_none : AreDistinct {A = List ℕ} []
distinct_none word [] between rest e = absurd cc
distinct_none word (b ∷ before) between rest e = absurd cc

distinct_one : (x : List ℕ) → AreDistinct (x ∷ [])
distinct_one x word [] [] rest e = absurd cc
distinct_one x word [] (b ∷ between) rest e = absurd cc
distinct_one x word (b ∷ []) between rest e = absurd cc
distinct_one x word (b ∷ c ∷ before) between rest e = absurd cc

pub once_first : (arena : ℕ) (t : Tenant) → HasOnce (script_by arena (t ∷ []) [])
once_first arena t = record { tenants = distinct_one t.name; programs = distinct_none }

pub once_backward : IsBackward HasOnce
once_backward = record {
  least = once_first 1 least_tenant;
  one = λ arena t h. once_first arena least_tenant;
  tenant = λ s t e h. record { tenants = distinct_left (tenant_names s.tenants) (tenant_names (t ∷ [])) (subst AreDistinct (names_append s.tenants (t ∷ [])) h.tenants); programs = h.programs };
  entry = λ s e h. record { tenants = h.tenants; programs = distinct_left (program_names s.items) (program_names (e ∷ [])) (subst AreDistinct (programs_append s.items (e ∷ [])) h.programs) };
  text = λ s name language text other h. record { tenants = h.tenants; programs = subst AreDistinct (programs_text s name language text other) h.programs };
}

pub known_none : (s : TenantScript) → s.items ≡ [] → HasTenants s
known_none s e = subst (AllByRecursion (IsOf (tenant_names s.tenants))) (sym e) tt

pub known_backward : IsBackward HasTenants
known_backward = record {
  least = tt;
  one = λ arena t h. tt;
  tenant = λ s t e h. known_none s e;
  entry = λ s e h. all_left (IsOf (tenant_names s.tenants)) s.items (e ∷ []) h;
  text = λ s name language text other h.
      all_append (IsOf (tenant_names s.tenants)) s.items (program_by name language text ∷ []) (all_left (IsOf (tenant_names s.tenants)) s.items (program_by name language other ∷ []) h) (tt, tt);
}

enter_back : (P : TenantScript → Type 0) → IsBackward P → (s : TenantScript) (h : Head) (t : State) → enter s h ≡ Some t → P (closed t) → P s
enter_back P b s (HTenant u) t f k =
    let p = only_some (is_empty s.items) (Some (Between (add_tenant s u))) t f in
    b.tenant s u (none_is s.items p.0) (subst (λ t. P (closed t)) (sym (some_same (Between (add_tenant s u)) t p.1)) k)
enter_back P b s (HProgram name language) t f k = b.entry s (program_by name language []) (subst (λ t. P (closed t)) (sym (some_same (Inside s name language []) t f)) k)
enter_back P b s (HStart tenant j) t f k = b.entry s (AStart tenant j) (subst (λ t. P (closed t)) (sym (some_same (Between (add s (AStart tenant j))) t f)) k)
enter_back P b s (HFinish tenant name) t f k = b.entry s (AFinish tenant name) (subst (λ t. P (closed t)) (sym (some_same (Between (add s (AFinish tenant name))) t f)) k)

step_back : (P : TenantScript → Type 0) → IsBackward P → (s t : State) (line : List ℕ) → step s line ≡ Some t → P (closed t) → P (closed s)
step_back P b Start t line e h = b.least
step_back P b (Sized arena) t line e h = let (u, u_is, t_is) = map_some (with_first arena) (first_of line) t e in b.one arena u (subst (λ t. P (closed t)) t_is h)
step_back P b (Between s) t line e h = let (d, d_is, t_is) = then_some (head_of line) (enter s) t e in enter_back P b s d t t_is h
step_back P b (Inside s name language text) t line e h =
    by_test (bytes_eq line (codes ".")) (subst (λ t. P (closed t)) (sym (some_same (text_step s name language text line (bytes_eq line (codes "."))) t e)) h)
  where
    by_test : (c : Bool) → P (closed (text_step s name language text line c)) → P (add s (program_by name language text))
    by_test true k = k
    by_test false k = b.text s name language text (text ++ text_of_lines (line ∷ [])) k

-- ---- the lines of a script

no_lines : (s : State) → Leads tenants_machine s [] s
no_lines s = record { lines = []; each = tt; is = refl; run = refl }

one_more : (s t : State) (line : List ℕ) → Free 10 line → step s line ≡ Some t → Leads tenants_machine s (text_of_lines (line ∷ [])) t
one_more s t line h e = record { lines = line ∷ []; each = (h, tt); is = refl; run = then_is (step s line) (λ m. run tenants_machine m []) t (Some t) e refl }

join : (s t u : State) (x y : List ℕ) → Leads tenants_machine s x t → Leads tenants_machine t y u → Leads tenants_machine s (x ++ y) u
join s t u x y a b = record {
  lines = a.lines ++ b.lines;
  each = all_append (Free 10) a.lines b.lines a.each b.each;
  is = lines_append a.lines b.lines ∙ ap (λ l. l ++ text_of_lines b.lines) a.is ∙ ap (λ l. x ++ l) b.is;
  run = run_append tenants_machine s t a.lines b.lines a.run ∙ b.run;
}

inside_step : (s : TenantScript) (name : List ℕ) (language : Language) (text line : List ℕ) → IsTextLine line
    → step (Inside s name language text) line ≡ Some (Inside s name language (text ++ text_of_lines (line ∷ [])))
inside_step s name language text line h = by_test (bytes_eq line (codes ".")) refl
  where
    by_test : (b : Bool) → bytes_eq line (codes ".") ≡ b → Some (text_step s name language text line b) ≡ Some (Inside s name language (text ++ text_of_lines (line ∷ [])))
    by_test true k = absurd (h.goes_on (same_name line (codes ".") k))
    by_test false k = refl

body_run : (s : TenantScript) (name : List ℕ) (language : Language) (text : List ℕ) (lines : List (List ℕ)) → AllByRecursion IsTextLine lines
    → run tenants_machine (Inside s name language text) lines ≡ Some (Inside s name language (text ++ text_of_lines lines))
body_run s name language text [] h = ap (λ l. Some (Inside s name language l)) (sym (append-nil text))
body_run s name language text (line ∷ lines) h =
    then_is (step (Inside s name language text) line) (λ m. run tenants_machine m lines) (Inside s name language (text ++ text_of_lines (line ∷ []))) (Some (Inside s name language (text ++ text_of_lines (line ∷ lines)))) (inside_step s name language text line h.0)
    (body_run s name language (text ++ text_of_lines (line ∷ [])) lines h.1
    ∙ ap (λ l. Some (Inside s name language l)) (append_assoc text (text_of_lines (line ∷ [])) (text_of_lines lines) ∙ ap (λ l. text ++ l) (sym (lines_append (line ∷ []) lines))))

body_lines : (s : TenantScript) (name : List ℕ) (language : Language) (lines : List (List ℕ)) → AllByRecursion IsTextLine lines
    → Leads tenants_machine (Inside s name language []) (text_of_lines lines) (Inside s name language (text_of_lines lines))
body_lines s name language lines h = record { lines = lines; each = lines_one lines h; is = refl; run = body_run s name language [] lines h }

head_step : (s : TenantScript) (h : Head) (t : State) → HeadIsFormed h → enter s h ≡ Some t → step (Between s) (head_line h) ≡ Some t
head_step s h t k e = then_is (head_of (head_line h)) (enter s) h (Some t) (head_read h k) e

entry_lines : (s : TenantScript) (e : Entry) → EntryIsFormed e → Leads tenants_machine (Between s) (entry_text e) (Between (add s e))
entry_lines s (AProgram p) h =
    let opened : State = Inside s p.name p.language [] in
    let start = one_more (Between s) opened (program_line p.name p.language) (head_free (HProgram p.name p.language) h.name) (head_step s (HProgram p.name p.language) opened h.name refl) in
    let body = subst (λ l. Leads tenants_machine opened l (Inside s p.name p.language l)) (sym h.text.is) (body_lines s p.name p.language h.text.lines h.text.each) in
    let end = one_more (Inside s p.name p.language p.text) (Between (add s (AProgram p))) (codes ".") refl refl in
    join (Between s) opened (Between (add s (AProgram p))) (text_of_lines (program_line p.name p.language ∷ [])) (p.text ++ text_of_lines (codes "." ∷ [])) start
    (join opened (Inside s p.name p.language p.text) (Between (add s (AProgram p))) p.text (text_of_lines (codes "." ∷ [])) body end)
entry_lines s (AStart tenant j) h = one_more (Between s) (Between (add s (AStart tenant j))) (head_line (HStart tenant j)) (head_free (HStart tenant j) h) (head_step s (HStart tenant j) (Between (add s (AStart tenant j))) h refl)
entry_lines s (AFinish tenant name) h = one_more (Between s) (Between (add s (AFinish tenant name))) (head_line (HFinish tenant name)) (head_free (HFinish tenant name) h) (head_step s (HFinish tenant name) (Between (add s (AFinish tenant name))) h refl)

items_lines : (arena : ℕ) (ts : List Tenant) (items more : List Entry) → AllByRecursion EntryIsFormed more
    → Leads tenants_machine (Between (script_by arena ts items)) (flat_map entry_text more) (Between (script_by arena ts (items ++ more)))
items_lines arena ts items [] h = subst (λ l. Leads tenants_machine (Between (script_by arena ts items)) [] (Between (script_by arena ts l))) (sym (append-nil items)) (no_lines (Between (script_by arena ts items)))
items_lines arena ts items (e ∷ more) h =
    subst (λ l. Leads tenants_machine (Between (script_by arena ts items)) (entry_text e ++ flat_map entry_text more) (Between (script_by arena ts l))) (append_assoc items (e ∷ []) more)
    (join (Between (script_by arena ts items)) (Between (script_by arena ts (items ++ e ∷ []))) (Between (script_by arena ts ((items ++ e ∷ []) ++ more))) (entry_text e) (flat_map entry_text more)
    (entry_lines (script_by arena ts items) e h.0) (items_lines arena ts (items ++ e ∷ []) more h.1))

tenant_lines : (arena : ℕ) (ts more : List Tenant) → AllByRecursion TenantIsFormed more
    → Leads tenants_machine (Between (script_by arena ts [])) (flat_map tenant_text more) (Between (script_by arena (ts ++ more) []))
tenant_lines arena ts [] h = subst (λ l. Leads tenants_machine (Between (script_by arena ts [])) [] (Between (script_by arena l []))) (sym (append-nil ts)) (no_lines (Between (script_by arena ts [])))
tenant_lines arena ts (t ∷ more) h =
    subst (λ l. Leads tenants_machine (Between (script_by arena ts [])) (tenant_text t ++ flat_map tenant_text more) (Between (script_by arena l []))) (append_assoc ts (t ∷ []) more)
    (join (Between (script_by arena ts [])) (Between (script_by arena (ts ++ t ∷ []) [])) (Between (script_by arena ((ts ++ t ∷ []) ++ more) [])) (tenant_text t) (flat_map tenant_text more)
    (one_more (Between (script_by arena ts [])) (Between (script_by arena (ts ++ t ∷ []) [])) (tenant_line t) (head_free (HTenant t) h.0) (head_step (script_by arena ts []) (HTenant t) (Between (script_by arena (ts ++ t ∷ []) [])) h.0 refl)) (tenant_lines arena (ts ++ t ∷ []) more h.1))

all_tenants : (arena : ℕ) (ts : List Tenant) → 1 ≤ length ts → AllByRecursion TenantIsFormed ts → Leads tenants_machine (Sized arena) (flat_map tenant_text ts) (Between (script_by arena ts []))
all_tenants arena [] some h = absurd (omega (arith, some))
all_tenants arena (t ∷ ts) some h =
    join (Sized arena) (Between (script_by arena (t ∷ []) [])) (Between (script_by arena (t ∷ ts) [])) (tenant_text t) (flat_map tenant_text ts)
    (one_more (Sized arena) (Between (script_by arena (t ∷ []) [])) (tenant_line t) (head_free (HTenant t) h.0) (map_is (with_first arena) (first_of (tenant_line t)) t (first_read t h.0)))
    (tenant_lines arena (t ∷ []) ts h.1)

pub script_lines : (s : TenantScript) → IsFormed s → Leads tenants_machine Start (tenants_text s) (Between s)
unfolding tenants_text
script_lines s h =
    let sized = one_more Start (Sized s.arena) (arena_line s.arena) (number_line_free (codes "arena") s.arena refl) (map_is Sized (number_behind (codes "arena") (arena_line s.arena)) s.arena (number_line_read (codes "arena") s.arena refl)) in
    let front = join Start (Sized s.arena) (Between (script_by s.arena s.tenants [])) (text_of_lines (arena_line s.arena ∷ [])) (flat_map tenant_text s.tenants) sized (all_tenants s.arena s.tenants h.some h.tenants) in
    join Start (Between (script_by s.arena s.tenants [])) (Between s) (text_of_lines (arena_line s.arena ∷ []) ++ flat_map tenant_text s.tenants) (flat_map entry_text s.items) front (items_lines s.arena s.tenants [] s.items h.items)

-- ---- what the format shows of its machine

asks_back : (k : ℕ) (s t : State) (line : List ℕ) → step s line ≡ Some t → tenants_asks k (closed t) → tenants_asks k (closed s)
asks_back zero s t line e h = step_back IsWithin within_backward s t line e h
asks_back (suc zero) s t line e h = step_back HasOnce once_backward s t line e h
asks_back (suc (suc zero)) s t line e h = step_back HasTenants known_backward s t line e h
asks_back (suc (suc (suc k))) s t line e h = tt

end_is : (s : State) → may_end s ≡ true → tenants_text (closed s) ≡ so_far s
end_is Start e = absurd cc
end_is (Sized arena) e = absurd cc
end_is (Between s) e = refl
end_is (Inside s name language text) e = absurd cc

pub tenants_shows : Shows tenants_machine
tenants_shows = record {
  start_far = refl;
  start_good = formed_least;
  start_right = (((formed_least, within_least 1 (omega arith) (omega arith)), once_first 1 least_tenant), tt);
  good_formed = λ s h. h;
  step_far = λ s t line g f e. step_far s t line f e;
  step_good = λ s t line g f e. step_formed s t line f g e;
  step_asks = λ k s t line g e h. asks_back k s t line e h;
  end_far = λ s g e. end_is s e;
  closing = λ s g. closing s;
  written = λ s h. record { state = Between s; leads = script_lines s h; ends = refl; is = refl };
}

-- all that is asked of a tenant script, as fields
pub right_script : (s : TenantScript) → IsRight tenants_format s → IsTenantScript s
right_script s h = record { formed = h.0.0.0; within = h.0.0.1; once = h.0.1; known = h.1 }
