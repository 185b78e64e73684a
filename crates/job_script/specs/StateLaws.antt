-- Laws, for the proofs of this crate and of those above it.
-- The states of the reader: their text, and what a further line keeps.
use Rattle.std.proofs.Common.{◌≡◌, ℕ, zero, suc, ◌≤◌, Bool, true, false, List, [], ◌∷◌, ◌++◌, length, Some, refl, sym, ap, ◌∙◌, subst, arith, append_assoc, append-nil, length-append}
use Rattle.std.specs.Prelude.{if◌then◌else◌, codes, flat_map}
use Rattle.std.specs.List.{AllByRecursion}
use Rattle.std.specs.Str.{bytes_eq}
use Rattle.camelot_values.specs.Names.{AreDistinct}
use Rattle.camelot_values.specs.NameLaws.{same_name, name_itself}
use Rattle.text_lines.specs.Lines.{Free, text_of_lines}
use Rattle.text_lines.specs.Formats.{IsRight}
use Rattle.text_lines.specs.Machines.{run, Leads, IsClosing, Shows}
use Rattle.text_lines.specs.OptionLaws.{some_same, then_is, map_some, map_is}
use Rattle.text_lines.specs.FrontLaws.{all_append, all_left, all_last, flat_append}
use Rattle.text_lines.specs.ReadingLaws.{run_append}
use Rattle.job_script.specs.Scripts.{Entry, AProgram, AJob, Script, IsTextLine, IsBody, EntryIsFormed, IsFormed, EntryIsWithin, IsWithin, HasOnce, IsScript, program_names, job_names}
use Rattle.job_script.specs.Text.{arena_line, workers_line, program_line, job_line, entry_text, script_text, script_asks, script_format}
use Rattle.job_script.specs.Reading.{number_behind, Head, HProgram, HJob, head_of, State, Start, Sized, Between, Inside, script_by, add, program_by, enter, step, closed, so_far, may_end, script_machine}
use Rattle.job_script.specs.HeadLaws.{number_line_read, number_line_found, number_line_free, head_line, HeadIsFormed, head_read, head_found, head_free}
use Rattle.job_script.specs.DemandLaws.{distinct_left}
use Rattle.job_script.specs.declared.types.Language.{Language}

-- ---- lists

pub programs_append : (xs ys : List Entry) → program_names (xs ++ ys) ≡ program_names xs ++ program_names ys
programs_append [] ys = refl
programs_append (AProgram p ∷ xs) ys = ap (λ l. p.name ∷ l) (programs_append xs ys)
programs_append (AJob j ∷ xs) ys = programs_append xs ys

pub jobs_append : (xs ys : List Entry) → job_names (xs ++ ys) ≡ job_names xs ++ job_names ys
jobs_append [] ys = refl
jobs_append (AProgram p ∷ xs) ys = jobs_append xs ys
jobs_append (AJob j ∷ xs) ys = ap (λ l. j.name ∷ l) (jobs_append xs ys)

-- ---- the text of a state

pub add_text : (s : Script) (e : Entry) → script_text (add s e) ≡ script_text s ++ entry_text e
unfolding script_text
add_text s e =
    let front : List ℕ = text_of_lines (arena_line s.arena ∷ workers_line s.workers ∷ []) in
    ap (λ l. front ++ l) (flat_append entry_text s.items (e ∷ []) ∙ ap (λ l. flat_map entry_text s.items ++ l) (append-nil (entry_text e)))
    ∙ sym (append_assoc front (flat_map entry_text s.items) (entry_text e))

head_text : (s : Script) (h : Head) (line : List ℕ) → line ≡ head_line h → so_far (enter s h) ≡ script_text s ++ text_of_lines (line ∷ [])
head_text s (HProgram name language) line e = ap (λ l. script_text s ++ l) (append-nil (text_of_lines (program_line name language ∷ [])) ∙ ap (λ l. text_of_lines (l ∷ [])) (sym e))
head_text s (HJob j) line e = add_text s (AJob j) ∙ ap (λ l. script_text s ++ text_of_lines (l ∷ [])) (sym e)

workers_text : (arena workers : ℕ)
    → script_text (script_by arena workers []) ≡ text_of_lines (arena_line arena ∷ []) ++ text_of_lines (workers_line workers ∷ [])
unfolding script_text
workers_text arena workers = append-nil (text_of_lines (arena_line arena ∷ workers_line workers ∷ [])) ∙ flat_append (λ line. line ++ 10 ∷ []) (arena_line arena ∷ []) (workers_line workers ∷ [])

pub step_text : (s t : State) (line : List ℕ) → Free 10 line → step s line ≡ Some t → so_far t ≡ so_far s ++ text_of_lines (line ∷ [])
step_text Start t line f e =
    let (n, n_is, t_is) = map_some Sized (number_behind (codes "arena") line) t e in
    ap so_far t_is ∙ ap (λ l. text_of_lines (l ∷ [])) (sym (number_line_found (codes "arena") line n n_is))
step_text (Sized arena) t line f e =
    let (n, n_is, t_is) = map_some (λ workers. Between (script_by arena workers [])) (number_behind (codes "workers") line) t e in
    ap so_far t_is ∙ workers_text arena n ∙ ap (λ l. text_of_lines (arena_line arena ∷ []) ++ text_of_lines (l ∷ [])) (sym (number_line_found (codes "workers") line n n_is))
step_text (Between s) t line f e =
    let (h, h_is, t_is) = map_some (enter s) (head_of line) t e in
    ap so_far t_is ∙ head_text s h line (head_found line h f h_is).1
step_text (Inside s name language text) t line f e = ap so_far (sym (some_same (if bytes_eq line (codes ".") then Between (add s (program_by name language text)) else Inside s name language (text ++ text_of_lines (line ∷ []))) t e)) ∙ by_test (bytes_eq line (codes ".")) refl
  where
    by_test : (b : Bool) → bytes_eq line (codes ".") ≡ b
        → so_far (if b then Between (add s (program_by name language text)) else Inside s name language (text ++ text_of_lines (line ∷ []))) ≡ (script_text s ++ (text_of_lines (program_line name language ∷ []) ++ text)) ++ text_of_lines (line ∷ [])
    by_test true h =
        add_text s (program_by name language text) ∙ ap (λ l. script_text s ++ (text_of_lines (program_line name language ∷ []) ++ (text ++ text_of_lines (l ∷ [])))) (sym (same_name line (codes ".") h))
        ∙ ap (λ l. script_text s ++ l) (sym (append_assoc (text_of_lines (program_line name language ∷ [])) text (text_of_lines (line ∷ [])))) ∙ sym (append_assoc (script_text s) (text_of_lines (program_line name language ∷ []) ++ text) (text_of_lines (line ∷ [])))
    by_test false h =
        ap (λ l. script_text s ++ l) (sym (append_assoc (text_of_lines (program_line name language ∷ [])) text (text_of_lines (line ∷ [])))) ∙ sym (append_assoc (script_text s) (text_of_lines (program_line name language ∷ []) ++ text) (text_of_lines (line ∷ [])))

pub closing : (s : State) → IsClosing script_machine s
closing Start = record { rest = script_text (script_by 1 1 []); is = refl }
closing (Sized arena) = record { rest = text_of_lines (workers_line 1 ∷ []); is = workers_text arena 1 }
closing (Between s) = record { rest = []; is = sym (append-nil (script_text s)) }
closing (Inside s name language text) = record {
  rest = text_of_lines (codes "." ∷ []);
  is = add_text s (program_by name language text) ∙ ap (λ l. script_text s ++ l) (sym (append_assoc (text_of_lines (program_line name language ∷ [])) text (text_of_lines (codes "." ∷ []))))
      ∙ sym (append_assoc (script_text s) (text_of_lines (program_line name language ∷ []) ++ text) (text_of_lines (codes "." ∷ [])));
}

-- ---- form

formed_more : (s : Script) (e : Entry) → IsFormed s → EntryIsFormed e → IsFormed (add s e)
formed_more s e h k = record { items = all_append EntryIsFormed s.items (e ∷ []) h.items (k, tt) }

pub body_more : (text line : List ℕ) → IsBody text → IsTextLine line → IsBody (text ++ text_of_lines (line ∷ []))
body_more text line b h = record {
  lines = b.lines ++ line ∷ [];
  each = all_append IsTextLine b.lines (line ∷ []) b.each (h, tt);
  is = ap (λ l. l ++ text_of_lines (line ∷ [])) b.is ∙ sym (flat_append (λ line. line ++ 10 ∷ []) b.lines (line ∷ []));
}

head_formed : (s : Script) (h : Head) → IsFormed s → HeadIsFormed h → IsFormed (closed (enter s h))
head_formed s (HProgram name language) f k = formed_more s (program_by name language []) f (record { name = k; text = record { lines = []; each = tt; is = refl } })
head_formed s (HJob j) f k = formed_more s (AJob j) f k

pub step_formed : (s t : State) (line : List ℕ) → Free 10 line → IsFormed (closed s) → step s line ≡ Some t → IsFormed (closed t)
step_formed Start t line f h e =
    let (n, n_is, t_is) = map_some Sized (number_behind (codes "arena") line) t e in subst (λ t. IsFormed (closed t)) (sym t_is) (record { items = tt })
step_formed (Sized arena) t line f h e =
    let (n, n_is, t_is) = map_some (λ workers. Between (script_by arena workers [])) (number_behind (codes "workers") line) t e in subst (λ t. IsFormed (closed t)) (sym t_is) (record { items = tt })
step_formed (Between s) t line f h e =
    let (d, d_is, t_is) = map_some (enter s) (head_of line) t e in subst (λ t. IsFormed (closed t)) (sym t_is) (head_formed s d h (head_found line d f d_is).0)
step_formed (Inside s name language text) t line f h e =
    subst (λ t. IsFormed (closed t)) (some_same (if bytes_eq line (codes ".") then Between (add s (program_by name language text)) else Inside s name language (text ++ text_of_lines (line ∷ []))) t e) (by_test (bytes_eq line (codes ".")) refl)
  where
    dot : bytes_eq line (codes ".") ≡ false → line ≡ codes "." → ⊥
    dot k q = let r : true ≡ false = sym (name_itself (codes ".")) ∙ ap (λ l. bytes_eq l (codes ".")) (sym q) ∙ k in absurd cc

    by_test : (b : Bool) → bytes_eq line (codes ".") ≡ b
        → IsFormed (closed (if b then Between (add s (program_by name language text)) else Inside s name language (text ++ text_of_lines (line ∷ []))))
    by_test true k = h
    by_test false k =
        let p = all_last EntryIsFormed s.items (program_by name language text) h.items in
        formed_more s (program_by name language (text ++ text_of_lines (line ∷ []))) (record { items = all_left EntryIsFormed s.items (program_by name language text ∷ []) h.items })
        (record { name = p.name; text = body_more text line p.text (record { one = f; goes_on = dot k }) })

-- ---- limits and repeats, from what follows

pub within_least : IsWithin (script_by 1 1 [])
within_least = record { arena = record { least = omega arith; most = omega arith }; workers = record { least = omega arith; most = omega arith }; fuels = tt; programs = omega arith; jobs = omega arith }

within_front : (s : Script) (e : Entry) → IsWithin (add s e) → IsWithin s
within_front s e h = record {
  arena = h.arena;
  workers = h.workers;
  fuels = all_left EntryIsWithin s.items (e ∷ []) h.fuels;
  programs = omega (arith, h.programs, ap length (programs_append s.items (e ∷ [])), length-append (program_names s.items) (program_names (e ∷ [])));
  jobs = omega (arith, h.jobs, ap length (jobs_append s.items (e ∷ [])), length-append (job_names s.items) (job_names (e ∷ [])));
}

pub within_text : (s : Script) (name : List ℕ) (language : Language) (text other : List ℕ) → IsWithin (add s (program_by name language other))
    → IsWithin (add s (program_by name language text))
within_text s name language text other h = record {
  arena = h.arena;
  workers = h.workers;
  fuels = all_append EntryIsWithin s.items (program_by name language text ∷ []) (all_left EntryIsWithin s.items (program_by name language other ∷ []) h.fuels) (tt, tt);
  programs = subst (λ l. length l ≤ 64) (programs_append s.items (program_by name language other ∷ []) ∙ sym (programs_append s.items (program_by name language text ∷ []))) h.programs;
  jobs = subst (λ l. length l ≤ 4096) (jobs_append s.items (program_by name language other ∷ []) ∙ sym (jobs_append s.items (program_by name language text ∷ []))) h.jobs;
}

once_front : (s : Script) (e : Entry) → HasOnce (add s e) → HasOnce s
once_front s e h = record {
  programs = distinct_left (program_names s.items) (program_names (e ∷ [])) (subst AreDistinct (programs_append s.items (e ∷ [])) h.programs);
  jobs = distinct_left (job_names s.items) (job_names (e ∷ [])) (subst AreDistinct (jobs_append s.items (e ∷ [])) h.jobs);
}

pub once_text : (s : Script) (name : List ℕ) (language : Language) (text other : List ℕ) → HasOnce (add s (program_by name language other))
    → HasOnce (add s (program_by name language text))
once_text s name language text other h = record {
  programs = subst AreDistinct (programs_append s.items (program_by name language other ∷ []) ∙ sym (programs_append s.items (program_by name language text ∷ []))) h.programs;
  jobs = subst AreDistinct (jobs_append s.items (program_by name language other ∷ []) ∙ sym (jobs_append s.items (program_by name language text ∷ []))) h.jobs;
}

pub formed_least : IsFormed (script_by 1 1 [])
formed_least = record { items = tt }

pub once_least : (a w : ℕ) → HasOnce (script_by a w [])
once_least a w = record { programs = none; jobs = none }
  where
    none : (word : List ℕ) (before between rest : List (List ℕ)) → [] ≡ before ++ word ∷ (between ++ word ∷ rest) → ⊥
    none word [] between rest e = absurd cc
    none word (b ∷ before) between rest e = absurd cc

-- what holds of the first script, and is kept backwards
pub record IsBackward (P : Script → Type 0) : Type 0 where
  pub least : P (script_by 1 1 [])
  pub one : (a w : ℕ) → P (script_by a w []) → P (script_by a 1 [])
  pub front : (s : Script) (e : Entry) → P (add s e) → P s
  pub text : (s : Script) (name : List ℕ) (language : Language) (text other : List ℕ) → P (add s (program_by name language other))
      → P (add s (program_by name language text))

pub within_backward : IsBackward IsWithin
within_backward = record {
  least = within_least;
  one = λ a w h. record { arena = h.arena; workers = record { least = omega arith; most = omega arith }; fuels = tt; programs = omega arith; jobs = omega arith };
  front = within_front;
  text = within_text;
}

pub once_backward : IsBackward HasOnce
once_backward = record { least = once_least 1 1; one = λ a w h. once_least a 1; front = once_front; text = once_text }

head_back : (P : Script → Type 0) → IsBackward P → (s : Script) (h : Head) → P (closed (enter s h)) → P s
head_back P b s (HProgram name language) k = b.front s (program_by name language []) k
head_back P b s (HJob j) k = b.front s (AJob j) k

step_back : (P : Script → Type 0) → IsBackward P → (s t : State) (line : List ℕ) → step s line ≡ Some t → P (closed t) → P (closed s)
step_back P b Start t line e h = b.least
step_back P b (Sized arena) t line e h =
    let (n, n_is, t_is) = map_some (λ workers. Between (script_by arena workers [])) (number_behind (codes "workers") line) t e in b.one arena n (subst (λ t. P (closed t)) t_is h)
step_back P b (Between s) t line e h = let (d, d_is, t_is) = map_some (enter s) (head_of line) t e in head_back P b s d (subst (λ t. P (closed t)) t_is h)
step_back P b (Inside s name language text) t line e h =
    by_test (bytes_eq line (codes ".")) (subst (λ t. P (closed t)) (sym (some_same (if bytes_eq line (codes ".") then Between (add s (program_by name language text)) else Inside s name language (text ++ text_of_lines (line ∷ []))) t e)) h)
  where
    by_test : (c : Bool) → P (closed (if c then Between (add s (program_by name language text)) else Inside s name language (text ++ text_of_lines (line ∷ [])))) → P (add s (program_by name language text))
    by_test true k = k
    by_test false k = b.text s name language text (text ++ text_of_lines (line ∷ [])) k

-- ---- the lines of a script

no_lines : (s : State) → Leads script_machine s [] s
no_lines s = record { lines = []; each = tt; is = refl; run = refl }

one_more : (s t : State) (line : List ℕ) → Free 10 line → step s line ≡ Some t → Leads script_machine s (text_of_lines (line ∷ [])) t
one_more s t line h e = record { lines = line ∷ []; each = (h, tt); is = refl; run = then_is (step s line) (λ m. run script_machine m []) t (Some t) e refl }

join : (s t u : State) (x y : List ℕ) → Leads script_machine s x t → Leads script_machine t y u → Leads script_machine s (x ++ y) u
join s t u x y a b = record {
  lines = a.lines ++ b.lines;
  each = all_append (Free 10) a.lines b.lines a.each b.each;
  is = flat_append (λ line. line ++ 10 ∷ []) a.lines b.lines ∙ ap (λ l. l ++ text_of_lines b.lines) a.is ∙ ap (λ l. x ++ l) b.is;
  run = run_append script_machine s t a.lines b.lines a.run ∙ b.run;
}

inside_step : (s : Script) (name : List ℕ) (language : Language) (text line : List ℕ) → IsTextLine line
    → step (Inside s name language text) line ≡ Some (Inside s name language (text ++ text_of_lines (line ∷ [])))
inside_step s name language text line h = by_test (bytes_eq line (codes ".")) refl
  where
    by_test : (b : Bool) → bytes_eq line (codes ".") ≡ b
        → Some (if b then Between (add s (program_by name language text)) else Inside s name language (text ++ text_of_lines (line ∷ []))) ≡ Some (Inside s name language (text ++ text_of_lines (line ∷ [])))
    by_test true k = absurd (h.goes_on (same_name line (codes ".") k))
    by_test false k = refl

pub body_run : (s : Script) (name : List ℕ) (language : Language) (text : List ℕ) (lines : List (List ℕ)) → AllByRecursion IsTextLine lines
    → run script_machine (Inside s name language text) lines ≡ Some (Inside s name language (text ++ text_of_lines lines))
body_run s name language text [] h = ap (λ l. Some (Inside s name language l)) (sym (append-nil text))
body_run s name language text (line ∷ lines) h =
    then_is (step (Inside s name language text) line) (λ m. run script_machine m lines) (Inside s name language (text ++ text_of_lines (line ∷ []))) (Some (Inside s name language (text ++ text_of_lines (line ∷ lines)))) (inside_step s name language text line h.0)
    (body_run s name language (text ++ text_of_lines (line ∷ [])) lines h.1
    ∙ ap (λ l. Some (Inside s name language l)) (append_assoc text (text_of_lines (line ∷ [])) (text_of_lines lines) ∙ ap (λ l. text ++ l) (sym (flat_append (λ line. line ++ 10 ∷ []) (line ∷ []) lines))))

pub lines_one : (lines : List (List ℕ)) → AllByRecursion IsTextLine lines → AllByRecursion (Free 10) lines
lines_one [] h = tt
lines_one (line ∷ lines) h = (h.0.one, lines_one lines h.1)

pub body_lines : (s : Script) (name : List ℕ) (language : Language) (text : List ℕ) (lines : List (List ℕ)) → AllByRecursion IsTextLine lines
    → Leads script_machine (Inside s name language text) (text_of_lines lines) (Inside s name language (text ++ text_of_lines lines))
body_lines s name language text lines h = record { lines = lines; each = lines_one lines h; is = refl; run = body_run s name language text lines h }

head_step : (s : Script) (h : Head) → HeadIsFormed h → step (Between s) (head_line h) ≡ Some (enter s h)
head_step s h k = map_is (enter s) (head_of (head_line h)) h (head_read h k)

pub entry_lines : (s : Script) (e : Entry) → EntryIsFormed e → Leads script_machine (Between s) (entry_text e) (Between (add s e))
entry_lines s (AProgram p) h =
    let start = one_more (Between s) (Inside s p.name p.language []) (program_line p.name p.language) (head_free (HProgram p.name p.language) h.name) (head_step s (HProgram p.name p.language) h.name) in
    let body = subst (λ l. Leads script_machine (Inside s p.name p.language []) l (Inside s p.name p.language l)) (sym h.text.is) (body_lines s p.name p.language [] h.text.lines h.text.each) in
    let end = one_more (Inside s p.name p.language p.text) (Between (add s (AProgram p))) (codes ".") refl refl in
    join (Between s) (Inside s p.name p.language []) (Between (add s (AProgram p))) (text_of_lines (program_line p.name p.language ∷ [])) (p.text ++ text_of_lines (codes "." ∷ [])) start
    (join (Inside s p.name p.language []) (Inside s p.name p.language p.text) (Between (add s (AProgram p))) p.text (text_of_lines (codes "." ∷ [])) body end)
entry_lines s (AJob j) h = one_more (Between s) (Between (add s (AJob j))) (job_line j) (head_free (HJob j) h) (head_step s (HJob j) h)

items_lines : (arena workers : ℕ) (items more : List Entry) → AllByRecursion EntryIsFormed more
    → Leads script_machine (Between (script_by arena workers items)) (flat_map entry_text more) (Between (script_by arena workers (items ++ more)))
items_lines arena workers items [] h = subst (λ l. Leads script_machine (Between (script_by arena workers items)) [] (Between (script_by arena workers l))) (sym (append-nil items)) (no_lines (Between (script_by arena workers items)))
items_lines arena workers items (e ∷ more) h =
    subst (λ l. Leads script_machine (Between (script_by arena workers items)) (entry_text e ++ flat_map entry_text more) (Between (script_by arena workers l))) (append_assoc items (e ∷ []) more)
    (join (Between (script_by arena workers items)) (Between (script_by arena workers (items ++ e ∷ []))) (Between (script_by arena workers ((items ++ e ∷ []) ++ more))) (entry_text e) (flat_map entry_text more)
    (entry_lines (script_by arena workers items) e h.0) (items_lines arena workers (items ++ e ∷ []) more h.1))

pub script_lines : (s : Script) → IsFormed s → Leads script_machine Start (script_text s) (Between s)
unfolding script_text
script_lines s h =
    let two : text_of_lines (arena_line s.arena ∷ []) ++ text_of_lines (workers_line s.workers ∷ []) ≡ text_of_lines (arena_line s.arena ∷ workers_line s.workers ∷ []) = sym (flat_append (λ line. line ++ 10 ∷ []) (arena_line s.arena ∷ []) (workers_line s.workers ∷ [])) in
    let arena = one_more Start (Sized s.arena) (arena_line s.arena) (number_line_free (codes "arena") s.arena refl) (map_is Sized (number_behind (codes "arena") (arena_line s.arena)) s.arena (number_line_read (codes "arena") s.arena refl)) in
    let workers = one_more (Sized s.arena) (Between (script_by s.arena s.workers [])) (workers_line s.workers) (number_line_free (codes "workers") s.workers refl)
    (map_is (λ workers. Between (script_by s.arena workers [])) (number_behind (codes "workers") (workers_line s.workers)) s.workers (number_line_read (codes "workers") s.workers refl)) in
    let front = subst (λ l. Leads script_machine Start l (Between (script_by s.arena s.workers []))) two (join Start (Sized s.arena) (Between (script_by s.arena s.workers [])) (text_of_lines (arena_line s.arena ∷ [])) (text_of_lines (workers_line s.workers ∷ [])) arena workers) in
    join Start (Between (script_by s.arena s.workers [])) (Between s) (text_of_lines (arena_line s.arena ∷ workers_line s.workers ∷ [])) (flat_map entry_text s.items) front (items_lines s.arena s.workers [] s.items h.items)

-- ---- what the format shows of its machine

asks_back : (k : ℕ) (s t : State) (line : List ℕ) → step s line ≡ Some t → script_asks k (closed t) → script_asks k (closed s)
asks_back zero s t line e h = step_back IsWithin within_backward s t line e h
asks_back (suc zero) s t line e h = step_back HasOnce once_backward s t line e h
asks_back (suc (suc k)) s t line e h = tt

end_is : (s : State) → may_end s ≡ true → script_text (closed s) ≡ so_far s
end_is Start e = absurd cc
end_is (Sized arena) e = absurd cc
end_is (Between s) e = refl
end_is (Inside s name language text) e = absurd cc

pub script_shows : Shows script_machine
script_shows = record {
  start_far = refl;
  start_good = formed_least;
  start_right = ((formed_least, within_least), once_least 1 1);
  good_formed = λ s h. h;
  step_far = λ s t line g f e. step_text s t line f e;
  step_good = λ s t line g f e. step_formed s t line f g e;
  step_asks = λ k s t line g e h. asks_back k s t line e h;
  end_far = λ s g e. end_is s e;
  closing = λ s g. closing s;
  written = λ s h. record { state = Between s; leads = script_lines s h; ends = refl; is = refl };
}

-- all that is asked of a script, as fields
pub right_script : (s : Script) → IsRight script_format s → IsScript s
right_script s h = record { formed = h.0.0; within = h.0.1; once = h.1 }
