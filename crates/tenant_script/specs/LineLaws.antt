-- Laws, for the proofs of this crate and of those above it.
-- The lines of tenant scripts: what is read of a line is the line's, and each line in form is read.
use Rattle.std.proofs.Common.{◌≡◌, ℕ, Bool, true, false, List, [], ◌∷◌, ◌++◌, Some, drop, refl, sym, ap, ◌∙◌, subst}
use Rattle.std.specs.Prelude.{◌==◌, if◌then◌else◌, codes}
use Rattle.std.specs.Option.{option_map}
use Rattle.std.specs.Str.{bytes_eq}
use Rattle.camelot_values.specs.NameLaws.{same_name, name_passes, passing_name}
use Rattle.text_lines.specs.Lines.{Free}
use Rattle.text_lines.specs.Numbers.{number}
use Rattle.text_lines.specs.Cuts.{and_then, only_if, upto, from, behind, word_of}
use Rattle.text_lines.specs.OptionLaws.{some_same, then_some, then_is, only_some, only_is, map_some, map_is}
use Rattle.text_lines.specs.CutLaws.{free_append, cut_parts, from_first}
use Rattle.job_script.specs.Scripts.{Job, is_letter, IsWord}
use Rattle.job_script.specs.Text.{program_line, job_line}
use Rattle.job_script.specs.Reading.{is_word, number_behind, job_of, program_of, Head as JobHead, HProgram as JHProgram, HJob}
use Rattle.job_script.specs.HeadLaws.{free_behind, word_free, word_read, word_found, number_line_read, number_line_found, number_line_free, program_read, program_found, job_read, JobRead, job_found, line_args, next_free, head_free as job_head_free}
use Rattle.tenant_script.specs.Tenants.{Tenant, TenantIsFormed, StartIsFormed, FinishIsFormed}
use Rattle.tenant_script.specs.Text.{tenant_line, call_part, start_line, finish_line}
use Rattle.tenant_script.specs.Reading.{Head, HTenant, HProgram, HStart, HFinish, tenant_by, tenant_of, as_program, as_start, start_of, finish_of, first_of, head_of}

abbrev pub head_line : Head → List ℕ
head_line (HTenant t) = tenant_line t
head_line (HProgram name language) = program_line name language
head_line (HStart tenant j) = start_line tenant j
head_line (HFinish tenant name) = finish_line tenant name

abbrev pub HeadIsFormed : Head → Type 0
HeadIsFormed (HTenant t) = TenantIsFormed t
HeadIsFormed (HProgram name language) = IsWord name
HeadIsFormed (HStart tenant j) = StartIsFormed tenant j
HeadIsFormed (HFinish tenant name) = FinishIsFormed tenant name

-- ---- each line in form is read

tenant_read : (t : Tenant) → TenantIsFormed t → tenant_of (32 ∷ (t.name ++ 32 ∷ number t.cells)) ≡ Some t
unfolding tenant_of
tenant_read t h =
    let rest : List ℕ = 32 ∷ (t.name ++ 32 ∷ number t.cells) in
    let free : Free 32 t.name = word_free 32 t.name refl refl h in
    then_is (word_of rest) (λ p. only_if (is_word p.0) (option_map (tenant_by p.0) (number_behind p.0 (behind rest)))) (t.name, 32 ∷ number t.cells) (Some t)
    (word_read t.name (32 ∷ number t.cells) free refl)
    (only_is (is_word t.name) (option_map (tenant_by t.name) (number_behind t.name (behind rest))) (Some t) (name_passes is_letter t.name h)
    (map_is (tenant_by t.name) (number_behind t.name (behind rest)) t.cells (number_line_read t.name t.cells free)))

start_read : (tenant : List ℕ) (j : Job) → StartIsFormed tenant j → start_of (32 ∷ (tenant ++ call_part j)) ≡ Some (HStart tenant j)
unfolding start_of
start_read tenant j h =
    then_is (word_of (32 ∷ (tenant ++ call_part j))) (λ p. only_if (is_word p.0) (and_then (job_of p.1) (as_start p.0))) (tenant, call_part j) (Some (HStart tenant j))
    (word_read tenant (call_part j) (word_free 32 tenant refl refl h.tenant) refl)
    (only_is (is_word tenant) (and_then (job_of (call_part j)) (as_start tenant)) (Some (HStart tenant j)) (name_passes is_letter tenant h.tenant)
    (ap (λ o. and_then o (as_start tenant)) (job_read j h.job)))

finish_read : (tenant name : List ℕ) → FinishIsFormed tenant name → finish_of (32 ∷ (tenant ++ 32 ∷ name)) ≡ Some (HFinish tenant name)
unfolding finish_of
finish_read tenant name h =
    then_is (word_of (32 ∷ (tenant ++ 32 ∷ name))) (λ p. only_if (is_word p.0) (only_if (is_word (behind p.1)) (Some (HFinish p.0 (behind p.1))))) (tenant, 32 ∷ name) (Some (HFinish tenant name))
    (word_read tenant (32 ∷ name) (word_free 32 tenant refl refl h.tenant) refl)
    (only_is (is_word tenant) (only_if (is_word name) (Some (HFinish tenant name))) (Some (HFinish tenant name)) (name_passes is_letter tenant h.tenant)
    (only_is (is_word name) (Some (HFinish tenant name)) (Some (HFinish tenant name)) (name_passes is_letter name h.name) refl))

pub head_read : (h : Head) → HeadIsFormed h → head_of (head_line h) ≡ Some h
unfolding head_of
head_read (HTenant t) k = ap (option_map HTenant) (tenant_read t k)
head_read (HProgram name language) k = ap (λ o. and_then o as_program) (program_read name language k)
head_read (HStart tenant j) k = start_read tenant j k
head_read (HFinish tenant name) k = finish_read tenant name k

pub first_read : (t : Tenant) → TenantIsFormed t → first_of (tenant_line t) ≡ Some t
unfolding first_of
first_read t h = tenant_read t h

-- ---- what is read is the line's

tenant_found : (rest : List ℕ) (t : Tenant) → tenant_of rest ≡ Some t → TenantIsFormed t × (codes "tenant" ++ rest ≡ tenant_line t)
unfolding tenant_of
tenant_found rest t e =
    let (p, p_is, e2) = then_some (word_of rest) (λ p. only_if (is_word p.0) (option_map (tenant_by p.0) (number_behind p.0 (behind rest)))) t e in
    let q = only_some (is_word p.0) (option_map (tenant_by p.0) (number_behind p.0 (behind rest))) t e2 in
    let (n, n_is, t_is) = map_some (tenant_by p.0) (number_behind p.0 (behind rest)) t q.1 in
    let w = word_found rest p p_is in
    let spaced : rest ≡ 32 ∷ behind rest = w.is ∙ ap (λ l. 32 ∷ l) (sym (ap behind w.is)) in
    let is : rest ≡ 32 ∷ (p.0 ++ 32 ∷ number n) = spaced ∙ ap (λ l. 32 ∷ l) (number_line_found p.0 (behind rest) n n_is) in
    subst (λ t. TenantIsFormed t × (codes "tenant" ++ rest ≡ tenant_line t)) (sym t_is) (passing_name is_letter p.0 q.0, ap (λ l. codes "tenant" ++ l) is)

pub first_found : (line : List ℕ) (t : Tenant) → first_of line ≡ Some t → TenantIsFormed t × (line ≡ tenant_line t)
unfolding first_of
first_found line t e =
    let q = only_some (bytes_eq (upto 32 line) (codes "tenant")) (tenant_of (from 32 line)) t e in
    let p = tenant_found (from 32 line) t q.1 in
    (p.0, cut_parts 32 line ∙ ap (λ l. l ++ from 32 line) (same_name (upto 32 line) (codes "tenant") q.0) ∙ p.1)

program_head : (rest : List ℕ) (g : JobHead) (h : Head) → program_of rest ≡ Some g → as_program g ≡ Some h → HeadIsFormed h × (codes "program" ++ rest ≡ head_line h)
program_head rest (JHProgram name language) h e f =
    subst (λ h. HeadIsFormed h × (codes "program" ++ rest ≡ head_line h)) (some_same (HProgram name language) h f) (program_found rest (JHProgram name language) e)
program_head rest (HJob j) h e f = absurd cc

start_found : (rest : List ℕ) (h : Head) → Free 10 rest → start_of rest ≡ Some h → HeadIsFormed h × (codes "start" ++ rest ≡ head_line h)
unfolding start_of
start_found rest h free e =
    let (p, p_is, e2) = then_some (word_of rest) (λ p. only_if (is_word p.0) (and_then (job_of p.1) (as_start p.0))) h e in
    let q = only_some (is_word p.0) (and_then (job_of p.1) (as_start p.0)) h e2 in
    let (g, g_is, h_is) = then_some (job_of p.1) (as_start p.0) h q.1 in
    of_job p.0 p.1 g (job_found p.1 g g_is) (passing_name is_letter p.0 q.0) h_is (word_found rest p p_is).is
  where
    of_job : (tenant call : List ℕ) (g : JobHead) → JobRead call g → IsWord tenant → as_start tenant g ≡ Some h → rest ≡ 32 ∷ (tenant ++ call)
        → HeadIsFormed h × (codes "start" ++ rest ≡ head_line h)
    of_job tenant call g r w f is =
        let behind : Free 10 call = free_behind 10 (32 ∷ tenant) call (subst (Free 10) is free) in
        let whole : Free 10 (job_line r.job) = subst (Free 10) r.rest_is (free_append 10 (codes "job") call refl behind) in
        let same : call ≡ call_part r.job = ap (drop 3) r.rest_is in
        subst (λ h. HeadIsFormed h × (codes "start" ++ rest ≡ head_line h)) (some_same (HStart tenant r.job) h (ap (as_start tenant) r.is ∙ f)) (
          record { tenant = w; job = record { name = r.name; program = r.program; entry = r.entry; args = line_args r.job whole } },
          ap (λ l. codes "start" ++ l) (is ∙ ap (λ l. 32 ∷ (tenant ++ l)) same),
        )

-- what is left behind a word begins with a space
left_spaced : (rest : List ℕ) (p : List ℕ × List ℕ) → word_of rest ≡ Some p → (b : ℕ) (bs : List ℕ) → p.1 ≡ b ∷ bs → b ≡ 32
left_spaced [] p e b bs f = absurd cc
left_spaced (x ∷ xs) p e b bs f =
    let q = only_some (x == 32) (Some (upto 32 xs, from 32 xs)) p e in
    let same : (upto 32 xs, from 32 xs) ≡ p = some_same (upto 32 xs, from 32 xs) p q.1 in
    from_first 32 b xs bs (ap (λ (z : List ℕ × List ℕ). z.1) same ∙ f)

spaced_name : (left : List ℕ) → ((b : ℕ) (bs : List ℕ) → left ≡ b ∷ bs → b ≡ 32) → is_word (behind left) ≡ true → left ≡ 32 ∷ behind left
spaced_name [] f h = absurd cc
spaced_name (b ∷ bs) f h = ap (λ x. x ∷ bs) (f b bs refl)

finish_found : (rest : List ℕ) (h : Head) → finish_of rest ≡ Some h → HeadIsFormed h × (codes "finish" ++ rest ≡ head_line h)
unfolding finish_of
finish_found rest h e =
    let (p, p_is, e2) = then_some (word_of rest) (λ p. only_if (is_word p.0) (only_if (is_word (behind p.1)) (Some (HFinish p.0 (behind p.1))))) h e in
    let q = only_some (is_word p.0) (only_if (is_word (behind p.1)) (Some (HFinish p.0 (behind p.1)))) h e2 in
    let r = only_some (is_word (behind p.1)) (Some (HFinish p.0 (behind p.1))) h q.1 in
    let left : p.1 ≡ 32 ∷ behind p.1 = spaced_name p.1 (left_spaced rest p p_is) r.0 in
    subst (λ h. HeadIsFormed h × (codes "finish" ++ rest ≡ head_line h)) (some_same (HFinish p.0 (behind p.1)) h r.1) (
      record { tenant = passing_name is_letter p.0 q.0; name = passing_name is_letter (behind p.1) r.0 },
      ap (λ l. codes "finish" ++ l) ((word_found rest p p_is).is ∙ ap (λ l. 32 ∷ (p.0 ++ l)) left),
    )

pub head_found : (line : List ℕ) (h : Head) → Free 10 line → head_of line ≡ Some h → HeadIsFormed h × (line ≡ head_line h)
unfolding head_of
head_found line h free e = by_tenant (bytes_eq (upto 32 line) (codes "tenant")) refl e
  where
    parts : (tag : List ℕ) → bytes_eq (upto 32 line) tag ≡ true → line ≡ tag ++ from 32 line
    parts tag k = cut_parts 32 line ∙ ap (λ l. l ++ from 32 line) (same_name (upto 32 line) tag k)

    behind_tag : Free 10 (from 32 line)
    behind_tag = free_behind 10 (upto 32 line) (from 32 line) (subst (Free 10) (cut_parts 32 line) free)

    tagged : (tag : List ℕ) → bytes_eq (upto 32 line) tag ≡ true → HeadIsFormed h × (tag ++ from 32 line ≡ head_line h) → HeadIsFormed h × (line ≡ head_line h)
    tagged tag k p = (p.0, parts tag k ∙ p.1)

    by_finish : (t : Bool) → bytes_eq (upto 32 line) (codes "finish") ≡ t → only_if t (finish_of (from 32 line)) ≡ Some h → HeadIsFormed h × (line ≡ head_line h)
    by_finish true k f = tagged (codes "finish") k (finish_found (from 32 line) h f)
    by_finish false k f = absurd cc

    by_start : (t : Bool) → bytes_eq (upto 32 line) (codes "start") ≡ t
        → (if t then start_of (from 32 line) else only_if (bytes_eq (upto 32 line) (codes "finish")) (finish_of (from 32 line))) ≡ Some h → HeadIsFormed h × (line ≡ head_line h)
    by_start true k f = tagged (codes "start") k (start_found (from 32 line) h behind_tag f)
    by_start false k f = by_finish (bytes_eq (upto 32 line) (codes "finish")) refl f

    by_program : (t : Bool) → bytes_eq (upto 32 line) (codes "program") ≡ t
        → (if t then and_then (program_of (from 32 line)) as_program else
        if bytes_eq (upto 32 line) (codes "start") then start_of (from 32 line) else only_if (bytes_eq (upto 32 line) (codes "finish")) (finish_of (from 32 line))) ≡ Some h
        → HeadIsFormed h × (line ≡ head_line h)
    by_program true k f =
        let (g, g_is, h_is) = then_some (program_of (from 32 line)) as_program h f in
        tagged (codes "program") k (program_head (from 32 line) g h g_is h_is)
    by_program false k f = by_start (bytes_eq (upto 32 line) (codes "start")) refl f

    by_tenant : (t : Bool) → bytes_eq (upto 32 line) (codes "tenant") ≡ t
        → (if t then option_map HTenant (tenant_of (from 32 line)) else
        if bytes_eq (upto 32 line) (codes "program") then and_then (program_of (from 32 line)) as_program else
        if bytes_eq (upto 32 line) (codes "start") then start_of (from 32 line) else only_if (bytes_eq (upto 32 line) (codes "finish")) (finish_of (from 32 line))) ≡ Some h
        → HeadIsFormed h × (line ≡ head_line h)
    by_tenant true k f =
        let (t, t_is, h_is) = map_some HTenant (tenant_of (from 32 line)) h f in
        let p = tenant_found (from 32 line) t t_is in
        tagged (codes "tenant") k (subst (λ h. HeadIsFormed h × (codes "tenant" ++ from 32 line ≡ head_line h)) (sym h_is) p)
    by_tenant false k f = by_program (bytes_eq (upto 32 line) (codes "program")) refl f

-- ---- lines have no line feed

call_free : (j : Job) → Free 10 (job_line j) → Free 10 (call_part j)
call_free j h = free_behind 10 (codes "job") (call_part j) h

pub head_free : (h : Head) → HeadIsFormed h → Free 10 (head_line h)
head_free (HTenant t) k = next_free (codes "tenant") (t.name ++ 32 ∷ number t.cells) refl (number_line_free t.name t.cells (word_free 10 t.name refl refl k))
head_free (HProgram name language) k = job_head_free (JHProgram name language) k
head_free (HStart tenant j) k =
    next_free (codes "start") (tenant ++ call_part j) refl
    (free_append 10 tenant (call_part j) (word_free 10 tenant refl refl k.tenant) (call_free j (job_head_free (HJob j) k.job)))
head_free (HFinish tenant name) k =
    next_free (codes "finish") (tenant ++ 32 ∷ name) refl (next_free tenant name (word_free 10 tenant refl refl k.tenant) (word_free 10 name refl refl k.name))
