-- The words of a line.
use Rattle.std.proofs.Common.{◌≡◌, ℕ, true, false, List, Option, Some, None, sym, ap, ◌∙◌}
use Rattle.std.specs.Prelude.{codes, if◌then◌else◌}
use Rattle.std.specs.Option.{option_map}
use Rattle.std.specs.Str.{bytes_eq}
use Rattle.text_lines.specs.Cuts.{and_then, only_if, upto, from, behind, word_of, IsCut}
use Rattle.text_lines.specs.OptionLaws.{same_bytes}
use Rattle.job_script.specs.Scripts.{Job, IsUpTo}
use Rattle.job_script.specs.Reading.{is_word, number_behind, job_of, program_of, Head as JobHead, HProgram as JHProgram, HJob, IsRead, IsStopped}
use Rattle.job_script.specs.declared.stop.LineStop.{LineStop}
use Rattle.job_script.specs.declared.stop.LineStop.TheVariants as stop
use Rattle.job_script.specs.declared.types.Language.{Language}
use Rattle.tenant_script.specs.Tenants.{Tenant}
use Rattle.tenant_script.specs.Reading.{Head, HTenant, HStart, HFinish, tenant_by, tenant_of, as_program, as_start, start_of, finish_of, first_of, head_by, head_of}
use Rattle.tenant_script.specs.Parts.{HasSize}

-- ---- a tenant

abbrev after_tenant : List ℕ → List ℕ × List ℕ → Option Tenant
after_tenant rest p = only_if (is_word p.0) (option_map (tenant_by p.0) (number_behind p.0 (behind rest)))

pub budget_none : (rest : List ℕ) → word_of rest ≡ None → tenant_of rest ≡ None
unfolding tenant_of
budget_none rest e = ap (λ o. and_then o (after_tenant rest)) e

pub budget_other : (rest name left : List ℕ) → IsCut (word_of rest) name left → is_word name ≡ false → tenant_of rest ≡ None
unfolding tenant_of
budget_other rest name left e h = ap (λ o. and_then o (after_tenant rest)) e.is ∙ ap (λ t. only_if t (option_map (tenant_by name) (number_behind name (behind rest)))) h

budget_is : (rest name left line : List ℕ) → IsCut (word_of rest) name left → is_word name ≡ true → line ≡ behind rest
    → tenant_of rest ≡ option_map (tenant_by name) (number_behind name line)
unfolding tenant_of
budget_is rest name left line e h k =
    ap (λ o. and_then o (after_tenant rest)) e.is ∙ ap (λ t. only_if t (option_map (tenant_by name) (number_behind name (behind rest)))) h ∙ ap (λ l. option_map (tenant_by name) (number_behind name l)) (sym k)

pub budget_stopped : (s : LineStop) (rest name left line : List ℕ) → IsCut (word_of rest) name left → is_word name ≡ true → line ≡ behind rest
    → IsStopped (number_behind name line) (IsUpTo 4194304) s → IsStopped (tenant_of rest) HasSize s
budget_stopped stop.Line rest name left line e h k q = budget_is rest name left line e h k ∙ ap (option_map (tenant_by name)) q
budget_stopped stop.Count rest name left line e h k q = record { x = tenant_by name q.x; is = budget_is rest name left line e h k ∙ ap (option_map (tenant_by name)) q.is; wide = q.wide }
budget_stopped stop.Repeat rest name left line e h k q = absurd q
budget_stopped stop.Memory rest name left line e h k q = tt

pub budget_read : (rest name left line : List ℕ) (n : ℕ) → IsCut (word_of rest) name left → is_word name ≡ true → line ≡ behind rest
    → IsRead (number_behind name line) (IsUpTo 4194304) n → IsRead (tenant_of rest) HasSize (tenant_by name n)
budget_read rest name left line n e h k q = record { is = budget_is rest name left line e h k ∙ ap (option_map (tenant_by name)) q.is; fits = q.fits }

-- ---- a start

abbrev after_owner : List ℕ × List ℕ → Option Head
after_owner p = only_if (is_word p.0) (and_then (job_of p.1) (as_start p.0))

pub start_none : (rest : List ℕ) → word_of rest ≡ None → start_of rest ≡ None
unfolding start_of
start_none rest e = ap (λ o. and_then o after_owner) e

pub start_other : (rest tenant call : List ℕ) → IsCut (word_of rest) tenant call → is_word tenant ≡ false → start_of rest ≡ None
unfolding start_of
start_other rest tenant call e h = ap (λ o. and_then o after_owner) e.is ∙ ap (λ t. only_if t (and_then (job_of call) (as_start tenant))) h

start_is : (rest tenant call : List ℕ) (o : Option JobHead) → IsCut (word_of rest) tenant call → is_word tenant ≡ true → job_of call ≡ o
    → start_of rest ≡ and_then o (as_start tenant)
unfolding start_of
start_is rest tenant call o e h k =
    ap (λ o. and_then o after_owner) e.is ∙ ap (λ t. only_if t (and_then (job_of call) (as_start tenant))) h ∙ ap (λ o. and_then o (as_start tenant)) k

pub no_call : (rest tenant call : List ℕ) → IsCut (word_of rest) tenant call → is_word tenant ≡ true → job_of call ≡ None → start_of rest ≡ None
no_call rest tenant call e h k = start_is rest tenant call None e h k

pub some_call : (rest tenant call : List ℕ) (j : Job) → IsCut (word_of rest) tenant call → is_word tenant ≡ true → job_of call ≡ Some (HJob j)
    → start_of rest ≡ Some (HStart tenant j)
some_call rest tenant call j e h k = start_is rest tenant call (Some (HJob j)) e h k

pub other_call : (rest tenant call name : List ℕ) (language : Language) → IsCut (word_of rest) tenant call → is_word tenant ≡ true
    → job_of call ≡ Some (JHProgram name language) → start_of rest ≡ None
other_call rest tenant call name language e h k = start_is rest tenant call (Some (JHProgram name language)) e h k

-- ---- a finish

abbrev after_ended : List ℕ × List ℕ → Option Head
after_ended p = only_if (is_word p.0) (only_if (is_word (behind p.1)) (Some (HFinish p.0 (behind p.1))))

pub finish_none : (rest : List ℕ) → word_of rest ≡ None → finish_of rest ≡ None
unfolding finish_of
finish_none rest e = ap (λ o. and_then o after_ended) e

pub finish_other : (rest tenant left : List ℕ) → IsCut (word_of rest) tenant left → is_word tenant ≡ false → finish_of rest ≡ None
unfolding finish_of
finish_other rest tenant left e h = ap (λ o. and_then o after_ended) e.is ∙ ap (λ t. only_if t (only_if (is_word (behind left)) (Some (HFinish tenant (behind left))))) h

finish_is : (rest tenant left name : List ℕ) → IsCut (word_of rest) tenant left → is_word tenant ≡ true → name ≡ behind left
    → finish_of rest ≡ only_if (is_word name) (Some (HFinish tenant name))
unfolding finish_of
finish_is rest tenant left name e h k =
    ap (λ o. and_then o after_ended) e.is ∙ ap (λ t. only_if t (only_if (is_word (behind left)) (Some (HFinish tenant (behind left))))) h ∙ ap (λ n. only_if (is_word n) (Some (HFinish tenant n))) (sym k)

pub finish_nameless : (rest tenant left name : List ℕ) → IsCut (word_of rest) tenant left → is_word tenant ≡ true → name ≡ behind left → is_word name ≡ false
    → finish_of rest ≡ None
finish_nameless rest tenant left name e h k g = finish_is rest tenant left name e h k ∙ ap (λ t. only_if t (Some (HFinish tenant name))) g

pub some_finish : (rest tenant left name : List ℕ) → IsCut (word_of rest) tenant left → is_word tenant ≡ true → name ≡ behind left → is_word name ≡ true
    → finish_of rest ≡ Some (HFinish tenant name)
some_finish rest tenant left name e h k g = finish_is rest tenant left name e h k ∙ ap (λ t. only_if t (Some (HFinish tenant name))) g

-- ---- by the first word

head_is : (line tag rest : List ℕ) → tag ≡ upto 32 line → rest ≡ from 32 line → head_of line ≡ head_by tag rest
unfolding head_of
head_is line tag rest e f = sym (ap (λ t. head_by t rest) e ∙ ap (λ r. head_by (upto 32 line) r) f)

head_tagged : (line tag rest word : List ℕ) → tag ≡ upto 32 line → rest ≡ from 32 line → bytes_eq tag word ≡ true → head_of line ≡ head_by word rest
head_tagged line tag rest word e f h = head_is line tag rest e f ∙ ap (λ t. head_by t rest) (same_bytes tag word h)

pub first_is : (line tag rest : List ℕ) → tag ≡ upto 32 line → rest ≡ from 32 line → bytes_eq tag (codes "tenant") ≡ true → first_of line ≡ tenant_of rest
unfolding first_of
first_is line tag rest e f h =
    ap (λ t. only_if (bytes_eq t (codes "tenant")) (tenant_of (from 32 line))) (sym e) ∙ ap (λ b. only_if b (tenant_of (from 32 line))) h ∙ ap tenant_of (sym f)

pub first_not : (line tag : List ℕ) → tag ≡ upto 32 line → bytes_eq tag (codes "tenant") ≡ false → first_of line ≡ None
unfolding first_of
first_not line tag e h = ap (λ t. only_if (bytes_eq t (codes "tenant")) (tenant_of (from 32 line))) (sym e) ∙ ap (λ b. only_if b (tenant_of (from 32 line))) h

pub head_tenant : (line tag rest : List ℕ) → tag ≡ upto 32 line → rest ≡ from 32 line → bytes_eq tag (codes "tenant") ≡ true → head_of line ≡ option_map HTenant (tenant_of rest)
head_tenant line tag rest e f h = head_tagged line tag rest (codes "tenant") e f h

pub head_program : (line tag rest : List ℕ) → tag ≡ upto 32 line → rest ≡ from 32 line → bytes_eq tag (codes "program") ≡ true
    → head_of line ≡ and_then (program_of rest) as_program
head_program line tag rest e f h = head_tagged line tag rest (codes "program") e f h

pub head_start : (line tag rest : List ℕ) → tag ≡ upto 32 line → rest ≡ from 32 line → bytes_eq tag (codes "start") ≡ true → head_of line ≡ start_of rest
head_start line tag rest e f h = head_tagged line tag rest (codes "start") e f h

pub head_finish : (line tag rest : List ℕ) → tag ≡ upto 32 line → rest ≡ from 32 line → bytes_eq tag (codes "finish") ≡ true → head_of line ≡ finish_of rest
head_finish line tag rest e f h = head_tagged line tag rest (codes "finish") e f h

pub no_head : (line tag rest : List ℕ) → tag ≡ upto 32 line → rest ≡ from 32 line → bytes_eq tag (codes "start") ≡ false → bytes_eq tag (codes "finish") ≡ false
    → bytes_eq tag (codes "program") ≡ false → bytes_eq tag (codes "tenant") ≡ false → head_of line ≡ None
no_head line tag rest e f s n p t =
    head_is line tag rest e f
    ∙ ap (λ b. if b then option_map HTenant (tenant_of rest) else
    if bytes_eq tag (codes "program") then and_then (program_of rest) as_program else
    if bytes_eq tag (codes "start") then start_of rest else
    only_if (bytes_eq tag (codes "finish")) (finish_of rest)) t
    ∙ ap (λ b. if b then and_then (program_of rest) as_program else
    if bytes_eq tag (codes "start") then start_of rest else
    only_if (bytes_eq tag (codes "finish")) (finish_of rest)) p
    ∙ ap (λ b. if b then start_of rest else only_if (bytes_eq tag (codes "finish")) (finish_of rest)) s
    ∙ ap (λ b. only_if b (finish_of rest)) n
