-- A drill of so many jobs has one summary, on however many workers.
use Rattle.std.proofs.Common.{◌≡◌, ℕ, List, length, refl, sym, ap, ◌∙◌, subst}
use Rattle.job_script.specs.Scripts.{Entry, Script}
use Rattle.job_script.specs.Made.{made_script}
use Rattle.run_reports.specs.Summary.{total, tally_text, summary_text}
use Rattle.script_plans.specs.Fates.{Fate}
use Rattle.script_plans.specs.Lines.{AreFates, lines_of}
use Rattle.script_service.specs.Service.{Service, IsSummary, summary_of}

same_items : (jobs workers other : ℕ) → (made_script jobs workers).items ≡ (made_script jobs other).items
unfolding made_script
same_items jobs workers other = refl

same_arena : (jobs workers other : ℕ) → (made_script jobs workers).arena ≡ (made_script jobs other).arena
unfolding made_script
same_arena jobs workers other = refl

-- the line of these fates
abbrev summary_by : (arena : ℕ) → List Entry → List Fate → List ℕ
summary_by arena entries fates = tally_text (length (lines_of arena entries fates)) (total (lines_of arena entries fates)) arena

summary_is : (s : Service) → summary_of s ≡ summary_by s.script.arena s.script.items s.fates
unfolding summary_text
summary_is s = refl

pub one_summary : ((script entries : List Entry) (first second : List Fate) → AreFates script entries first → AreFates script entries second → first ≡ second)
    → (jobs workers other : ℕ) (first second : List ℕ) → IsSummary jobs workers first → IsSummary jobs other second → first ≡ second
one_summary of_jobs jobs workers other first second r s =
    let a : Service = r.service in
    let b : Service = s.service in
    let items : b.script.items ≡ a.script.items = ap (λ (c : Script). c.items) s.script ∙ same_items jobs other workers ∙ sym (ap (λ (c : Script). c.items) r.script) in
    let arena : b.script.arena ≡ a.script.arena = ap (λ (c : Script). c.arena) s.script ∙ same_arena jobs other workers ∙ sym (ap (λ (c : Script). c.arena) r.script) in
    let fates : b.fates ≡ a.fates = of_jobs a.script.items a.script.items b.fates a.fates (subst (λ (es : List Entry). AreFates es es b.fates) items s.comes.answered.are_fates) r.comes.answered.are_fates in
    r.is
    ∙ summary_is a
    ∙ sym (ap (λ n. summary_by n a.script.items a.fates) arena)
    ∙ sym (ap (λ es. summary_by b.script.arena es a.fates) items)
    ∙ sym (ap (λ fs. summary_by b.script.arena b.script.items fs) fates)
    ∙ sym (summary_is b)
    ∙ sym s.is
