-- Pieces of a tenant script's text that are written one after the other.
use Rattle.std.proofs.Common.{◌≡◌, ℕ, List, [], ◌∷◌, ◌++◌, refl, ap, ◌∙◌, append_assoc}
use Rattle.std.specs.Prelude.{flat_map, codes}
use Rattle.text_lines.specs.Lines.{text_of_lines}
use Rattle.text_lines.specs.Numbers.{number}
use Rattle.job_script.specs.Scripts.{Job}
use Rattle.job_script.specs.Text.{args_part, arena_line}
use Rattle.job_script.specs.WritingLaws.{three, line_is}
use Rattle.tenant_script.specs.Tenants.{Tenant, TenantScript}
use Rattle.tenant_script.specs.Text.{tenant_text, call_part, start_line, finish_line, entry_text, tenants_text, IsTenantsText}

-- ---- lines

-- three pieces and a line feed are a line
line_of : (a b c d o p q r : List ℕ) → o ≡ a ++ b → p ≡ o ++ c → q ≡ p ++ d → r ≡ q ++ 10 ∷ []
    → r ≡ a ++ text_of_lines ((b ++ (c ++ d)) ∷ [])
line_of a b c d o p q r e f g h =
    h ∙ ap (λ l. l ++ 10 ∷ []) (three a b c d o p q e f g) ∙ append_assoc a (b ++ (c ++ d)) (10 ∷ []) ∙ ap (λ l. a ++ l) (line_is (b ++ (c ++ d)))

pub tenant_written : (t : Tenant) (a o p q r : List ℕ) → o ≡ a ++ codes "tenant" → p ≡ o ++ 32 ∷ t.name → q ≡ p ++ 32 ∷ number t.cells → r ≡ q ++ 10 ∷ []
    → r ≡ a ++ tenant_text t
tenant_written t a o p q r = line_of a (codes "tenant") (32 ∷ t.name) (32 ∷ number t.cells) o p q r

pub call_written : (j : Job) (a o p q r s : List ℕ) → o ≡ a ++ 32 ∷ j.name → p ≡ o ++ 32 ∷ j.program → q ≡ p ++ 32 ∷ j.entry → r ≡ q ++ 32 ∷ number j.fuel
    → s ≡ r ++ args_part j.args → s ≡ a ++ call_part j
call_written j a o p q r s e f g h i =
    let rest = 32 ∷ j.entry ++ (32 ∷ number j.fuel ++ args_part j.args) in
    three p (32 ∷ j.entry) (32 ∷ number j.fuel) (args_part j.args) q r s g h i ∙ three a (32 ∷ j.name) (32 ∷ j.program) rest o p (p ++ rest) e f refl

pub start_written : (tenant : List ℕ) (j : Job) (a o p q r : List ℕ) → o ≡ a ++ codes "start" → p ≡ o ++ 32 ∷ tenant → q ≡ p ++ call_part j → r ≡ q ++ 10 ∷ []
    → r ≡ a ++ text_of_lines (start_line tenant j ∷ [])
start_written tenant j a o p q r = line_of a (codes "start") (32 ∷ tenant) (call_part j) o p q r

pub finish_written : (tenant name a o p q r : List ℕ) → o ≡ a ++ codes "finish" → p ≡ o ++ 32 ∷ tenant → q ≡ p ++ 32 ∷ name → r ≡ q ++ 10 ∷ []
    → r ≡ a ++ text_of_lines (finish_line tenant name ∷ [])
finish_written tenant name a o p q r = line_of a (codes "finish") (32 ∷ tenant) (32 ∷ name) o p q r

-- ---- the text

pub script_written : (x : TenantScript) (n o p q : List ℕ) → n ≡ [] → o ≡ n ++ text_of_lines (arena_line x.arena ∷ [])
    → p ≡ o ++ flat_map tenant_text x.tenants → q ≡ p ++ flat_map entry_text x.items → q ≡ tenants_text x
unfolding tenants_text
script_written x n o p q e f g h =
    let first : o ≡ text_of_lines (arena_line x.arena ∷ []) = f ∙ ap (λ l. l ++ text_of_lines (arena_line x.arena ∷ [])) e in
    h ∙ ap (λ l. l ++ flat_map entry_text x.items) (g ∙ ap (λ l. l ++ flat_map tenant_text x.tenants) first)

pub same_bytes : (x : TenantScript) (bytes n o p q : List ℕ) → n ≡ [] → o ≡ n ++ text_of_lines (arena_line x.arena ∷ [])
    → p ≡ o ++ flat_map tenant_text x.tenants → q ≡ p ++ flat_map entry_text x.items → IsTenantsText bytes x → q ≡ bytes
same_bytes x bytes n o p q e f g h is = script_written x n o p q e f g h ∙ is.is
