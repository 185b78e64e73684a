-- Names that are added, and names that stood.
use Rattle.std.proofs.Common.{◌≡◌, ℕ, ◌<◌, ◌≤◌, Bool, true, false, List, [], ◌∷◌, ◌++◌, length, refl, sym, ap, ◌∙◌, subst, append-nil, arith, length-append}
use Rattle.std.specs.Prelude.{not, if◌then◌else◌}
use Rattle.camelot_values.specs.Names.{AreDistinct, stands}
use Rattle.text_lines.specs.FrontLaws.{all_append}
use Rattle.job_script.specs.Scripts.{AJob, Job, Script, EntryIsWithin, IsUpTo, IsWithin, HasOnce, program_names, job_names}
use Rattle.job_script.specs.Reading.{add, program_by}
use Rattle.job_script.specs.Steps.{IsAdded, Stood}
use Rattle.job_script.specs.StateLaws.{programs_append, jobs_append}
use Rattle.job_script.specs.DemandLaws.{distinct_more, distinct_not}
use Rattle.job_script.specs.declared.types.Language.{Language}

not_false : (b c : Bool) → b ≡ not c → b ≡ true → c ≡ false
not_false b true e h = absurd (let k : true ≡ false = sym h ∙ e in cc)
not_false b false e h = refl

not_true : (b c : Bool) → b ≡ not c → b ≡ false → c ≡ true
not_true b true e h = refl
not_true b false e h = absurd (let k : true ≡ false = sym e ∙ h in cc)

pub name_added : (most : ℕ) (names longer : List (List ℕ)) (name : List ℕ) (new : Bool) → length names < most → new ≡ not (stands names name)
    → longer ≡ (if new then names ++ name ∷ [] else names) → new ≡ true → IsAdded most names name longer
name_added most names longer name new few e f h = record { few = few; new = not_false new (stands names name) e h; is = f ∙ ap (λ b. if b then names ++ name ∷ [] else names) h }

pub name_stood : (most : ℕ) (names : List (List ℕ)) (name : List ℕ) (new : Bool) → length names < most → new ≡ not (stands names name) → new ≡ false
    → Stood most names name
name_stood most names name new few e h = record { few = few; old = not_true new (stands names name) e h }

-- ---- one more program

names_program : (s : Script) (name : List ℕ) (language : Language) (text : List ℕ)
    → program_names (s.items ++ program_by name language text ∷ []) ≡ program_names s.items ++ name ∷ []
names_program s name language text = programs_append s.items (program_by name language text ∷ [])

jobs_program : (s : Script) (name : List ℕ) (language : Language) (text : List ℕ) → job_names (s.items ++ program_by name language text ∷ []) ≡ job_names s.items
jobs_program s name language text = jobs_append s.items (program_by name language text ∷ []) ∙ append-nil (job_names s.items)

pub within_program : (s : Script) (name : List ℕ) (language : Language) (text : List ℕ) → IsWithin s → length (program_names s.items) < 64
    → IsWithin (add s (program_by name language text))
within_program s name language text h few = record {
  arena = h.arena;
  workers = h.workers;
  fuels = all_append EntryIsWithin s.items (program_by name language text ∷ []) h.fuels (tt, tt);
  programs = omega (arith, few, ap length (names_program s name language text), length-append (program_names s.items) (name ∷ []));
  jobs = subst (λ l. length l ≤ 4096) (sym (jobs_program s name language text)) h.jobs;
}

pub much_program : (s : Script) (name : List ℕ) (language : Language) (text : List ℕ) → 64 ≤ length (program_names s.items)
    → IsWithin (add s (program_by name language text)) → ⊥
much_program s name language text much h = absurd (omega (arith, much, h.programs, ap length (names_program s name language text), length-append (program_names s.items) (name ∷ [])))

pub once_program : (s : Script) (name : List ℕ) (language : Language) (text : List ℕ) → HasOnce s → stands (program_names s.items) name ≡ false
    → HasOnce (add s (program_by name language text))
once_program s name language text h new = record {
  programs = subst AreDistinct (sym (names_program s name language text)) (distinct_more (program_names s.items) name h.programs new);
  jobs = subst AreDistinct (sym (jobs_program s name language text)) h.jobs;
}

pub twice_program : (s : Script) (name : List ℕ) (language : Language) (text : List ℕ) → stands (program_names s.items) name ≡ true
    → HasOnce (add s (program_by name language text)) → ⊥
twice_program s name language text old h = distinct_not (program_names s.items) name old (subst AreDistinct (names_program s name language text) h.programs)

-- ---- one more job

pub names_job : (s : Script) (j : Job) → job_names (s.items ++ AJob j ∷ []) ≡ job_names s.items ++ j.name ∷ []
names_job s j = jobs_append s.items (AJob j ∷ [])

pub programs_job : (s : Script) (j : Job) → program_names (s.items ++ AJob j ∷ []) ≡ program_names s.items
programs_job s j = programs_append s.items (AJob j ∷ []) ∙ append-nil (program_names s.items)

pub within_job : (s : Script) (j : Job) → IsWithin s → length (job_names s.items) < 4096 → IsUpTo 1099511627776 j.fuel → IsWithin (add s (AJob j))
within_job s j h few fuel = record {
  arena = h.arena;
  workers = h.workers;
  fuels = all_append EntryIsWithin s.items (AJob j ∷ []) h.fuels (fuel, tt);
  programs = subst (λ l. length l ≤ 64) (sym (programs_job s j)) h.programs;
  jobs = omega (arith, few, ap length (names_job s j), length-append (job_names s.items) (j.name ∷ []));
}

pub much_job : (s : Script) (j : Job) → 4096 ≤ length (job_names s.items) → IsWithin (add s (AJob j)) → ⊥
much_job s j much h = absurd (omega (arith, much, h.jobs, ap length (names_job s j), length-append (job_names s.items) (j.name ∷ [])))

pub once_job : (s : Script) (j : Job) → HasOnce s → stands (job_names s.items) j.name ≡ false → HasOnce (add s (AJob j))
once_job s j h new = record {
  programs = subst AreDistinct (sym (programs_job s j)) h.programs;
  jobs = subst AreDistinct (sym (names_job s j)) (distinct_more (job_names s.items) j.name h.jobs new);
}

pub twice_job : (s : Script) (j : Job) → stands (job_names s.items) j.name ≡ true → HasOnce (add s (AJob j)) → ⊥
twice_job s j old h = distinct_not (job_names s.items) j.name old (subst AreDistinct (names_job s j) h.jobs)
