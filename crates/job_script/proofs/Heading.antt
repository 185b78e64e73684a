-- The reader of a program's first line and of a job's line.
use Rattle.std.proofs.Common.{◌≡◌, ℕ, true, false, List, Option, Some, None, sym, ap, ◌∙◌}
use Rattle.std.specs.Prelude.{codes, if◌then◌else◌}
use Rattle.std.specs.Option.{option_map}
use Rattle.std.specs.Str.{bytes_eq}
use Rattle.camelot_values.specs.Names.{is_lower_name}
use Rattle.text_lines.specs.Cuts.{and_then, only_if, upto, from, word_of, number_of, IsCut}
use Rattle.job_script.specs.Scripts.{IsUpTo}
use Rattle.job_script.specs.Reading.{is_word, language_of, args_of, Head, HProgram, HJob, HeadFits, job_by, program_of, fuel_of, entry_of_job, job_of, head_of, IsRead, IsStopped}
use Rattle.job_script.specs.declared.stop.LineStop.{LineStop}
use Rattle.job_script.specs.declared.stop.LineStop.TheVariants as stop
use Rattle.job_script.specs.declared.types.Language.{Language}

-- ---- a program

abbrev after_name : List ℕ × List ℕ → Option Head
after_name p = and_then (language_of p.1) (λ language. only_if (is_word p.0) (Some (HProgram p.0 language)))

pub no_program : (rest : List ℕ) → word_of rest ≡ None → program_of rest ≡ None
unfolding program_of
no_program rest e = ap (λ o. and_then o after_name) e

program_is : (rest name after : List ℕ) (o : Option Language) → IsCut (word_of rest) name after → o ≡ language_of after
    → program_of rest ≡ and_then o (λ language. only_if (is_word name) (Some (HProgram name language)))
unfolding program_of
program_is rest name after o e f = ap (λ o. and_then o after_name) e.is ∙ ap (λ o. and_then o (λ language. only_if (is_word name) (Some (HProgram name language)))) (sym f)

pub no_language : (rest name after : List ℕ) → IsCut (word_of rest) name after → None ≡ language_of after → program_of rest ≡ None
no_language rest name after e f = program_is rest name after None e f

pub no_program_name : (rest name after : List ℕ) (language : Language) → IsCut (word_of rest) name after → Some language ≡ language_of after
    → is_word name ≡ false → program_of rest ≡ None
no_program_name rest name after language e f h = program_is rest name after (Some language) e f ∙ ap (λ t. only_if t (Some (HProgram name language))) h

pub some_program : (rest name after : List ℕ) (language : Language) → IsCut (word_of rest) name after → Some language ≡ language_of after
    → is_word name ≡ true → IsRead (program_of rest) HeadFits (HProgram name language)
some_program rest name after language e f h = record { is = program_is rest name after (Some language) e f ∙ ap (λ t. only_if t (Some (HProgram name language))) h; fits = tt }

-- ---- the fuel and the arguments of a job

abbrev after_fuel : (name program entry : List ℕ) → List ℕ × List ℕ → Option Head
after_fuel name program entry p = and_then (args_of p.1) (λ args. option_map (λ fuel. HJob (job_by name program entry fuel args)) (number_of p.0))

pub no_fuel : (name program entry rest : List ℕ) → word_of rest ≡ None → fuel_of name program entry rest ≡ None
unfolding fuel_of
no_fuel name program entry rest e = ap (λ o. and_then o (after_fuel name program entry)) e

fuel_is : (name program entry rest word after : List ℕ) (o : Option (List ℕ)) → IsCut (word_of rest) word after → args_of after ≡ o
    → fuel_of name program entry rest ≡ and_then o (λ args. option_map (λ fuel. HJob (job_by name program entry fuel args)) (number_of word))
unfolding fuel_of
fuel_is name program entry rest word after o e f = ap (λ o. and_then o (after_fuel name program entry)) e.is ∙ ap (λ o. and_then o (λ args. option_map (λ fuel. HJob (job_by name program entry fuel args)) (number_of word))) f

pub no_args : (name program entry rest word after : List ℕ) → IsCut (word_of rest) word after → args_of after ≡ None → fuel_of name program entry rest ≡ None
no_args name program entry rest word after e f = fuel_is name program entry rest word after None e f

pub fuel_stopped : (s : LineStop) (name program entry rest word after args : List ℕ) → IsCut (word_of rest) word after → args_of after ≡ Some args
    → IsStopped (number_of word) (IsUpTo 1099511627776) s → IsStopped (fuel_of name program entry rest) HeadFits s
fuel_stopped stop.Line name program entry rest word after args e f h = fuel_is name program entry rest word after (Some args) e f ∙ ap (option_map (λ fuel. HJob (job_by name program entry fuel args))) h
fuel_stopped stop.Count name program entry rest word after args e f h = record {
  x = HJob (job_by name program entry h.x args);
  is = fuel_is name program entry rest word after (Some args) e f ∙ ap (option_map (λ fuel. HJob (job_by name program entry fuel args))) h.is;
  wide = h.wide;
}
fuel_stopped stop.Repeat name program entry rest word after args e f h = absurd h
fuel_stopped stop.Memory name program entry rest word after args e f h = tt

pub some_fuel : (name program entry rest word after args : List ℕ) (fuel : ℕ) → IsCut (word_of rest) word after → args_of after ≡ Some args
    → IsRead (number_of word) (IsUpTo 1099511627776) fuel
    → IsRead (fuel_of name program entry rest) HeadFits (HJob (job_by name program entry fuel args))
some_fuel name program entry rest word after args fuel e f h = record { is = fuel_is name program entry rest word after (Some args) e f ∙ ap (option_map (λ fuel. HJob (job_by name program entry fuel args))) h.is; fits = h.fits }

-- ---- the entry of a job

abbrev after_entry : (name program : List ℕ) → List ℕ × List ℕ → Option Head
after_entry name program p = only_if (is_lower_name p.0) (fuel_of name program p.0 p.1)

pub no_entry : (name program rest : List ℕ) → word_of rest ≡ None → entry_of_job name program rest ≡ None
unfolding entry_of_job
no_entry name program rest e = ap (λ o. and_then o (after_entry name program)) e

pub no_entry_name : (name program rest entry after : List ℕ) → IsCut (word_of rest) entry after → is_lower_name entry ≡ false
    → entry_of_job name program rest ≡ None
unfolding entry_of_job
no_entry_name name program rest entry after e h = ap (λ o. and_then o (after_entry name program)) e.is ∙ ap (λ t. only_if t (fuel_of name program entry after)) h

pub entry_is : (name program rest entry after : List ℕ) → IsCut (word_of rest) entry after → is_lower_name entry ≡ true
    → entry_of_job name program rest ≡ fuel_of name program entry after
unfolding entry_of_job
entry_is name program rest entry after e h = ap (λ o. and_then o (after_entry name program)) e.is ∙ ap (λ t. only_if t (fuel_of name program entry after)) h

-- ---- a job

abbrev after_program : List ℕ → List ℕ × List ℕ → Option Head
after_program name q = only_if (is_word q.0) (entry_of_job name q.0 q.1)

abbrev after_job : List ℕ × List ℕ → Option Head
after_job p = only_if (is_word p.0) (and_then (word_of p.1) (after_program p.0))

pub no_job : (rest : List ℕ) → word_of rest ≡ None → job_of rest ≡ None
unfolding job_of
no_job rest e = ap (λ o. and_then o after_job) e

pub no_job_name : (rest name after : List ℕ) → IsCut (word_of rest) name after → is_word name ≡ false → job_of rest ≡ None
unfolding job_of
no_job_name rest name after e h = ap (λ o. and_then o after_job) e.is ∙ ap (λ t. only_if t (and_then (word_of after) (after_program name))) h

job_is : (rest name after : List ℕ) (o : Option (List ℕ × List ℕ)) → IsCut (word_of rest) name after → is_word name ≡ true → word_of after ≡ o
    → job_of rest ≡ and_then o (after_program name)
unfolding job_of
job_is rest name after o e h f = ap (λ o. and_then o after_job) e.is ∙ ap (λ t. only_if t (and_then (word_of after) (after_program name))) h ∙ ap (λ o. and_then o (after_program name)) f

pub no_job_program : (rest name after : List ℕ) → IsCut (word_of rest) name after → is_word name ≡ true → word_of after ≡ None → job_of rest ≡ None
no_job_program rest name after e h f = job_is rest name after None e h f

pub no_program_word : (rest name after program behind : List ℕ) → IsCut (word_of rest) name after → is_word name ≡ true
    → IsCut (word_of after) program behind → is_word program ≡ false → job_of rest ≡ None
no_program_word rest name after program behind e h f k = job_is rest name after (Some (program, behind)) e h f.is ∙ ap (λ t. only_if t (entry_of_job name program behind)) k

pub job_goes : (rest name after program behind : List ℕ) → IsCut (word_of rest) name after → is_word name ≡ true
    → IsCut (word_of after) program behind → is_word program ≡ true → job_of rest ≡ entry_of_job name program behind
job_goes rest name after program behind e h f k = job_is rest name after (Some (program, behind)) e h f.is ∙ ap (λ t. only_if t (entry_of_job name program behind)) k

-- ---- either

head_by : (line tag rest : List ℕ) → tag ≡ upto 32 line → rest ≡ from 32 line
    → head_of line ≡ (if bytes_eq tag (codes "program") then program_of rest else only_if (bytes_eq tag (codes "job")) (job_of rest))
unfolding head_of
head_by line tag rest e f =
    sym (ap (λ t. if bytes_eq t (codes "program") then program_of rest else only_if (bytes_eq t (codes "job")) (job_of rest)) e
    ∙ ap (λ r. if bytes_eq (upto 32 line) (codes "program") then program_of r else only_if (bytes_eq (upto 32 line) (codes "job")) (job_of r)) f)

pub head_program : (line tag rest : List ℕ) → tag ≡ upto 32 line → rest ≡ from 32 line → bytes_eq tag (codes "program") ≡ true → head_of line ≡ program_of rest
head_program line tag rest e f h = head_by line tag rest e f ∙ ap (λ t. if t then program_of rest else only_if (bytes_eq tag (codes "job")) (job_of rest)) h

pub head_job : (line tag rest : List ℕ) → tag ≡ upto 32 line → rest ≡ from 32 line → bytes_eq tag (codes "program") ≡ false
    → bytes_eq tag (codes "job") ≡ true → head_of line ≡ job_of rest
head_job line tag rest e f h k = head_by line tag rest e f ∙ ap (λ t. if t then program_of rest else only_if (bytes_eq tag (codes "job")) (job_of rest)) h ∙ ap (λ t. only_if t (job_of rest)) k

pub no_head : (line tag rest : List ℕ) → tag ≡ upto 32 line → rest ≡ from 32 line → bytes_eq tag (codes "program") ≡ false
    → bytes_eq tag (codes "job") ≡ false → head_of line ≡ None
no_head line tag rest e f h k = head_by line tag rest e f ∙ ap (λ t. if t then program_of rest else only_if (bytes_eq tag (codes "job")) (job_of rest)) h ∙ ap (λ t. only_if t (job_of rest)) k
