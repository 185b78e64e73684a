-- Laws, for the proofs of this crate and of those above it.
-- The lines of scripts: what is read of a line is the line's, and each line in form is read.
use Rattle.std.proofs.Common.{◌≡◌, ℕ, Bool, true, false, List, [], ◌∷◌, ◌++◌, Option, Some, refl, sym, ap, ◌∙◌, subst, append_assoc, append-nil}
use Rattle.std.specs.Prelude.{◌==◌, if◌then◌else◌, codes}
use Rattle.std.specs.Option.{option_map}
use Rattle.std.specs.List.{list_all}
use Rattle.std.specs.Str.{bytes_eq}
use Rattle.camelot_values.specs.Names.{is_lower, is_tail, IsName, is_lower_name}
use Rattle.camelot_values.specs.NameLaws.{same_name, name_itself, name_passes, passing_name}
use Rattle.text_lines.specs.Lines.{Free}
use Rattle.text_lines.specs.Numbers.{number}
use Rattle.text_lines.specs.NumberLaws.{number_read, number_found, number_free}
use Rattle.text_lines.specs.Cuts.{and_then, only_if, upto, from, behind, word_of, number_of}
use Rattle.text_lines.specs.OptionLaws.{and_parts, true_false, some_same, then_some, then_is, only_some, only_is, map_some, map_is}
use Rattle.text_lines.specs.CutLaws.{free_cons, free_parts, free_append, upto_cut, from_cut, upto_all, from_all, cut_parts, byte_is}
use Rattle.job_script.specs.Scripts.{Job, is_letter, IsWord, JobIsFormed}
use Rattle.job_script.specs.Text.{language_name, program_line, args_part, job_line}
use Rattle.job_script.specs.Reading.{is_word, number_behind, language_of, args_of, Head, HProgram, HJob, job_by, program_of, fuel_of, entry_of_job, job_of, head_of}
use Rattle.job_script.specs.declared.types.Language.{Language}
use Rattle.job_script.specs.declared.types.Language.TheVariants.{Camelot, Grail}

-- ---- bytes that aren't there

pub free_behind : (byte : ℕ) (xs ys : List ℕ) → Free byte (xs ++ ys) → Free byte ys
free_behind byte [] ys h = h
free_behind byte (x ∷ xs) ys h = free_behind byte xs ys (free_parts byte x (xs ++ ys) h).1

tails_free : (byte : ℕ) (bs : List ℕ) → is_tail byte ≡ false → list_all is_tail bs ≡ true → Free byte bs
tails_free byte [] h k = refl
tails_free byte (b ∷ bs) h k =
    let p = and_parts (is_tail b) (list_all is_tail bs) k in
    free_cons byte b bs (other b p.0) (tails_free byte bs h p.1)
  where
    other : (b : ℕ) → is_tail b ≡ true → (b == byte) ≡ false
    other b e = by_test (b == byte) refl
      where
        by_test : (t : Bool) → (b == byte) ≡ t → t ≡ false
        by_test true q = absurd (true_false (is_tail b) e (ap is_tail (byte_is b byte q) ∙ h))
        by_test false q = refl

pub name_free : (byte : ℕ) (is_first : ℕ → Bool) (word : List ℕ) → is_first byte ≡ false → is_tail byte ≡ false → IsName is_first word → Free byte word
name_free byte is_first [] f t h = refl
name_free byte is_first (b ∷ bs) f t h =
    let p = and_parts (is_first b) (list_all is_tail bs) h.form in
    free_cons byte b bs (by_test (b == byte) refl p.0) (tails_free byte bs t p.1)
  where
    by_test : (t : Bool) → (b == byte) ≡ t → is_first b ≡ true → t ≡ false
    by_test true q e = absurd (true_false (is_first b) e (ap is_first (byte_is b byte q) ∙ f))
    by_test false q e = refl

pub word_free : (byte : ℕ) (word : List ℕ) → is_letter byte ≡ false → is_tail byte ≡ false → IsWord word → Free byte word
word_free byte word f t h = name_free byte is_letter word f t h

-- ---- words behind spaces

-- nothing, or a space in front
abbrev pub Spaced : List ℕ → Type 0
Spaced [] = Unit {0}
Spaced (b ∷ bs) = b ≡ 32

upto_spaced : (w r : List ℕ) → Free 32 w → Spaced r → upto 32 (w ++ r) ≡ w
upto_spaced w [] h s = ap (upto 32) (append-nil w) ∙ upto_all 32 w h
upto_spaced w (b ∷ r) h s = ap (λ x. upto 32 (w ++ x ∷ r)) s ∙ upto_cut 32 w r h

from_spaced : (w r : List ℕ) → Free 32 w → Spaced r → from 32 (w ++ r) ≡ r
from_spaced w [] h s = ap (from 32) (append-nil w) ∙ from_all 32 w h
from_spaced w (b ∷ r) h s = ap (λ x. from 32 (w ++ x ∷ r)) s ∙ from_cut 32 w r h ∙ ap (λ x. x ∷ r) (sym s)

pub word_read : (w r : List ℕ) → Free 32 w → Spaced r → word_of (32 ∷ (w ++ r)) ≡ Some (w, r)
word_read w r h s = ap (λ x. Some (x, from 32 (w ++ r))) (upto_spaced w r h s) ∙ ap (λ x. Some (w, x)) (from_spaced w r h s)

-- the word and the rest that were read
pub record Word (rest : List ℕ) (p : List ℕ × List ℕ) : Type 0 where
  pub is : rest ≡ 32 ∷ (p.0 ++ p.1)

pub word_found : (rest : List ℕ) (p : List ℕ × List ℕ) → word_of rest ≡ Some p → Word rest p
word_found [] p e = absurd cc
word_found (b ∷ bs) p e =
    let q = only_some (b == 32) (Some (upto 32 bs, from 32 bs)) p e in
    let same : (upto 32 bs, from 32 bs) ≡ p = some_same (upto 32 bs, from 32 bs) p q.1 in
    record { is = ap (λ x. x ∷ bs) (byte_is b 32 q.0) ∙ ap (λ l. 32 ∷ l) (cut_parts 32 bs ∙ ap (λ (z : List ℕ × List ℕ). z.0 ++ z.1) same) }

-- ---- a number alone on a line

pub number_line_read : (tag : List ℕ) (n : ℕ) → Free 32 tag → number_behind tag (tag ++ 32 ∷ number n) ≡ Some n
unfolding number_behind
number_line_read tag n h =
    only_is (bytes_eq (upto 32 (tag ++ 32 ∷ number n)) tag) (number_of (behind (from 32 (tag ++ 32 ∷ number n)))) (Some n)
    (ap (λ w. bytes_eq w tag) (upto_cut 32 tag (number n) h) ∙ name_itself tag)
    (ap (λ l. number_of (behind l)) (from_cut 32 tag (number n) h) ∙ number_read n)

from_space : (line : List ℕ) (b : ℕ) (bs : List ℕ) → from 32 line ≡ b ∷ bs → b ≡ 32
from_space line b bs e = by_spaced (from 32 line) (spaced line) e
  where
    spaced : (l : List ℕ) → Spaced (from 32 l)
    spaced [] = tt
    spaced (x ∷ l) = by_test (x == 32) refl (spaced l)
      where
        by_test : (t : Bool) → (x == 32) ≡ t → Spaced (from 32 l) → Spaced (if t then x ∷ l else from 32 l)
        by_test true q s = byte_is x 32 q
        by_test false q s = s

    by_spaced : (r : List ℕ) → Spaced r → r ≡ b ∷ bs → b ≡ 32
    by_spaced [] s e = absurd cc
    by_spaced (x ∷ r) s e = let f : x ≡ b = cc in sym f ∙ s

no_number : (n : ℕ) → number_of [] ≡ Some n → ⊥
unfolding number_of
no_number n e = absurd cc

pub number_line_found : (tag line : List ℕ) (n : ℕ) → number_behind tag line ≡ Some n → line ≡ tag ++ 32 ∷ number n
unfolding number_behind
number_line_found tag line n e =
    let p = only_some (bytes_eq (upto 32 line) tag) (number_of (behind (from 32 line))) n e in
    cut_parts 32 line ∙ ap (λ l. l ++ from 32 line) (same_name (upto 32 line) tag p.0) ∙ by_rest (from 32 line) refl p.1
  where
    by_rest : (r : List ℕ) → from 32 line ≡ r → number_of (behind r) ≡ Some n → tag ++ from 32 line ≡ tag ++ 32 ∷ number n
    by_rest [] q f = absurd (no_number n f)
    by_rest (b ∷ bs) q f = ap (λ l. tag ++ l) q ∙ ap (λ x. tag ++ x ∷ bs) (from_space line b bs q) ∙ ap (λ l. tag ++ 32 ∷ l) (number_found bs n f)

-- ---- the parts of lines

language_read : (language : Language) → language_of (32 ∷ language_name language) ≡ Some language
language_read Camelot = refl
language_read Grail = refl

language_found : (rest : List ℕ) (language : Language) → language_of rest ≡ Some language → rest ≡ 32 ∷ language_name language
language_found rest language e = by_test (bytes_eq rest (codes " camelot")) refl e
  where
    by_test : (t : Bool) → bytes_eq rest (codes " camelot") ≡ t
        → (if t then Some Camelot else only_if (bytes_eq rest (codes " grail")) (Some Grail)) ≡ Some language → rest ≡ 32 ∷ language_name language
    by_test true h f = same_name rest (codes " camelot") h ∙ ap (λ c. 32 ∷ language_name c) (some_same Camelot language f)
    by_test false h f =
        let p = only_some (bytes_eq rest (codes " grail")) (Some Grail) language f in
        same_name rest (codes " grail") p.0 ∙ ap (λ c. 32 ∷ language_name c) (some_same Grail language p.1)

args_read : (args : List ℕ) → args_of (args_part args) ≡ Some args
args_read [] = refl
args_read (b ∷ bs) = refl

args_found : (rest args : List ℕ) → args_of rest ≡ Some args → rest ≡ args_part args
args_found [] args e = ap args_part (some_same [] args e)
args_found (b ∷ []) args e = absurd cc
args_found (b ∷ c ∷ cs) args e =
    let p = only_some (b == 32) (Some (c ∷ cs)) args e in
    ap (λ x. x ∷ c ∷ cs) (byte_is b 32 p.0) ∙ ap args_part (some_same (c ∷ cs) args p.1)

args_spaced : (args : List ℕ) → Spaced (args_part args)
args_spaced [] = tt
args_spaced (b ∷ bs) = refl

args_free : (args : List ℕ) → Free 10 (args_part args) → Free 10 args
args_free [] h = h
args_free (b ∷ bs) h = (free_parts 10 32 (b ∷ bs) h).1

free_args : (args : List ℕ) → Free 10 args → Free 10 (args_part args)
free_args [] h = h
free_args (b ∷ bs) h = free_cons 10 32 (b ∷ bs) refl h

-- ---- heads

abbrev pub head_line : Head → List ℕ
head_line (HProgram name language) = program_line name language
head_line (HJob j) = job_line j

abbrev pub HeadIsFormed : Head → Type 0
HeadIsFormed (HProgram name language) = IsWord name
HeadIsFormed (HJob j) = JobIsFormed j

-- what is behind the first word
abbrev fuel_part : ℕ → List ℕ → List ℕ
fuel_part fuel args = 32 ∷ (number fuel ++ args_part args)

pub program_read : (name : List ℕ) (language : Language) → IsWord name → program_of (32 ∷ (name ++ 32 ∷ language_name language)) ≡ Some (HProgram name language)
unfolding program_of
program_read name language h =
    then_is (word_of (32 ∷ (name ++ 32 ∷ language_name language))) (λ p. and_then (language_of p.1) (λ language. only_if (is_word p.0) (Some (HProgram p.0 language)))) (name, 32 ∷ language_name language) (Some (HProgram name language))
    (word_read name (32 ∷ language_name language) (word_free 32 name refl refl h) refl)
    (then_is (language_of (32 ∷ language_name language)) (λ language. only_if (is_word name) (Some (HProgram name language))) language (Some (HProgram name language)) (language_read language)
    (only_is (is_word name) (Some (HProgram name language)) (Some (HProgram name language)) (name_passes is_letter name h) refl))

fuel_read : (j : Job) → fuel_of j.name j.program j.entry (fuel_part j.fuel j.args) ≡ Some (HJob j)
unfolding fuel_of
fuel_read j =
    then_is (word_of (fuel_part j.fuel j.args)) (λ p. and_then (args_of p.1) (λ args. option_map (λ fuel. HJob (job_by j.name j.program j.entry fuel args)) (number_of p.0))) (number j.fuel, args_part j.args) (Some (HJob j))
    (word_read (number j.fuel) (args_part j.args) (number_free 32 j.fuel refl) (args_spaced j.args))
    (then_is (args_of (args_part j.args)) (λ args. option_map (λ fuel. HJob (job_by j.name j.program j.entry fuel args)) (number_of (number j.fuel))) j.args (Some (HJob j)) (args_read j.args)
    (map_is (λ fuel. HJob (job_by j.name j.program j.entry fuel j.args)) (number_of (number j.fuel)) j.fuel (number_read j.fuel)))

entry_read : (j : Job) → JobIsFormed j → entry_of_job j.name j.program (32 ∷ (j.entry ++ fuel_part j.fuel j.args)) ≡ Some (HJob j)
unfolding entry_of_job
entry_read j h =
    then_is (word_of (32 ∷ (j.entry ++ fuel_part j.fuel j.args))) (λ p. only_if (is_lower_name p.0) (fuel_of j.name j.program p.0 p.1)) (j.entry, fuel_part j.fuel j.args) (Some (HJob j))
    (word_read j.entry (fuel_part j.fuel j.args) (name_free 32 is_lower j.entry refl refl h.entry) refl)
    (only_is (is_lower_name j.entry) (fuel_of j.name j.program j.entry (fuel_part j.fuel j.args)) (Some (HJob j)) (name_passes is_lower j.entry h.entry) (fuel_read j))

pub job_read : (j : Job) → JobIsFormed j → job_of (32 ∷ (j.name ++ 32 ∷ (j.program ++ 32 ∷ (j.entry ++ fuel_part j.fuel j.args)))) ≡ Some (HJob j)
unfolding job_of
job_read j h =
    let r : List ℕ = 32 ∷ (j.entry ++ fuel_part j.fuel j.args) in
    then_is (word_of (32 ∷ (j.name ++ 32 ∷ (j.program ++ r)))) (λ p. only_if (is_word p.0) (and_then (word_of p.1) (λ q. only_if (is_word q.0) (entry_of_job p.0 q.0 q.1)))) (j.name, 32 ∷ (j.program ++ r)) (Some (HJob j))
    (word_read j.name (32 ∷ (j.program ++ r)) (word_free 32 j.name refl refl h.name) refl)
    (only_is (is_word j.name) (and_then (word_of (32 ∷ (j.program ++ r))) (λ q. only_if (is_word q.0) (entry_of_job j.name q.0 q.1))) (Some (HJob j)) (name_passes is_letter j.name h.name)
    (then_is (word_of (32 ∷ (j.program ++ r))) (λ q. only_if (is_word q.0) (entry_of_job j.name q.0 q.1)) (j.program, r) (Some (HJob j))
    (word_read j.program r (word_free 32 j.program refl refl h.program) refl)
    (only_is (is_word j.program) (entry_of_job j.name j.program r) (Some (HJob j)) (name_passes is_letter j.program h.program) (entry_read j h))))

abbrev pick : Bool → Bool → Option Head → Option Head → Option Head
pick program job a b = if program then a else only_if job b

pub head_read : (h : Head) → HeadIsFormed h → head_of (head_line h) ≡ Some h
unfolding head_of
head_read (HProgram name language) k = program_read name language k
head_read (HJob j) k = job_read j k

-- ---- back

pub program_found : (rest : List ℕ) (h : Head) → program_of rest ≡ Some h → HeadIsFormed h × (codes "program" ++ rest ≡ head_line h)
unfolding program_of
program_found rest h e =
    let (p, p_is, e2) = then_some (word_of rest) (λ p. and_then (language_of p.1) (λ language. only_if (is_word p.0) (Some (HProgram p.0 language)))) h e in
    let (language, c_is, e3) = then_some (language_of p.1) (λ language. only_if (is_word p.0) (Some (HProgram p.0 language))) h e2 in
    let q = only_some (is_word p.0) (Some (HProgram p.0 language)) h e3 in
    let h_is : HProgram p.0 language ≡ h = some_same (HProgram p.0 language) h q.1 in
    subst (λ h. HeadIsFormed h × (codes "program" ++ rest ≡ head_line h)) h_is
    (passing_name is_letter p.0 q.0, ap (λ l. codes "program" ++ l) ((word_found rest p p_is).is ∙ ap (λ l. 32 ∷ (p.0 ++ l)) (language_found p.1 language c_is)))

-- the job that was read, and what is behind its entry
record FuelRead (name program entry rest : List ℕ) (h : Head) : Type 0 where
  fuel : ℕ
  args : List ℕ
  is : HJob (job_by name program entry fuel args) ≡ h
  rest_is : rest ≡ fuel_part fuel args

fuel_found : (name program entry rest : List ℕ) (h : Head) → fuel_of name program entry rest ≡ Some h → FuelRead name program entry rest h
unfolding fuel_of
fuel_found name program entry rest h e =
    let (p, p_is, e2) = then_some (word_of rest) (λ p. and_then (args_of p.1) (λ args. option_map (λ fuel. HJob (job_by name program entry fuel args)) (number_of p.0))) h e in
    let (args, a_is, e3) = then_some (args_of p.1) (λ args. option_map (λ fuel. HJob (job_by name program entry fuel args)) (number_of p.0)) h e2 in
    let (fuel, f_is, h_is) = map_some (λ fuel. HJob (job_by name program entry fuel args)) (number_of p.0) h e3 in
    record {
      fuel = fuel;
      args = args;
      is = sym h_is;
      rest_is = (word_found rest p p_is).is ∙ ap (λ l. 32 ∷ (l ++ p.1)) (number_found p.0 fuel f_is) ∙ ap (λ l. 32 ∷ (number fuel ++ l)) (args_found p.1 args a_is);
    }

record EntryRead (name program rest : List ℕ) (h : Head) : Type 0 where
  entry : List ℕ
  fuel : ℕ
  args : List ℕ
  form : IsName is_lower entry
  is : HJob (job_by name program entry fuel args) ≡ h
  rest_is : rest ≡ 32 ∷ (entry ++ fuel_part fuel args)

entry_found : (name program rest : List ℕ) (h : Head) → entry_of_job name program rest ≡ Some h → EntryRead name program rest h
unfolding entry_of_job
entry_found name program rest h e =
    let (p, p_is, e2) = then_some (word_of rest) (λ p. only_if (is_lower_name p.0) (fuel_of name program p.0 p.1)) h e in
    let q = only_some (is_lower_name p.0) (fuel_of name program p.0 p.1) h e2 in
    let f = fuel_found name program p.0 p.1 h q.1 in
    record {
      entry = p.0;
      fuel = f.fuel;
      args = f.args;
      form = passing_name is_lower p.0 q.0;
      is = f.is;
      rest_is = (word_found rest p p_is).is ∙ ap (λ l. 32 ∷ (p.0 ++ l)) f.rest_is;
    }

-- all of a job but that its arguments have no line feed
pub record JobRead (rest : List ℕ) (h : Head) : Type 0 where
  pub job : Job
  pub name : IsWord job.name
  pub program : IsWord job.program
  pub entry : IsName is_lower job.entry
  pub is : HJob job ≡ h
  pub rest_is : codes "job" ++ rest ≡ job_line job

pub job_found : (rest : List ℕ) (h : Head) → job_of rest ≡ Some h → JobRead rest h
unfolding job_of
job_found rest h e =
    let (p, p_is, e2) = then_some (word_of rest) (λ p. only_if (is_word p.0) (and_then (word_of p.1) (λ q. only_if (is_word q.0) (entry_of_job p.0 q.0 q.1)))) h e in
    let a = only_some (is_word p.0) (and_then (word_of p.1) (λ q. only_if (is_word q.0) (entry_of_job p.0 q.0 q.1))) h e2 in
    let (q, q_is, e3) = then_some (word_of p.1) (λ q. only_if (is_word q.0) (entry_of_job p.0 q.0 q.1)) h a.1 in
    let b = only_some (is_word q.0) (entry_of_job p.0 q.0 q.1) h e3 in
    let f = entry_found p.0 q.0 q.1 h b.1 in
    record {
      job = job_by p.0 q.0 f.entry f.fuel f.args;
      name = passing_name is_letter p.0 a.0;
      program = passing_name is_letter q.0 b.0;
      entry = f.form;
      is = f.is;
      rest_is = ap (λ l. codes "job" ++ l) ((word_found rest p p_is).is ∙ ap (λ l. 32 ∷ (p.0 ++ l)) ((word_found p.1 q q_is).is ∙ ap (λ l. 32 ∷ (q.0 ++ l)) f.rest_is));
    }

pub line_args : (j : Job) → Free 10 (job_line j) → Free 10 j.args
line_args j h =
    let a = free_behind 10 (codes "job" ++ 32 ∷ []) (j.name ++ 32 ∷ (j.program ++ 32 ∷ (j.entry ++ fuel_part j.fuel j.args))) h in
    let b = free_behind 10 (j.name ++ 32 ∷ []) (j.program ++ 32 ∷ (j.entry ++ fuel_part j.fuel j.args)) (subst (Free 10) (sym (append_assoc j.name (32 ∷ []) (j.program ++ 32 ∷ (j.entry ++ fuel_part j.fuel j.args)))) a) in
    let c = free_behind 10 (j.program ++ 32 ∷ []) (j.entry ++ fuel_part j.fuel j.args) (subst (Free 10) (sym (append_assoc j.program (32 ∷ []) (j.entry ++ fuel_part j.fuel j.args))) b) in
    let d = free_behind 10 (j.entry ++ 32 ∷ []) (number j.fuel ++ args_part j.args) (subst (Free 10) (sym (append_assoc j.entry (32 ∷ []) (number j.fuel ++ args_part j.args))) c) in
    args_free j.args (free_behind 10 (number j.fuel) (args_part j.args) d)

pub head_found : (line : List ℕ) (h : Head) → Free 10 line → head_of line ≡ Some h → HeadIsFormed h × (line ≡ head_line h)
unfolding head_of
head_found line h free e = by_test (bytes_eq (upto 32 line) (codes "program")) refl e
  where
    parts : (tag : List ℕ) → bytes_eq (upto 32 line) tag ≡ true → line ≡ tag ++ from 32 line
    parts tag k = cut_parts 32 line ∙ ap (λ l. l ++ from 32 line) (same_name (upto 32 line) tag k)

    of_job : JobRead (from 32 line) h → line ≡ codes "job" ++ from 32 line → HeadIsFormed h × (line ≡ head_line h)
    of_job r q = subst (λ h. HeadIsFormed h × (line ≡ head_line h)) r.is (
      record { name = r.name; program = r.program; entry = r.entry; args = line_args r.job (subst (Free 10) (q ∙ r.rest_is) free) },
      q ∙ r.rest_is,
    )

    by_test : (t : Bool) → bytes_eq (upto 32 line) (codes "program") ≡ t
        → (if t then program_of (from 32 line) else only_if (bytes_eq (upto 32 line) (codes "job")) (job_of (from 32 line))) ≡ Some h
        → HeadIsFormed h × (line ≡ head_line h)
    by_test true k f = let p = program_found (from 32 line) h f in (p.0, parts (codes "program") k ∙ p.1)
    by_test false k f =
        let q = only_some (bytes_eq (upto 32 line) (codes "job")) (job_of (from 32 line)) h f in
        of_job (job_found (from 32 line) h q.1) (parts (codes "job") q.0)

-- ---- lines have no line feed

pub number_line_free : (tag : List ℕ) (n : ℕ) → Free 10 tag → Free 10 (tag ++ 32 ∷ number n)
number_line_free tag n h = free_append 10 tag (32 ∷ number n) h (free_cons 10 32 (number n) refl (number_free 10 n refl))

-- a word, a space and what follows
pub next_free : (w r : List ℕ) → Free 10 w → Free 10 r → Free 10 (w ++ 32 ∷ r)
next_free w r h k = free_append 10 w (32 ∷ r) h (free_cons 10 32 r refl k)

language_free : (language : Language) → Free 10 (language_name language)
language_free Camelot = refl
language_free Grail = refl

pub head_free : (h : Head) → HeadIsFormed h → Free 10 (head_line h)
head_free (HProgram name language) k = next_free (codes "program") (name ++ 32 ∷ language_name language) refl (next_free name (language_name language) (word_free 10 name refl refl k) (language_free language))
head_free (HJob j) k =
    next_free (codes "job") (j.name ++ 32 ∷ (j.program ++ 32 ∷ (j.entry ++ fuel_part j.fuel j.args))) refl
    (next_free j.name (j.program ++ 32 ∷ (j.entry ++ fuel_part j.fuel j.args)) (word_free 10 j.name refl refl k.name)
    (next_free j.program (j.entry ++ fuel_part j.fuel j.args) (word_free 10 j.program refl refl k.program)
    (next_free j.entry (number j.fuel ++ args_part j.args) (name_free 10 is_lower j.entry refl refl k.entry)
    (free_append 10 (number j.fuel) (args_part j.args) (number_free 10 j.fuel refl) (free_args j.args k.args)))))
