-- The script of the drill is a script: its lines have their forms, its numbers are within their limits, no name stands
-- twice, and its texts are short.
use Rattle.std.proofs.Common.{◌≡◌, ℕ, zero, suc, ◌+◌, ◌*◌, ◌%◌, ◌<◌, ◌≤◌, Bool, true, false, List, [], ◌∷◌, ◌++◌, length, map, replicate, refl, sym, ap, ◌∙◌, subst, arith, length-append}
use Rattle.std.specs.Prelude.{codes, ◌==◌, ◌&&◌, if◌then◌else◌}
use Rattle.std.specs.List.{list_all, AllByRecursion}
use Rattle.std.proofs.lemmas.List.Folds.{list_all-append}
use Rattle.std.proofs.lemmas.Bool.Decides.{nat_tests}
use Rattle.camelot_values.specs.Names.{is_tail, AreDistinct}
use Rattle.text_lines.specs.Numbers.{number}
use Rattle.text_lines.specs.NumberLaws.{number_one, number_free, by_steps}
use Rattle.text_lines.specs.Lines.{Free}
use Rattle.text_lines.specs.CutLaws.{free_cons, free_append}
use Rattle.job_script.specs.Scripts.{AProgram, Script, IsWord, IsBody, ProgramIsFormed, JobIsFormed, EntryIsFormed, EntryIsWithin, IsUpTo, IsScript, program_names, job_names}
use Rattle.job_script.specs.Text.{EntryIsShort}
use Rattle.job_script.specs.Words.{entry_of}
use Rattle.job_script.specs.declared.types.Entry.{Entry as DeclaredEntry}
use Rattle.job_script.specs.Made.{heads, list_text, made_fuel, made_items, made_name, made_job, made_jobs, made_program, made_script, made_source}
use Rattle.job_script.proofs.Counted.{script_made}

-- ---- numbers

-- a number below 10^4 has at most four digits
abbrev FewDigits : ℕ → List ℕ → Type 0
FewDigits n ds = (n < 10 → length ds ≤ 1) × (n < 100 → length ds ≤ 2) × (n < 1000 → length ds ≤ 3) × (n < 10000 → length ds ≤ 4)

few_digits : (n : ℕ) → FewDigits n (number n)
few_digits n = by_steps FewDigits (record {
  one = λ n small. ((λ h. omega arith), (λ h. omega arith), (λ h. omega arith), (λ h. omega arith));
  more = λ n ds big f. (
    (λ h. absurd (omega (arith, h, big))),
    (λ h. omega (arith, length-append ds ((48 + n % 10) ∷ []), f.0 (omega (arith, h)))),
    (λ h. omega (arith, length-append ds ((48 + n % 10) ∷ []), f.1 (omega (arith, h)))),
    (λ h. omega (arith, length-append ds ((48 + n % 10) ∷ []), f.2 (omega (arith, h)))),
  );
}) n

four_digits : (n : ℕ) → n < 10000 → length (number n) ≤ 4
four_digits n h = (few_digits n).3 h

digit_is_tail : (d : ℕ) → d < 10 → is_tail (48 + d) ≡ true
digit_is_tail d h = grind (arith, nat_tests, h)

both_tails : (xs ys : List ℕ) → list_all is_tail xs ≡ true → list_all is_tail ys ≡ true → list_all is_tail (xs ++ ys) ≡ true
both_tails xs ys h k = list_all-append is_tail xs ys ∙ ap (λ b. b && list_all is_tail ys) h ∙ k

one_tail : (d : ℕ) → d < 10 → list_all is_tail ((48 + d) ∷ []) ≡ true
one_tail d h = ap (λ b. b && true) (digit_is_tail d h)

tails : (n : ℕ) → list_all is_tail (number n) ≡ true
tails n = by_steps (λ n ds. list_all is_tail ds ≡ true) (record {
  one = λ n small. one_tail n small;
  more = λ n ds big f. both_tails ds ((48 + n % 10) ∷ []) f (one_tail (n % 10) (omega arith));
}) n

-- ---- arguments

head_free : (n : ℕ) → Free 10 (codes "Cons(" ++ (number n ++ codes ","))
head_free n = free_append 10 (codes "Cons(") (number n ++ codes ",") refl (free_append 10 (number n) (codes ",") (number_free 10 n refl) refl)

heads_free : (count first : ℕ) → Free 10 (heads count first)
heads_free zero first = refl
heads_free (suc count) first = free_append 10 (codes "Cons(" ++ (number first ++ codes ",")) (heads count (suc first)) (head_free first) (heads_free count (suc first))

ends_free : (count : ℕ) → Free 10 (replicate count 41)
ends_free zero = refl
ends_free (suc count) = free_cons 10 41 (replicate count 41) refl (ends_free count)

list_free : (count : ℕ) → Free 10 (list_text count)
unfolding list_text
list_free count =
    free_append 10 (heads count 1) (codes "Nil" ++ replicate count 41) (heads_free count 1) (free_append 10 (codes "Nil") (replicate count 41) refl (ends_free count))

heads_short : (count first : ℕ) → first + count ≤ 10000 → length (heads count first) ≤ 10 * count
heads_short zero first h = omega arith
heads_short (suc count) first h =
    let digits = four_digits first (omega (arith, h)) in
    let piece : length (codes "Cons(" ++ (number first ++ codes ",")) ≤ 10 = omega (arith, length-append (codes "Cons(") (number first ++ codes ","), length-append (number first) (codes ","), digits) in
    omega (arith, piece, heads_short count (suc first) (omega (arith, h)), length-append (codes "Cons(" ++ (number first ++ codes ",")) (heads count (suc first)))

ends_short : (count : ℕ) → length {A = ℕ} (replicate count 41) ≡ count
ends_short zero = refl
ends_short (suc count) = ap suc (ends_short count)

list_short : (count : ℕ) → count < 1000 → length (list_text count) ≤ 4294967295
unfolding list_text
list_short count h =
    omega (arith, heads_short count 1 (omega (arith, h)), ends_short count, length-append (heads count 1) (codes "Nil" ++ replicate count 41), length-append (codes "Nil") (replicate count 41))

few_items : (i : ℕ) → made_items i < 1000
few_items i = omega arith

-- ---- names

name_is_word : (i : ℕ) → i ≤ 4096 → IsWord (made_name i)
name_is_word i h = record { form = tails i; short = omega (arith, four_digits i (omega (arith, h))) }

-- what stands among the names is that of a job behind
pub record IsBehind (first : ℕ) (name : List ℕ) : Type 0 where
  number : ℕ
  least : first ≤ number
  is : name ≡ made_name number

abbrev tail_of : {A : Type 0} → List A → List A
tail_of [] = []
tail_of (x ∷ xs) = xs

abbrev head_or : {A : Type 0} → A → List A → A
head_or d [] = d
head_or d (x ∷ xs) = x

among : (count first : ℕ) (before rest : List (List ℕ)) (name : List ℕ) → job_names (made_jobs count first) ≡ before ++ name ∷ rest → IsBehind first name
among zero first [] rest name e = cc
among zero first (b ∷ before) rest name e = cc
among (suc count) first [] rest name e = record { number = first; least = omega arith; is = sym (ap (head_or []) e) }
among (suc count) first (b ∷ before) rest name e = let later = among count (suc first) before rest name (ap tail_of e) in record { number = later.number; least = omega (arith, later.least); is = later.is }

not_behind : (first : ℕ) (name : List ℕ) → name ≡ made_name first → IsBehind (suc first) name → ⊥
not_behind first name e b =
    let same : number first ≡ number b.number = ap tail_of (sym e ∙ b.is) in
    omega (arith, number_one first b.number same, b.least)

distinct : (count first : ℕ) → AreDistinct (job_names (made_jobs count first))
distinct zero first name [] between rest e = cc
distinct zero first name (b ∷ before) between rest e = cc
distinct (suc count) first name [] between rest e = not_behind first name (sym (ap (head_or []) e)) (among count (suc first) between rest name (ap tail_of e))
distinct (suc count) first name (b ∷ before) between rest e = distinct count (suc first) name before between rest (ap tail_of e)

one_program : (count first : ℕ) → program_names (made_jobs count first) ≡ []
one_program zero first = refl
one_program (suc count) first = one_program count (suc first)

count_of_jobs : (count first : ℕ) → length (job_names (made_jobs count first)) ≡ count
count_of_jobs zero first = refl
count_of_jobs (suc count) first = ap suc (count_of_jobs count (suc first))

one_distinct : (name : List ℕ) → AreDistinct (name ∷ [])
one_distinct name word [] [] rest e = cc
one_distinct name word [] (b ∷ between) rest e = cc
one_distinct name word (b ∷ []) between rest e = cc
one_distinct name word (b ∷ c ∷ before) between rest e = cc

-- ---- all entries

fuel_within : (i : ℕ) → IsUpTo 1099511627776 (made_fuel i)
fuel_within i = by_test (i % 100 == 0)
  where
    by_test : (b : Bool) → IsUpTo 1099511627776 (if b then 5 else 2000)
    by_test true = record { least = omega arith; most = omega arith }
    by_test false = record { least = omega arith; most = omega arith }

job_formed : (i : ℕ) → i ≤ 4096 → JobIsFormed (made_job i)
job_formed i h = record {
  name = name_is_word i h;
  program = record { form = refl; short = omega arith };
  entry = record { form = refl; short = omega arith };
  args = list_free (made_items i);
}

jobs_formed : (count first : ℕ) → first + count ≤ 4097 → AllByRecursion EntryIsFormed (made_jobs count first)
jobs_formed zero first h = tt
jobs_formed (suc count) first h = (job_formed first (omega (arith, h)), jobs_formed count (suc first) (omega (arith, h)))

jobs_within : (count first : ℕ) → AllByRecursion EntryIsWithin (made_jobs count first)
jobs_within zero first = tt
jobs_within (suc count) first = (fuel_within first, jobs_within count (suc first))

jobs_short : (count first : ℕ) → AllByRecursion (EntryIsShort 4294967295) (made_jobs count first)
jobs_short zero first = tt
jobs_short (suc count) first = (list_short (made_items first) (few_items first), jobs_short count (suc first))

source_body : IsBody made_source
unfolding made_source
source_body = record {
  lines =
      codes "type ilist = !Nil | Cons of int * ilist"
      ∷ codes "let dup l = match l with Nil -> Nil | Cons(h, t)@_ -> let r = dup t in Cons(h, Cons(h, r)) end" ∷ [];
  each = (record { one = refl; goes_on = λ e. cc }, (record { one = refl; goes_on = λ e. cc }, tt));
  is = refl;
}

source_short : length made_source ≤ 4294967295
unfolding made_source
source_short = omega arith

program_formed : ProgramIsFormed made_program
program_formed = record { name = record { form = refl; short = omega arith }; text = source_body }

-- ---- the script

pub made_right : (jobs workers : ℕ) → IsUpTo 4096 jobs → IsUpTo 16 workers → IsScript (made_script jobs workers)
unfolding made_script
made_right jobs workers few w = record {
  formed = record { items = (program_formed, jobs_formed jobs 1 (omega (arith, few.most))) };
  within = record {
    arena = record { least = omega arith; most = omega arith };
    workers = w;
    fuels = (tt, jobs_within jobs 1);
    programs = omega (arith, ap length (one_program jobs 1));
    jobs = omega (arith, count_of_jobs jobs 1, few.most);
  };
  once = record { programs = subst (λ names. AreDistinct (codes "drill" ∷ names)) (sym (one_program jobs 1)) (one_distinct (codes "drill")); jobs = distinct jobs 1 };
}

pub made_short : (jobs workers : ℕ) → AllByRecursion (EntryIsShort 4294967295) (made_script jobs workers).items
unfolding made_script
made_short jobs workers = (source_short, jobs_short jobs 1)

-- the same of what is made piece by piece
pub right : (jobs workers : ℕ) (empty one : List DeclaredEntry) (program : DeclaredEntry) (items : List DeclaredEntry) → IsUpTo 4096 jobs
    → IsUpTo 16 workers → empty ≡ [] → one ≡ empty ++ program ∷ [] → entry_of program ≡ AProgram made_program
    → map entry_of items ≡ map entry_of one ++ made_jobs jobs 1 → IsScript (record { arena = 4096; workers = workers; items = map entry_of items })
right jobs workers empty one program items few w e f is g = subst IsScript (sym (script_made jobs workers empty one program items e f is g)) (made_right jobs workers few w)

pub short : (jobs workers : ℕ) (empty one : List DeclaredEntry) (program : DeclaredEntry) (items : List DeclaredEntry) → empty ≡ []
    → one ≡ empty ++ program ∷ [] → entry_of program ≡ AProgram made_program
    → map entry_of items ≡ map entry_of one ++ made_jobs jobs 1 → AllByRecursion (EntryIsShort 4294967295) (map entry_of items)
short jobs workers empty one program items e f is g =
    subst (λ (s : Script). AllByRecursion (EntryIsShort 4294967295) s.items) (sym (script_made jobs workers empty one program items e f is g)) (made_short jobs workers)
