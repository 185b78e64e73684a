-- Counted pieces that are written one after the other.
use Rattle.std.proofs.Common.{◌≡◌, ℕ, zero, suc, ◌+◌, ◌-◌, ◌<◌, ◌≤◌, List, [], ◌∷◌, ◌++◌, length, get_or, take, map, replicate, refl, sym, ap, ◌∙◌, arith, append_assoc, append-nil, add-one}
use Rattle.std.specs.Global.{Vec}
use Rattle.std.proofs.Math.Nat.{le-min}
use Rattle.std.proofs.lemmas.List.{map-append, length-map, get_or-map}
use Rattle.std.specs.Prelude.{codes, ◌%◌, min}
use Rattle.text_lines.specs.Numbers.{number}
use Rattle.job_script.specs.Scripts.{Entry, AProgram, AJob}
use Rattle.job_script.specs.Words.{entry_of, text_of}
use Rattle.job_script.specs.declared.types.Entry.{Entry as DeclaredEntry}
use Rattle.job_script.specs.Made.{counted, heads, list_text, made_items, made_list, made_name, made_job, made_jobs, made_program, made_script}
use Rattle.job_script.specs.WritingLaws.{two}

pub head_written : (n : ℕ) (a o p : List ℕ) → o ≡ a ++ (codes "Cons(" ++ number n) → p ≡ o ++ codes "," → p ≡ a ++ (codes "Cons(" ++ (number n ++ codes ","))
head_written n a o p e f = two a (codes "Cons(" ++ number n) (codes ",") o p e f

-- ---- so many pieces, from a number on

one_less : (left : ℕ) → 1 ≤ suc left → suc left - 1 ≡ left
one_less left h = omega arith

pub next_end : (left : ℕ) (out new all : List ℕ) → 0 < left → out ++ replicate left 41 ≡ all → new ≡ out ++ 41 ∷ [] → new ++ replicate (left - 1) 41 ≡ all
next_end zero out new all h e f = absurd (omega (arith, h))
next_end (suc left) out new all h e f =
    ap (λ l. l ++ replicate (suc left - 1) 41) f ∙ ap (λ n. (out ++ 41 ∷ []) ++ replicate n 41) (one_less left (omega (arith, h))) ∙ append_assoc out (41 ∷ []) (replicate left 41) ∙ e

pub all_ends : (left : ℕ) (out all : List ℕ) → left ≤ 0 → out ++ replicate left 41 ≡ all → out ≡ all
all_ends zero out all h e = sym (append-nil out) ∙ e
all_ends (suc left) out all h e = absurd (omega (arith, h))

fewer_ends : (n m : ℕ) → n ≤ m → take {A = ℕ} n (replicate m 41) ≡ replicate n 41
fewer_ends zero m h = refl
fewer_ends (suc n) zero h = absurd (omega (arith, h))
fewer_ends (suc n) (suc m) h = ap (λ l. 41 ∷ l) (fewer_ends n m (omega (arith, h)))

pub list_written : (count : ℕ) (closing o p q : List ℕ) → count ≤ 999 → closing ≡ replicate 999 41 → o ≡ heads count 1 → p ≡ o ++ codes "Nil"
    → q ≡ p ++ take count closing → q ≡ list_text count
unfolding list_text
list_written count closing o p q few c e f g =
    g ∙ ap (λ l. p ++ l) (ap (take count) c ∙ fewer_ends count 999 few) ∙ ap (λ l. l ++ replicate count 41) (f ∙ ap (λ l. l ++ codes "Nil") e) ∙ append_assoc (heads count 1) (codes "Nil") (replicate count 41)

pub name_written : (n : ℕ) (o p : List ℕ) → o ≡ [] → p ≡ o ++ (codes "j" ++ number n) → p ≡ made_name n
name_written n o p e f = f ∙ ap (λ l. l ++ (codes "j" ++ number n)) e

-- ---- lists of what so many numbers have

next_of : {A B : Type 0} (m : A → B) (f : ℕ → B) (count : ℕ → ℕ → List B) → ((left n : ℕ) → count (suc left) n ≡ f n ∷ count left (suc n)) → (left n : ℕ) (out new : List A) (x : A) (all : List B)
    → 0 < left → map m out ++ count left n ≡ all → m x ≡ f n → new ≡ out ++ x ∷ [] → map m new ++ count (left - 1) (n + 1) ≡ all
next_of m f count step zero n out new x all h e is g = absurd (omega (arith, h))
next_of m f count step (suc left) n out new x all h e is g =
    let rest : count (suc left - 1) (n + 1) ≡ count left (suc n) = ap (λ l. count l (n + 1)) (one_less left (omega (arith, h))) ∙ ap (count left) (add-one n) in
    let done : map m new ≡ map m out ++ f n ∷ [] = ap (map m) g ∙ map-append m out (x ∷ []) ∙ ap (λ j. map m out ++ j ∷ []) is in
    ap (λ l. l ++ count (suc left - 1) (n + 1)) done ∙ ap (λ l. (map m out ++ f n ∷ []) ++ l) rest
    ∙ append_assoc (map m out) (f n ∷ []) (count left (suc n)) ∙ ap (λ l. map m out ++ l) (sym (step left n)) ∙ e

none_of : {A B : Type 0} (m : A → B) (count : ℕ → ℕ → List B) → ((n : ℕ) → count zero n ≡ []) → (left n : ℕ) (out : List A) (all : List B)
    → left ≤ 0 → map m out ++ count left n ≡ all → map m out ≡ all
none_of m count none zero n out all h e = sym (append-nil (map m out)) ∙ ap (λ l. map m out ++ l) (sym (none n)) ∙ e
none_of m count none (suc left) n out all h e = absurd (omega (arith, h))

pub next_mapped : {A : Type 0} (m : A → List ℕ) (f : ℕ → List ℕ) (left n : ℕ) (out new : List A) (x : A) (all : List (List ℕ)) → 0 < left
    → map m out ++ counted f left n ≡ all → m x ≡ f n → new ≡ out ++ x ∷ [] → map m new ++ counted f (left - 1) (n + 1) ≡ all
next_mapped m f left n out new x all h e is g = next_of m f (counted f) (λ left n. refl) left n out new x all h e is g

pub all_mapped : {A : Type 0} (m : A → List ℕ) (f : ℕ → List ℕ) (left n : ℕ) (out : List A) (all : List (List ℕ)) → left ≤ 0
    → map m out ++ counted f left n ≡ all → map m out ≡ all
all_mapped m f left n out all h e = none_of m (counted f) (λ n. refl) left n out all h e

same : {A : Type 0} (xs : List A) → map (λ x. x) xs ≡ xs
same [] = refl
same (x ∷ xs) = ap (λ l. x ∷ l) (same xs)

pub next_counted : (f : ℕ → List ℕ) (left n : ℕ) (out new : List (List ℕ)) (x : List ℕ) (all : List (List ℕ)) → 0 < left
    → out ++ counted f left n ≡ all → x ≡ f n → new ≡ out ++ x ∷ [] → new ++ counted f (left - 1) (n + 1) ≡ all
next_counted f left n out new x all h e is g =
    ap (λ l. l ++ counted f (left - 1) (n + 1)) (sym (same new)) ∙ next_mapped (λ x. x) f left n out new x all h (ap (λ l. l ++ counted f left n) (same out) ∙ e) is g

pub all_counted : (f : ℕ → List ℕ) (left n : ℕ) (out all : List (List ℕ)) → left ≤ 0 → out ++ counted f left n ≡ all → out ≡ all
all_counted f left n out all h e = sym (same out) ∙ all_mapped (λ x. x) f left n out all h (ap (λ l. l ++ counted f left n) (same out) ∙ e)

counted_length : (f : ℕ → List ℕ) (count first : ℕ) → length (counted f count first) ≡ count
counted_length f zero first = refl
counted_length f (suc count) first = ap suc (counted_length f count (suc first))

counted_at : (f : ℕ → List ℕ) (count first k : ℕ) (d : List ℕ) → k < count → get_or (counted f count first) k d ≡ f (first + k)
counted_at f zero first k d h = absurd (omega (arith, h))
counted_at f (suc count) first zero d h = let e : first ≡ first + zero = omega arith in ap f e
counted_at f (suc count) first (suc k) d h = let e : suc first + k ≡ first + suc k = omega arith in counted_at f count (suc first) k d (omega (arith, h)) ∙ ap f e

-- ---- the names and the texts of jobs

pub name_within : (count n : ℕ) (names : List (List ℕ)) → names ≡ counted made_name count 1 → 1 ≤ n → n ≤ count → n - 1 < length names
name_within count n names e h k = omega (arith, h, k, ap length e, counted_length made_name count 1)

pub name_there : (count n : ℕ) (names : List (List ℕ)) (d : List ℕ) → names ≡ counted made_name count 1 → 1 ≤ n → n ≤ count → get_or names (n - 1) d ≡ made_name n
name_there count n names d e h k =
    let s : 1 + (n - 1) ≡ n = omega (arith, h) in
    ap (λ l. get_or l (n - 1) d) e ∙ counted_at made_name count 1 (n - 1) d (omega (arith, h, k)) ∙ ap made_name s

place_within : (count n : ℕ) → 1 ≤ n → n ≤ count → (n - 1) % 1000 < min count 1000
place_within count n h k =
    let one : suc ((n - 1) % 1000) ≤ count = omega (arith, h, k) in
    let other : suc ((n - 1) % 1000) ≤ 1000 = omega arith in
    let both : suc ((n - 1) % 1000) ≤ min count 1000 = le-min one other in
    omega (arith, both)

pub list_within : (count n : ℕ) (lists : List (Vec ℕ)) → map text_of lists ≡ counted made_list (min count 1000) 1 → 1 ≤ n → n ≤ count → (n - 1) % 1000 < length lists
list_within count n lists e h k = omega (arith, place_within count n h k, sym (length-map lists text_of), ap length e, counted_length made_list (min count 1000) 1)

-- 1,000 jobs further the list is the same
list_again : (n : ℕ) → 1 ≤ n → made_items (1 + (n - 1) % 1000) ≡ made_items n
list_again n h = omega (arith, h)

pub list_there : (count n : ℕ) (lists : List (Vec ℕ)) (v d : Vec ℕ) → map text_of lists ≡ counted made_list (min count 1000) 1 → v ≡ get_or lists ((n - 1) % 1000) d → 1 ≤ n → n ≤ count
    → v.items ≡ made_list n
list_there count n lists v d e is h k =
    ap text_of is ∙ sym (get_or-map text_of lists ((n - 1) % 1000) d d.items (list_within count n lists e h k)) ∙ ap (λ l. get_or l ((n - 1) % 1000) d.items) e ∙ counted_at made_list (min count 1000) 1 ((n - 1) % 1000) d.items (place_within count n h k)
    ∙ ap list_text (list_again n h)

-- ---- jobs

pub next_job : (left n : ℕ) (out new : List DeclaredEntry) (x : DeclaredEntry) (all : List Entry) → 0 < left
    → map entry_of out ++ made_jobs left n ≡ all → entry_of x ≡ AJob (made_job n) → new ≡ out ++ x ∷ []
    → map entry_of new ++ made_jobs (left - 1) (n + 1) ≡ all
next_job left n out new x all h e is g = next_of entry_of (λ n. AJob (made_job n)) made_jobs (λ left n. refl) left n out new x all h e is g

pub all_jobs : (left n : ℕ) (out : List DeclaredEntry) (all : List Entry) → left ≤ 0 → map entry_of out ++ made_jobs left n ≡ all → map entry_of out ≡ all
all_jobs left n out all h e = none_of entry_of made_jobs (λ n. refl) left n out all h e

-- ---- the script

pub script_made : (jobs workers : ℕ) (empty one : List DeclaredEntry) (program : DeclaredEntry) (items : List DeclaredEntry) → empty ≡ []
    → one ≡ empty ++ program ∷ [] → entry_of program ≡ AProgram made_program
    → map entry_of items ≡ map entry_of one ++ made_jobs jobs 1 → record { arena = 4096; workers = workers; items = map entry_of items } ≡ made_script jobs workers
unfolding made_script
script_made jobs workers empty one program items e f is g =
    let first : map entry_of one ≡ AProgram made_program ∷ [] = ap (map entry_of) (f ∙ ap (λ l. l ++ program ∷ []) e) ∙ ap (λ x. x ∷ []) is in
    ap (λ l. record { arena = 4096; workers = workers; items = l }) (g ∙ ap (λ l. l ++ made_jobs jobs 1) first)
