-- The reader of a function's parameters reads their spelling. A list of kinds and a list of marks, taken together and
-- apart again.
use Rattle.std.proofs.Common.{◌≡◌, ℕ, suc, ◌+◌, ◌-◌, ◌<◌, ◌≤◌, Bool, true, false, List, [], ◌∷◌, ◌++◌, length, append_assoc, refl, sym, ap, ◌∙◌, subst, lit≤, inl, inr, arith}
use Rattle.std.specs.Prelude.{if◌then◌else◌, flat_map, ◌⊎◌}
use Rattle.std.specs.List.{AllByRecursion}
use Rattle.std.proofs.lemmas.Bool.{lt-ltb, le-ltb, cases_lt}
use Rattle.std.proofs.lemmas.List.{length-map}
use Rattle.camelot_values.specs.declared.kinds.Kind.{Kind}
use Rattle.grail_code.specs.Spelling as s
use Rattle.grail_code.specs.Spelling.{Format, First, Second, number, counted, AreCounted, FitsKind, MarkIsOfFormat, marked, param_code}
use Rattle.grail_code.specs.Reader.{leb_at, counted_at}
use Rattle.grail_code.specs.CodeReader.{numbered_kind, numbered_param, most_param, param_at, kinds_of, marks_of}
use Rattle.grail_code.proofs.SpellingParts.{Lawful, Made, made, counted_law}
use Rattle.grail_code.proofs.SpellingTypes.{code_back, kind_back, upto_law}

abbrev pub FitsParam : Format → Kind × Bool → Type 0
FitsParam f p = FitsKind p.0 × MarkIsOfFormat f p.1

-- ---- one parameter

-- a number of a parameter is that of a kind, or of a kind behind all
by_number : (n : ℕ) → ((n < 67) × (numbered_param n ≡ (numbered_kind n, false))) ⊎ ((67 ≤ n) × (numbered_param n ≡ (numbered_kind (n - 67), true)))
by_number n = at (cases_lt n 67)
  where
    at : (n < 67) ⊎ (67 ≤ n) → ((n < 67) × (numbered_param n ≡ (numbered_kind n, false))) ⊎ ((67 ≤ n) × (numbered_param n ≡ (numbered_kind (n - 67), true)))
    at (inl h) = inl (h, ap (λ (b : Bool). if b then (numbered_kind n, false) else (numbered_kind (n - 67), true)) (lt-ltb n 67 h))
    at (inr h) = inr (h, ap (λ (b : Bool). if b then (numbered_kind n, false) else (numbered_kind (n - 67), true)) (le-ltb n 67 h))

param_code_back : (n : ℕ) → param_code (numbered_param n) ≡ n
param_code_back n = at (by_number n)
  where
    at : ((n < 67) × (numbered_param n ≡ (numbered_kind n, false))) ⊎ ((67 ≤ n) × (numbered_param n ≡ (numbered_kind (n - 67), true))) → param_code (numbered_param n) ≡ n
    at (inl h) = ap param_code h.1 ∙ (let k = code_back n in omega (arith, k))
    at (inr h) = ap param_code h.1 ∙ (let k = code_back (n - 67) in omega (arith, k, h.0))

param_from : (f : Format) (n : ℕ) → n ≤ most_param f → FitsParam f (numbered_param n)
param_from First n h = at (by_number n)
  where
    at : ((n < 67) × (numbered_param n ≡ (numbered_kind n, false))) ⊎ ((67 ≤ n) × (numbered_param n ≡ (numbered_kind (n - 67), true))) → FitsParam First (numbered_param n)
    at (inl k) = subst (FitsParam First) (sym k.1) (let m = code_back n in omega (arith, m, h), refl)
    at (inr k) = absurd (omega (arith, k.0, h))
param_from Second n h = at (by_number n)
  where
    at : ((n < 67) × (numbered_param n ≡ (numbered_kind n, false))) ⊎ ((67 ≤ n) × (numbered_param n ≡ (numbered_kind (n - 67), true))) → FitsParam Second (numbered_param n)
    at (inl k) = subst (FitsParam Second) (sym k.1) (let m = code_back n in omega (arith, m, k.0), tt)
    at (inr k) = subst (FitsParam Second) (sym k.1) (let m = code_back (n - 67) in omega (arith, m, h), tt)

unmarked_back : (q : Kind) → FitsKind q → numbered_param (param_code (q, false)) ≡ (q, false)
unmarked_back q h =
    let same : param_code (q, false) ≡ s.kind_code q = omega arith in
    ap numbered_param same ∙ at (by_number (s.kind_code q))
  where
    at : ((s.kind_code q < 67) × (numbered_param (s.kind_code q) ≡ (numbered_kind (s.kind_code q), false))) ⊎ ((67 ≤ s.kind_code q) × (numbered_param (s.kind_code q) ≡ (numbered_kind (s.kind_code q - 67), true)))
        → numbered_param (s.kind_code q) ≡ (q, false)
    at (inl k) = k.1 ∙ ap (λ (r : Kind). (r, false)) (kind_back q)
    at (inr k) = absurd (omega (arith, k.0, h))

marked_back : (q : Kind) → FitsKind q → numbered_param (param_code (q, true)) ≡ (q, true)
marked_back q h = at (by_number (s.kind_code q + 67))
  where
    at : ((s.kind_code q + 67 < 67) × (numbered_param (s.kind_code q + 67) ≡ (numbered_kind (s.kind_code q + 67), false))) ⊎ ((67 ≤ s.kind_code q + 67) × (numbered_param (s.kind_code q + 67) ≡ (numbered_kind (s.kind_code q + 67 - 67), true)))
        → numbered_param (s.kind_code q + 67) ≡ (q, true)
    at (inl k) = absurd (omega (arith, k.0))
    at (inr k) = let same : s.kind_code q + 67 - 67 ≡ s.kind_code q = omega arith in k.1 ∙ ap (λ (n : ℕ). (numbered_kind n, true)) same ∙ ap (λ (r : Kind). (r, true)) (kind_back q)

param_back : (f : Format) (p : Kind × Bool) → FitsParam f p → Made (λ n. n ≤ most_param f) numbered_param p
param_back First (q, false) h = record { value = param_code (q, false); fits = let k = h.0 in omega (arith, k); is = unmarked_back q h.0 }
param_back First (q, true) h = absurd cc
param_back Second (q, false) h = record { value = param_code (q, false); fits = let k = h.0 in omega (arith, k); is = unmarked_back q h.0 }
param_back Second (q, true) h = record { value = param_code (q, true); fits = let k = h.0 in omega (arith, k); is = marked_back q h.0 }

param_law : (f : Format) → Lawful (FitsParam f) s.param_bytes (param_at f)
unfolding param_at
param_law f = made (λ n. n ≤ most_param f) number (leb_at 4 0 (most_param f)) (FitsParam f) s.param_bytes numbered_param (param_from f) (param_back f) (λ n h. ap number (sym (param_code_back n))) (upto_law (most_param f))

pub params_law : (f : Format) → Lawful (AreCounted (FitsParam f) 1 16) (counted s.param_bytes) (counted_at (param_at f) 1 16)
params_law f = counted_law (FitsParam f) s.param_bytes (param_at f) 1 16 (lit≤ tt) (lit≤ tt) (param_law f)

-- ---- kinds and marks

pub marked_again : (ps : List (Kind × Bool)) → marked (kinds_of ps) (marks_of ps) ≡ ps
marked_again [] = refl
marked_again (p ∷ ps) = ap (λ (rs : List (Kind × Bool)). p ∷ rs) (marked_again ps)

abbrev pub Lists : Type 0
Lists = List Kind × List Bool

-- kinds and marks of parameters
abbrev pub lists_of : List (Kind × Bool) → Lists
lists_of ps = (kinds_of ps, marks_of ps)

abbrev pub both : List Kind → List Bool → Lists
both qs bs = (qs, bs)

pub marked_apart : (qs : List Kind) (bs : List Bool) → length bs ≡ length qs → lists_of (marked qs bs) ≡ both qs bs
marked_apart [] [] e = refl
marked_apart [] (b ∷ bs) e = absurd (omega (arith, e))
marked_apart (q ∷ qs) [] e = absurd (omega (arith, e))
marked_apart (q ∷ qs) (b ∷ bs) e = ap (λ (p : Lists). both (q ∷ p.0) (b ∷ p.1)) (marked_apart qs bs (omega (arith, e)))

marked_length : (qs : List Kind) (bs : List Bool) → length (marked qs bs) ≡ length qs
marked_length [] bs = refl
marked_length (q ∷ qs) [] = ap suc (marked_length qs [])
marked_length (q ∷ qs) (b ∷ bs) = ap suc (marked_length qs bs)

-- how many parameters there are, and then each of them
pub params_written : (qs : List Kind) (bs : List Bool) (n : ℕ) (before after end : List ℕ) → n ≡ length qs → after ≡ before ++ number n
    → end ≡ after ++ flat_map s.param_bytes (marked qs bs) → end ≡ before ++ counted s.param_bytes (marked qs bs)
params_written qs bs n before after end count first rest =
    rest ∙ ap (λ l. l ++ flat_map s.param_bytes (marked qs bs)) first ∙ append_assoc before (number n) (flat_map s.param_bytes (marked qs bs))
    ∙ ap (λ m. before ++ (number m ++ flat_map s.param_bytes (marked qs bs))) (count ∙ sym (marked_length qs bs))

both_fit : (f : Format) (qs : List Kind) (bs : List Bool) → length bs ≡ length qs → AllByRecursion FitsKind qs → AllByRecursion (MarkIsOfFormat f) bs
    → AllByRecursion (FitsParam f) (marked qs bs)
both_fit f [] bs e h k = tt
both_fit f (q ∷ qs) [] e h k = absurd (omega (arith, e))
both_fit f (q ∷ qs) (b ∷ bs) e h k = ((h.0, k.0), both_fit f qs bs (omega (arith, e)) h.1 k.1)

pub params_fit : (f : Format) (qs : List Kind) (bs : List Bool) → length bs ≡ length qs → AreCounted FitsKind 1 16 qs → AllByRecursion (MarkIsOfFormat f) bs
    → AreCounted (FitsParam f) 1 16 (marked qs bs)
params_fit f qs bs e h k = let n = marked_length qs bs in
    record { enough = omega (arith, n, h.enough); few = omega (arith, n, h.few); each = both_fit f qs bs e h.each k }

each_kind : (f : Format) (ps : List (Kind × Bool)) → AllByRecursion (FitsParam f) ps → AllByRecursion FitsKind (kinds_of ps)
each_kind f [] h = tt
each_kind f (p ∷ ps) h = (h.0.0, each_kind f ps h.1)

pub fits_kinds : (f : Format) (ps : List (Kind × Bool)) → AreCounted (FitsParam f) 1 16 ps → AreCounted FitsKind 1 16 (kinds_of ps)
fits_kinds f ps h = let n = length-map ps (λ p. p.0) in record { enough = omega (arith, n, h.enough); few = omega (arith, n, h.few); each = each_kind f ps h.each }

pub fits_marks : (f : Format) (ps : List (Kind × Bool)) → AllByRecursion (FitsParam f) ps → AllByRecursion (MarkIsOfFormat f) (marks_of ps)
fits_marks f [] h = tt
fits_marks f (p ∷ ps) h = (h.0.1, fits_marks f ps h.1)

pub as_many_marks : (ps : List (Kind × Bool)) → length (marks_of ps) ≡ length (kinds_of ps)
as_many_marks [] = refl
as_many_marks (p ∷ ps) = ap suc (as_many_marks ps)
