-- Lists in which nothing stands twice, and lists of numbers that ascend.
use Rattle.std.proofs.Common.{◌≡◌, ℕ, zero, suc, ◌+◌, ◌<◌, ◌≤◌, true, List, [], ◌∷◌, ◌++◌, refl, sym, ap, ◌∙◌, subst, arith}
use Rattle.std.specs.Prelude.{◌==◌, not, nat_le}
use Rattle.std.specs.List.{AllByRecursion, range_with_len}
use Rattle.std.proofs.lemmas.Bool.{leb-true}
use Rattle.std.proofs.lemmas.Bool.Decides.{nat_tests}
use Rattle.camelot_values.specs.Names.{AreDistinct}
use Rattle.camelot_values.specs.NameLaws.{some_place, place_is_some, not_true, never_true}
use Rattle.grail_code.specs.WellFormed.{Ascend}
use Rattle.grail_check.specs.Faulting.{is_among, are_distinct, ascends_from, counts_from}
use Rattle.grail_check.proofs.Checks.{both, join, same, is_same, all_then}

-- ---- numbers

pub distinct_is : (xs : List ℕ) → are_distinct xs ≡ true → AreDistinct xs
distinct_is [] h word [] between rest q = cc
distinct_is [] h word (y ∷ before) between rest q = cc
distinct_is (x ∷ xs) h word [] between rest q =
    let parts : (not (is_among xs x) ≡ true) × (are_distinct xs ≡ true) = both (not (is_among xs x)) (are_distinct xs) h in
    let e : xs ≡ between ++ word ∷ rest = cc in
    let w : word ≡ x = cc in
    not_true (is_among xs x) parts.0 (ap (λ l. is_among l x) e ∙ place_is_some (λ y. y == x) between rest word (is_same word x w))
distinct_is (x ∷ xs) h word (y ∷ before) between rest q =
    let parts : (not (is_among xs x) ≡ true) × (are_distinct xs ≡ true) = both (not (is_among xs x)) (are_distinct xs) h in
    let e : xs ≡ before ++ word ∷ (between ++ word ∷ rest) = cc in
    distinct_is xs parts.1 word before between rest e

pub distinct_tail : {A : Type 0} (x : A) (xs : List A) → AreDistinct (x ∷ xs) → AreDistinct xs
distinct_tail x xs h word before between rest q = h word (x ∷ before) between rest (ap (λ l. x ∷ l) q)

pub is_distinct : (xs : List ℕ) → AreDistinct xs → are_distinct xs ≡ true
is_distinct [] h = refl
is_distinct (x ∷ xs) h = join (not (is_among xs x)) (are_distinct xs)
    (never_true (is_among xs x) (λ k. let q = some_place (λ y. y == x) xs k in h x [] q.before q.rest (ap (λ l. x ∷ l) (q.is ∙ ap (λ y. q.before ++ y ∷ q.rest) (same q.item x q.holds)))))
    (is_distinct xs (distinct_tail x xs h))

-- ---- ascending numbers

least_of : (x : ℕ) (least : ℕ) (xs : List ℕ) → ascends_from least (x ∷ xs) ≡ true → (least ≤ x) × (ascends_from (suc x) xs ≡ true)
least_of x least xs h = let parts : (nat_le least x ≡ true) × (ascends_from (suc x) xs ≡ true) = both (nat_le least x) (ascends_from (suc x) xs) h in (leb-true least x parts.0, parts.1)

pub ascends_is : (least : ℕ) (xs : List ℕ) → ascends_from least xs ≡ true → Ascend xs
ascends_is least [] h = tt
ascends_is least (x ∷ []) h = tt
ascends_is least (x ∷ y ∷ xs) h =
    let a = least_of x least (y ∷ xs) h in
    let b = least_of y (suc x) xs a.1 in
    let c : x < y = omega arith in
    (c, ascends_is (suc x) (y ∷ xs) a.1)

at_most : (m n : ℕ) → m ≤ n → nat_le m n ≡ true
at_most m n h = grind (arith, nat_tests)

pub is_ascending : (least : ℕ) (x : ℕ) (xs : List ℕ) → least ≤ x → Ascend (x ∷ xs) → ascends_from least (x ∷ xs) ≡ true
is_ascending least x [] h a = join (nat_le least x) true (at_most least x h) refl
is_ascending least x (y ∷ xs) h a = join (nat_le least x) (ascends_from (suc x) (y ∷ xs)) (at_most least x h) (is_ascending (suc x) y xs (omega arith) a.1)

pub is_ascending_all : (xs : List ℕ) → Ascend xs → ascends_from 0 xs ≡ true
is_ascending_all [] a = refl
is_ascending_all (x ∷ xs) a = is_ascending 0 x xs (omega arith) a

pub ascend_parts : (x : ℕ) (xs : List ℕ) → Ascend (x ∷ xs) → AllByRecursion (λ y. x < y) xs × Ascend xs
ascend_parts x [] a = (tt, tt)
ascend_parts x (y ∷ xs) a =
    let b = ascend_parts y xs a.1 in
    let c : x < y = a.0 in
    ((c, all_then (λ z. y < z) (λ z. x < z) xs (λ z h. omega arith) b.0), a.1)

-- ---- the first numbers

counts_is : (from n to : ℕ) (xs : List ℕ) → from + n ≡ to → counts_from from to xs ≡ true → xs ≡ range_with_len from n
counts_is from zero to [] e h = refl
counts_is from (suc n) to [] e h = let k : from ≡ to = same from to h in absurd (omega arith)
counts_is from zero to (x ∷ xs) e h =
    let parts : ((x == from) ≡ true) × (counts_from (suc from) to xs ≡ true) = both (x == from) (counts_from (suc from) to xs) h in
    absurd (too_far (suc from) to xs (omega arith) parts.1)
  where
    too_far : (from to : ℕ) (xs : List ℕ) → to < from → counts_from from to xs ≡ true → ⊥
    too_far from to [] e h = let k : from ≡ to = same from to h in absurd (omega arith)
    too_far from to (x ∷ xs) e h = let parts : ((x == from) ≡ true) × (counts_from (suc from) to xs ≡ true) = both (x == from) (counts_from (suc from) to xs) h in too_far (suc from) to xs (omega arith) parts.1
counts_is from (suc n) to (x ∷ xs) e h =
    let parts : ((x == from) ≡ true) × (counts_from (suc from) to xs ≡ true) = both (x == from) (counts_from (suc from) to xs) h in
    let q : x ≡ from = same x from parts.0 in
    let r : xs ≡ range_with_len (suc from) n = counts_is (suc from) n to xs (omega arith) parts.1 in
    let s : suc from ≡ from + 1 = omega arith in
    ap (λ y. y ∷ xs) q ∙ ap (λ l. from ∷ l) (r ∙ ap (λ m. range_with_len m n) s)

is_counted : (from n to : ℕ) → from + n ≡ to → counts_from from to (range_with_len from n) ≡ true
is_counted from zero to e = is_same from to (omega arith)
is_counted from (suc n) to e =
    let s : suc from ≡ from + 1 = omega arith in
    join (from == from) (counts_from (suc from) to (range_with_len (from + 1) n)) (is_same from from refl)
    (subst (λ m. counts_from (suc from) to (range_with_len m n) ≡ true) s (is_counted (suc from) n to (omega arith)))

pub first_numbers : (n : ℕ) (xs : List ℕ) → counts_from 0 n xs ≡ true → xs ≡ range_with_len 0 n
first_numbers n xs h = counts_is 0 n n xs (omega arith) h

pub are_first_numbers : (n : ℕ) (xs : List ℕ) → xs ≡ range_with_len 0 n → counts_from 0 n xs ≡ true
are_first_numbers n xs e = subst (λ l. counts_from 0 n l ≡ true) (sym e) (is_counted 0 n n (omega arith))
