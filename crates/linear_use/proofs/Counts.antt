-- Counts of the spent variables.
use Rattle.std.proofs.Common.{◌≡◌, ℕ, zero, suc, ◌+◌, ◌-◌, ◌≤◌, ◌<◌, Bool, true, false, List, [], ◌∷◌, ◌++◌, length, set, get_or, refl, sym, ap, ◌∙◌, subst, arith, get_or-set_other, get_or-set_same, nat_lt, slice_index, length-append, append_assoc, take, drop}
use Rattle.std.specs.Prelude.{◌==◌, ◌||◌}
use Rattle.std.proofs.lemmas.Bool.Decides.{nat_tests}
use Rattle.std.proofs.lemmas.List.{take-append-le, get_or_past}
use Rattle.std.proofs.lemmas.Grind.{get_or_default_zero}
use Rattle.linear_use.specs.Flow.{is_spent}
use Rattle.linear_use.specs.Counted.{times, AreCounted}
use Rattle.linear_use.proofs.Flows.{bit, at_most_one}

times_last : (x : ℕ) (ys : List ℕ) (y : ℕ) → times x (ys ++ y ∷ []) ≡ times x ys + bit (y == x)
times_last x [] y = omega arith
times_last x (z ∷ ys) y = let h = times_last x ys y in omega (arith, h)

times_length : (x : ℕ) (ys : List ℕ) → times x ys ≤ length ys
times_length x [] = omega arith
times_length x (y ∷ ys) = let h = times_length x ys in let k = at_most_one (y == x) in omega (arith, h, k)

spent_times : (x : ℕ) (ys : List ℕ) → nat_lt 0 (times x ys) ≡ is_spent x ys
spent_times x [] = refl
spent_times x (y ∷ ys) = at_test (spent_times x ys) (y == x)
  where
    at_test : nat_lt 0 (times x ys) ≡ is_spent x ys → (b : Bool) → nat_lt 0 (bit b + times x ys) ≡ (b || is_spent x ys)
    at_test ih true = let e : bit true + times x ys ≡ suc (times x ys) = omega arith in ap (nat_lt 0) e ∙ grind (arith, nat_tests)
    at_test ih false = let e : bit false + times x ys ≡ times x ys = omega arith in ap (nat_lt 0) e ∙ ih

pub contained : (counts log view read : List ℕ) (x n : ℕ) → AreCounted counts log → log ≡ view → read ≡ counts → n ≡ slice_index read x
    → nat_lt 0 n ≡ is_spent x view
contained counts log view read x n h v r e = ap (nat_lt 0) (e ∙ ap (λ l. slice_index l x) r ∙ h.each x ∙ ap (times x) v) ∙ spent_times x view

pub absent : (counts log view read : List ℕ) (x : ℕ) → AreCounted counts log → log ≡ view → read ≡ counts → length read ≤ x → false ≡ is_spent x view
absent counts log view read x h v r e = contained counts log view read x 0 h v r (sym (get_or_past read x 0 e))

pub counted_room_at : (counts grown log more : List ℕ) (x n m : ℕ) → AreCounted counts log → ((y : ℕ) → slice_index grown y ≡ slice_index counts y)
    → more ≡ log ++ x ∷ [] → x < length grown
    → n ≡ get_or grown x n → m ≡ length more → n + 1 ≤ m
counted_room_at counts grown log more x n m h e l w k q =
    let a : n ≡ slice_index grown x = k ∙ get_or_default_zero grown x n w in
    let b = e x in
    let c = h.each x in
    let d = times_length x log in
    let f = length-append log (x ∷ []) in
    let g = ap length l in
    omega (arith, a, b, c, d, f, g, q)

pub counted_same : (old new log : List ℕ) → ((x : ℕ) → slice_index new x ≡ slice_index old x) → AreCounted old log → AreCounted new log
counted_same old new log e h = record { each = λ x. e x ∙ h.each x }

-- a use of x, where its count has a place
pub counted_more : (counts log : List ℕ) (x n : ℕ) → AreCounted counts log → x < length counts → n ≡ slice_index counts x + 1
    → AreCounted (set counts x n) (log ++ x ∷ [])
counted_more counts log x n h w e = record { each = λ y. at_test y (x == y) refl }
  where
    at_test : (y : ℕ) (b : Bool) → (x == y) ≡ b → slice_index (set counts x n) y ≡ times y (log ++ x ∷ [])
    at_test y true t =
        let same : x ≡ y = grind (arith, nat_tests) in
        let p : slice_index (set counts x n) x ≡ n = get_or-set_same counts x n 0 w in
        let q : times y (log ++ x ∷ []) ≡ times y log + 1 = times_last y log x ∙ ap (λ b. times y log + bit b) t in
        let r : slice_index counts x ≡ times y log = h.each x ∙ ap (λ z. times z log) same in
        let s : slice_index (set counts x n) y ≡ n = subst (λ z. slice_index (set counts x n) z ≡ n) same p in
        omega (arith, q, r, s, e)
    at_test y false t =
        let p : slice_index (set counts x n) y ≡ slice_index counts y = get_or-set_other counts x y n 0 (λ k. let u : (x == y) ≡ true = grind (arith, nat_tests) in cc) in
        let q : times y (log ++ x ∷ []) ≡ times y log + 0 = times_last y log x ∙ ap (λ b. times y log + bit b) t in
        let r = h.each y in
        omega (arith, p, q, r)

-- the last use
pub counted_last : (counts log rest : List ℕ) (x : ℕ) → AreCounted counts log → log ≡ rest ++ x ∷ [] → 1 ≤ slice_index counts x
counted_last counts log rest x h e =
    let itself : (x == x) ≡ true = grind (arith, nat_tests) in
    let p : times x log ≡ times x rest + 1 = ap (times x) e ∙ times_last x rest x ∙ ap (λ b. times x rest + bit b) itself in
    let q = h.each x in
    omega (arith, p, q)

inside : (counts : List ℕ) (x : ℕ) → 1 ≤ slice_index counts x → x < length counts
inside [] zero h = absurd (omega (arith, h))
inside [] (suc x) h = absurd (omega (arith, h))
inside (c ∷ counts) zero h = omega arith
inside (c ∷ counts) (suc x) h = let k = inside counts x h in omega (arith, k)

pub counted_within : (counts log rest : List ℕ) (x : ℕ) → AreCounted counts log → log ≡ rest ++ x ∷ [] → x < length counts
counted_within counts log rest x h e = inside counts x (counted_last counts log rest x h e)

pub counted_less : (counts log rest : List ℕ) (x n : ℕ) → AreCounted counts log → log ≡ rest ++ x ∷ [] → n ≡ slice_index counts x - 1
    → AreCounted (set counts x n) rest
counted_less counts log rest x n h e m = record { each = λ y. at_test y (x == y) refl }
  where
    within : x < length counts
    within = counted_within counts log rest x h e

    by_log : (y : ℕ) → slice_index counts y ≡ times y rest + bit (x == y)
    by_log y = h.each y ∙ ap (times y) e ∙ times_last y rest x

    at_test : (y : ℕ) (b : Bool) → (x == y) ≡ b → slice_index (set counts x n) y ≡ times y rest
    at_test y true t =
        let same : x ≡ y = grind (arith, nat_tests) in
        let p : slice_index (set counts x n) x ≡ n = get_or-set_same counts x n 0 within in
        let q : slice_index counts y ≡ times y rest + 1 = by_log y ∙ ap (λ b. times y rest + bit b) t in
        let r : slice_index counts x ≡ times y rest + 1 = subst (λ z. slice_index counts z ≡ times y rest + 1) (sym same) q in
        let s : slice_index (set counts x n) y ≡ n = subst (λ z. slice_index (set counts x n) z ≡ n) same p in
        omega (arith, q, r, s, m)
    at_test y false t =
        let p : slice_index (set counts x n) y ≡ slice_index counts y = get_or-set_other counts x y n 0 (λ k. let u : (x == y) ≡ true = grind (arith, nat_tests) in cc) in
        let q : slice_index counts y ≡ times y rest + 0 = by_log y ∙ ap (λ b. times y rest + bit b) t in
        omega (arith, p, q)

-- ---- uses that are taken off

front_pop : (n : ℕ) (before after : List ℕ) (x : ℕ) → before ≡ after ++ x ∷ [] → n < length before → n ≤ length after
front_pop n before after x e h = let k = ap length e in let l = length-append after (x ∷ []) in omega (arith, k, l, h)

pub take_popped : (n : ℕ) (before after : List ℕ) (x : ℕ) → before ≡ after ++ x ∷ [] → n < length before → take n after ≡ take n before
take_popped n before after x e h = sym (ap (take n) e ∙ take-append-le n after (x ∷ []) (front_pop n before after x e h))

drop_within : (n : ℕ) (xs ys : List ℕ) → n ≤ length xs → drop n (xs ++ ys) ≡ drop n xs ++ ys
drop_within zero xs ys h = refl
drop_within (suc n) [] ys h = absurd (omega (arith, h))
drop_within (suc n) (x ∷ xs) ys h = drop_within n xs ys (omega (arith, h))

pub drop_popped : (n : ℕ) (before after held : List ℕ) (x : ℕ) → before ≡ after ++ x ∷ [] → n < length before
    → drop n after ++ (x ∷ held) ≡ drop n before ++ held
drop_popped n before after held x e h =
    sym (ap (λ l. drop n l ++ held) e ∙ ap (λ l. l ++ held) (drop_within n after (x ∷ []) (front_pop n before after x e h)) ∙ append_assoc (drop n after) (x ∷ []) held)

pub take_all : (n : ℕ) (xs : List ℕ) → length xs ≤ n → take n xs ≡ xs
take_all zero [] h = refl
take_all (suc n) [] h = refl
take_all zero (x ∷ xs) h = absurd (omega (arith, h))
take_all (suc n) (x ∷ xs) h = ap (λ l. x ∷ l) (take_all n xs (omega (arith, h)))

pub drop_all : (n : ℕ) (xs : List ℕ) → length xs ≤ n → drop n xs ≡ []
drop_all zero [] h = refl
drop_all (suc n) [] h = refl
drop_all zero (x ∷ xs) h = absurd (omega (arith, h))
drop_all (suc n) (x ∷ xs) h = drop_all n xs (omega (arith, h))

pub pushed_same : (xs : List ℕ) (x : ℕ) → slice_index (xs ++ 0 ∷ []) x ≡ slice_index xs x
pushed_same [] zero = refl
pushed_same [] (suc x) = refl
pushed_same (y ∷ xs) zero = refl
pushed_same (y ∷ xs) (suc x) = pushed_same xs x
