-- Laws, for the proofs of this crate and of those above it.
-- Demands on numbers and names: whether they hold, and what one more name does to a list without repeats.
use Rattle.std.proofs.Common.{◌≡◌, ℕ, ◌<◌, ◌≤◌, Bool, true, false, List, [], ◌∷◌, ◌++◌, refl, sym, ap, ◌∙◌, subst, arith, append_assoc, append-nil, inl, inr}
use Rattle.std.specs.Prelude.{◌⊎◌, not}
use Rattle.std.specs.List.{AllByRecursion}
use Rattle.std.specs.Str.{bytes_eq}
use Rattle.std.proofs.lemmas.Bool.{cases_lt}
use Rattle.camelot_values.specs.Names.{AreDistinct, stands}
use Rattle.camelot_values.specs.NameLaws.{AreNew, new_distinct, distinct_new, not_true, some_place, same_name}
use Rattle.job_script.specs.Scripts.{IsUpTo}

-- ---- whether they hold

-- it holds or not
abbrev pub Decided : Type 0 → Type 0
Decided P = P ⊎ (P → ⊥)

pub up_to : (limit n : ℕ) → Decided (IsUpTo limit n)
up_to limit n = by_size (cases_lt n 1) (cases_lt limit n)
  where
    by_size : (n < 1) ⊎ (1 ≤ n) → (limit < n) ⊎ (n ≤ limit) → Decided (IsUpTo limit n)
    by_size (inl h) k = inr (λ u. absurd (omega (arith, h, u.least)))
    by_size (inr h) (inl k) = inr (λ u. absurd (omega (arith, k, u.most)))
    by_size (inr h) (inr k) = inl (record { least = h; most = k })

pub at_most : (n limit : ℕ) → Decided (n ≤ limit)
at_most n limit = by_size (cases_lt limit n)
  where
    by_size : (limit < n) ⊎ (n ≤ limit) → Decided (n ≤ limit)
    by_size (inl h) = inr (λ k. absurd (omega (arith, h, k)))
    by_size (inr h) = inl h

pub each : {A : Type 0} (P : A → Type 0) → ((x : A) → Decided (P x)) → (xs : List A) → Decided (AllByRecursion P xs)
each P d [] = inl tt
each P d (x ∷ xs) = both (d x) (each P d xs)
  where
    both : Decided (P x) → Decided (AllByRecursion P xs) → Decided (AllByRecursion P (x ∷ xs))
    both (inl h) (inl k) = inl (h, k)
    both (inr h) k = inr (λ p. h p.0)
    both (inl h) (inr k) = inr (λ p. k p.1)

new_ones : (earlier ws : List (List ℕ)) → Decided (AreNew earlier ws)
new_ones earlier [] = inl tt
new_ones earlier (w ∷ ws) = both (stands earlier w) refl (new_ones (earlier ++ w ∷ []) ws)
  where
    both : (b : Bool) → stands earlier w ≡ b → Decided (AreNew (earlier ++ w ∷ []) ws) → Decided (AreNew earlier (w ∷ ws))
    both true e k = inr (λ p. not_true (stands earlier w) p.0 e)
    both false e (inl k) = inl (ap not e, k)
    both false e (inr k) = inr (λ p. k p.1)

pub distinct : (ws : List (List ℕ)) → Decided (AreDistinct ws)
distinct ws = by_new (new_ones [] ws)
  where
    by_new : Decided (AreNew [] ws) → Decided (AreDistinct ws)
    by_new (inl h) = inl (new_distinct ws h)
    by_new (inr h) = inr (λ d. h (distinct_new ws d))

-- ---- lists without repeats

-- the front of a list without repeats
pub distinct_left : {A : Type 0} (xs ys : List A) → AreDistinct (xs ++ ys) → AreDistinct xs
distinct_left xs ys h word before between rest e =
    h word before between (rest ++ ys) (ap (λ l. l ++ ys) e ∙ append_assoc before (word ∷ (between ++ word ∷ rest)) ys ∙ ap (λ l. before ++ word ∷ l) (append_assoc between (word ∷ rest) ys))

new_more : (earlier ws : List (List ℕ)) (w : List ℕ) → AreNew earlier ws → not (stands (earlier ++ ws) w) ≡ true → AreNew earlier (ws ++ w ∷ [])
new_more earlier [] w h k = (subst (λ l. not (stands l w) ≡ true) (append-nil earlier) k, tt)
new_more earlier (v ∷ ws) w h k = (h.0, new_more (earlier ++ v ∷ []) ws w h.1 (subst (λ l. not (stands l w) ≡ true) (sym (append_assoc earlier (v ∷ []) ws)) k))

pub distinct_more : (ws : List (List ℕ)) (w : List ℕ) → AreDistinct ws → stands ws w ≡ false → AreDistinct (ws ++ w ∷ [])
distinct_more ws w h k = new_distinct (ws ++ w ∷ []) (new_more [] ws w (distinct_new ws h) (ap not k))

pub distinct_not : (ws : List (List ℕ)) (w : List ℕ) → stands ws w ≡ true → AreDistinct (ws ++ w ∷ []) → ⊥
distinct_not ws w k h =
    let p = some_place (bytes_eq w) ws k in
    let same : w ≡ p.item = same_name w p.item p.holds in
    h w p.before p.rest [] (ap (λ l. l ++ w ∷ []) (p.is ∙ ap (λ x. p.before ++ x ∷ p.rest) (sym same)) ∙ append_assoc p.before (w ∷ p.rest) (w ∷ []))
