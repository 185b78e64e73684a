-- Laws, for the proofs of this crate and of those above it.
-- Laws of names: the test of a name's form, and names that stand twice or don't.
use Rattle.std.proofs.Common.{◌≡◌, ℕ, Bool, true, false, List, [], ◌∷◌, ◌++◌, refl, sym, ap, ◌∙◌, subst, append_assoc, arith}
use Rattle.std.specs.Prelude.{◌||◌, ◌&&◌, not, nat_eq, nat_le, IsTrue, length}
use Rattle.std.specs.List.{list_any}
use Rattle.std.specs.Str.{bytes_eq}
use Rattle.std.specs.Cmp.Lexicographic.{same_text}
use Rattle.std.proofs.lemmas.Bool.Decides.{nat_tests}
use Rattle.camelot_values.specs.Names.{AreDistinct, stands, has_form, IsName, is_name}

-- a place where a test holds
pub record Place {A : Type 0} (p : A → Bool) (xs : List A) : Type 0 where
  pub before : List A
  pub item : A
  pub rest : List A
  pub is : xs ≡ before ++ item ∷ rest
  pub holds : p item ≡ true

pub some_place : {A : Type 0} (p : A → Bool) (xs : List A) → list_any p xs ≡ true → Place p xs
some_place p [] h = cc
some_place p (x ∷ xs) h = at_head (λ k. some_place p xs k) (p x) refl h
  where
    at_head : (list_any p xs ≡ true → Place p xs) → (b : Bool) → p x ≡ b → (b || list_any p xs) ≡ true → Place p (x ∷ xs)
    at_head f true e k = record { before = []; item = x; rest = xs; is = refl; holds = e }
    at_head f false e k = let q = f k in record { before = x ∷ q.before; item = q.item; rest = q.rest; is = ap (λ l. x ∷ l) q.is; holds = q.holds }

pub place_is_some : {A : Type 0} (p : A → Bool) (before rest : List A) (x : A) → p x ≡ true → list_any p (before ++ x ∷ rest) ≡ true
place_is_some p [] rest x h = ap (λ b. b || list_any p rest) h
place_is_some p (y ∷ before) rest x h = or_true (p y) (list_any p (before ++ x ∷ rest)) (place_is_some p before rest x h)
  where
    or_true : (a b : Bool) → b ≡ true → (a || b) ≡ true
    or_true true b h = refl
    or_true false b h = h

pub not_true : (b : Bool) → not b ≡ true → b ≡ true → ⊥
not_true true h k = cc
not_true false h k = cc

pub never_true : (b : Bool) → (b ≡ true → ⊥) → not b ≡ true
never_true true h = absurd (h refl)
never_true false h = refl

-- ---- names

pub same_name : (v w : List ℕ) → bytes_eq v w ≡ true → v ≡ w
same_name v w h = same_text v w (sym h)

pub name_itself : (w : List ℕ) → bytes_eq w w ≡ true
name_itself [] = refl
name_itself (b ∷ bs) = let e : nat_eq b b ≡ true = grind (arith, nat_tests) in ap (λ x. x && bytes_eq bs bs) e ∙ name_itself bs

-- each of these names is new, after the earlier ones
abbrev pub AreNew : List (List ℕ) → List (List ℕ) → Type 0
AreNew earlier [] = Unit {0}
AreNew earlier (w ∷ ws) = (not (stands earlier w) ≡ true) × AreNew (earlier ++ w ∷ []) ws

pub stands_split : (earlier before rest : List (List ℕ)) (w : List ℕ) → earlier ≡ before ++ w ∷ rest → stands earlier w ≡ true
stands_split earlier before rest w e = ap (λ l. stands l w) e ∙ place_is_some (bytes_eq w) before rest w (name_itself w)

-- a name that stands before is among those before it
twice : (earlier ws : List (List ℕ)) (w : List ℕ) (before rest : List (List ℕ)) → AreNew earlier ws → ws ≡ before ++ w ∷ rest
    → stands (earlier ++ before) w ≡ true → ⊥
twice earlier [] w [] rest h q s = cc
twice earlier [] w (y ∷ before) rest h q s = cc
twice earlier (v ∷ ws) w [] rest h q s =
    let e : v ≡ w = cc in
    let s2 : stands earlier w ≡ true = subst (λ l. stands l w ≡ true) (nothing_more earlier) s in
    not_true (stands earlier v) h.0 (subst (λ x. stands earlier x ≡ true) (sym e) s2)
  where
    nothing_more : (l : List (List ℕ)) → l ++ [] ≡ l
    nothing_more [] = refl
    nothing_more (x ∷ l) = ap (λ m. x ∷ m) (nothing_more l)
twice earlier (v ∷ ws) w (y ∷ before) rest h q s =
    let e : v ≡ y = cc in
    let r : ws ≡ before ++ w ∷ rest = cc in
    let t : stands ((earlier ++ v ∷ []) ++ before) w ≡ true = subst (λ l. stands l w ≡ true) (sym (append_assoc earlier (v ∷ []) before ∙ ap (λ x. earlier ++ x ∷ before) e)) s in
    twice (earlier ++ v ∷ []) ws w before rest h.1 r t

pub new_distinct : (ws : List (List ℕ)) → AreNew [] ws → AreDistinct ws
new_distinct ws h w before between rest q =
    twice [] ws w (before ++ w ∷ between) rest h (q ∙ sym (append_assoc before (w ∷ between) (w ∷ rest))) (stands_split (before ++ w ∷ between) before between w refl)

pub distinct_new_from : (earlier ws : List (List ℕ)) → AreDistinct (earlier ++ ws) → AreNew earlier ws
distinct_new_from earlier [] h = tt
distinct_new_from earlier (w ∷ ws) h = (
  never_true (stands earlier w) (λ k.
      let q = some_place (bytes_eq w) earlier k in
      let e : w ≡ q.item = same_name w q.item q.holds in
      h w q.before q.rest ws (ap (λ l. l ++ w ∷ ws) (q.is ∙ ap (λ x. q.before ++ x ∷ q.rest) (sym e)) ∙ append_assoc q.before (w ∷ q.rest) (w ∷ ws))),
  distinct_new_from (earlier ++ w ∷ []) ws (subst AreDistinct (sym (append_assoc earlier (w ∷ []) ws)) h),
)

pub distinct_new : (ws : List (List ℕ)) → AreDistinct ws → AreNew [] ws
distinct_new ws h = distinct_new_from [] ws h

-- ---- forms

-- The test of a name's form is the form.
pub name_passes : (is_first : ℕ → Bool) (word : List ℕ) → IsName is_first word → IsTrue (is_name is_first word)
name_passes is_first word n = both (has_form is_first word) (nat_le (length word) 64) n.form (grind (arith, nat_tests, n.short))
  where
    both : (a b : Bool) → a ≡ true → b ≡ true → (a && b) ≡ true
    both true b h k = k
    both false b h k = absurd cc

pub passing_name : (is_first : ℕ → Bool) (word : List ℕ) → IsTrue (is_name is_first word) → IsName is_first word
passing_name is_first word h = let p = split (has_form is_first word) (nat_le (length word) 64) h in record { form = p.0; short = grind (arith, nat_tests, p.1) }
  where
    split : (a b : Bool) → (a && b) ≡ true → (a ≡ true) × (b ≡ true)
    split true b h = (refl, h)
    split false b h = absurd cc
