-- Heads of functions, one by one.
use Rattle.std.proofs.Common.{◌≡◌, ℕ, zero, suc, ◌+◌, ◌≤◌, ◌<◌, List, [], ◌∷◌, ◌++◌, map, length, get_or, drop, subst, sym, ap, ◌∙◌, refl, arith, append_assoc}
use Rattle.std.specs.List.{AllByRecursion}
use Rattle.camelot_tree.specs.Tree.{Function, Source}
use Rattle.camelot_typing.specs.Kinds.{Head}
use Rattle.camelot_types.specs.declared.guess.Guess.{Guess}
use Rattle.camelot_types.specs.Walk.{head_guess, head_guesses}
use Rattle.camelot_types.specs.Solving.{unknowns}
use Rattle.camelot_types.proofs.Looping.{item_here}

pub few_here : {A : Type 0} (f : A → Function) (xs : List A) (i : ℕ) (x : A) → AllByRecursion (λ f. length f.params ≤ 16) (map f xs) → i < length xs
    → x ≡ get_or xs i x → length (f x).params ≤ 16
few_here f [] i x h l e = absurd (omega (arith, l))
few_here f (y ∷ ys) zero x h l e = subst (λ z. length (f z).params ≤ 16) (sym e) h.0
few_here f (y ∷ ys) (suc i) x h l e = few_here f ys i x h.1 (omega arith) e

-- one more head is known
pub heads_more : {A : Type 0} (f : A → Function) (p : Source) (n next : ℕ) (done more : List (Head Guess)) (xs : List A) (i : ℕ) (x : A) (all : List (Head Guess)) → i < length xs → x ≡ get_or xs i x
    → done ++ head_guesses p n (map f (drop i xs)) ≡ all → next ≡ suc (n + length (f x).params) → more ≡ done ++ head_guess p n (f x) ∷ [] → more ++ head_guesses p next (map f (drop (i + 1) xs)) ≡ all
heads_more f p n next done more xs i x all l e h k m =
    ap (λ a. a ++ head_guesses p next (map f (drop (i + 1) xs))) m ∙ ap (λ j. (done ++ head_guess p n (f x) ∷ []) ++ head_guesses p j (map f (drop (i + 1) xs))) k
    ∙ append_assoc done (head_guess p n (f x) ∷ []) (head_guesses p (suc (n + length (f x).params)) (map f (drop (i + 1) xs)))
    ∙ ap (λ ys. done ++ head_guesses p n (map f ys)) (sym (item_here xs i x l e)) ∙ h

map_last : {A B : Type 0} (f : A → B) (xs : List A) (x : A) → map f (xs ++ x ∷ []) ≡ map f xs ++ f x ∷ []
map_last f [] x = refl
map_last f (y ∷ xs) x = ap (λ l. f y ∷ l) (map_last f xs x)

-- a head is put last
pub head_last : {A : Type 0} (v : A → Head Guess) (before after : List A) (x : A) (h : Head Guess) → after ≡ before ++ x ∷ [] → v x ≡ h
    → map v after ≡ map v before ++ h ∷ []
head_last v before after x h e k = ap (map v) e ∙ map_last v before x ∙ ap (λ y. map v before ++ y ∷ []) k

-- ---- the number of unknowns

pub unknowns_more : {A : Type 0} (f : A → Function) (xs : List A) (i n next all : ℕ) (x : A) → i < length xs → x ≡ get_or xs i x
    → n + unknowns (map f (drop i xs)) ≡ all → next ≡ n + suc (length (f x).params)
    → next + unknowns (map f (drop (i + 1) xs)) ≡ all
unknowns_more f xs i n next all x l e h k =
    let s : n + suc (length (f x).params + unknowns (map f (drop (i + 1) xs))) ≡ all = ap (λ ys. n + unknowns (map f ys)) (sym (item_here xs i x l e)) ∙ h in
    omega (arith, s, k)
