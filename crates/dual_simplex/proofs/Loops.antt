-- Loops over lists: what was done, and what is left.
use Rattle.std.proofs.Common.{◌≡◌, ℕ, suc, zero, ◌+◌, ◌<◌, ◌≤◌, ℤ, pos, List, [], ◌∷◌, ◌++◌, map, length, drop, take, set, get_or, Bool, true, false, ◌&&◌, arith, ap, sym, ◌∙◌, refl, subst, drop-cons, add-one, drop_of_length-le, append_assoc, append-nil}
use Rattle.std.proofs.lemmas.List.{take_more_set, drop-set-lt, take_all}
use Rattle.std.proofs.lemmas.List.Folds.{list_all-append}
use Rattle.std.specs.List.{list_all}
use Rattle.std.proofs.Math.Seq.{take-suc}
use Rattle.std.proofs.lemmas.List.Elements.{All-push}
use Rattle.std.specs.Prelude.{int_div, All}
use Rattle.dual_simplex.specs.Equation.{mixed, mixed_all, is_small}

pub drop_next : {A : Type 0} (xs : List A) (i : ℕ) (d : A) → i < length xs → drop i xs ≡ get_or xs i d ∷ drop (i + 1) xs
drop_next xs i d p = rw (add-one, drop-cons xs i d)

pub drop_set_next : {A : Type 0} (xs : List A) (i : ℕ) (v : A) → drop (i + 1) (set xs i v) ≡ drop (i + 1) xs
drop_set_next xs i v = drop-set-lt (i + 1) xs i v (omega arith)

-- ---- a list written from another one
pub map_turn : {A B : Type 0} (f : A → B) (from : List A) (into all : List B) (i : ℕ) (d : A) (v : B)
    → i < length from → i < length into → v ≡ f (get_or from i d) → take i into ++ map f (drop i from) ≡ all
    → take (i + 1) (set into i v) ++ map f (drop (i + 1) from) ≡ all
map_turn f from into all i d v p q e before =
    ap (λ xs. xs ++ map f (drop (i + 1) from)) (take_more_set into i v q)
    ∙ append_assoc (take i into) (v ∷ []) (map f (drop (i + 1) from))
    ∙ ap (λ x. take i into ++ x ∷ map f (drop (i + 1) from)) e
    ∙ ap (λ xs. take i into ++ map f xs) (sym (drop_next from i d p))
    ∙ before

pub map_done : {A B : Type 0} (f : A → B) (from : List A) (into all : List B) (i : ℕ)
    → length from ≤ i → length into ≤ i → take i into ++ map f (drop i from) ≡ all → into ≡ all
map_done f from into all i p q before =
    sym (append-nil into) ∙ ap (λ xs. xs ++ []) (sym (take_all i into q)) ∙ ap (λ xs. take i into ++ map f xs) (sym (drop_of_length-le from p)) ∙ before

-- ---- numbers mixed into others
abbrev pub mixed_divided : ℤ → ℤ → ℕ → List ℤ → List ℤ → List ℤ
mixed_divided s t g os us = map (λ x. int_div x (pos g)) (mixed_all s t os us)

pub mix_next : (s t : ℤ) (g : ℕ) (os us : List ℤ) (i : ℕ) → i < length os → i < length us
    → mixed_divided s t g (drop i os) (drop i us) ≡ int_div (mixed s t (get_or os i (pos 0)) (get_or us i (pos 0))) (pos g) ∷ mixed_divided s t g (drop (i + 1) os) (drop (i + 1) us)
mix_next s t g os us i p q = rw (drop_next os i (pos 0) p, drop_next us i (pos 0) q)

pub mix_turn : (s t : ℤ) (g : ℕ) (os us all : List ℤ) (i : ℕ) (v : ℤ) → i < length os → i < length us
    → v ≡ int_div (mixed s t (get_or os i (pos 0)) (get_or us i (pos 0))) (pos g)
    → take i os ++ mixed_divided s t g (drop i os) (drop i us) ≡ all
    → take (i + 1) (set os i v) ++ mixed_divided s t g (drop (i + 1) (set os i v)) (drop (i + 1) us) ≡ all
mix_turn s t g os us all i v p q e before =
    ap (λ xs. xs ++ mixed_divided s t g (drop (i + 1) (set os i v)) (drop (i + 1) us)) (take_more_set os i v p)
    ∙ append_assoc (take i os) (v ∷ []) (mixed_divided s t g (drop (i + 1) (set os i v)) (drop (i + 1) us))
    ∙ ap (λ xs. take i os ++ v ∷ mixed_divided s t g xs (drop (i + 1) us)) (drop_set_next os i v)
    ∙ ap (λ x. take i os ++ x ∷ mixed_divided s t g (drop (i + 1) os) (drop (i + 1) us)) e
    ∙ ap (λ xs. take i os ++ xs) (sym (mix_next s t g os us i p q))
    ∙ before

pub small_turn : (xs : List ℤ) (i : ℕ) (v : ℤ) → i < length xs → is_small v ≡ true
    → list_all is_small (take i xs) ≡ true → list_all is_small (take (i + 1) (set xs i v)) ≡ true
small_turn xs i v p e before =
    ap (list_all is_small) (take_more_set xs i v p) ∙ list_all-append is_small (take i xs) (v ∷ [])
    ∙ ap (λ b. b && (is_small v && true)) before ∙ ap (λ b. b && true) e

pub mix_done : (s t : ℤ) (g : ℕ) (os us all : List ℤ) (i : ℕ) → length os ≤ i
    → take i os ++ mixed_divided s t g (drop i os) (drop i us) ≡ all → os ≡ all
mix_done s t g os us all i p before =
    sym (append-nil os) ∙ ap (λ xs. xs ++ []) (sym (take_all i os p)) ∙ ap (λ xs. take i os ++ mixed_divided s t g xs (drop i us)) (sym (drop_of_length-le os p)) ∙ before

pub small_done : (xs : List ℤ) (i : ℕ) → length xs ≤ i → list_all is_small (take i xs) ≡ true → list_all is_small xs ≡ true
small_done xs i p before = ap (list_all is_small) (sym (take_all i xs p)) ∙ before

-- one that fails a test is in the list
pub fails_inside : {A : Type 0} (test : A → Bool) (front rest : List A) (x : A) → test x ≡ false → list_all test (front ++ x ∷ rest) ≡ false
fails_inside test [] rest x e = ap (λ b. b && list_all test rest) e
fails_inside test (y ∷ ys) rest x e = ap (λ b. test y && b) (fails_inside test ys rest x e) ∙ and_false (test y)
  where
    and_false : (b : Bool) → (b && false) ≡ false
    and_false true = refl
    and_false false = refl

pub mix_fails : (s t : ℤ) (g : ℕ) (os us all : List ℤ) (i : ℕ) → i < length os → i < length us
    → is_small (int_div (mixed s t (get_or os i (pos 0)) (get_or us i (pos 0))) (pos g)) ≡ false
    → take i os ++ mixed_divided s t g (drop i os) (drop i us) ≡ all → list_all is_small all ≡ false
mix_fails s t g os us all i p q e before =
    subst (λ xs. list_all is_small xs ≡ false)
    (ap (λ xs. take i os ++ xs) (sym (mix_next s t g os us i p q)) ∙ before)
    (fails_inside is_small (take i os) (mixed_divided s t g (drop (i + 1) os) (drop (i + 1) us)) (int_div (mixed s t (get_or os i (pos 0)) (get_or us i (pos 0))) (pos g)) e)

-- a `Vec` whose items were all written
pub refilled : {A : Type 0} (len : ℕ) (xs ys : List A) → len ≡ length ys → length xs ≡ length ys → take len (xs ++ drop (length xs) ys) ≡ xs
refilled len xs ys p q =
    ap (λ zs. take len (xs ++ zs)) (drop_of_length-le ys (omega arith)) ∙ ap (take len) (append-nil xs) ∙ take_all len xs (omega arith)

-- a place that is there reads alike at any default
pub get_any : {A : Type 0} (xs : List A) (i : ℕ) (d e : A) → i < length xs → get_or xs i d ≡ get_or xs i e
get_any [] i d e p = absurd (omega arith)
get_any (x ∷ xs) zero d e p = refl
get_any (x ∷ xs) (suc i) d e p = get_any xs i d e (omega arith)

pub all_turn : {A : Type 0} (P : A → Type 0) (xs : List A) (i : ℕ) (d : A) → i < length xs → P (get_or xs i d) → All P (take i xs) → All P (take (i + 1) xs)
all_turn P xs i d p own before =
    subst (All P) (sym (ap (λ k. take k xs) (add-one i) ∙ take-suc xs i d p)) (All-push P (take i xs) (get_or xs i d) before own)

pub all_done : {A : Type 0} (P : A → Type 0) (xs : List A) (i : ℕ) → length xs ≤ i → All P (take i xs) → All P xs
all_done P xs i p before = subst (All P) (take_all i xs p) before
