-- What several writes at the end of a text leave.
use Rattle.std.proofs.Common.{◌≡◌, ℕ, suc, ◌+◌, ◌<◌, ◌≤◌, List, ◌∷◌, ◌++◌, length, map, drop, get_or, sym, ap, ◌∙◌, append_assoc, append-nil, drop-cons, drop_of_length-le, add-one}
use Rattle.std.specs.Prelude.{flat_map}

pub two : (o p q a b : List ℕ) → p ≡ o ++ a → q ≡ p ++ b → q ≡ o ++ (a ++ b)
two o p q a b e f = f ∙ ap (λ l. l ++ b) e ∙ append_assoc o a b

three : (o p q r a b c : List ℕ) → p ≡ o ++ a → q ≡ p ++ b → r ≡ q ++ c → r ≡ o ++ (a ++ b ++ c)
three o p q r a b c e f g = two o q r (a ++ b) c (two o p q a b e f) g

pub four : (o p q r s a b c d : List ℕ) → p ≡ o ++ a → q ≡ p ++ b → r ≡ q ++ c → s ≡ r ++ d → s ≡ o ++ (a ++ b ++ c ++ d)
four o p q r s a b c d e f g h = two o r s (a ++ b ++ c) d (three o p q r a b c e f g) h

pub five : (o p q r s t a b c d x : List ℕ) → p ≡ o ++ a → q ≡ p ++ b → r ≡ q ++ c → s ≡ r ++ d → t ≡ s ++ x → t ≡ o ++ (a ++ b ++ c ++ d ++ x)
five o p q r s t a b c d x e f g h k = two o s t (a ++ b ++ c ++ d) x (four o p q r s a b c d e f g h) k

-- ---- items one by one

first_left : {A : Type 0} (xs : List A) (i : ℕ) (x : A) → i < length xs → x ≡ get_or xs i x → x ∷ drop (i + 1) xs ≡ drop i xs
first_left xs i x h is = ap (λ n. x ∷ drop n xs) (add-one i) ∙ sym (drop-cons xs i x h ∙ ap (λ y. y ∷ drop (suc i) xs) (sym is))

grown : (line rest out new all : List ℕ) → out ++ (line ++ rest) ≡ all → new ≡ out ++ line → new ++ rest ≡ all
grown line rest out new all e f = ap (λ l. l ++ rest) f ∙ append_assoc out line rest ∙ e

pub one_of : {A : Type 0} (t : A → List ℕ) (xs : List A) (i : ℕ) (x : A) (out new all : List ℕ) → i < length xs → x ≡ get_or xs i x
    → out ++ flat_map t (drop i xs) ≡ all → new ≡ out ++ t x → new ++ flat_map t (drop (i + 1) xs) ≡ all
one_of t xs i x out new all h is e f = grown (t x) (flat_map t (drop (i + 1) xs)) out new all (ap (λ l. out ++ flat_map t l) (first_left xs i x h is) ∙ e) f

pub all_of : {A : Type 0} (t : A → List ℕ) (xs : List A) (i : ℕ) (out all : List ℕ) → length xs ≤ i → out ++ flat_map t (drop i xs) ≡ all → out ≡ all
all_of t xs i out all h e = sym (append-nil out) ∙ ap (λ l. out ++ flat_map t l) (sym (drop_of_length-le xs {i = i} h)) ∙ e

pub one_mapped : {A B : Type 0} (t : B → List ℕ) (m : A → B) (xs : List A) (i : ℕ) (x : A) (out new all : List ℕ) → i < length xs → x ≡ get_or xs i x
    → out ++ flat_map t (map m (drop i xs)) ≡ all → new ≡ out ++ t (m x)
    → new ++ flat_map t (map m (drop (i + 1) xs)) ≡ all
one_mapped t m xs i x out new all h is e f = grown (t (m x)) (flat_map t (map m (drop (i + 1) xs))) out new all (ap (λ l. out ++ flat_map t (map m l)) (first_left xs i x h is) ∙ e) f

pub all_mapped : {A B : Type 0} (t : B → List ℕ) (m : A → B) (xs : List A) (i : ℕ) (out all : List ℕ) → length xs ≤ i
    → out ++ flat_map t (map m (drop i xs)) ≡ all → out ≡ all
all_mapped t m xs i out all h e = sym (append-nil out) ∙ ap (λ l. out ++ flat_map t (map m l)) (sym (drop_of_length-le xs {i = i} h)) ∙ e
