-- Laws, for the proofs of this crate and of those above it.
-- Pieces of a text that are written one after the other: two and three of them, a line, and all items of a list.
use Rattle.std.proofs.Common.{◌≡◌, ℕ, suc, ◌+◌, ◌<◌, ◌≤◌, List, [], ◌∷◌, ◌++◌, length, map, drop, get_or, sym, ap, ◌∙◌, append_assoc, append-nil, drop-cons, drop_of_length-le, add-one}
use Rattle.std.specs.Prelude.{flat_map}
use Rattle.text_lines.specs.Lines.{text_of_lines}

pub two : (a b c o p : List ℕ) → o ≡ a ++ b → p ≡ o ++ c → p ≡ a ++ (b ++ c)
two a b c o p e f = f ∙ ap (λ l. l ++ c) e ∙ append_assoc a b c

pub three : (a b c d o p q : List ℕ) → o ≡ a ++ b → p ≡ o ++ c → q ≡ p ++ d → q ≡ a ++ (b ++ (c ++ d))
three a b c d o p q e f g = two (a ++ b) c d p q (f ∙ ap (λ l. l ++ c) e) g ∙ append_assoc a b (c ++ d)

-- a piece behind another one, the rest of the line already behind it
pub behind : (x y z : List ℕ) → x ++ (y ++ z) ≡ (x ++ y) ++ z
behind x y z = sym (append_assoc x y z)

-- a line of these bytes
pub line_is : (x : List ℕ) → x ++ 10 ∷ [] ≡ text_of_lines (x ∷ [])
line_is x = sym (append-nil (x ++ 10 ∷ []))

-- ---- items one by one

pub one_mapped : {A B : Type 0} (t : B → List ℕ) (m : A → B) (xs : List A) (i : ℕ) (x : A) (out new all : List ℕ) → i < length xs → x ≡ get_or xs i x
    → out ++ flat_map t (map m (drop i xs)) ≡ all → new ≡ out ++ t (m x)
    → new ++ flat_map t (map m (drop (i + 1) xs)) ≡ all
one_mapped t m xs i x out new all h is e f =
    ap (λ l. l ++ flat_map t (map m (drop (i + 1) xs))) f ∙ append_assoc out (t (m x)) (flat_map t (map m (drop (i + 1) xs))) ∙ ap (λ n. out ++ (t (m x) ++ flat_map t (map m (drop n xs)))) (add-one i)
    ∙ ap (λ l. out ++ flat_map t (map m l)) (sym (drop-cons xs i x h ∙ ap (λ y. y ∷ drop (suc i) xs) (sym is))) ∙ e

pub all_mapped : {A B : Type 0} (t : B → List ℕ) (m : A → B) (xs : List A) (i : ℕ) (out all : List ℕ) → length xs ≤ i
    → out ++ flat_map t (map m (drop i xs)) ≡ all → out ≡ all
all_mapped t m xs i out all h e = sym (append-nil out) ∙ ap (λ l. out ++ flat_map t (map m l)) (sym (drop_of_length-le xs {i = i} h)) ∙ e
