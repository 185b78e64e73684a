-- Digits in lines.
use Rattle.std.proofs.Common.{◌≡◌, ℕ, zero, suc, ◌<◌, ◌≤◌, List, [], ◌∷◌, ◌++◌, length, take, drop, refl, sym, ap, ◌∙◌, arith, append_assoc}
use Rattle.grail_bundle.specs.Bundles.{wrapped, digit_lines}

-- a line that is full, and then the rest
pub full : (room : ℕ) (xs : List ℕ) → room < length xs → wrapped room xs ≡ take room xs ++ 10 ∷ wrapped 64 (drop room xs)
full room [] h = absurd (omega arith)
full zero (x ∷ xs) h = refl
full (suc room) (x ∷ xs) h = ap (λ l. x ∷ l) (full room xs (omega arith))

-- all fits
pub fitting : (room : ℕ) (xs : List ℕ) → length xs ≤ room → wrapped room xs ≡ xs ++ 10 ∷ []
fitting room [] h = refl
fitting zero (x ∷ xs) h = absurd (omega arith)
fitting (suc room) (x ∷ xs) h = ap (λ l. x ∷ l) (fitting room xs (omega arith))

pub one_line : (out written more rest line others all : List ℕ) → 64 < length rest → line ≡ take 64 rest → others ≡ drop 64 rest
    → written ≡ out ++ line → more ≡ written ++ 10 ∷ [] → out ++ digit_lines rest ≡ all → more ++ digit_lines others ≡ all
unfolding digit_lines
one_line out written more rest line others all h front back e f g =
    ap (λ l. l ++ wrapped 64 others) (f ∙ ap (λ l. l ++ 10 ∷ []) (e ∙ ap (λ l. out ++ l) front))
    ∙ append_assoc (out ++ take 64 rest) (10 ∷ []) (wrapped 64 others) ∙ append_assoc out (take 64 rest) (10 ∷ wrapped 64 others)
    ∙ ap (λ l. out ++ (take 64 rest ++ 10 ∷ wrapped 64 l)) back ∙ ap (λ l. out ++ l) (sym (full 64 rest h)) ∙ g

pub last_line : (out line new rest all : List ℕ) → length rest ≤ 64 → line ≡ out ++ rest → new ≡ line ++ 10 ∷ [] → out ++ digit_lines rest ≡ all → new ≡ all
unfolding digit_lines
last_line out line new rest all h e f g = f ∙ ap (λ l. l ++ 10 ∷ []) e ∙ append_assoc out rest (10 ∷ []) ∙ ap (λ l. out ++ l) (sym (fitting 64 rest h)) ∙ g
