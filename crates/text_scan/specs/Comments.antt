-- Cited by contracts.
-- Comments between `(*` and `*)`, which nest, as in Standard ML (Milner, Tofte, Harper 1990, section 2.3).
use Rattle.std.specs.Prelude.{ℕ, suc, zero, Bool, true, false, ◌&&◌, ◌==◌, List, [], ◌∷◌, if◌then◌else◌}
use Rattle.std.specs.Str.{byte}

abbrev pub is_opening : ℕ → ℕ → Bool
is_opening a b = a == byte "(" && b == byte "*"

abbrev pub is_closing : ℕ → ℕ → Bool
is_closing a b = a == byte "*" && b == byte ")"

-- whether the bytes begin with `(*`
abbrev pub opens_comment : List ℕ → Bool
opens_comment (a ∷ b ∷ bytes) = is_opening a b
opens_comment bytes = false

-- Whether these bytes, inside so many open comments, close the last of them just at their end. Inside a comment `(*`
-- opens one more, `*)` closes the innermost, and any other byte is passed over.
unfoldable pub closes : ℕ → List ℕ → Bool
closes zero [] = true
closes zero (a ∷ bytes) = false
closes (suc depth) [] = false
closes (suc depth) (a ∷ []) = false
closes (suc depth) (a ∷ b ∷ bytes) =
    if is_opening a b then closes (suc (suc depth)) bytes
    else (if is_closing a b then closes depth bytes
    else closes (suc depth) (b ∷ bytes))

-- one whole comment, from its `(*` to the `*)` that closes it
abbrev pub is_comment : List ℕ → Bool
is_comment (a ∷ b ∷ bytes) = is_opening a b && closes 1 bytes
is_comment bytes = false
