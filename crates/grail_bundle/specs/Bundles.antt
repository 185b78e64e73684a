-- Cited by contracts.
-- Bundles, and the text of one: the line `grail code`, the code's bytes in lower-case hexadecimal digits, 64 on a
-- line, and the text of the certificate.
use Rattle.std.specs.Prelude.{◌≡◌, ℕ, zero, suc, ◌≤◌, List, [], ◌∷◌, ◌++◌, length, take, codes}
use Rattle.hex.specs.Hex.{encode_lower, IsBytes}

-- the bytes of code, and those of a certificate's text
pub record Bundle : Type 0 where
  pub code : List ℕ
  pub cert : List ℕ

-- the first line of each certificate's text
abbrev pub first_line : List ℕ
first_line = codes "grail certificate 1\n"

-- There is some code, and the certificate begins with its first line: so the text of a bundle shows where its digits
-- end.
pub record HasParts (b : Bundle) : Type 0 where
  pub code : 1 ≤ length b.code
  pub cert : take (length first_line) b.cert ≡ first_line

-- plain data that is a bundle: it has its parts, and the code is of bytes
pub record IsBundle (b : Bundle) : Type 0 where
  pub parts : HasParts b
  pub bytes : IsBytes b.code

-- ---- the text

-- these bytes with a line feed behind each 64 and behind the last; so many fit into the line that is begun
abbrev pub wrapped : (room : ℕ) → List ℕ → List ℕ
wrapped room [] = 10 ∷ []
wrapped zero (b ∷ bytes) = 10 ∷ b ∷ wrapped 63 bytes
wrapped (suc room) (b ∷ bytes) = b ∷ wrapped room bytes

unfoldable pub digit_lines : List ℕ → List ℕ
digit_lines digits = wrapped 64 digits

unfoldable pub bundle_text : (code cert : List ℕ) → List ℕ
bundle_text code cert = codes "grail code\n" ++ digit_lines (encode_lower code) ++ cert
