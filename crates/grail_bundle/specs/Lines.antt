-- Private: words for functions of this crate.
-- Where the reader is in a text, between two lines.
use Rattle.std.specs.Prelude.{◌≡◌, ℕ, suc, ◌+◌, ◌≤◌, Bool, false, List, [], ◌∷◌, ◌++◌, length}
use Rattle.std.specs.List.{AllByRecursion}
use Rattle.hex.specs.Hex.{encode_lower, IsBytes}
use Rattle.text_lines.specs.Lines.{text_of_lines, IsOneLine}
use Rattle.grail_bundle.specs.Bundles.{Bundle, HasParts, IsBundle, digit_lines, bundle_text}

-- the line of digits that is written for these bytes: as many as one line holds, and at least one
pub record IsLineOf (line bytes : List ℕ) : Type 0 where
  pub fits : IsBytes bytes
  pub some : 1 ≤ length bytes
  pub few : length bytes ≤ 32
  pub is : encode_lower bytes ≡ line

abbrev pub IsNoLine : List ℕ → Type 0
IsNoLine line = (bytes : List ℕ) → IsLineOf line bytes → ⊥

-- not written for so many bytes
abbrev pub IsOther : (size : ℕ) → (line : List ℕ) → Type 0
IsOther size line = (bytes : List ℕ) → IsBytes bytes → length bytes ≡ size → encode_lower bytes ≡ line → ⊥

-- the bytes of this line were put behind the old ones
pub record IsPushed (old new line : List ℕ) : Type 0 where
  pub bytes : List ℕ
  pub is : IsLineOf line bytes
  pub all : new ≡ old ++ bytes

-- the lines of digits of these bytes, none where there are no bytes
abbrev pub hex_lines : List ℕ → List ℕ
hex_lines [] = []
hex_lines (b ∷ bytes) = digit_lines (encode_lower (b ∷ bytes))

-- what is left of this bundle where this code was read: lines of digits only where the last line was full
pub record Left (going : Bool) (code : List ℕ) (b : Bundle) (rest : List ℕ) : Type 0 where
  pub more : List ℕ
  pub closed : going ≡ false → more ≡ []
  pub whole : b.code ≡ code ++ more
  pub left : rest ≡ hex_lines more ++ b.cert

-- These lines, the first one and lines of digits, spell this code; `going` where more digits may follow. What begins so
-- goes on so, and ends as a bundle.
pub record Leads (before : List (List ℕ)) (going : Bool) (code : List ℕ) : Type 0 where
  pub each : AllByRecursion IsOneLine before
  pub bytes : IsBytes code
  pub some : going ≡ false → 1 ≤ length code
  pub on : (more cert : List ℕ) → (going ≡ false → more ≡ []) → 1 ≤ length (code ++ more)
      → bundle_text (code ++ more) cert ≡ text_of_lines before ++ (hex_lines more ++ cert)
  pub only : (b : Bundle) (rest : List ℕ) → IsBundle b → bundle_text b.code b.cert ≡ text_of_lines before ++ rest → Left going code b rest

-- the text was read up to `rest`, which begins the line of this number
pub record Reading (text : List ℕ) (number : ℕ) (going : Bool) (code rest : List ℕ) : Type 0 where
  pub before : List (List ℕ)
  pub parts : text ≡ text_of_lines before ++ rest
  pub count : number ≡ suc (length before)
  pub few : number + length rest ≤ length text
  pub leads : Leads before going code

-- the text is that of this code with this certificate
pub record IsRead (text code cert : List ℕ) : Type 0 where
  pub parts : HasParts (record { code = code; cert = cert })
  pub bytes : IsBytes code
  pub is : text ≡ bundle_text code cert
