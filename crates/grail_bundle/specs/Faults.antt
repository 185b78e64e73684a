-- Cited by contracts.
-- The first wrong line of a text that is no bundle's: the lines in front of it begin a bundle's text, and with this
-- line they begin none. A line ends with its line feed, so what stands behind the last line feed is no line yet.
use Rattle.std.specs.Prelude.{◌≡◌, ℕ, suc, List, [], ◌∷◌, ◌++◌, length}
use Rattle.std.specs.List.{AllByRecursion}
use Rattle.text_lines.specs.Lines.{text_of_lines, IsOneLine}
use Rattle.grail_bundle.specs.Bundles.{Bundle, IsBundle, bundle_text}

-- some bundle's text begins with these lines
pub record Begins (lines : List (List ℕ)) : Type 0 where
  pub bundle : Bundle
  pub rest : List ℕ
  pub right : IsBundle bundle
  pub is : bundle_text bundle.code bundle.cert ≡ text_of_lines lines ++ rest

-- The line of this number, counted from 1, is the first wrong one: `before` are the lines in front of it, and `rest` is
-- the text from it on. Where a whole line stands there, no bundle's text begins with it too; and where none does, it is
-- enough that the text is no bundle's.
pub record IsFault (text : List ℕ) (number : ℕ) : Type 0 where
  pub before : List (List ℕ)
  pub rest : List ℕ
  pub parts : text ≡ text_of_lines before ++ rest
  pub each : AllByRecursion IsOneLine before
  pub count : number ≡ suc (length before)
  pub good : Begins before
  pub wrong : (line more : List ℕ) → IsOneLine line → rest ≡ line ++ 10 ∷ more → Begins (before ++ line ∷ []) → ⊥
  pub none : (b : Bundle) → IsBundle b → text ≡ bundle_text b.code b.cert → ⊥
