-- Cited by contracts.
-- The text of certificates (`CERTIFICATES.md`): lines that end with a line feed, of words with one space between two. A
-- certificate has one text, and a text is that of one certificate at most.
use Rattle.std.specs.Prelude.{◌≡◌, ℕ, suc, List, [], ◌∷◌, ◌++◌, length, map, flat_map, codes, ◌⊎◌}
use Rattle.annotations.specs.Vectors.{Vector}
use Rattle.text_lines.specs.Numbers.{number}
use Rattle.text_lines.specs.Cuts.{spaced}
use Rattle.text_lines.specs.Lines.{text_of_lines, IsOneLine}
use Rattle.certificate.specs.Certificates.{VarCert, BlockCert, MakeCert, FuncCert, Cert, IsFormed, IsCert}

-- ---- lines as words

-- `con=units`
abbrev pub pair_word : ℕ × ℕ → List ℕ
pair_word p = number p.0 ++ 61 ∷ number p.1

abbrev pub vector_words : Vector → List (List ℕ)
vector_words vector = map pair_word vector

abbrev pub param_words : VarCert → List (List ℕ)
param_words v = codes "param" ∷ number v.var ∷ vector_words v.vector

-- only where it isn't zero
abbrev pub result_lines : Vector → List (List (List ℕ))
result_lines [] = []
result_lines (p ∷ ps) = (codes "result" ∷ vector_words (p ∷ ps)) ∷ []

abbrev pub var_words : VarCert → List (List ℕ)
var_words v = codes "var" ∷ number v.var ∷ vector_words v.vector

abbrev pub block_words : BlockCert → List (List ℕ)
block_words b = codes "block" ∷ number b.block ∷ codes "need" ∷ number b.need ∷ []

abbrev pub block_lines : BlockCert → List (List (List ℕ))
block_lines b = block_words b ∷ map var_words b.vars

abbrev pub make_words : MakeCert → List (List ℕ)
make_words m = codes "make" ∷ number m.block ∷ number m.place ∷ vector_words m.vector

abbrev pub function_words : FuncCert → List (List ℕ)
function_words f = codes "function" ∷ f.name ∷ codes "need" ∷ number f.need ∷ codes "back" ∷ number f.back ∷ []

abbrev pub func_lines : FuncCert → List (List (List ℕ))
func_lines f = function_words f ∷ map param_words f.params ++ (result_lines f.result ++ (flat_map block_lines f.blocks ++ map make_words f.makes))

abbrev pub first_words : List (List ℕ)
first_words = codes "grail" ∷ codes "certificate" ∷ codes "1" ∷ []

abbrev pub unit_words : ℕ → List (List ℕ)
unit_words unit = codes "unit" ∷ number unit ∷ []

-- all lines but the last
abbrev pub open_lines : ℕ → List FuncCert → List (List (List ℕ))
open_lines unit funcs = first_words ∷ unit_words unit ∷ flat_map func_lines funcs

abbrev pub last_words : List (List ℕ)
last_words = codes "end" ∷ []

-- ---- their text

abbrev pub lines_of : Cert → List (List ℕ)
lines_of c = map spaced (open_lines c.unit c.funcs ++ last_words ∷ [])

unfoldable pub text_of : Cert → List ℕ
text_of c = text_of_lines (lines_of c)

-- ---- the first line that is wrong

-- these lines are a front of some certificate's, within the limits
pub record Begins (lines : List (List ℕ)) : Type 0 where
  pub cert : Cert
  pub rest : List (List ℕ)
  pub is : lines_of cert ≡ lines ++ rest
  pub right : IsCert cert

-- these lines are a front of some certificate's, the limits of numbers left out
pub record BeginsLoosely (lines : List (List ℕ)) : Type 0 where
  pub cert : Cert
  pub rest : List (List ℕ)
  pub is : lines_of cert ≡ lines ++ rest
  pub right : IsFormed cert

-- The lines before begin a certificate, and this line goes on with none: where the limits alone are in the way, that is
-- a fault of a number, and else one of the line.
pub record IsWrongLine (before : List (List ℕ)) (line : List ℕ) : Type 0 where
  pub good : Begins before
  pub wrong : BeginsLoosely (before ++ line ∷ []) → ⊥

pub record IsWrongNumber (before : List (List ℕ)) (line : List ℕ) : Type 0 where
  pub good : Begins before
  pub form : BeginsLoosely (before ++ line ∷ [])
  pub wrong : Begins (before ++ line ∷ []) → ⊥

-- the text is these lines and goes on with this one
pub record GoesOn (text : List ℕ) (before : List (List ℕ)) (line : List ℕ) : Type 0 where
  pub rest : List ℕ
  pub parts : text ≡ text_of_lines before ++ (line ++ 10 ∷ rest)
  pub one : IsOneLine line

-- The text ends behind these lines, where a line is still needed, or in the middle of a line.
pub record EndsEarly (text : List ℕ) (before : List (List ℕ)) : Type 0 where
  pub rest : List ℕ
  pub parts : text ≡ text_of_lines before ++ rest
  pub one : IsOneLine rest
  pub good : Begins before
  pub unfinished : (c : Cert) → IsCert c → text_of c ≡ text → ⊥

-- the first line that isn't of the text form, counted from 1
pub record IsLineFault (text : List ℕ) (number : ℕ) : Type 0 where
  pub before : List (List ℕ)
  pub count : number ≡ suc (length before)
  pub fault : ((line : List ℕ) × GoesOn text before line × IsWrongLine before line) ⊎ EndsEarly text before

-- the first line that is of the text form but for a number above its limit
pub record IsNumberFault (text : List ℕ) (number : ℕ) : Type 0 where
  pub before : List (List ℕ)
  pub count : number ≡ suc (length before)
  pub line : List ℕ
  pub goes : GoesOn text before line
  pub fault : IsWrongNumber before line
