-- Private: words for functions of this crate.
-- Where the reader is in a text, between two lines.
use Rattle.std.specs.Prelude.{◌≡◌, ℕ, suc, ◌+◌, ◌≤◌, List, ◌∷◌, ◌++◌, length, map}
use Rattle.std.specs.List.{AllByRecursion}
use Rattle.certificate.specs.Certificates.{Cert, FuncCert, FuncIsWithin, IsCert}
use Rattle.certificate.specs.Text.{first_words, open_lines, text_of}
use Rattle.text_lines.specs.Cuts.{spaced}
use Rattle.text_lines.specs.Lines.{text_of_lines}

abbrev pub AreWithin : List FuncCert → Type 0
AreWithin funcs = AllByRecursion FuncIsWithin funcs

abbrev pub cert_by : ℕ → List FuncCert → Cert
cert_by unit funcs = record { unit = unit; funcs = funcs }

-- the first line was read
pub record HasFirst (text rest : List ℕ) : Type 0 where
  pub parts : text ≡ spaced first_words ++ 10 ∷ rest

-- the lines of this unit and these functions were read, and the next line has this number
pub record Reading (text : List ℕ) (unit : ℕ) (funcs : List FuncCert) (rest : List ℕ) (number : ℕ) : Type 0 where
  pub right : IsCert (cert_by unit funcs)
  pub parts : text ≡ text_of_lines (map spaced (open_lines unit funcs)) ++ rest
  pub count : number ≡ suc (length (open_lines unit funcs))
  pub few : number + length rest ≤ suc (length text)

-- the text is that of this certificate
pub record IsWhole (text : List ℕ) (unit : ℕ) (funcs : List FuncCert) : Type 0 where
  pub right : IsCert (cert_by unit funcs)
  pub is : text_of (cert_by unit funcs) ≡ text
