-- Private: words for functions of this crate.
-- The text of a certificate piece by piece.
use Rattle.std.specs.Prelude.{ℕ, List, [], ◌∷◌, ◌++◌, flat_map}
use Rattle.annotations.specs.Vectors.{Vector}
use Rattle.text_lines.specs.Numbers.{number}
use Rattle.certificate.specs.Text.{pair_word, vector_words, block_lines, make_words, func_lines}
use Rattle.text_lines.specs.Cuts.{spaced}
use Rattle.certificate.specs.Certificates.{VarCert, BlockCert, MakeCert, FuncCert}

-- a line with its line feed
abbrev pub line_text : List (List ℕ) → List ℕ
line_text ws = spaced ws ++ 10 ∷ []

abbrev pub lines_text : List (List (List ℕ)) → List ℕ
lines_text ls = flat_map line_text ls

-- each pair behind a space
abbrev pub pair_text : ℕ × ℕ → List ℕ
pair_text p = 32 ∷ pair_word p

abbrev pub vector_text : Vector → List ℕ
vector_text v = flat_map pair_text v

abbrev pub var_text : List ℕ → VarCert → List ℕ
var_text tag v = line_text (tag ∷ number v.var ∷ vector_words v.vector)

abbrev pub block_text : BlockCert → List ℕ
block_text b = lines_text (block_lines b)

abbrev pub make_text : MakeCert → List ℕ
make_text m = line_text (make_words m)

abbrev pub func_text : FuncCert → List ℕ
func_text f = lines_text (func_lines f)
