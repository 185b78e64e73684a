-- Private: words for functions of this crate.
-- The annotations of a certificate in one list, and its lines with numbers in that list in place of annotations, so
-- that two of a line are the same where their numbers are. A number that isn't in the list has no annotations.
use Rattle.std.specs.Prelude.{◌≡◌, ℕ, List, [], map, slice_get, Some}
use Rattle.std.specs.Option.{unwrap_or}
use Rattle.annotations.specs.Vectors.{Vector}
use Rattle.certificate.specs.Certificates.{VarCert, BlockCert, MakeCert, FuncCert, Cert}
use Rattle.certificate.specs.Words.{func_of}
use Rattle.grail_verifier.specs.declared.numbered.VarLine.{VarLine}
use Rattle.grail_verifier.specs.declared.numbered.BlockLines.{BlockLines}
use Rattle.grail_verifier.specs.declared.numbered.MakeLine.{MakeLine}
use Rattle.grail_verifier.specs.declared.numbered.FuncLines.{FuncLines}

-- the annotations of this number
abbrev pub held : List Vector → ℕ → Vector
held all number = unwrap_or (slice_get all number) []

-- what numbered lines say
abbrev pub var_in : List Vector → VarLine → VarCert
var_in all v = record { var = v.var; vector = held all v.number }

abbrev pub block_in : List Vector → BlockLines → BlockCert
block_in all b = record { block = b.block; need = b.need; vars = map (var_in all) b.vars.items }

abbrev pub make_in : List Vector → MakeLine → MakeCert
make_in all m = record { block = m.block; place = m.place; vector = held all m.number }

abbrev pub func_in : List Vector → FuncLines → FuncCert
func_in all f = record {
  name = (func_of f.cert.now).name;
  need = f.need;
  back = f.back;
  params = map (var_in all) f.params.items;
  result = held all f.result;
  blocks = map (block_in all) f.blocks.items;
  makes = map (make_in all) f.makes.items;
}

-- all annotations, and the certificate that numbered lines say with them
pub record Numbered : Type 0 where
  pub held : List Vector
  pub cert : Cert

abbrev pub numbered : ℕ → List Vector → List FuncLines → Numbered
numbered unit all funcs = record { held = all; cert = record { unit = unit; funcs = map (func_in all) funcs } }

-- ---- while they are numbered

-- what the first list holds, the second holds under the same number
abbrev pub Keeps : List Vector → List Vector → Type 0
Keeps old new = (number : ℕ) (vector : Vector) → slice_get old number ≡ Some vector → slice_get new number ≡ Some vector

-- the lines say this, now and with further annotations
abbrev pub Say : {A B : Type 0} → (List Vector → A → B) → List Vector → A → B → Type 0
Say says all line said = (later : List Vector) → Keeps all later → says later line ≡ said

abbrev pub vars_in : List Vector → List VarLine → List VarCert
vars_in all lines = map (var_in all) lines

abbrev pub blocks_in : List Vector → List BlockLines → List BlockCert
blocks_in all lines = map (block_in all) lines

abbrev pub makes_in : List Vector → List MakeLine → List MakeCert
makes_in all lines = map (make_in all) lines

abbrev pub funcs_in : List Vector → List FuncLines → List FuncCert
funcs_in all lines = map (func_in all) lines
