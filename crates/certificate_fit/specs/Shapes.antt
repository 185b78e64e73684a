-- Private: words for functions of this crate.
-- The lines of a function, block by block.
use Rattle.std.specs.Prelude.{◌≡◌, ◌≢◌, ◌==◌, cond, ℕ, ◌<◌, ◌≤◌, nat_le, nat_lt, ◌&&◌, if◌then◌else◌, min, Bool, slice_get, Option, Some, None, List, [], ◌∷◌, length, map, IsTrue, IsSomeAnd}
use Rattle.std.specs.List.{AllByRecursion, range_with_len}
use Rattle.camelot_values.specs.Kinds.{DataType, type_of}
use Rattle.camelot_values.specs.declared.kinds.Kind.TheVariants.{Of}
use Rattle.camelot_values.specs.Lists.{Ascend, is_among}
use Rattle.grail_blocks.specs.Events.{params_at}
use Rattle.grail_code.specs.Code.{Func, Code}
use Rattle.grail_code.specs.WellFormed.{local_kinds, looked_in}
use Rattle.annotations.specs.Vectors.{Vector, is_heap_con}
use Rattle.certificate.specs.Certificates.{BlockCert, MakeCert, FuncCert, Cert, MakesAscend}
use Rattle.licence.specs.Fitting.{IsOfKind, VarFits, MakeFits, IsRightAt, IsRightIn}

-- The parameters of each block ascend, and those of the first one are the function's. Well-formed functions are such.
pub record HasParams (f : Func) : Type 0 where
  pub ascending : AllByRecursion (λ b. Ascend b.params) f.blocks
  pub entry : params_at f.blocks 0 ≡ range_with_len 0 (length f.params)

-- These marks say of each local of the function whether some arm that only looks at its cell has it as a field.
abbrev pub AreLooked : Func → List Bool → Type 0
AreLooked f marks = (x : ℕ) → x < length (local_kinds f) → slice_get marks x ≡ Some (is_among (looked_in f) x)

-- the lines of this block and of later ones
abbrev pub lines_from : ℕ → List BlockCert → List BlockCert
lines_from n [] = []
lines_from n (b ∷ bs) = if nat_lt b.block n then lines_from n bs else b ∷ bs

abbrev pub makes_from : ℕ → List MakeCert → List MakeCert
makes_from n [] = []
makes_from n (m ∷ ms) = if nat_lt m.block n then makes_from n ms else m ∷ ms

-- these are such
pub record AreLinesFrom (n : ℕ) (lines : List BlockCert) : Type 0 where
  pub ascending : Ascend (map (λ b. b.block) lines)
  pub from : AllByRecursion (λ b. n ≤ b.block) lines

pub record AreMakesFrom (n : ℕ) (makes : List MakeCert) : Type 0 where
  pub ascending : MakesAscend makes
  pub from : AllByRecursion (λ m. n ≤ m.block) makes

-- there is a line for a block after the first, and for no other
abbrev pub LineIsRight : Func → List BlockCert → ℕ → Type 0
LineIsRight f lines n = is_among (map (λ b. b.block) lines) n ≡ (nat_le 1 n && nat_lt n (length f.blocks))

-- what a line of this block says of locals
abbrev pub VarsFitAt : Code → Func → List BlockCert → ℕ → Type 0
VarsFitAt p f lines n = AllByRecursion (λ b. b.block ≡ n → AllByRecursion (VarFits p.types f (params_at f.blocks n)) b.vars) lines

-- both
abbrev pub LineFits : Code → Func → List BlockCert → ℕ → Type 0
LineFits p f lines n = LineIsRight f lines n × VarsFitAt p f lines n

-- the same by the foremost line, which is of this block or of a later one
abbrev pub FrontFits : Code → Func → BlockCert → ℕ → Type 0
FrontFits p f b n = cond (b.block == n) ((n ≢ 0) × AllByRecursion (VarFits p.types f (params_at f.blocks n)) b.vars) (n ≡ 0)

-- the lines of this block's builds
abbrev pub MakesFitAt : Code → Func → List MakeCert → ℕ → Type 0
MakesFitAt p f makes n = AllByRecursion (λ m. m.block ≡ n → MakeFits p f m) makes

-- a constructor of a heap type that reaches each constructor of the vector
abbrev pub ConFits : List DataType → Vector → ℕ → Type 0
ConFits types vector con = IsTrue (is_heap_con types con) × IsSomeAnd (type_of types con) (λ t. IsOfKind types (Of t) vector)

-- the least block that is left
abbrev pub first_left : List BlockCert → List MakeCert → Option ℕ
first_left [] [] = None
first_left (b ∷ bs) [] = Some b.block
first_left [] (m ∷ ms) = Some m.block
first_left (b ∷ bs) (m ∷ ms) = Some (min b.block m.block)

-- all lines of a function are right
abbrev pub AreRight : Code → Func → FuncCert → Type 0
AreRight p f c = (number : ℕ) → IsRightAt p f c number

-- the least block whose lines are wrong
pub record IsLeastWrong (p : Code) (f : Func) (c : FuncCert) (number : ℕ) : Type 0 where
  pub before : (b : ℕ) → b < number → IsRightAt p f c b
  pub wrong : IsRightAt p f c number → ⊥

-- all lines of the function of this number are right
abbrev pub IsFuncRight : Code → Cert → ℕ → Type 0
IsFuncRight p c func = (block : ℕ) → IsRightIn p c func block

-- the least block of it whose lines are wrong
pub record IsLeastIn (p : Code) (c : Cert) (func block : ℕ) : Type 0 where
  pub before : (b : ℕ) → b < block → IsRightIn p c func b
  pub wrong : IsRightIn p c func block → ⊥
