-- Cited by contracts.
-- The certificate that a solution of the system is, the solution that a certificate is, and when one certificate is
-- better than another.
use Rattle.std.specs.Prelude.{◌≡◌, ℕ, false, zero, suc, ◌+◌, ◌-◌, ◌*◌, ◌≤◌, List, [], ◌∷◌, ◌++◌, map, flat_map, length, sum, Some, cond, if◌then◌else◌}
use Rattle.std.specs.List.{range_with_len}
use Rattle.std.specs.Option.{option_map}
use Rattle.camelot_values.specs.Kinds.{DataType, type_of}
use Rattle.camelot_values.specs.declared.kinds.Kind.TheVariants as kind
use Rattle.grail_blocks.specs.Events.{params_at}
use Rattle.grail_code.specs.Code.{Op, Prim, Make, Let, Block, Func, Code}
use Rattle.grail_code.specs.WellFormed.{kind_of}
use Rattle.annotations.specs.Vectors.{Vector, is_heap_con}
use Rattle.certificate.specs.Certificates.{VarCert, BlockCert, MakeCert, FuncCert, Cert}
use Rattle.licence.specs.Books.{Book, book_of}
use Rattle.licence.specs.Fitting.{Grants}
use Rattle.lp_system.specs.Unknowns.{Unknown, Need, Back, Param, Result, BlockNeed, BlockVar, Made, same, is_listed, carriers, local_carriers, unknowns_of}

-- ---- from a solution to a certificate

-- what each unknown is
abbrev pub Assignment : Type 0
Assignment = Unknown → ℕ

-- the value of an unknown, where these are the values of these unknowns; another one has none
abbrev pub value_in : List Unknown → List ℕ → Assignment
value_in (u ∷ us) (v ∷ vs) w = if same u w then v else value_in us vs w
value_in us vs w = 0

-- an unknown that isn't listed is nothing
abbrev pub IsZeroOff : List Unknown → Assignment → Type 0
IsZeroOff us value = (u : Unknown) → is_listed us u ≡ false → value u ≡ 0

-- as a book
abbrev pub book_by : ℕ → Assignment → Book ℕ
book_by unit value = record {
  unit = unit;
  need = λ func. value (Need func);
  back = λ func. value (Back func);
  param = λ func x con. value (Param func x con);
  result = λ func con. value (Result func con);
  block_need = λ func block. value (BlockNeed func block);
  block_var = λ func block x con. value (BlockVar func block x con);
  make = λ func block place con. value (Made func block place con);
}

-- a constructor with its units, where it has some
abbrev pub with_units : ℕ → ℕ → Vector
with_units con zero = []
with_units con (suc n) = (con, suc n) ∷ []

abbrev pub units_on : List ℕ → (ℕ → ℕ) → Vector
units_on cons units = flat_map (λ c. with_units c (units c)) cons

-- a line for each local that carries units; one that is lent carries none
abbrev pub line_of : ℕ → Vector → List VarCert
line_of x [] = []
line_of x (e ∷ es) = record { var = x; vector = e ∷ es } ∷ []

abbrev pub lines_of : (ℕ → Vector) → List ℕ → List VarCert
lines_of vector xs = flat_map (λ x. line_of x (vector x)) xs

abbrev pub params_by : List DataType → Func → ℕ → Assignment → List VarCert
params_by types f func value = lines_of (λ x. units_on (local_carriers types f x) (λ c. value (Param func x c))) (range_with_len 0 (length f.params))

-- a block after the first
abbrev pub block_by : List DataType → Func → ℕ → Assignment → ℕ → BlockCert
block_by types f func value block = record {
  block = block;
  need = value (BlockNeed func block);
  vars = lines_of (λ x. units_on (local_carriers types f x) (λ c. value (BlockVar func block x c))) (params_at f.blocks block);
}

-- a line for a build that carries units
abbrev pub make_line : (block place : ℕ) → Vector → List MakeCert
make_line block place [] = []
make_line block place (e ∷ es) = record { block = block; place = place; vector = e ∷ es } ∷ []

abbrev pub made_by : List DataType → (func block place : ℕ) → Assignment → Op → List MakeCert
made_by types func block place value (Make con args at) =
    cond (is_heap_con types con) (make_line block place (units_on (carriers types (option_map kind.Of (type_of types con))) (λ c. value (Made func block place c)))) []
made_by types func block place value op = []

abbrev pub lets_by : List DataType → (func block place : ℕ) → Assignment → List Let → List MakeCert
lets_by types func block place value [] = []
lets_by types func block place value (l ∷ ls) = made_by types func block place value l.op ++ lets_by types func block (suc place) value ls

abbrev pub builds_by : List DataType → (func block : ℕ) → Assignment → List Block → List MakeCert
builds_by types func block value [] = []
builds_by types func block value (b ∷ bs) = lets_by types func block 1 value b.lets ++ builds_by types func (suc block) value bs

abbrev pub func_by : List DataType → Assignment → ℕ → Func → FuncCert
func_by types value func f = record {
  name = f.name;
  need = value (Need func);
  back = value (Back func);
  params = params_by types f func value;
  result = units_on (carriers types (Some f.result)) (λ c. value (Result func c));
  blocks = map (block_by types f func value) (range_with_len 1 (length f.blocks - 1));
  makes = builds_by types func 0 value f.blocks;
}

abbrev pub funcs_by : List DataType → Assignment → ℕ → List Func → List FuncCert
funcs_by types value func [] = []
funcs_by types value func (f ∷ fs) = func_by types value func f ∷ funcs_by types value (suc func) fs

-- so many units are a cell, and each unknown is so many units
unfoldable pub certificate_by : Code → ℕ → Assignment → Cert
certificate_by p unit value = record { unit = unit; funcs = funcs_by p.types value 0 p.funcs }

-- of a solution: values over a unit, in the order of the unknowns
abbrev pub certificate_of : Code → ℕ → List ℕ → Cert
certificate_of p unit values = certificate_by p unit (value_in (unknowns_of p) values)

-- ---- from a certificate to a solution

-- what a book says of an unknown
abbrev pub amount : Book ℕ → Assignment
amount book (Need func) = book.need func
amount book (Back func) = book.back func
amount book (Param func x con) = book.param func x con
amount book (Result func con) = book.result func con
amount book (BlockNeed func block) = book.block_need func block
amount book (BlockVar func block x con) = book.block_var func block x con
amount book (Made func block place con) = book.make func block place con

abbrev pub values_of : Code → Cert → List ℕ
values_of p c = map (amount (book_of c)) (unknowns_of p)

-- ---- which is better

-- in units, what a function needs and its parameters carry on each constructor
abbrev pub param_cost : List DataType → Func → Book ℕ → (func x : ℕ) → ℕ
param_cost types f book func x = sum (map (book.param func x) (carriers types (kind_of f x)))

abbrev pub func_cost : List DataType → Book ℕ → ℕ → Func → ℕ
func_cost types book func f = book.need func + sum (map (param_cost types f book func) (range_with_len 0 (length f.params)))

abbrev pub funcs_cost : List DataType → Book ℕ → ℕ → List Func → ℕ
funcs_cost types book func [] = 0
funcs_cost types book func (f ∷ fs) = func_cost types book func f + funcs_cost types book (suc func) fs

unfoldable pub cost_in_units : Code → Cert → ℕ
cost_in_units p c = funcs_cost p.types (book_of c) 0 p.funcs

-- The certificate grants the code, and no certificate that does, with numbers of any size, costs less in cells.
pub record IsLeastCertificate (p : Code) (c : Cert) : Type 0 where
  pub grants : Grants p c
  pub least : (other : Cert) → Grants p other → cost_in_units p c * other.unit ≤ cost_in_units p other * c.unit
