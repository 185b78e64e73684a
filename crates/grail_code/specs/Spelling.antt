-- Cited by contracts.
-- The spelling of Grail code in bytes, in each of two formats: four bytes that name the format, then the types and the
-- functions. It is a function of the format and the code, and each count is followed by exactly so many things. What
-- stands behind the four bytes is the same in both formats. But the first has no division, no mark of a parameter and
-- no arm that only looks at its cell. `docs/GRAIL.md` tells it in words.
use Rattle.std.specs.Prelude.{◌≡◌, ℕ, zero, suc, ◌+◌, ◌/◌, ◌%◌, ◌≤◌, ◌<◌, nat_lt, if◌then◌else◌, Bool, true, false, List, [], ◌∷◌, ◌++◌, length, take, flat_map, FitsSigned}
use Rattle.std.specs.List.{AllByRecursion}
use Rattle.std.specs.Int.{w32, cast_unsigned}
use Rattle.camelot_values.specs.Names.{IsLowerName, IsUpperName}
use Rattle.camelot_values.specs.Kinds.{Constructor, DataType}
use Rattle.camelot_values.specs.Operator as operator
use Rattle.camelot_values.specs.Operator.{Operator}
use Rattle.camelot_values.specs.declared.kinds.Kind.{Kind}
use Rattle.camelot_values.specs.declared.kinds.Kind.TheVariants as kind
use Rattle.grail_blocks.specs.declared.blocks.Place.{Place}
use Rattle.grail_blocks.specs.declared.blocks.Place.TheVariants as place
use Rattle.grail_blocks.specs.declared.blocks.CaseCell.{CaseCell}
use Rattle.grail_blocks.specs.declared.blocks.CaseCell.TheVariants as cell
use Rattle.grail_code.specs.Code.{Op, Lit, Flag, Copy, Prim, Make, Call, Let, CaseArm, Term, Ret, Tail, Goto, If, Case, Block, Func, Code}

-- the formats of code
pub data Format : Type 0 where
  -- `GRL1`, without division, marks and looks
  First : Format
  -- `GRL2`, with all of them
  Second : Format

-- A whole number below 2 ^ 35 in LEB128, in as few bytes as it takes (DWARF Debugging Information Format, section 7.6):
-- seven bits a byte, the low ones first, with the high bit set on all bytes but the last. The first argument is how
-- many bytes may still follow this one.
abbrev pub leb128 : ℕ → ℕ → List ℕ
leb128 zero n = n ∷ []
leb128 (suc more) n = if nat_lt n 128 then n ∷ [] else ((128 + n % 128) ∷ leb128 more (n / 128))

unfoldable pub number : ℕ → List ℕ
number n = leb128 4 n

-- how many things there are, and then each in order
abbrev pub counted : {A : Type 0} → (A → List ℕ) → List A → List ℕ
counted spell xs = number (length xs) ++ flat_map spell xs

-- its length and its bytes
abbrev pub name : List ℕ → List ℕ
name word = number (length word) ++ word

abbrev pub kind_code : Kind → ℕ
kind_code kind.Int = 0
kind_code kind.Flag = 1
kind_code kind.Dia = 2
kind_code (kind.Of t) = 3 + t

abbrev pub kind_bytes : Kind → List ℕ
kind_bytes q = number (kind_code q)

-- an inline constructor has no fields
abbrev pub con_bytes : Constructor → List ℕ
con_bytes c = name c.name ++ (if c.inline then 1 ∷ [] else (0 ∷ counted kind_bytes c.fields))

abbrev pub type_bytes : DataType → List ℕ
type_bytes t = name t.name ++ counted con_bytes t.cons

abbrev pub operator_code : Operator → ℕ
operator_code operator.Add = 0
operator_code operator.Sub = 1
operator_code operator.Mul = 2
operator_code operator.Eq = 3
operator_code operator.Ne = 4
operator_code operator.Lt = 5
operator_code operator.Le = 6
operator_code operator.Gt = 7
operator_code operator.Ge = 8
operator_code operator.Div = 9
operator_code operator.Mod = 10

abbrev pub place_bytes : Place → List ℕ
place_bytes place.Inline = 0 ∷ []
place_bytes place.New = 1 ∷ []
place_bytes (place.Reuse x) = 2 ∷ number x

abbrev pub op_bytes : Op → List ℕ
op_bytes (Lit z) = 0 ∷ number (cast_unsigned w32 z)
op_bytes (Flag b) = 1 ∷ (if b then 1 else 0) ∷ []
op_bytes (Copy x) = 2 ∷ number x
op_bytes (Prim op x y) = 3 ∷ operator_code op ∷ (number x ++ number y)
op_bytes (Make c args p) = 4 ∷ (number c ++ counted number args ++ place_bytes p)
op_bytes (Call f args) = 5 ∷ (number f ++ counted number args)

abbrev pub let_bytes : Let → List ℕ
let_bytes l = number l.target ++ op_bytes l.op

abbrev pub cell_bytes : CaseCell → List ℕ
cell_bytes cell.Inline = 0 ∷ []
cell_bytes cell.Free = 1 ∷ []
cell_bytes cell.Look = 3 ∷ []
cell_bytes (cell.Keep x) = 2 ∷ number x

abbrev pub arm_bytes : CaseArm → List ℕ
arm_bytes a = counted number a.fields ++ cell_bytes a.cell ++ number a.target

abbrev pub term_bytes : Term → List ℕ
term_bytes (Ret x) = 0 ∷ number x
term_bytes (Tail f args) = 1 ∷ (number f ++ counted number args)
term_bytes (Goto b) = 2 ∷ number b
term_bytes (If x first second) = 3 ∷ (number x ++ number first ++ number second)
term_bytes (Case x arms) = 4 ∷ (number x ++ counted arm_bytes arms)

abbrev pub block_bytes : Block → List ℕ
block_bytes b = counted number b.params ++ counted let_bytes b.lets ++ term_bytes b.term

-- The parameters, each with its mark: whether it is only looked at. One without a mark isn't.
abbrev pub marked : List Kind → List Bool → List (Kind × Bool)
marked [] marks = []
marked (q ∷ qs) [] = (q, false) ∷ marked qs []
marked (q ∷ qs) (b ∷ bs) = (q, b) ∷ marked qs bs

-- a parameter that is only looked at goes by its kind's number behind those of all kinds
abbrev pub param_code : Kind × Bool → ℕ
param_code p = kind_code p.0 + (if p.1 then 67 else 0)

-- a function's parameter
abbrev pub param_bytes : Kind × Bool → List ℕ
param_bytes p = number (param_code p)

abbrev pub func_bytes : Func → List ℕ
func_bytes f = name f.name ++ counted param_bytes (marked f.params f.reads) ++ kind_bytes f.result ++ counted kind_bytes f.locals ++ counted block_bytes f.blocks

-- the bytes `GRL1` or `GRL2`
abbrev pub format_bytes : Format → List ℕ
format_bytes First = 71 ∷ 82 ∷ 76 ∷ 49 ∷ []
format_bytes Second = 71 ∷ 82 ∷ 76 ∷ 50 ∷ []

abbrev pub spelling : Format → Code → List ℕ
spelling f p = format_bytes f ++ counted type_bytes p.types ++ counted func_bytes p.funcs

-- ---- code with what the first format has: no division, no mark of a parameter, and no arm that only looks at its cell

abbrev pub IsNoDivision : Operator → Type 0
IsNoDivision operator.Div = ⊥
IsNoDivision operator.Mod = ⊥
IsNoDivision op = Unit {0}

abbrev pub OpIsOld : Op → Type 0
OpIsOld (Prim op x y) = IsNoDivision op
OpIsOld op = Unit {0}

abbrev pub IsNoLook : CaseCell → Type 0
IsNoLook cell.Look = ⊥
IsNoLook c = Unit {0}

abbrev pub TermIsOld : Term → Type 0
TermIsOld (Case x arms) = AllByRecursion (λ a. IsNoLook a.cell) arms
TermIsOld t = Unit {0}

pub record BlockIsOld (b : Block) : Type 0 where
  pub lets : AllByRecursion (λ l. OpIsOld l.op) b.lets
  pub term : TermIsOld b.term

pub record FuncIsOld (f : Func) : Type 0 where
  pub marks : AllByRecursion (λ b. b ≡ false) f.reads
  pub blocks : AllByRecursion BlockIsOld f.blocks

-- no Div, no Mod, no mark and no Look stands in the code
abbrev pub IsOld : Code → Type 0
IsOld p = AllByRecursion FuncIsOld p.funcs

-- ---- what has a spelling: each number and each count is within its own limit, and each operator is of the format

-- from `least` to `most` things, each of which has a spelling
pub record AreCounted {A : Type 0} (Fits : A → Type 0) (least most : ℕ) (xs : List A) : Type 0 where
  pub enough : least ≤ length xs
  pub few : length xs ≤ most
  pub each : AllByRecursion Fits xs

abbrev pub IsLocal : ℕ → Type 0
IsLocal x = x ≤ 255

abbrev pub IsBlockNumber : ℕ → Type 0
IsBlockNumber b = b ≤ 255

abbrev pub FitsKind : Kind → Type 0
FitsKind q = kind_code q ≤ 66

pub record FitsCon (c : Constructor) : Type 0 where
  pub name : IsUpperName c.name
  pub fields : AreCounted FitsKind 0 4 c.fields
  pub inline_is_bare : c.inline ≡ true → c.fields ≡ []

pub record FitsType (t : DataType) : Type 0 where
  pub name : IsLowerName t.name
  pub cons : AreCounted FitsCon 1 64 t.cons

abbrev pub FitsPlace : Place → Type 0
FitsPlace (place.Reuse x) = IsLocal x
FitsPlace p = Unit {0}

-- the operators of a format
abbrev pub IsOfFormat : Format → Operator → Type 0
IsOfFormat First op = IsNoDivision op
IsOfFormat Second op = Unit {0}

abbrev pub FitsOp : Format → Op → Type 0
FitsOp f (Lit z) = FitsSigned w32 z
FitsOp f (Flag b) = Unit {0}
FitsOp f (Copy x) = IsLocal x
FitsOp f (Prim op x y) = IsOfFormat f op × IsLocal x × IsLocal y
FitsOp f (Make c args p) = (c ≤ 4095) × AreCounted IsLocal 0 4 args × FitsPlace p
FitsOp f (Call func args) = (func ≤ 63) × AreCounted IsLocal 0 16 args

pub record FitsLet (f : Format) (l : Let) : Type 0 where
  pub target : IsLocal l.target
  pub op : FitsOp f l.op

-- what a format says of an arm that only looks at its cell
abbrev pub HasLooks : Format → Type 0
HasLooks First = ⊥
HasLooks Second = Unit {0}

abbrev pub FitsCell : Format → CaseCell → Type 0
FitsCell f cell.Inline = Unit {0}
FitsCell f cell.Free = Unit {0}
FitsCell f (cell.Keep x) = IsLocal x
FitsCell f cell.Look = HasLooks f

pub record FitsArm (f : Format) (a : CaseArm) : Type 0 where
  pub fields : AreCounted IsLocal 0 4 a.fields
  pub cell : FitsCell f a.cell
  pub target : IsBlockNumber a.target

abbrev pub FitsTerm : Format → Term → Type 0
FitsTerm f (Ret x) = IsLocal x
FitsTerm f (Tail func args) = (func ≤ 63) × AreCounted IsLocal 0 16 args
FitsTerm f (Goto b) = IsBlockNumber b
FitsTerm f (If x first second) = IsLocal x × IsBlockNumber first × IsBlockNumber second
FitsTerm f (Case x arms) = IsLocal x × AreCounted (FitsArm f) 0 64 arms

-- the marks of a format: the first has none
abbrev pub MarkIsOfFormat : Format → Bool → Type 0
MarkIsOfFormat First b = b ≡ false
MarkIsOfFormat Second b = Unit {0}

pub record FitsBlock (f : Format) (b : Block) : Type 0 where
  pub params : AreCounted IsLocal 0 256 b.params
  pub lets : AreCounted (FitsLet f) 0 256 b.lets
  pub term : FitsTerm f b.term

pub record FitsFunc (f : Format) (g : Func) : Type 0 where
  pub name : IsLowerName g.name
  pub params : AreCounted FitsKind 1 16 g.params
  pub as_many : length g.reads ≡ length g.params
  pub marks : AllByRecursion (MarkIsOfFormat f) g.reads
  pub result : FitsKind g.result
  pub locals : AreCounted FitsKind 0 240 g.locals
  pub blocks : AreCounted (FitsBlock f) 1 256 g.blocks

-- the code that has a spelling in a format
pub record FitsCode (f : Format) (p : Code) : Type 0 where
  pub types : AreCounted FitsType 0 64 p.types
  pub funcs : AreCounted (FitsFunc f) 0 64 p.funcs

-- ---- what bytes are

-- what a text of bytes may be
pub data Decoded : Type 0 where
  -- a spelling of this code
  Spelled : Code → Decoded
  -- the beginning of a spelling that goes on
  Front : Decoded
  -- neither; the longest part from the left that begins a spelling has so many bytes
  Broken : (at : ℕ) → Decoded

-- one of the code's spellings
pub record IsSpelling (program : Code) (bytes : List ℕ) : Type 0 where
  pub format : Format
  pub fits : FitsCode format program
  pub is : bytes ≡ spelling format program

-- a spelling of some code begins with these bytes
pub record BeginsCode (bytes : List ℕ) : Type 0 where
  pub format : Format
  pub program : Code
  pub fits : FitsCode format program
  pub rest : List ℕ
  pub is : spelling format program ≡ bytes ++ rest

-- a spelling of some code begins with these bytes and goes on
pub record IsFront (bytes : List ℕ) : Type 0 where
  pub format : Format
  pub program : Code
  pub fits : FitsCode format program
  pub next : ℕ
  pub rest : List ℕ
  pub is : spelling format program ≡ bytes ++ (next ∷ rest)

-- the longest part from the left that begins a spelling of some code has so many bytes, and isn't the whole
pub record IsLongestBegin (bytes : List ℕ) (at : ℕ) : Type 0 where
  pub less : at < length bytes
  pub begins : BeginsCode (take at bytes)
  pub longest : (n : ℕ) → n ≤ length bytes → BeginsCode (take n bytes) → n ≤ at

abbrev pub Means : List ℕ → Decoded → Type 0
Means bytes (Spelled p) = IsSpelling p bytes
Means bytes Front = IsFront bytes
Means bytes (Broken at) = IsLongestBegin bytes at
