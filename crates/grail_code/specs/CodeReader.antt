-- Private: words for functions of this crate.
-- Reading the spelling of code from the left, part by part in the order of the spelling. The format, which the first
-- four bytes tell, says which operators, marks and arms there are.
use Rattle.std.specs.Prelude.{◌≡◌, ℕ, zero, suc, ◌-◌, ◌==◌, ◌||◌, nat_lt, if◌then◌else◌, Bool, true, false, List, [], ◌∷◌, length, map, Result, Ok, Err}
use Rattle.std.specs.Int.{w32, cast_signed}
use Rattle.camelot_values.specs.Names.{is_lower, is_upper, is_tail}
use Rattle.camelot_values.specs.Kinds.{Constructor, DataType}
use Rattle.camelot_values.specs.Operator as operator
use Rattle.camelot_values.specs.Operator.{Operator}
use Rattle.camelot_values.specs.declared.kinds.Kind.{Kind}
use Rattle.camelot_values.specs.declared.kinds.Kind.TheVariants as kind
use Rattle.grail_code.specs.declared.code.Code.{Code as DeclaredCode}
use Rattle.stops.specs.declared.stop.Stop.{Stop as WhyStop}
use Rattle.stops.specs.declared.stop.Stop.TheVariants as stop
use Rattle.grail_code.specs.declared.fault.DecodeFault.{DecodeFault}
use Rattle.grail_code.specs.declared.fault.DecodeFault.TheVariants as fault
use Rattle.grail_code.specs.declared.decoder.reader.Version.{Version}
use Rattle.grail_code.specs.declared.decoder.reader.Version.TheVariants as version
use Rattle.grail_code.specs.declared.decoder.names.Letter.{Letter}
use Rattle.grail_code.specs.declared.decoder.names.Letter.TheVariants as letter
use Rattle.grail_blocks.specs.declared.blocks.Place.{Place}
use Rattle.grail_blocks.specs.declared.blocks.Place.TheVariants as place
use Rattle.grail_blocks.specs.declared.blocks.CaseCell.{CaseCell}
use Rattle.grail_blocks.specs.declared.blocks.CaseCell.TheVariants as cell
use Rattle.grail_code.specs.Code.{Op, Lit, Flag, Copy, Prim, Make, Call, Let, CaseArm, Term, Ret, Tail, Goto, If, Case, Block, Func, Code, code_of}
use Rattle.grail_code.specs.Spelling.{Format, First, Second, Decoded, Spelled, Front, Broken}
use Rattle.grail_code.specs.Reader.{Read, Done, More, Stop, then_read, map_read, pair_at, byte_at, tag_at, leb_at, times_at, counted_at}

-- ---- formats

-- the format of a version as the reader has it
abbrev pub format_of : Version → Format
format_of version.First = First
format_of version.Second = Second

-- the bytes `1` and `2`
abbrev pub is_digit : ℕ → Bool
is_digit b = (b == 49) || (b == 50)

abbrev pub numbered_format : ℕ → Format
numbered_format b = if b == 49 then First else Second

unfoldable pub digit_at : List ℕ → Read Format
digit_at bytes = map_read numbered_format (byte_at is_digit bytes)

-- a byte that always stands here, and what follows it
unfoldable pub headed_at : {A : Type 0} → ℕ → (List ℕ → Read A) → List ℕ → Read A
headed_at b read bytes = then_read (byte_at (λ c. c == b) bytes) (λ c rest. read rest)

unfoldable pub format_at : List ℕ → Read Format
format_at bytes = headed_at 71 (headed_at 82 (headed_at 76 digit_at)) bytes

-- ---- names

-- whether a name may begin with this byte
abbrev pub starts_name : Letter → ℕ → Bool
starts_name letter.Lower = is_lower
starts_name letter.Upper = is_upper

unfoldable pub tail_at : List ℕ → Read ℕ
tail_at bytes = byte_at is_tail bytes

-- a name of so many bytes
unfoldable pub word_at : (ℕ → Bool) → ℕ → List ℕ → Read (List ℕ)
word_at is_first zero bytes = Done [] bytes
word_at is_first (suc n) bytes = map_read (λ p. p.0 ∷ p.1) (pair_at (byte_at is_first) (times_at tail_at n) bytes)

unfoldable pub name_at : (ℕ → Bool) → List ℕ → Read (List ℕ)
name_at is_first bytes = then_read (leb_at 4 1 64 bytes) (λ n rest. word_at is_first n rest)

-- ---- types

abbrev pub numbered_kind : ℕ → Kind
numbered_kind zero = kind.Int
numbered_kind (suc zero) = kind.Flag
numbered_kind (suc (suc zero)) = kind.Dia
numbered_kind (suc (suc (suc t))) = kind.Of t

unfoldable pub kind_at : List ℕ → Read Kind
kind_at bytes = map_read numbered_kind (leb_at 4 0 66 bytes)

-- whether a constructor is inline, and its fields
unfoldable pub fields_at : ℕ → List ℕ → Read (Bool × List Kind)
fields_at zero bytes = map_read (λ fields. (false, fields)) (counted_at kind_at 0 4 bytes)
fields_at (suc tag) bytes = Done (true, []) bytes

unfoldable pub layout_at : List ℕ → Read (Bool × List Kind)
layout_at bytes = then_read (tag_at 2 bytes) fields_at

unfoldable pub con_at : List ℕ → Read Constructor
con_at bytes = map_read (λ p. record { name = p.0; inline = p.1.0; fields = p.1.1 }) (pair_at (name_at is_upper) layout_at bytes)

unfoldable pub type_at : List ℕ → Read DataType
type_at bytes = map_read (λ p. record { name = p.0; cons = p.1 }) (pair_at (name_at is_lower) (counted_at con_at 1 64) bytes)

-- ---- lets

-- a local, or a block
unfoldable pub local_at : List ℕ → Read ℕ
local_at bytes = leb_at 4 0 255 bytes

abbrev pub numbered_operator : ℕ → Operator
numbered_operator zero = operator.Add
numbered_operator (suc zero) = operator.Sub
numbered_operator (suc (suc zero)) = operator.Mul
numbered_operator (suc (suc (suc zero))) = operator.Eq
numbered_operator (suc (suc (suc (suc zero)))) = operator.Ne
numbered_operator (suc (suc (suc (suc (suc zero))))) = operator.Lt
numbered_operator (suc (suc (suc (suc (suc (suc zero)))))) = operator.Le
numbered_operator (suc (suc (suc (suc (suc (suc (suc zero))))))) = operator.Gt
numbered_operator (suc (suc (suc (suc (suc (suc (suc (suc zero)))))))) = operator.Ge
numbered_operator (suc (suc (suc (suc (suc (suc (suc (suc (suc zero))))))))) = operator.Div
numbered_operator (suc (suc (suc (suc (suc (suc (suc (suc (suc (suc tag)))))))))) = operator.Mod

-- whether code of the format may divide
abbrev pub divides : Format → Bool
divides First = false
divides Second = true

-- how many operators a format has
abbrev pub operators : Format → ℕ
operators f = if divides f then 11 else 9

unfoldable pub operator_at : Format → List ℕ → Read Operator
operator_at f bytes = map_read numbered_operator (tag_at (operators f) bytes)

unfoldable pub place_rest : ℕ → List ℕ → Read Place
place_rest zero bytes = Done place.Inline bytes
place_rest (suc zero) bytes = Done place.New bytes
place_rest (suc (suc tag)) bytes = map_read place.Reuse (local_at bytes)

unfoldable pub place_at : List ℕ → Read Place
place_at bytes = then_read (tag_at 3 bytes) place_rest

unfoldable pub lit_at : List ℕ → Read Op
lit_at bytes = map_read (λ n. Lit (cast_signed w32 n)) (leb_at 4 0 4294967295 bytes)

unfoldable pub flag_at : List ℕ → Read Op
flag_at bytes = map_read (λ b. Flag (b == 1)) (tag_at 2 bytes)

unfoldable pub copy_at : List ℕ → Read Op
copy_at bytes = map_read Copy (local_at bytes)

unfoldable pub prim_at : Format → List ℕ → Read Op
prim_at f bytes = map_read (λ p. Prim p.0 p.1.0 p.1.1) (pair_at (operator_at f) (pair_at local_at local_at) bytes)

unfoldable pub make_at : List ℕ → Read Op
make_at bytes = map_read (λ p. Make p.0 p.1.0 p.1.1) (pair_at (leb_at 4 0 4095) (pair_at (counted_at local_at 0 4) place_at) bytes)

unfoldable pub call_at : List ℕ → Read Op
call_at bytes = map_read (λ p. Call p.0 p.1) (pair_at (leb_at 4 0 63) (counted_at local_at 0 16) bytes)

unfoldable pub op_rest : Format → ℕ → List ℕ → Read Op
op_rest f zero bytes = lit_at bytes
op_rest f (suc zero) bytes = flag_at bytes
op_rest f (suc (suc zero)) bytes = copy_at bytes
op_rest f (suc (suc (suc zero))) bytes = prim_at f bytes
op_rest f (suc (suc (suc (suc zero)))) bytes = make_at bytes
op_rest f (suc (suc (suc (suc (suc tag))))) bytes = call_at bytes

unfoldable pub op_at : Format → List ℕ → Read Op
op_at f bytes = then_read (tag_at 6 bytes) (op_rest f)

unfoldable pub let_at : Format → List ℕ → Read Let
let_at f bytes = map_read (λ p. record { target = p.0; op = p.1 }) (pair_at local_at (op_at f) bytes)

-- ---- the ends of blocks

unfoldable pub cell_rest : ℕ → List ℕ → Read CaseCell
cell_rest zero bytes = Done cell.Inline bytes
cell_rest (suc zero) bytes = Done cell.Free bytes
cell_rest (suc (suc zero)) bytes = map_read cell.Keep (local_at bytes)
cell_rest (suc (suc (suc tag))) bytes = Done cell.Look bytes

-- in how many ways an arm may leave its cell
abbrev pub cells : Format → ℕ
cells First = 3
cells Second = 4

unfoldable pub cell_at : Format → List ℕ → Read CaseCell
cell_at f bytes = then_read (tag_at (cells f) bytes) cell_rest

unfoldable pub arm_at : Format → List ℕ → Read CaseArm
arm_at f bytes = map_read (λ p. record { fields = p.0; cell = p.1.0; target = p.1.1 }) (pair_at (counted_at local_at 0 4) (pair_at (cell_at f) local_at) bytes)

unfoldable pub ret_at : List ℕ → Read Term
ret_at bytes = map_read Ret (local_at bytes)

unfoldable pub tail_call_at : List ℕ → Read Term
tail_call_at bytes = map_read (λ p. Tail p.0 p.1) (pair_at (leb_at 4 0 63) (counted_at local_at 0 16) bytes)

unfoldable pub goto_at : List ℕ → Read Term
goto_at bytes = map_read Goto (local_at bytes)

unfoldable pub if_at : List ℕ → Read Term
if_at bytes = map_read (λ p. If p.0 p.1.0 p.1.1) (pair_at local_at (pair_at local_at local_at) bytes)

unfoldable pub case_at : Format → List ℕ → Read Term
case_at f bytes = map_read (λ p. Case p.0 p.1) (pair_at local_at (counted_at (arm_at f) 0 64) bytes)

unfoldable pub exit_rest : Format → ℕ → List ℕ → Read Term
exit_rest f zero bytes = ret_at bytes
exit_rest f (suc zero) bytes = tail_call_at bytes
exit_rest f (suc (suc zero)) bytes = goto_at bytes
exit_rest f (suc (suc (suc zero))) bytes = if_at bytes
exit_rest f (suc (suc (suc (suc tag)))) bytes = case_at f bytes

unfoldable pub exit_at : Format → List ℕ → Read Term
exit_at f bytes = then_read (tag_at 5 bytes) (exit_rest f)

-- ---- blocks, functions and code

unfoldable pub block_at : Format → List ℕ → Read Block
block_at f bytes = map_read (λ p. record { params = p.0; lets = p.1.0; term = p.1.1 }) (pair_at (counted_at local_at 0 256) (pair_at (counted_at (let_at f) 0 256) (exit_at f)) bytes)

-- a parameter's kind and its mark
abbrev pub numbered_param : ℕ → Kind × Bool
numbered_param n = if nat_lt n 67 then (numbered_kind n, false) else (numbered_kind (n - 67), true)

-- the largest number of a parameter
abbrev pub most_param : Format → ℕ
most_param First = 66
most_param Second = 133

unfoldable pub param_at : Format → List ℕ → Read (Kind × Bool)
param_at f bytes = map_read numbered_param (leb_at 4 0 (most_param f) bytes)

-- the parameters, and the kinds of the result and of the further locals
unfoldable pub header_at : Format → List ℕ → Read (List (Kind × Bool) × (Kind × List Kind))
header_at f bytes = pair_at (counted_at (param_at f) 1 16) (pair_at kind_at (counted_at kind_at 0 240)) bytes

abbrev pub kinds_of : List (Kind × Bool) → List Kind
kinds_of ps = map (λ p. p.0) ps

abbrev pub marks_of : List (Kind × Bool) → List Bool
marks_of ps = map (λ p. p.1) ps

unfoldable pub func_at : Format → List ℕ → Read Func
func_at f bytes = map_read (λ p. record { name = p.0; params = kinds_of p.1.0.0; reads = marks_of p.1.0.0; result = p.1.0.1.0; locals = p.1.0.1.1; blocks = p.1.1 })
    (pair_at (name_at is_lower) (pair_at (header_at f) (counted_at (block_at f) 1 256)) bytes)

unfoldable pub tables_at : Format → List ℕ → Read Code
tables_at f bytes = map_read (λ p. record { types = p.0; funcs = p.1 }) (pair_at (counted_at type_at 0 64) (counted_at (func_at f) 0 64) bytes)

-- the code and its format
unfoldable pub code_at : List ℕ → Read (Format × Code)
code_at bytes = then_read (format_at bytes) (λ f rest. map_read (λ p. (f, p)) (tables_at f rest))

-- ---- decoding

-- what was read, where nothing may follow
abbrev pub whole : List ℕ → Read (Format × Code) → Decoded
whole bytes (Done p []) = Spelled p.1
whole bytes (Done p (b ∷ rest)) = Broken (length bytes - length (b ∷ rest))
whole bytes More = Front
whole bytes (Stop left) = Broken (length bytes - left)

-- the answer is what was read, unless memory ran out
abbrev pub Sees : Result DeclaredCode (WhyStop DecodeFault) → Decoded → Type 0
Sees (Ok code) o = o ≡ Spelled (code_of code)
Sees (Err (stop.Fault fault.Short)) o = o ≡ Front
Sees (Err (stop.Fault (fault.Bad at))) o = o ≡ Broken at
Sees (Err stop.Memory) o = Unit {0}
