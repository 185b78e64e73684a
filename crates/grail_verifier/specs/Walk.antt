-- Private: words for functions of this crate.
-- The check of a certificate as a walk through the code. For each local the walk has the annotations of its value, in a
-- list by the numbers of locals; a local that isn't in the list isn't looked at. Lines of builds are taken from the
-- front of what is left of them, and the line of a block stands at its place.
use Rattle.std.specs.Prelude.{ℕ, suc, ◌+◌, ◌-◌, ◌^◌, min, nat_lt, ◌==◌, ◌&&◌, ◌||◌, if◌then◌else◌, List, [], ◌∷◌, replicate, slice_get, slice_set, Option, Some, None, cond}
use Rattle.std.specs.Option.{option_or}
use Rattle.camelot_values.specs.Kinds.{DataType}
use Rattle.camelot_values.specs.Lists.{is_among}
use Rattle.camelot_values.specs.declared.kinds.Kind.{Kind}
use Rattle.grail_blocks.specs.declared.blocks.Place.{Place}
use Rattle.grail_blocks.specs.declared.blocks.Place.TheVariants as place
use Rattle.grail_blocks.specs.declared.blocks.CaseCell.{CaseCell}
use Rattle.grail_blocks.specs.declared.blocks.CaseCell.TheVariants as cell
use Rattle.grail_code.specs.Code.{Op, Lit, Flag, Copy, Prim, Make, Call, Let, CaseArm, Term, Ret, Tail, Goto, If, Case, Block, Func, Code}
use Rattle.grail_code.specs.WellFormed.{kind_of}
use Rattle.annotations.specs.Vectors.{Vector, at, is_heap_con}
use Rattle.certificate.specs.Certificates.{VarCert, BlockCert, MakeCert, FuncCert, Cert}
use Rattle.licence.specs.Rules.{first_con_of}
use Rattle.licence.specs.Sites.{next_con, next_place}
use Rattle.licence.specs.Checks.{Check, Site, left_check, value_checks}

-- what a sum of the code comes to
abbrev pub capped : ℕ → ℕ
capped n = min n (2 ^ 64 - 1)

-- ---- single checks

-- what is left, against what is needed
abbrev pub left_short : Site → (have need : ℕ) → Option (Check ℕ)
left_short s have need = if nat_lt have need then Some (left_check s have need) else None

abbrev pub first_short : List (Check ℕ) → Option (Check ℕ)
first_short [] = None
first_short (c ∷ cs) = if nat_lt c.have c.need then Some c else first_short cs

-- a value of this kind, against what is asked of it
unfoldable pub value_short : List DataType → Site → Kind → Vector → Vector → Option (Check ℕ)
value_short types s q have need = first_short (value_checks types s (Some q) (at have) (at need))

-- a value that is there
abbrev pub held_short : List DataType → Site → Option Kind → Option Vector → Vector → Option (Check ℕ)
held_short types s (Some q) (Some have) need = value_short types s q have need
held_short types s q have need = None

-- a local, where it is there
abbrev pub local_short : List DataType → Func → Site → (ℕ → Option Vector) → Option ℕ → Vector → Option (Check ℕ)
local_short types f s have None need = None
local_short types f s have (Some x) need = held_short types s (kind_of f x) (have x) need

-- the locals of these lines in order, each against its line
abbrev pub asked_short : List DataType → Func → Site → (have : ℕ → Option Vector) → (local : ℕ → Option ℕ) → List VarCert → Option (Check ℕ)
asked_short types f s have local [] = None
asked_short types f s have local (v ∷ vs) = option_or (local_short types f s have (local v.var) v.vector) (asked_short types f s have local vs)

-- all of these locals against the same
abbrev pub all_short : List DataType → Func → Site → (ℕ → Option Vector) → List ℕ → Vector → Option (Check ℕ)
all_short types f s have [] need = None
all_short types f s have (x ∷ xs) need = option_or (local_short types f s have (Some x) need) (all_short types f s have xs need)

-- ---- lets

abbrev pub cost : ℕ → Place → ℕ → ℕ
cost unit place.New units = capped (units + unit)
cost unit place.Inline units = units
cost unit (place.Reuse d) units = units

-- a call of a function with these lines
abbrev pub call_short : List DataType → Func → Site → ℕ → List Vector → List ℕ → Option FuncCert → Option (Check ℕ)
call_short types f s left slots args None = None
call_short types f s left slots args (Some g) = option_or (asked_short types f s (slice_get slots) (slice_get args) g.params) (left_short s left g.need)

-- a build with these annotations
abbrev pub make_short : List DataType → ℕ → Func → Site → ℕ → List Vector → Vector → (con : ℕ) → List ℕ → Place → Option (Check ℕ)
make_short types unit f s left slots made con args into = cond (is_heap_con types con)
    (option_or (all_short types f s (slice_get slots) args made) (left_short s left (cost unit into (at made con))))
    None

abbrev pub op_short : Code → Cert → Func → Site → ℕ → List Vector → Vector → Op → Option (Check ℕ)
op_short p c f s left slots made (Make con args into) = make_short p.types c.unit f s left slots made con args into
op_short p c f s left slots made (Call callee args) = call_short p.types f s left slots args (slice_get c.funcs callee)
op_short p c f s left slots made (Lit z) = None
op_short p c f s left slots made (Flag b) = None
op_short p c f s left slots made (Copy x) = None
op_short p c f s left slots made (Prim op x y) = None

-- what is left behind a let
abbrev pub left_behind_call : ℕ → Option FuncCert → ℕ
left_behind_call left None = left
left_behind_call left (Some g) = capped ((left - g.need) + g.back)

abbrev pub left_behind_make : List DataType → ℕ → ℕ → Vector → (con : ℕ) → Place → ℕ
left_behind_make types unit left made con into = cond (is_heap_con types con) (left - cost unit into (at made con)) left

abbrev pub left_behind : Code → Cert → ℕ → Vector → Op → ℕ
left_behind p c left made (Make con args into) = left_behind_make p.types c.unit left made con into
left_behind p c left made (Call callee args) = left_behind_call left (slice_get c.funcs callee)
left_behind p c left made (Lit z) = left
left_behind p c left made (Flag b) = left
left_behind p c left made (Copy x) = left
left_behind p c left made (Prim op x y) = left

-- the annotations of locals behind a let
abbrev pub put : List Vector → ℕ → Option Vector → List Vector
put slots x None = slots
put slots x (Some v) = slice_set slots x v

abbrev pub slots_behind_call : List Vector → ℕ → Option FuncCert → List Vector
slots_behind_call slots x None = slots
slots_behind_call slots x (Some g) = slice_set slots x g.result

abbrev pub slots_behind_op : Code → Cert → List Vector → Vector → ℕ → Op → List Vector
slots_behind_op p c slots made x (Copy y) = put slots x (slice_get slots y)
slots_behind_op p c slots made x (Make con args into) = cond (is_heap_con p.types con) (slice_set slots x made) slots
slots_behind_op p c slots made x (Call callee args) = slots_behind_call slots x (slice_get c.funcs callee)
slots_behind_op p c slots made x (Lit z) = slots
slots_behind_op p c slots made x (Flag b) = slots
slots_behind_op p c slots made x (Prim op y z) = slots

abbrev pub slots_behind : Code → Cert → List Vector → Vector → Let → List Vector
slots_behind p c slots made l = slots_behind_op p c slots made l.target l.op

-- ---- ends of blocks

-- the line of a block after the first: it stands one place before its number
abbrev pub line_at : List BlockCert → ℕ → Option BlockCert
line_at lines block = if block == 0 then None else slice_get lines (block - 1)

-- the locals where an arm has bound these fields, all with the same annotations
unfoldable pub bound : List Vector → List ℕ → Vector → ℕ → Option Vector
bound slots fields matched x = if is_among fields x then Some matched else slice_get slots x

-- a jump to the block of this line
abbrev pub line_short : List DataType → Func → Site → ℕ → (ℕ → Option Vector) → Option BlockCert → Option (Check ℕ)
line_short types f s left have None = None
line_short types f s left have (Some b) = option_or (asked_short types f s have Some b.vars) (left_short s left b.need)

abbrev pub jump_short : List DataType → Func → FuncCert → Site → ℕ → (ℕ → Option Vector) → ℕ → Option (Check ℕ)
jump_short types f own s left have to = line_short types f s left have (line_at own.blocks to)

-- what is left in an arm
abbrev pub given : ℕ → CaseCell → ℕ → ℕ
given unit cell.Free left = capped (left + unit)
given unit cell.Inline left = left
given unit cell.Look left = left
given unit (cell.Keep d) left = left

abbrev pub left_in_arm : List DataType → ℕ → ℕ → Vector → (con : ℕ) → CaseCell → ℕ
left_in_arm types unit left matched con c = given unit c (cond (is_heap_con types con) (capped (left + at matched con)) left)

-- the arms, of the constructors from this one on
abbrev pub arms_short : List DataType → ℕ → Func → FuncCert → Site → ℕ → List Vector → Vector → (con : ℕ) → List CaseArm → Option (Check ℕ)
arms_short types unit f own s left slots matched con [] = None
arms_short types unit f own s left slots matched con (a ∷ arms) = option_or
    (jump_short types f own s (left_in_arm types unit left matched con a.cell) (bound slots a.fields matched) a.target)
    (arms_short types unit f own s left slots matched (next_con con) arms)

abbrev pub case_short : List DataType → ℕ → Func → FuncCert → Site → ℕ → List Vector → Option Vector → (con : ℕ) → List CaseArm → Option (Check ℕ)
case_short types unit f own s left slots None con arms = None
case_short types unit f own s left slots (Some matched) con arms = arms_short types unit f own s left slots matched con arms

-- a tail call: a call, and then a return of what it gives
abbrev pub tail_short : List DataType → Func → FuncCert → Site → ℕ → List Vector → List ℕ → Option FuncCert → Option (Check ℕ)
tail_short types f own s left slots args None = None
tail_short types f own s left slots args (Some g) = option_or (call_short types f s left slots args (Some g))
    (option_or (value_short types s f.result g.result own.result) (left_short s (capped ((left - g.need) + g.back)) own.back))

abbrev pub term_short : Code → Cert → Vector → Func → FuncCert → Site → ℕ → List Vector → Term → Option (Check ℕ)
term_short p c none f own s left slots (Ret x) = option_or (local_short p.types f s (slice_get slots) (Some x) own.result) (left_short s left own.back)
term_short p c none f own s left slots (Tail callee args) = tail_short p.types f own s left slots args (slice_get c.funcs callee)
term_short p c none f own s left slots (Goto to) = jump_short p.types f own s left (bound slots [] none) to
term_short p c none f own s left slots (If x first second) = option_or (jump_short p.types f own s left (bound slots [] none) first) (jump_short p.types f own s left (bound slots [] none) second)
term_short p c none f own s left slots (Case x arms) = case_short p.types c.unit f own s left slots (slice_get slots x) (first_con_of p.types (kind_of f x)) arms

-- ---- blocks and functions

-- what is left of the builds' lines from this place on
abbrev pub makes_from : (block place : ℕ) → List MakeCert → List MakeCert
makes_from block place [] = []
makes_from block place (m ∷ ms) = if nat_lt m.block block || ((m.block == block) && nat_lt m.place place) then makes_from block place ms else m ∷ ms

-- the line of this place, where it stands in front
abbrev pub in_front : Vector → (block place : ℕ) → List MakeCert → Vector
in_front none block place [] = none
in_front none block place (m ∷ ms) = if (m.block == block) && (m.place == place) then m.vector else none

-- the lets from this place on, and then the end
abbrev pub lets_short : Code → Cert → Vector → Func → FuncCert → Site → List MakeCert → ℕ → List Vector → List Let → Term → Option (Check ℕ)
lets_short p c none f own s makes left slots [] t = term_short p c none f own s left slots t
lets_short p c none f own s makes left slots (l ∷ ls) t = option_or
    (op_short p c f s left slots (in_front none s.block s.place (makes_from s.block s.place makes)) l.op)
    (lets_short p c none f own (next_place s) (makes_from s.block s.place makes)
    (left_behind p c left (in_front none s.block s.place (makes_from s.block s.place makes)) l.op)
    (slots_behind p c slots (in_front none s.block s.place (makes_from s.block s.place makes)) l) ls t)

-- with what these lines say
abbrev pub put_all : List Vector → List VarCert → List Vector
put_all slots [] = slots
put_all slots (v ∷ vs) = put_all (slice_set slots v.var v.vector) vs

-- a block that begins with this need and these lines
abbrev pub begun_short : Code → Cert → Vector → Func → FuncCert → Site → List MakeCert → (need : ℕ) → List VarCert → Block → Option (Check ℕ)
begun_short p c none f own s makes need vars b = lets_short p c none f own s makes need (put_all (replicate 256 none) vars) b.lets b.term

abbrev pub lined_short : Code → Cert → Vector → Func → FuncCert → Site → List MakeCert → Option BlockCert → Block → Option (Check ℕ)
lined_short p c none f own s makes None b = None
lined_short p c none f own s makes (Some line) b = begun_short p c none f own s makes line.need line.vars b

-- the first block begins with the lines of the function
abbrev pub block_short : Code → Cert → Vector → Func → FuncCert → (func number : ℕ) → List MakeCert → Block → Option (Check ℕ)
block_short p c none f own func number makes b = if number == 0
    then begun_short p c none f own (record { func = func; block = number; place = 1 }) makes own.need own.params b
    else lined_short p c none f own (record { func = func; block = number; place = 1 }) makes (line_at own.blocks number) b

abbrev pub blocks_short : Code → Cert → Vector → Func → FuncCert → (func number : ℕ) → List MakeCert → List Block → Option (Check ℕ)
blocks_short p c none f own func number makes [] = None
blocks_short p c none f own func number makes (b ∷ bs) = option_or
    (block_short p c none f own func number (makes_from number 0 makes) b)
    (blocks_short p c none f own func (suc number) (makes_from number 0 makes) bs)

abbrev pub func_short : Code → Cert → Vector → (func : ℕ) → Func → Option FuncCert → Option (Check ℕ)
func_short p c none func f None = None
func_short p c none func f (Some own) = blocks_short p c none f own func 0 own.makes f.blocks

abbrev pub funcs_short : Code → Cert → Vector → (func : ℕ) → List Func → Option (Check ℕ)
funcs_short p c none func [] = None
funcs_short p c none func (f ∷ fs) = option_or (func_short p c none func f (slice_get c.funcs func)) (funcs_short p c none (suc func) fs)

unfoldable pub walk_short : Code → Cert → Option (Check ℕ)
walk_short p c = funcs_short p c [] 0 p.funcs
