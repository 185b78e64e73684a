-- Private: words for functions of this crate.
-- How many unknowns and rows a code's system has, without its vectors. A check of a value is a row for each constructor
-- that its kind reaches, unless just the units that are there are asked, so that it's enough to know of each local
-- where its units come from. What is lent carries nothing, and a check of it is no row; nor is there one of an argument
-- that is only read. A check of what is left is a row, except in a first block, where what is there may cancel
-- against what is asked: at a call of the function itself where nothing was taken yet, and at the end where one such
-- call is all that happened. Sums are cut at the most that 64 bits hold, which well-formed code within its limits never
-- comes to.
use Rattle.std.specs.Prelude.{ℕ, suc, ◌+◌, ◌-◌, ◌^◌, min, ◌==◌, ◌&&◌, if◌then◌else◌, cond, Bool, false, List, [], ◌∷◌, length, replicate, slice_get, slice_set, Option, Some, None}
use Rattle.std.specs.Option.{option_map}
use Rattle.camelot_values.specs.Kinds.{DataType, type_of}
use Rattle.camelot_values.specs.Lists.{is_among}
use Rattle.camelot_values.specs.declared.kinds.Kind.{Kind}
use Rattle.camelot_values.specs.declared.kinds.Kind.TheVariants as kind
use Rattle.grail_blocks.specs.Events.{params_at}
use Rattle.grail_code.specs.Code.{Op, Lit, Flag, Copy, Prim, Make, Call, Let, CaseArm, Term, Ret, Tail, Goto, If, Case, Block, Func, Code}
use Rattle.grail_code.specs.WellFormed.{kind_of, is_marked}
use Rattle.annotations.specs.Vectors.{is_heap_con}
use Rattle.lp_system.specs.Unknowns.{carriers, local_carriers}
use Rattle.lp_size.specs.declared.origins.Origin.{Origin}
use Rattle.lp_size.specs.declared.origins.Origin.TheVariants as origin
use Rattle.lp_size.specs.declared.origins.Slot.{Slot}
use Rattle.lp_size.specs.declared.taken.Taken.{Taken}
use Rattle.lp_size.specs.declared.taken.Taken.TheVariants as taken

-- a sum of the code
abbrev pub more : ℕ → ℕ → ℕ
more m n = min (m + n) (2 ^ 64 - 1)

-- ---- where units come from

abbrev pub same_origin : Origin → Origin → Bool
same_origin (origin.Param f x) (origin.Param g y) = (f == g) && (x == y)
same_origin (origin.Result f) (origin.Result g) = f == g
same_origin (origin.BlockVar f b x) (origin.BlockVar g c y) = (f == g) && ((b == c) && (x == y))
same_origin (origin.Made f b n) (origin.Made g c m) = (f == g) && ((b == c) && (n == m))
same_origin o p = false

-- at the beginning of a block
abbrev pub first_origin : (func block local : ℕ) → Origin
first_origin func block local = if block == 0 then origin.Param func local else origin.BlockVar func block local

-- of a local, where this is in its slot; what was bound in a block before doesn't count
abbrev pub origin_in : (func block local : ℕ) → Option Slot → Origin
origin_in func block local None = first_origin func block local
origin_in func block local (Some s) = if s.begun == suc block then s.origin else first_origin func block local

abbrev pub origin_at : (func block : ℕ) → List Slot → ℕ → Origin
origin_at func block slots local = origin_in func block local (slice_get slots local)

-- bound in this block
abbrev pub put : (block : ℕ) → List Slot → ℕ → Origin → List Slot
put block slots local o = slice_set slots local (record { begun = suc block; origin = o })

-- ---- what was taken

abbrev pub taken_first : ℕ → Taken
taken_first block = if block == 0 then taken.Nothing else taken.More

abbrev pub taken_behind_call : (func : ℕ) → Taken → (callee : ℕ) → Taken
taken_behind_call func taken.Nothing callee = if callee == func then taken.OwnCall else taken.More
taken_behind_call func taken.OwnCall callee = taken.More
taken_behind_call func taken.More callee = taken.More

abbrev pub need_rows : (func : ℕ) → Taken → (callee : ℕ) → ℕ
need_rows func taken.Nothing callee = if callee == func then 0 else 1
need_rows func taken.OwnCall callee = 1
need_rows func taken.More callee = 1

abbrev pub back_rows : Taken → ℕ
back_rows taken.Nothing = 1
back_rows taken.OwnCall = 0
back_rows taken.More = 1

-- ---- values

abbrev pub value_rows : List DataType → Option Kind → Origin → Origin → ℕ
value_rows types q have need = if same_origin have need then 0 else length (carriers types q)

abbrev pub local_rows : List DataType → Func → (func block : ℕ) → List Slot → ℕ → Origin → ℕ
local_rows types f func block slots x need = value_rows types (kind_of f x) (origin_at func block slots x) need

-- an argument against the parameter of this number, unless that is marked
abbrev pub arg_rows : List DataType → Func → (func block : ℕ) → List Slot → (callee : ℕ) → Func → (number x : ℕ) → ℕ
arg_rows types f func block slots callee g number x = cond (is_marked g number) 0 (local_rows types f func block slots x (origin.Param callee number))

-- arguments from this number on, behind so many rows
abbrev pub args_onto : List DataType → Func → (func block : ℕ) → List Slot → (callee : ℕ) → Func → (number total : ℕ) → List ℕ → ℕ
args_onto types f func block slots callee g number total [] = total
args_onto types f func block slots callee g number total (x ∷ xs) =
    args_onto types f func block slots callee g (suc number) (more total (arg_rows types f func block slots callee g number x)) xs

-- those of a function; one that isn't there asks nothing of them
abbrev pub called_rows : List DataType → Func → (func block : ℕ) → List Slot → (callee : ℕ) → List ℕ → Option Func → ℕ
called_rows types f func block slots callee args None = 0
called_rows types f func block slots callee args (Some g) = args_onto types f func block slots callee g 0 0 args

abbrev pub fields_onto : List DataType → Func → (func block : ℕ) → List Slot → Origin → (total : ℕ) → List ℕ → ℕ
fields_onto types f func block slots made total [] = total
fields_onto types f func block slots made total (x ∷ xs) = fields_onto types f func block slots made (more total (local_rows types f func block slots x made)) xs

-- ---- lets

abbrev pub call_rows : Code → Func → (func block : ℕ) → List Slot → Taken → (callee : ℕ) → List ℕ → ℕ
call_rows p f func block slots t callee args = more (called_rows p.types f func block slots callee args (slice_get p.funcs callee)) (need_rows func t callee)

abbrev pub op_rows : Code → Func → (func block : ℕ) → List Slot → Taken → (place : ℕ) → Op → ℕ
op_rows p f func block slots t place (Make con args at) = cond (is_heap_con p.types con) (more (fields_onto p.types f func block slots (origin.Made func block place) 0 args) 1) 0
op_rows p f func block slots t place (Call callee args) = call_rows p f func block slots t callee args
op_rows p f func block slots t place (Lit z) = 0
op_rows p f func block slots t place (Flag b) = 0
op_rows p f func block slots t place (Copy x) = 0
op_rows p f func block slots t place (Prim op x y) = 0

abbrev pub taken_behind : List DataType → (func : ℕ) → Taken → Op → Taken
taken_behind types func t (Make con args at) = cond (is_heap_con types con) taken.More t
taken_behind types func t (Call callee args) = taken_behind_call func t callee
taken_behind types func t (Lit z) = t
taken_behind types func t (Flag b) = t
taken_behind types func t (Copy x) = t
taken_behind types func t (Prim op x y) = t

abbrev pub slots_behind_op : List DataType → (func block : ℕ) → List Slot → (place target : ℕ) → Op → List Slot
slots_behind_op types func block slots place x (Copy y) = put block slots x (origin_at func block slots y)
slots_behind_op types func block slots place x (Make con args at) = cond (is_heap_con types con) (put block slots x (origin.Made func block place)) slots
slots_behind_op types func block slots place x (Call callee args) = put block slots x (origin.Result callee)
slots_behind_op types func block slots place x (Lit z) = slots
slots_behind_op types func block slots place x (Flag b) = slots
slots_behind_op types func block slots place x (Prim op y z) = slots

abbrev pub slots_behind : List DataType → (func block : ℕ) → List Slot → (place : ℕ) → Let → List Slot
slots_behind types func block slots place l = slots_behind_op types func block slots place l.target l.op

-- ---- ends of blocks

-- where an arm has bound these fields, all from the same
unfoldable pub bound : (func block : ℕ) → List Slot → List ℕ → Origin → ℕ → Origin
bound func block slots fields matched x = if is_among fields x then matched else origin_at func block slots x

-- a target's parameter; one that is lent carries nothing there, and here
abbrev pub var_rows : List DataType → Func → (have need : Origin) → ℕ → ℕ
var_rows types f have need x = if same_origin have need then 0 else length (local_carriers types f x)

-- a target's parameters, behind so many rows
abbrev pub vars_onto : List DataType → Func → (func block : ℕ) → List Slot → (fields : List ℕ) → Origin → (to total : ℕ) → List ℕ → ℕ
vars_onto types f func block slots fields matched to total [] = total
vars_onto types f func block slots fields matched to total (x ∷ xs) =
    vars_onto types f func block slots fields matched to (more total (var_rows types f (bound func block slots fields matched x) (origin.BlockVar func to x) x)) xs

abbrev pub jump_rows : List DataType → Func → (func block : ℕ) → List Slot → (fields : List ℕ) → Origin → ℕ → ℕ
jump_rows types f func block slots fields matched to = more (vars_onto types f func block slots fields matched to 0 (params_at f.blocks to)) 1

abbrev pub plain_jump_rows : List DataType → Func → (func block : ℕ) → List Slot → ℕ → ℕ
plain_jump_rows types f func block slots to = jump_rows types f func block slots [] (origin.Result func) to

abbrev pub arms_onto : List DataType → Func → (func block : ℕ) → List Slot → Origin → (total : ℕ) → List CaseArm → ℕ
arms_onto types f func block slots matched total [] = total
arms_onto types f func block slots matched total (a ∷ arms) = arms_onto types f func block slots matched (more total (jump_rows types f func block slots a.fields matched a.target)) arms

abbrev pub ret_rows : List DataType → Func → (func block : ℕ) → List Slot → Taken → ℕ → ℕ
ret_rows types f func block slots t x = more (local_rows types f func block slots x (origin.Result func)) (back_rows t)

abbrev pub tail_rows : Code → Func → (func block : ℕ) → List Slot → Taken → (callee : ℕ) → List ℕ → ℕ
tail_rows p f func block slots t callee args = more (call_rows p f func block slots t callee args)
    (more (value_rows p.types (Some f.result) (origin.Result callee) (origin.Result func)) (back_rows (taken_behind_call func t callee)))

abbrev pub term_rows : Code → Func → (func block : ℕ) → List Slot → Taken → Term → ℕ
term_rows p f func block slots t (Ret x) = ret_rows p.types f func block slots t x
term_rows p f func block slots t (Tail callee args) = tail_rows p f func block slots t callee args
term_rows p f func block slots t (Goto to) = plain_jump_rows p.types f func block slots to
term_rows p f func block slots t (If x first second) = more (plain_jump_rows p.types f func block slots first) (plain_jump_rows p.types f func block slots second)
term_rows p f func block slots t (Case x arms) = arms_onto p.types f func block slots (origin_at func block slots x) 0 arms

-- ---- blocks and functions

-- the lets from this place on and then the end, behind so many rows
abbrev pub lets_onto : Code → Func → (func block : ℕ) → List Slot → Taken → (place total : ℕ) → List Let → Term → ℕ
lets_onto p f func block slots t place total [] end = more total (term_rows p f func block slots t end)
lets_onto p f func block slots t place total (l ∷ ls) end =
    lets_onto p f func block (slots_behind p.types func block slots place l) (taken_behind p.types func t l.op) (suc place) (more total (op_rows p f func block slots t place l.op)) ls end

abbrev pub lets_behind : List DataType → (func block : ℕ) → List Slot → (place : ℕ) → List Let → List Slot
lets_behind types func block slots place [] = slots
lets_behind types func block slots place (l ∷ ls) = lets_behind types func block (slots_behind types func block slots place l) (suc place) ls

abbrev pub block_rows : Code → Func → (func number : ℕ) → List Slot → Block → ℕ
block_rows p f func number slots b = lets_onto p f func number slots (taken_first number) 1 0 b.lets b.term

abbrev pub block_behind : List DataType → (func number : ℕ) → List Slot → Block → List Slot
block_behind types func number slots b = lets_behind types func number slots 1 b.lets

abbrev pub blocks_onto : Code → Func → (func : ℕ) → List Slot → (number total : ℕ) → List Block → ℕ
blocks_onto p f func slots number total [] = total
blocks_onto p f func slots number total (b ∷ bs) = blocks_onto p f func (block_behind p.types func number slots b) (suc number) (more total (block_rows p f func number slots b)) bs

-- at the beginning of a function nothing is bound
abbrev pub unbound : ℕ → Slot
unbound func = record { begun = 0; origin = origin.Result func }

abbrev pub func_rows : Code → (func : ℕ) → Func → ℕ
func_rows p func f = blocks_onto p f func (replicate 256 (unbound func)) 0 0 f.blocks

abbrev pub funcs_onto : Code → (func total : ℕ) → List Func → ℕ
funcs_onto p func total [] = total
funcs_onto p func total (f ∷ fs) = funcs_onto p (suc func) (more total (func_rows p func f)) fs

-- ---- unknowns

-- of parameters, as many as these kinds, the first of which has this number
abbrev pub params_onto : List DataType → Func → (number total : ℕ) → List Kind → ℕ
params_onto types f number total [] = total
params_onto types f number total (q ∷ qs) = params_onto types f (suc number) (more total (length (local_carriers types f number))) qs

abbrev pub locals_onto : List DataType → Func → (total : ℕ) → List ℕ → ℕ
locals_onto types f total [] = total
locals_onto types f total (x ∷ xs) = locals_onto types f (more total (length (local_carriers types f x))) xs

abbrev pub made_count : List DataType → Op → ℕ
made_count types (Make con args at) = cond (is_heap_con types con) (length (carriers types (option_map kind.Of (type_of types con)))) 0
made_count types (Call callee args) = 0
made_count types (Lit z) = 0
made_count types (Flag b) = 0
made_count types (Copy x) = 0
made_count types (Prim op x y) = 0

abbrev pub builds_onto : List DataType → (total : ℕ) → List Let → ℕ
builds_onto types total [] = total
builds_onto types total (l ∷ ls) = builds_onto types (more total (made_count types l.op)) ls

abbrev pub begin_count : List DataType → Func → ℕ → Block → ℕ
begin_count types f number b = if number == 0 then 0 else more (locals_onto types f 0 b.params) 1

abbrev pub block_count : List DataType → Func → ℕ → Block → ℕ
block_count types f number b = more (begin_count types f number b) (builds_onto types 0 b.lets)

abbrev pub blocks_count_onto : List DataType → Func → (number total : ℕ) → List Block → ℕ
blocks_count_onto types f number total [] = total
blocks_count_onto types f number total (b ∷ bs) = blocks_count_onto types f (suc number) (more total (block_count types f number b)) bs

abbrev pub func_count : List DataType → Func → ℕ
func_count types f = more (more (params_onto types f 0 0 f.params) (more (length (carriers types (Some f.result))) (blocks_count_onto types f 0 0 f.blocks))) 2

abbrev pub funcs_count_onto : List DataType → (total : ℕ) → List Func → ℕ
funcs_count_onto types total [] = total
funcs_count_onto types total (f ∷ fs) = funcs_count_onto types (more total (func_count types f)) fs
