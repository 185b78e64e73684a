-- Private: words for functions of this crate.
-- The rows of a code as a walk through it. At each place there is a form of what is left, and for each local the
-- unknowns of what its value carries.
use Rattle.std.specs.Prelude.{ℕ, zero, suc, ℤ, pos, if◌then◌else◌, List, [], ◌∷◌, ◌++◌, map, length, slice_get, Option, Some, None, cond}
use Rattle.std.specs.List.{filter}
use Rattle.dual_simplex.specs.Systems.{Inequality}
use Rattle.camelot_values.specs.Kinds.{DataType}
use Rattle.camelot_values.specs.Lists.{is_among}
use Rattle.camelot_values.specs.declared.kinds.Kind.{Kind}
use Rattle.grail_blocks.specs.declared.blocks.Place.{Place}
use Rattle.grail_blocks.specs.declared.blocks.Place.TheVariants as place
use Rattle.grail_blocks.specs.declared.blocks.CaseCell.{CaseCell}
use Rattle.grail_blocks.specs.declared.blocks.CaseCell.TheVariants as cell
use Rattle.grail_blocks.specs.Events.{params_at}
use Rattle.grail_code.specs.Code.{Op, Lit, Flag, Copy, Prim, Make, Call, Let, CaseArm, Term, Ret, Tail, Goto, If, Case, Block, Func, Code}
use Rattle.grail_code.specs.WellFormed.{kind_of, is_marked}
use Rattle.annotations.specs.Vectors.{is_heap_con}
use Rattle.licence.specs.Books.{Units, Carried}
use Rattle.licence.specs.Rules.{carrying, first_con_of, Asks, arguments_asks}
use Rattle.licence.specs.Checks.{Site}
use Rattle.licence.specs.Sites.{next_con, next_place}
use Rattle.lp_system.specs.Unknowns.{Unknown, Need, Back, Param, Result, BlockNeed, BlockVar, Made, carriers}
use Rattle.lp_system.specs.Forms.{asks}
use Rattle.lp_rows.specs.Dense.{Dense, more, plus, minus, once_with, row}
use Rattle.lp_rows.specs.Plain.{own}

-- ---- single rows

-- the rows of these checks that ask something
abbrev pub row_against : Dense → Dense → List Inequality
row_against have need = filter asks (row have need ∷ [])

abbrev pub unknown_rows : List Unknown → (have need : Unknown) → List Inequality
unknown_rows us u w = row_against (once_with us (pos 0) u) (once_with us (pos 0) w)

abbrev pub left_rows : List Unknown → Dense → ℤ → Unknown → List Inequality
left_rows us left cells need = row_against left (once_with us cells need)

-- of the constructors of a value
abbrev pub cons_rows : List Unknown → Units Unknown → Units Unknown → List ℕ → List Inequality
cons_rows us have need [] = []
cons_rows us have need (c ∷ cs) = unknown_rows us (have c) (need c) ++ cons_rows us have need cs

abbrev pub value_rows : List DataType → List Unknown → Option Kind → Units Unknown → Units Unknown → List Inequality
value_rows types us q have need = cons_rows us have need (carriers types q)

-- of locals, against what is asked of them
abbrev pub local_rows : List DataType → List Unknown → Func → Carried Unknown → Asks Unknown → List Inequality
local_rows types us f carried [] = []
local_rows types us f carried (a ∷ asks) = value_rows types us (kind_of f a.0) (carried a.0) a.1 ++ local_rows types us f carried asks

-- of an argument against the parameter of this number, unless that is marked
abbrev pub argument_rows_at : List DataType → List Unknown → Func → Carried Unknown → (callee : ℕ) → Func → (number x : ℕ) → List Inequality
argument_rows_at types us f carried callee g number x = cond (is_marked g number) [] (value_rows types us (kind_of f x) (carried x) (Param callee number))

-- of arguments that are taken; a function that isn't there asks nothing of them
abbrev pub argument_rows : List DataType → List Unknown → Func → Carried Unknown → (callee : ℕ) → List ℕ → Option Func → List Inequality
argument_rows types us f carried callee args None = []
argument_rows types us f carried callee args (Some g) = local_rows types us f carried (arguments_asks (λ x con. Param callee x con) (is_marked g) 0 (length g.params) args)

-- ---- lets

-- the cells that a build takes
abbrev pub price : Place → ℤ
price place.New = pos 1
price place.Inline = pos 0
price (place.Reuse d) = pos 0

abbrev pub made_rows : List DataType → List Unknown → Func → Site → Dense → Carried Unknown → (con : ℕ) → List ℕ → Place → List Inequality
made_rows types us f s left carried con args at = cond (is_heap_con types con)
    (local_rows types us f carried (map (λ x. (x, Made s.func s.block s.place)) args) ++ left_rows us left (price at) (Made s.func s.block s.place con))
    []

abbrev pub call_rows : Code → List Unknown → Func → Dense → Carried Unknown → (callee : ℕ) → List ℕ → List Inequality
call_rows p us f left carried callee args = argument_rows p.types us f carried callee args (slice_get p.funcs callee) ++ left_rows us left (pos 0) (Need callee)

abbrev pub op_rows : Code → List Unknown → Func → Site → Dense → Carried Unknown → Op → List Inequality
op_rows p us f s left carried (Make con args at) = made_rows p.types us f s left carried con args at
op_rows p us f s left carried (Call callee args) = call_rows p us f left carried callee args
op_rows p us f s left carried (Lit z) = []
op_rows p us f s left carried (Flag b) = []
op_rows p us f s left carried (Copy x) = []
op_rows p us f s left carried (Prim op x y) = []

-- what is left behind a let
abbrev pub left_called : List Unknown → Dense → ℕ → Dense
left_called us left callee = plus (minus left (once_with us (pos 0) (Need callee))) (once_with us (pos 0) (Back callee))

abbrev pub left_after : List DataType → List Unknown → Site → Dense → Op → Dense
left_after types us s left (Make con args at) = cond (is_heap_con types con) (minus left (once_with us (price at) (Made s.func s.block s.place con))) left
left_after types us s left (Call callee args) = left_called us left callee
left_after types us s left (Lit z) = left
left_after types us s left (Flag b) = left
left_after types us s left (Copy x) = left
left_after types us s left (Prim op x y) = left

-- what locals carry behind a let
abbrev pub carried_after : List DataType → Site → Carried Unknown → ℕ → Op → Carried Unknown
carried_after types s carried x (Copy y) = carrying carried x (carried y)
carried_after types s carried x (Make con args at) = cond (is_heap_con types con) (carrying carried x (Made s.func s.block s.place)) carried
carried_after types s carried x (Call callee args) = carrying carried x (Result callee)
carried_after types s carried x (Lit z) = carried
carried_after types s carried x (Flag b) = carried
carried_after types s carried x (Prim op y z) = carried

-- ---- ends of blocks

-- the locals where an arm has bound these fields
unfoldable pub bound : Carried Unknown → List ℕ → Units Unknown → Carried Unknown
bound carried fields matched x = if is_among fields x then matched else carried x

abbrev pub jump_rows : List DataType → List Unknown → Func → (func : ℕ) → Dense → Carried Unknown → ℕ → List Inequality
jump_rows types us f func left carried to =
    local_rows types us f carried (map (λ x. (x, λ con. BlockVar func to x con)) (params_at f.blocks to)) ++ left_rows us left (pos 0) (BlockNeed func to)

-- what is left in an arm
abbrev pub freed : CaseCell → Dense → Dense
freed cell.Free left = record { constant = more left.constant (pos 1); factors = left.factors }
freed cell.Inline left = left
freed cell.Look left = left
freed (cell.Keep d) left = left

abbrev pub found : List DataType → List Unknown → Dense → Units Unknown → (con : ℕ) → Dense
found types us left matched con = cond (is_heap_con types con) (plus left (once_with us (pos 0) (matched con))) left

abbrev pub arm_rows : List DataType → List Unknown → Func → (func : ℕ) → Dense → Carried Unknown → Units Unknown → (con : ℕ) → CaseArm → List Inequality
arm_rows types us f func left carried matched con a = jump_rows types us f func (freed a.cell (found types us left matched con)) (bound carried a.fields matched) a.target

-- the arms, of the constructors from this one on
abbrev pub arms_rows : List DataType → List Unknown → Func → (func : ℕ) → Dense → Carried Unknown → Units Unknown → (con : ℕ) → List CaseArm → List Inequality
arms_rows types us f func left carried matched con [] = []
arms_rows types us f func left carried matched con (a ∷ arms) = arm_rows types us f func left carried matched con a ++ arms_rows types us f func left carried matched (next_con con) arms

abbrev pub ret_rows : List DataType → List Unknown → Func → (func : ℕ) → Dense → Carried Unknown → ℕ → List Inequality
ret_rows types us f func left carried x = value_rows types us (kind_of f x) (carried x) (Result func) ++ left_rows us left (pos 0) (Back func)

-- a tail call: a call, and then a return of what it gives
abbrev pub tail_rows : Code → List Unknown → Func → (func : ℕ) → Dense → Carried Unknown → (callee : ℕ) → List ℕ → List Inequality
tail_rows p us f func left carried callee args = call_rows p us f left carried callee args
    ++ (value_rows p.types us (Some f.result) (Result callee) (Result func) ++ left_rows us (left_called us left callee) (pos 0) (Back func))

abbrev pub term_rows : Code → List Unknown → Func → (func : ℕ) → Dense → Carried Unknown → Term → List Inequality
term_rows p us f func left carried (Ret x) = ret_rows p.types us f func left carried x
term_rows p us f func left carried (Tail callee args) = tail_rows p us f func left carried callee args
term_rows p us f func left carried (Goto to) = jump_rows p.types us f func left carried to
term_rows p us f func left carried (If x first second) = jump_rows p.types us f func left carried first ++ jump_rows p.types us f func left carried second
term_rows p us f func left carried (Case x arms) = arms_rows p.types us f func left carried (carried x) (first_con_of p.types (kind_of f x)) arms

-- ---- blocks and functions

-- the lets from this place on, and then the end
abbrev pub lets_rows : Code → List Unknown → Func → Site → Dense → Carried Unknown → List Let → Term → List Inequality
lets_rows p us f s left carried [] t = term_rows p us f s.func left carried t
lets_rows p us f s left carried (l ∷ ls) t = op_rows p us f s left carried l.op
    ++ lets_rows p us f (next_place s) (left_after p.types us s left l.op) (carried_after p.types s carried l.target l.op) ls t

abbrev pub need_of : (func block : ℕ) → Unknown
need_of func zero = Need func
need_of func (suc n) = BlockNeed func (suc n)

abbrev pub block_rows : Code → List Unknown → Func → (func number : ℕ) → Block → List Inequality
block_rows p us f func number b = lets_rows p us f (record { func = func; block = number; place = 1 }) (once_with us (pos 0) (need_of func number)) (own func number) b.lets b.term

abbrev pub blocks_rows : Code → List Unknown → Func → (func number : ℕ) → List Block → List Inequality
blocks_rows p us f func number [] = []
blocks_rows p us f func number (b ∷ bs) = block_rows p us f func number b ++ blocks_rows p us f func (suc number) bs

abbrev pub funcs_rows : Code → List Unknown → (func : ℕ) → List Func → List Inequality
funcs_rows p us func [] = []
funcs_rows p us func (f ∷ fs) = blocks_rows p us f func 0 f.blocks ++ funcs_rows p us (suc func) fs
