-- Private: words for functions of this crate.
-- The check of code as a walk: the first check that fails, in the order of the code. Types come first, then function by
-- function its header, and then its blocks, each with its header, its lets and its end. On the way through a block
-- every local is unbound, ready or spent. That is the bookkeeping by which a checker keeps to the affine rule of LFPL
-- (Hofmann 2000). All blocks are walked, also those that no jump leads to.
--
-- At a let and at the end of a block the checks come in this order:
-- 1. What is named is there.
-- 2. Jumps go forward.
-- 3. Numbers of arguments, arms and fields are right; a case on what is no data type is of the wrong kind here.
-- 4. Each operand in turn is bound, unspent, not lent where it isn't only read, and of its kind. Behind them each
--    argument that is only read is still unspent.
-- 5. A value that is lent is only looked at, and another one isn't.
-- 6. Constructors are built or matched inline exactly where they are inline.
-- 7. What is bound has its kind; an arm binds distinct locals; what is bound isn't lent.
-- 8. Each jump in turn finds the parameters of its target bound and unspent.
-- What speaks of arms goes over all of them before the next check.
use Rattle.std.specs.Prelude.{ℕ, zero, suc, nat_lt, nat_le, ◌==◌, ◌&&◌, ◌||◌, not, Bool, true, false, if◌then◌else◌, List, [], ◌∷◌, ◌++◌, length, map, replicate, slice_get, slice_set, Option, Some, None}
use Rattle.std.specs.List.{list_all}
use Rattle.std.specs.Option.{option_map, option_map_or, option_or}
use Rattle.camelot_values.specs.Value.{is_int32}
use Rattle.camelot_values.specs.Kinds.{Constructor, DataType, constructor, type_of}
use Rattle.camelot_values.specs.Heap.{is_heap}
pub use Rattle.camelot_values.specs.Lists.{is_among}
pub use Rattle.camelot_values.specs.Names.{stands}
pub use Rattle.camelot_values.specs.Kinds.{same_kind}
use Rattle.camelot_values.specs.Operator.{Operator}
use Rattle.camelot_values.specs.declared.kinds.Kind.{Kind}
use Rattle.camelot_values.specs.declared.kinds.Kind.TheVariants as kind
use Rattle.grail_blocks.specs.declared.blocks.Place.{Place}
use Rattle.grail_blocks.specs.declared.blocks.Place.TheVariants as place
use Rattle.grail_blocks.specs.declared.blocks.CaseCell.{CaseCell}
use Rattle.grail_blocks.specs.declared.blocks.CaseCell.TheVariants as cell
use Rattle.grail_code.specs.Code.{Op, Lit, Flag, Copy, Prim, Make, Call, Let, CaseArm, Term, Ret, Tail, Goto, If, Case, Block, Func, Code}
use Rattle.grail_code.specs.WellFormed.{local_kinds, is_marked, is_read, takes, bound_anew, operator_kind, taken_by, read_by, operands_of, kept_diamond, bound_by, params_at, data_type}
use Rattle.grail_check.specs.Marked.{first_mark, later_marks, is_look}
use Rattle.grail_check.specs.declared.fault.CodeKind.{CodeKind}
use Rattle.grail_check.specs.declared.fault.CodeKind.TheVariants as fault
use Rattle.grail_check.specs.declared.fault.CodeFault.{CodeFault}
use Rattle.grail_check.specs.declared.locals.Local.{Local}
use Rattle.grail_check.specs.declared.locals.Mark.{Mark}
use Rattle.grail_check.specs.declared.locals.Mark.TheVariants as mark

-- ---- checks in a row

-- this fault, where the test fails
abbrev pub unless : Bool → CodeKind → Option CodeKind
unless true k = None
unless false k = Some k

-- the first fault of these checks
abbrev pub first_of : {A : Type 0} → List (Option A) → Option A
first_of [] = None
first_of (check ∷ checks) = option_or check (first_of checks)

-- a fault with its place
abbrev pub at_place : ℕ → ℕ → ℕ → Option CodeKind → Option CodeFault
at_place func block place found = option_map (λ k. record { func = func; block = block; place = place; kind = k }) found

-- ---- names

-- ---- locals and their kinds

-- a local's kind, and whether values of it are owned, or lent where it is only read
abbrev pub local_of : List DataType → Kind → Bool → Local
local_of types k read = record { kind = k; owned = is_heap types k && not read; lent = is_heap types k && read }

-- the locals from this one on, of these kinds
abbrev pub locals_from : List DataType → Func → ℕ → List Kind → List Local
locals_from types f x [] = []
locals_from types f x (k ∷ ks) = local_of types k (is_read f x) ∷ locals_from types f (suc x) ks

abbrev pub locals_of : List DataType → Func → List Local
locals_of types f = locals_from types f 0 (local_kinds f)

abbrev pub is_local : List Local → ℕ → Bool
is_local locals x = nat_lt x (length locals)

abbrev pub kind_at : List Local → ℕ → Option Kind
kind_at locals x = option_map (λ l. l.kind) (slice_get locals x)

abbrev pub is_owned_at : List Local → ℕ → Bool
is_owned_at locals x = option_map_or (λ l. l.owned) (slice_get locals x) false

abbrev pub is_lent_at : List Local → ℕ → Bool
is_lent_at locals x = option_map_or (λ l. l.lent) (slice_get locals x) false

abbrev pub are_not_lent : List Local → List ℕ → Bool
are_not_lent locals xs = list_all (λ x. not (is_lent_at locals x)) xs

-- two kinds that are there and are the same
abbrev pub same_kinds : Option Kind → Option Kind → Bool
same_kinds (Some k) (Some l) = same_kind k l
same_kinds k l = false

abbrev pub has_kind : List Local → ℕ → Kind → Bool
has_kind locals x k = same_kinds (kind_at locals x) (Some k)

-- each of these locals has its kind
abbrev pub have_kinds : List Local → List ℕ → List Kind → Bool
have_kinds locals (x ∷ xs) (k ∷ ks) = has_kind locals x k && have_kinds locals xs ks
have_kinds locals xs ks = true

-- a kind whose type is there
abbrev pub is_known : List DataType → Kind → Bool
is_known types (kind.Of t) = nat_lt t (length types)
is_known types k = true

-- ---- the state of locals

-- no local is bound
abbrev pub unbound : List Local → List Mark
unbound locals = replicate (length locals) mark.Unbound

-- the local has a new value, which wasn't used
abbrev pub bind : List Mark → ℕ → List Mark
bind marks x = slice_set marks x mark.Ready

abbrev pub bind_all : List Mark → List ℕ → List Mark
bind_all marks [] = marks
bind_all marks (x ∷ xs) = bind_all (bind marks x) xs

-- an operand that is owned is then used
abbrev pub spend : List Local → List Mark → ℕ → List Mark
spend locals marks x = if is_owned_at locals x then slice_set marks x mark.Spent else marks

abbrev pub spend_all : List Local → List Mark → List ℕ → List Mark
spend_all locals marks [] = marks
spend_all locals marks (x ∷ xs) = spend_all locals (spend locals marks x) xs

-- a local that is used isn't bound, or is owned and was used
abbrev pub mark_fault : Option Mark → Option CodeKind
mark_fault (Some mark.Ready) = None
mark_fault (Some mark.Spent) = Some fault.Spent
mark_fault m = Some fault.Unbound

-- ---- operands

-- a local that is lent can't be taken
abbrev pub own_fault : List Local → ℕ → Option CodeKind
own_fault locals x = unless (not (is_lent_at locals x)) fault.Lent

abbrev pub operand_fault : List Local → List Mark → ℕ → Kind → Option CodeKind
operand_fault locals marks x k = first_of (mark_fault (slice_get marks x) ∷ own_fault locals x ∷ unless (has_kind locals x k) fault.Kind ∷ [])

-- an argument that is only read
abbrev pub read_fault : List Local → List Mark → ℕ → Kind → Option CodeKind
read_fault locals marks x k = first_of (mark_fault (slice_get marks x) ∷ unless (has_kind locals x k) fault.Kind ∷ [])

abbrev pub argument_fault : Bool → List Local → List Mark → ℕ → Kind → Option CodeKind
argument_fault true locals marks x k = read_fault locals marks x k
argument_fault false locals marks x k = operand_fault locals marks x k

abbrev pub spend_unless : Bool → List Local → List Mark → ℕ → List Mark
spend_unless true locals marks x = marks
spend_unless false locals marks x = spend locals marks x

-- one after the other, by the marks of the parameters
abbrev pub operands_fault : List Local → List Mark → List Bool → List ℕ → List Kind → Option CodeKind
operands_fault locals marks reads (x ∷ xs) (k ∷ ks) = option_or (argument_fault (first_mark reads) locals marks x k)
    (operands_fault locals (spend_unless (first_mark reads) locals marks x) (later_marks reads) xs ks)
operands_fault locals marks reads xs ks = None

-- behind them all, those that are only read are looked at again
abbrev pub again_fault : List Mark → List ℕ → Option CodeKind
again_fault marks [] = None
again_fault marks (x ∷ xs) = option_or (mark_fault (slice_get marks x)) (again_fault marks xs)

-- as many operands as are needed, and then each of them
abbrev pub arguments_fault : List Local → List Mark → List Bool → List ℕ → List Kind → Option CodeKind
arguments_fault locals marks reads xs ks = first_of (
    unless (length xs == length ks) fault.Arms
    ∷ operands_fault locals marks reads xs ks
    ∷ again_fault (spend_all locals marks (taken_by reads xs)) (read_by reads xs) ∷ [])

-- ---- lets

-- the diamond that a build takes
abbrev pub taken_fault : List Local → List Mark → Place → Option CodeKind
taken_fault locals marks (place.Reuse d) = operand_fault locals marks d kind.Dia
taken_fault locals marks p = None

-- built as Inline exactly where the constructor is inline
abbrev pub place_fits : Bool → Place → Bool
place_fits inline place.Inline = inline
place_fits inline p = not inline

-- the local that is bound has the kind of what comes out, and isn't lent
abbrev pub target_fault : List Local → ℕ → Option Kind → Option CodeKind
target_fault locals x k = first_of (unless (same_kinds (kind_at locals x) k) fault.Kind ∷ own_fault locals x ∷ [])

-- a build of this constructor, which belongs to the type of this kind
abbrev pub make_fault : List Local → List Mark → ℕ → Option Constructor → Option Kind → List ℕ → Place → Option CodeKind
make_fault locals marks x None owner args at = Some fault.NoSuchEntry
make_fault locals marks x (Some c) owner args at = first_of (
    arguments_fault locals marks [] args c.fields
    ∷ taken_fault locals (spend_all locals marks args) at
    ∷ unless (place_fits c.inline at) fault.Place
    ∷ target_fault locals x owner ∷ [])

abbrev pub call_fault : List Local → List Mark → ℕ → Option Func → List ℕ → Option CodeKind
call_fault locals marks x None args = Some fault.NoSuchEntry
call_fault locals marks x (Some callee) args = first_of (
    arguments_fault locals marks callee.reads args callee.params
    ∷ target_fault locals x (Some callee.result) ∷ [])

abbrev pub copy_fault : List Local → List Mark → ℕ → ℕ → Option CodeKind
copy_fault locals marks x y = first_of (
    mark_fault (slice_get marks y)
    ∷ own_fault locals y
    ∷ target_fault locals x (kind_at locals y) ∷ [])

abbrev pub operator_fault : List Local → List Mark → ℕ → Operator → (left right : ℕ) → Option CodeKind
operator_fault locals marks x op left right = first_of (
    operand_fault locals marks left kind.Int
    ∷ operand_fault locals (spend locals marks left) right kind.Int
    ∷ target_fault locals x (Some (operator_kind op)) ∷ [])

abbrev pub op_fault : Code → List Local → List Mark → ℕ → Op → Option CodeKind
op_fault p locals marks x (Lit z) = first_of (unless (is_int32 z) fault.Kind ∷ target_fault locals x (Some kind.Int) ∷ [])
op_fault p locals marks x (Flag b) = target_fault locals x (Some kind.Flag)
op_fault p locals marks x (Copy y) = copy_fault locals marks x y
op_fault p locals marks x (Prim op left right) = operator_fault locals marks x op left right
op_fault p locals marks x (Make con args at) = make_fault locals marks x (constructor p.types con) (option_map kind.Of (type_of p.types con)) args at
op_fault p locals marks x (Call func args) = call_fault locals marks x (slice_get p.funcs func) args

abbrev pub let_fault : Code → List Local → List Mark → Let → Option CodeKind
let_fault p locals marks l = first_of (
    unless (is_local locals l.target && list_all (is_local locals) (operands_of l.op)) fault.NoSuchEntry
    ∷ op_fault p locals marks l.target l.op ∷ [])

-- a let uses the operands that it takes, and then binds its local
abbrev pub after_let : Code → List Local → List Mark → Let → List Mark
after_let p locals marks l = bind (spend_all locals marks (takes p l.op)) l.target

abbrev pub after_lets : Code → List Local → List Mark → List Let → List Mark
after_lets p locals marks [] = marks
after_lets p locals marks (l ∷ ls) = after_lets p locals (after_let p locals marks l) ls

-- ---- the end of a block

-- the target of a jump is there
abbrev pub is_block : Func → ℕ → Bool
is_block f b = nat_lt b (length f.blocks)

-- what an arm binds counts as bound and unused
abbrev pub use_fault : List Mark → List ℕ → ℕ → Option CodeKind
use_fault marks bound x = if is_among bound x then None else mark_fault (slice_get marks x)

abbrev pub uses_fault : List Mark → List ℕ → List ℕ → Option CodeKind
uses_fault marks bound [] = None
uses_fault marks bound (x ∷ xs) = option_or (use_fault marks bound x) (uses_fault marks bound xs)

-- a jump uses the parameters of its target, and marks nothing
abbrev pub jump_fault : Func → List Mark → List ℕ → ℕ → Option CodeKind
jump_fault f marks bound b = uses_fault marks bound (params_at f.blocks b)

-- another function's result is this one's
abbrev pub callee_fault : Func → List Local → List Mark → Option Func → List ℕ → Option CodeKind
callee_fault f locals marks None args = Some fault.NoSuchEntry
callee_fault f locals marks (Some callee) args = first_of (
    arguments_fault locals marks callee.reads args callee.params
    ∷ unless (same_kind callee.result f.result) fault.Kind ∷ [])

abbrev pub tail_fault : Func → List Local → List Mark → Option Func → List ℕ → Option CodeKind
tail_fault f locals marks callee args = first_of (
    unless (list_all (is_local locals) args) fault.NoSuchEntry
    ∷ callee_fault f locals marks callee args ∷ [])

-- what an arm names is there
abbrev pub arm_is_there : Func → List Local → CaseArm → Bool
arm_is_there f locals a = list_all (is_local locals) a.fields && list_all (is_local locals) (kept_diamond a.cell) && is_block f a.target

-- a local for each field
abbrev pub fields_count : List CaseArm → List Constructor → Bool
fields_count (a ∷ arms) (c ∷ cs) = (length a.fields == length c.fields) && fields_count arms cs
fields_count arms cs = true

-- an arm for each constructor
abbrev pub arms_count : List CaseArm → List Constructor → Bool
arms_count arms cs = (length arms == length cs) && fields_count arms cs

-- a value that is lent is only looked at, in the arm of each constructor that has a cell; another one in no arm
abbrev pub looks_where : (lent inline : Bool) → CaseCell → Bool
looks_where true inline c = inline || is_look c
looks_where false inline c = not (is_look c)

abbrev pub look_where : Bool → List CaseArm → List Constructor → Bool
look_where lent (a ∷ arms) (c ∷ cs) = looks_where lent c.inline a.cell && look_where lent arms cs
look_where lent arms cs = true

-- matched as Inline exactly where the constructor is inline
abbrev pub cell_fits : Bool → CaseCell → Bool
cell_fits inline cell.Inline = inline
cell_fits inline c = not inline

abbrev pub cells_fit : List CaseArm → List Constructor → Bool
cells_fit (a ∷ arms) (c ∷ cs) = cell_fits c.inline a.cell && cells_fit arms cs
cells_fit arms cs = true

-- a kept cell becomes a diamond
abbrev pub kept_fits : List Local → CaseCell → Bool
kept_fits locals (cell.Keep d) = has_kind locals d kind.Dia
kept_fits locals c = true

-- what arms bind has the kinds of the fields, and of a diamond
abbrev pub arms_have_kinds : List Local → List CaseArm → List Constructor → Bool
arms_have_kinds locals (a ∷ arms) (c ∷ cs) = have_kinds locals a.fields c.fields && kept_fits locals a.cell && arms_have_kinds locals arms cs
arms_have_kinds locals arms cs = true

-- none of these numbers comes twice
abbrev pub are_distinct : List ℕ → Bool
are_distinct [] = true
are_distinct (x ∷ xs) = not (is_among xs x) && are_distinct xs

-- the jump of each arm
abbrev pub arms_jump_fault : Func → List Mark → List CaseArm → Option CodeKind
arms_jump_fault f marks [] = None
arms_jump_fault f marks (a ∷ arms) = option_or (jump_fault f marks (bound_by a) a.target) (arms_jump_fault f marks arms)

-- the arms of a case on a local of this type
abbrev pub arms_fault : Func → List Local → List Mark → ℕ → Option DataType → List CaseArm → Option CodeKind
arms_fault f locals marks x None arms = Some fault.Kind
arms_fault f locals marks x (Some t) arms = first_of (
    unless (arms_count arms t.cons) fault.Arms
    ∷ mark_fault (slice_get marks x)
    ∷ unless (look_where (is_lent_at locals x) arms t.cons) fault.Lent
    ∷ unless (cells_fit arms t.cons) fault.Place
    ∷ unless (arms_have_kinds locals arms t.cons) fault.Kind
    ∷ unless (list_all (λ a. are_distinct (bound_by a)) arms) fault.Header
    ∷ unless (list_all (λ a. are_not_lent locals (bound_anew a.cell (bound_by a))) arms) fault.Lent
    ∷ arms_jump_fault f (spend locals marks x) arms ∷ [])

abbrev pub case_fault : Func → List Local → ℕ → List Mark → ℕ → Option DataType → List CaseArm → Option CodeKind
case_fault f locals number marks x t arms = first_of (
    unless (is_local locals x && list_all (arm_is_there f locals) arms) fault.NoSuchEntry
    ∷ unless (list_all (λ a. nat_lt number a.target) arms) fault.Backward
    ∷ arms_fault f locals marks x t arms ∷ [])

abbrev pub ret_fault : Func → List Local → List Mark → ℕ → Option CodeKind
ret_fault f locals marks x = first_of (
    unless (is_local locals x) fault.NoSuchEntry
    ∷ operand_fault locals marks x f.result ∷ [])

abbrev pub goto_fault : Func → ℕ → List Mark → ℕ → Option CodeKind
goto_fault f number marks b = first_of (
    unless (is_block f b) fault.NoSuchEntry
    ∷ unless (nat_lt number b) fault.Backward
    ∷ jump_fault f marks [] b ∷ [])

-- the jump where the value is true, and then the one where it is false
abbrev pub if_fault : Func → List Local → ℕ → List Mark → ℕ → ℕ → ℕ → Option CodeKind
if_fault f locals number marks x first second = first_of (
    unless (is_local locals x && is_block f first && is_block f second) fault.NoSuchEntry
    ∷ unless (nat_lt number first && nat_lt number second) fault.Backward
    ∷ operand_fault locals marks x kind.Flag
    ∷ jump_fault f (spend locals marks x) [] first
    ∷ jump_fault f (spend locals marks x) [] second ∷ [])

abbrev pub term_fault : Code → Func → List Local → ℕ → List Mark → Term → Option CodeKind
term_fault p f locals number marks (Ret x) = ret_fault f locals marks x
term_fault p f locals number marks (Tail func args) = tail_fault f locals marks (slice_get p.funcs func) args
term_fault p f locals number marks (Goto b) = goto_fault f number marks b
term_fault p f locals number marks (If x first second) = if_fault f locals number marks x first second
term_fault p f locals number marks (Case x arms) = case_fault f locals number marks x (data_type p.types (kind_at locals x)) arms

-- ---- blocks

-- each is at least `least`, and more than the one before it
abbrev pub ascends_from : ℕ → List ℕ → Bool
ascends_from least [] = true
ascends_from least (x ∷ xs) = nat_le least x && ascends_from (suc x) xs

-- the numbers from the first on that are below the second, in order
abbrev pub counts_from : ℕ → ℕ → List ℕ → Bool
counts_from from to [] = from == to
counts_from from to (x ∷ xs) = (x == from) && counts_from (suc from) to xs

-- the first block has the function's parameters
abbrev pub entry_fits : Func → ℕ → List ℕ → Bool
entry_fits f zero params = counts_from 0 (length f.params) params
entry_fits f (suc number) params = true

abbrev pub block_header_fault : Func → List Local → ℕ → List ℕ → Option CodeKind
block_header_fault f locals number params = first_of (
    unless (list_all (is_local locals) params) fault.NoSuchEntry
    ∷ unless (ascends_from 0 params && entry_fits f number params) fault.Header ∷ [])

-- the lets from this place on
abbrev pub lets_fault : Code → List Local → ℕ → ℕ → ℕ → List Mark → List Let → Option CodeFault
lets_fault p locals func number place marks [] = None
lets_fault p locals func number place marks (l ∷ ls) = option_or
    (at_place func number place (let_fault p locals marks l))
    (lets_fault p locals func number (suc place) (after_let p locals marks l) ls)

-- at a block's beginning its parameters are bound
abbrev pub at_start : List Local → Block → List Mark
at_start locals b = bind_all (unbound locals) b.params

abbrev pub block_fault : Code → Func → List Local → ℕ → ℕ → Block → Option CodeFault
block_fault p f locals func number b = first_of (
    at_place func number 0 (block_header_fault f locals number b.params)
    ∷ lets_fault p locals func number 1 (at_start locals b) b.lets
    ∷ at_place func number (suc (length b.lets)) (term_fault p f locals number (after_lets p locals (at_start locals b) b.lets) b.term) ∷ [])

-- the blocks from this number on
abbrev pub blocks_fault : Code → Func → List Local → ℕ → ℕ → List Block → Option CodeFault
blocks_fault p f locals func number [] = None
blocks_fault p f locals func number (b ∷ bs) = option_or (block_fault p f locals func number b) (blocks_fault p f locals func (suc number) bs)

-- ---- functions, types and programs

-- a parameter that is lent is marked, and then the result has no cells
abbrev pub param_lends : List DataType → Func → ℕ → Bool
param_lends types f x = not (is_lent_at (locals_of types f) x) || (is_marked f x && not (is_heap types f.result))

-- the parameters from this one on, of these kinds
abbrev pub lends_from : List DataType → Func → ℕ → List Kind → Bool
lends_from types f x [] = true
lends_from types f x (q ∷ qs) = param_lends types f x && lends_from types f (suc x) qs

abbrev pub lends_rightly : List DataType → Func → Bool
lends_rightly types f = lends_from types f 0 f.params

-- a function's name must be new
abbrev pub header_fault : List DataType → Bool → Func → Option CodeKind
header_fault types new f = first_of (
    unless new fault.Name
    ∷ unless (list_all (is_known types) f.params && is_known types f.result && list_all (is_known types) f.locals) fault.NoSuchEntry
    ∷ unless (lends_rightly types f) fault.Lent ∷ [])

abbrev pub function_fault : Code → ℕ → Bool → Func → Option CodeFault
function_fault p func new f = first_of (
    at_place func 0 0 (header_fault p.types new f)
    ∷ blocks_fault p f (locals_of p.types f) func 0 f.blocks ∷ [])

-- the functions from this number on, after those of these names
abbrev pub functions_fault : Code → ℕ → List (List ℕ) → List Func → Option CodeFault
functions_fault p func earlier [] = None
functions_fault p func earlier (f ∷ fs) = option_or
    (function_fault p func (not (stands earlier f.name)) f)
    (functions_fault p (suc func) (earlier ++ f.name ∷ []) fs)

abbrev pub constructor_fault : List DataType → Bool → Constructor → Option CodeKind
constructor_fault types new c = first_of (
    unless new fault.Name
    ∷ unless (list_all (is_known types) c.fields) fault.NoSuchEntry ∷ [])

-- the constructors of a type, after those of these names
abbrev pub constructors_fault : List DataType → List (List ℕ) → List Constructor → Option CodeKind
constructors_fault types earlier [] = None
constructors_fault types earlier (c ∷ cs) = option_or
    (constructor_fault types (not (stands earlier c.name)) c)
    (constructors_fault types (earlier ++ c.name ∷ []) cs)

-- a type's name must be new, and then those of its constructors
abbrev pub type_fault : List DataType → Bool → List (List ℕ) → DataType → Option CodeKind
type_fault types new cons t = first_of (
    unless new fault.Name
    ∷ constructors_fault types cons t.cons ∷ [])

-- the types, after types and constructors of these names
abbrev pub types_fault : List DataType → List (List ℕ) → List (List ℕ) → List DataType → Option CodeKind
types_fault types earlier cons [] = None
types_fault types earlier cons (t ∷ ts) = option_or
    (type_fault types (not (stands earlier t.name)) cons t)
    (types_fault types (earlier ++ t.name ∷ []) (cons ++ map (λ c. c.name) t.cons) ts)

-- a fault of the types has the number of functions in place of a function
abbrev pub table_fault : Code → Option CodeFault
table_fault p = at_place (length p.funcs) 0 0 (types_fault p.types [] [] p.types)

-- the types, and then the functions
abbrev pub first_fault : Code → Option CodeFault
first_fault p = option_or (table_fault p) (functions_fault p 0 [] p.funcs)
