-- Cited by contracts.
-- The check of code as a walk: lists of checks in their order, each with the kind of its fault, over the words of
-- well-formed code and the states of locals. The fault is the first check that fails. Types come first, then function
-- by function its header, and then its blocks, each with its header, its lets and its end; all blocks are walked, also
-- those that no jump leads to.
--
-- At a let and at the end of a block the checks come in this order:
-- 1. What is named is there.
-- 2. Jumps go forward.
-- 3. Numbers of arguments, arms and fields are right; a case on what is no data type is of the wrong kind here.
-- 4. Each operand in turn is bound, unspent, not lent where it isn't only read, and of its kind. Behind them each
--    argument that is only read is still unspent.
-- 5. A value that is lent is only looked at, and another one isn't.
-- 6. Constructors are built or matched inline exactly where they are inline.
-- 7. What is bound has its kind; an arm binds distinct locals; what is bound isn't lent.
-- 8. Each jump in turn finds the parameters of its target bound and unspent.
-- What speaks of arms goes over all of them before the next check.
use Rattle.std.specs.Prelude.{◌≡◌, ℕ, suc, ◌<◌, Bool, false, List, [], ◌∷◌, ◌++◌, ◌||◌, true, length, map, slice_get, Option, Some, None, IsTrue, ◌⊎◌}
use Rattle.std.specs.List.{AllByRecursion, range_with_len}
use Rattle.std.specs.Option.{option_map}
use Rattle.camelot_values.specs.Value.{IsInt32}
use Rattle.camelot_values.specs.Kinds.{Constructor, DataType, constructor, type_of}
use Rattle.camelot_values.specs.Names.{stands}
use Rattle.camelot_values.specs.Heap.{is_heap}
use Rattle.camelot_values.specs.declared.kinds.Kind.{Kind}
use Rattle.camelot_values.specs.declared.kinds.Kind.TheVariants as kind
use Rattle.grail_blocks.specs.declared.blocks.Place.{Place}
use Rattle.grail_blocks.specs.declared.blocks.Place.TheVariants as place
use Rattle.grail_blocks.specs.declared.blocks.CaseCell.{CaseCell}
use Rattle.grail_blocks.specs.declared.blocks.CaseCell.TheVariants as cell
use Rattle.grail_blocks.specs.States.{State, Unbound, Spent, use_of, after, at_start, after_let}
use Rattle.grail_code.specs.Code.{Op, Lit, Flag, Copy, Prim, Make, Call, Let, CaseArm, Term, Ret, Tail, Goto, If, Case, Block, Func, Code}
use Rattle.grail_code.specs.WellFormed.{IsKnownKind, local_kinds, kind_of, HaveKinds, is_owned, is_lent, AreNotLent, is_marked, bound_anew, reads_of, operator_kind, data_type, Ascend, AreDistinct, Use, Bind, taken_by, read_by, operands_of, kept_diamond, bound_by, params_at}
use Rattle.grail_check.specs.Marked.{first_mark, later_marks, is_look}
use Rattle.grail_check.specs.declared.fault.CodeKind.{CodeKind}
use Rattle.grail_check.specs.declared.fault.CodeKind.TheVariants as fault
use Rattle.grail_check.specs.declared.fault.CodeFault.{CodeFault}

-- ---- checks in a row

pub data Checks : Type 1 where
  NoMore : Checks
  -- this holds, or else this is the fault
  Must : (holds : Type 0) (fault : CodeKind) → Checks → Checks

abbrev pub Pass : Checks → Type 0
Pass NoMore = Unit {0}
Pass (Must holds fault rest) = holds × Pass rest

-- the first check that fails has this kind
abbrev pub Fails : Checks → CodeKind → Type 0
Fails NoMore k = ⊥
Fails (Must holds fault rest) k = ((holds → ⊥) × (fault ≡ k)) ⊎ (holds × Fails rest k)

-- checks of what is there, or else this fault
abbrev pub of_entry : {A : Type 0} → Option A → CodeKind → (A → Checks) → Checks
of_entry None k next = Must ⊥ k NoMore
of_entry (Some a) k next = next a

-- ---- locals and operands

abbrev pub IsThere : Func → ℕ → Type 0
IsThere f x = x < length (local_kinds f)

abbrev pub AreThere : Func → List ℕ → Type 0
AreThere f xs = AllByRecursion (IsThere f) xs

-- a use finds its local bound and unspent
abbrev pub use_checks : State → ℕ → Checks → Checks
use_checks s x rest = Must (s x ≡ Unbound → ⊥) fault.Unbound (Must (s x ≡ Spent → ⊥) fault.Spent rest)

abbrev pub own_check : List DataType → Func → ℕ → Checks → Checks
own_check types f x rest = Must (is_lent types f x ≡ false) fault.Lent rest

-- an operand that is taken isn't lent
abbrev pub operand_checks : List DataType → Func → State → ℕ → Kind → Checks → Checks
operand_checks types f s x q rest = use_checks s x (own_check types f x (Must (kind_of f x ≡ Some q) fault.Kind rest))

-- an argument that is only read may be lent
abbrev pub read_checks : Func → State → ℕ → Kind → Checks → Checks
read_checks f s x q rest = use_checks s x (Must (kind_of f x ≡ Some q) fault.Kind rest)

abbrev pub argument_checks : Bool → List DataType → Func → State → ℕ → Kind → Checks → Checks
argument_checks true types f s x q rest = read_checks f s x q rest
argument_checks false types f s x q rest = operand_checks types f s x q rest

-- one that is owned is then spent, if it is taken
abbrev pub behind_argument : Bool → List DataType → Func → State → ℕ → State
behind_argument true types f s x = s
behind_argument false types f s x = use_of (is_owned types f) s x

-- one after the other, by the marks of the parameters: where they end, all further ones are taken
abbrev pub operands_checks : List DataType → Func → State → List Bool → List ℕ → List Kind → Checks → Checks
operands_checks types f s marks (x ∷ xs) (q ∷ qs) rest =
    argument_checks (first_mark marks) types f s x q (operands_checks types f (behind_argument (first_mark marks) types f s x) (later_marks marks) xs qs rest)
operands_checks types f s marks xs qs rest = rest

-- behind them all, each that is only read is looked at again
abbrev pub again_checks : State → List ℕ → Checks → Checks
again_checks s [] rest = rest
again_checks s (x ∷ xs) rest = use_checks s x (again_checks s xs rest)

-- as many operands as are needed, and then each of them
abbrev pub arguments_checks : List DataType → Func → State → List Bool → List ℕ → List Kind → Checks → Checks
arguments_checks types f s marks xs qs rest = Must (length xs ≡ length qs) fault.Arms
    (operands_checks types f s marks xs qs (again_checks (after (is_owned types f) s (map Use (taken_by marks xs))) (read_by marks xs) rest))

-- ---- lets

-- the diamond that a build takes
abbrev pub taken_checks : List DataType → Func → State → Place → Checks → Checks
taken_checks types f s (place.Reuse d) rest = operand_checks types f s d kind.Dia rest
taken_checks types f s place.Inline rest = rest
taken_checks types f s place.New rest = rest

-- built as Inline exactly where the constructor is inline
abbrev pub IsPlaceOf : Bool → Place → Type 0
IsPlaceOf inline place.Inline = IsTrue inline
IsPlaceOf inline place.New = inline ≡ false
IsPlaceOf inline (place.Reuse d) = inline ≡ false

-- the local that is bound has the kind of what comes out, and isn't lent
abbrev pub target_check : List DataType → Func → ℕ → Option Kind → Checks
target_check types f x o = Must ((q : Kind) × (kind_of f x ≡ Some q) × (o ≡ Some q)) fault.Kind (own_check types f x NoMore)

abbrev pub op_checks : Code → Func → State → ℕ → Op → Checks
op_checks p f s x (Lit z) = Must (IsInt32 z) fault.Kind (target_check p.types f x (Some kind.Int))
op_checks p f s x (Flag b) = target_check p.types f x (Some kind.Flag)
op_checks p f s x (Copy y) = use_checks s y (own_check p.types f y (target_check p.types f x (kind_of f y)))
op_checks p f s x (Prim op left right) =
    operand_checks p.types f s left kind.Int (operand_checks p.types f (use_of (is_owned p.types f) s left) right kind.Int (target_check p.types f x (Some (operator_kind op))))
op_checks p f s x (Make con args at) = of_entry (constructor p.types con) fault.NoSuchEntry
    (λ c. arguments_checks p.types f s [] args c.fields (taken_checks p.types f (after (is_owned p.types f) s (map Use args)) at
    (Must (IsPlaceOf c.inline at) fault.Place (target_check p.types f x (option_map kind.Of (type_of p.types con))))))
op_checks p f s x (Call func args) = of_entry (slice_get p.funcs func) fault.NoSuchEntry
    (λ callee. arguments_checks p.types f s callee.reads args callee.params (target_check p.types f x (Some callee.result)))

abbrev pub let_checks : Code → Func → State → Let → Checks
let_checks p f s l = Must (AreThere f (l.target ∷ operands_of l.op)) fault.NoSuchEntry (op_checks p f s l.target l.op)

-- ---- the end of a block

abbrev pub IsBlock : Func → ℕ → Type 0
IsBlock f b = b < length f.blocks

-- A jump uses the parameters of its target. It ends the way, so that nothing asks behind it what it spends.
abbrev pub jump_checks : State → List ℕ → Checks → Checks
jump_checks s [] rest = rest
jump_checks s (x ∷ xs) rest = use_checks s x (jump_checks s xs rest)

-- what an arm names is there
abbrev pub ArmIsThere : Func → CaseArm → Type 0
ArmIsThere f a = AreThere f a.fields × AreThere f (kept_diamond a.cell) × IsBlock f a.target

-- an arm for each constructor, and a local for each field
abbrev pub FieldsCount : List CaseArm → List Constructor → Type 0
FieldsCount (a ∷ arms) (c ∷ cs) = (length a.fields ≡ length c.fields) × FieldsCount arms cs
FieldsCount arms cs = Unit {0}

abbrev pub ArmsCount : List CaseArm → List Constructor → Type 0
ArmsCount arms cs = (length arms ≡ length cs) × FieldsCount arms cs

-- a value that is lent is only looked at, in the arm of each constructor that has a cell; another one in no arm
abbrev pub LooksWhere : (lent inline : Bool) → CaseCell → Type 0
LooksWhere true inline c = (inline || is_look c) ≡ true
LooksWhere false inline c = is_look c ≡ false

abbrev pub LookWhere : Bool → List CaseArm → List Constructor → Type 0
LookWhere lent (a ∷ arms) (c ∷ cs) = LooksWhere lent c.inline a.cell × LookWhere lent arms cs
LookWhere lent arms cs = Unit {0}

-- matched as Inline exactly where the constructor is inline
abbrev pub IsCellOf : Bool → CaseCell → Type 0
IsCellOf inline cell.Inline = IsTrue inline
IsCellOf inline cell.Free = inline ≡ false
IsCellOf inline cell.Look = inline ≡ false
IsCellOf inline (cell.Keep d) = inline ≡ false

abbrev pub AreCellsOf : List CaseArm → List Constructor → Type 0
AreCellsOf (a ∷ arms) (c ∷ cs) = IsCellOf c.inline a.cell × AreCellsOf arms cs
AreCellsOf arms cs = Unit {0}

-- what arms bind has the kinds of the fields, and a kept cell's local that of a diamond
abbrev pub KeepsDiamond : Func → CaseCell → Type 0
KeepsDiamond f (cell.Keep d) = kind_of f d ≡ Some kind.Dia
KeepsDiamond f cell.Inline = Unit {0}
KeepsDiamond f cell.Free = Unit {0}
KeepsDiamond f cell.Look = Unit {0}

abbrev pub ArmsBindKinds : Func → List CaseArm → List Constructor → Type 0
ArmsBindKinds f (a ∷ arms) (c ∷ cs) = (HaveKinds f a.fields c.fields × KeepsDiamond f a.cell) × ArmsBindKinds f arms cs
ArmsBindKinds f arms cs = Unit {0}

-- the jump of each arm, behind what the arm binds
abbrev pub arms_jump_checks : List DataType → Func → State → List CaseArm → Checks
arms_jump_checks types f s [] = NoMore
arms_jump_checks types f s (a ∷ arms) = jump_checks (after (is_owned types f) s (map Bind (bound_by a))) (params_at f.blocks a.target) (arms_jump_checks types f s arms)

-- The arms of a case on a local of this type. What they bind isn't lent, but for the fields of a cell that stays as it
-- is.
abbrev pub arms_checks : List DataType → Func → State → ℕ → List CaseArm → DataType → Checks
arms_checks types f s x arms t =
    Must (ArmsCount arms t.cons) fault.Arms
    (use_checks s x
    (Must (LookWhere (is_lent types f x) arms t.cons) fault.Lent
    (Must (AreCellsOf arms t.cons) fault.Place
    (Must (ArmsBindKinds f arms t.cons) fault.Kind
    (Must (AllByRecursion (λ a. AreDistinct (bound_by a)) arms) fault.Header
    (Must (AllByRecursion (λ a. AreNotLent types f (bound_anew a.cell (bound_by a))) arms) fault.Lent
    (arms_jump_checks types f (use_of (is_owned types f) s x) arms)))))))

abbrev pub term_checks : Code → Func → ℕ → State → Term → Checks
term_checks p f number s (Ret x) = Must (IsThere f x) fault.NoSuchEntry (operand_checks p.types f s x f.result NoMore)
term_checks p f number s (Tail func args) = Must (AreThere f args) fault.NoSuchEntry (of_entry (slice_get p.funcs func) fault.NoSuchEntry
    (λ callee. arguments_checks p.types f s callee.reads args callee.params (Must (callee.result ≡ f.result) fault.Kind NoMore)))
term_checks p f number s (Goto b) = Must (IsBlock f b) fault.NoSuchEntry (Must (number < b) fault.Backward (jump_checks s (params_at f.blocks b) NoMore))
term_checks p f number s (If x first second) =
    Must (IsThere f x × IsBlock f first × IsBlock f second) fault.NoSuchEntry
    (Must ((number < first) × (number < second)) fault.Backward
    (operand_checks p.types f s x kind.Flag
    (jump_checks (use_of (is_owned p.types f) s x) (params_at f.blocks first) (jump_checks (use_of (is_owned p.types f) s x) (params_at f.blocks second) NoMore))))
term_checks p f number s (Case x arms) =
    Must (IsThere f x × AllByRecursion (ArmIsThere f) arms) fault.NoSuchEntry
    (Must (AllByRecursion (λ a. number < a.target) arms) fault.Backward
    (of_entry (data_type p.types (kind_of f x)) fault.Kind (arms_checks p.types f s x arms)))

-- ---- headers, types

-- the first block has the function's parameters
abbrev pub header_checks : Func → ℕ → List ℕ → Checks
header_checks f number params =
    Must (AreThere f params) fault.NoSuchEntry
    (Must (Ascend params × (number ≡ 0 → params ≡ range_with_len 0 (length f.params))) fault.Header NoMore)

-- a parameter that is lent is marked, and then the result has no cells
abbrev pub LendsRightly : List DataType → Func → Type 0
LendsRightly types f = (x : ℕ) → x < length f.params → is_lent types f x ≡ true → (is_marked f x ≡ true) × (is_heap types f.result ≡ false)

-- a function's name is new, after those of these names
abbrev pub func_checks : List DataType → List (List ℕ) → Func → Checks
func_checks types earlier f =
    Must (stands earlier f.name ≡ false) fault.Name
    (Must (AllByRecursion (IsKnownKind types) f.params × IsKnownKind types f.result × AllByRecursion (IsKnownKind types) f.locals) fault.NoSuchEntry
    (Must (LendsRightly types f) fault.Lent NoMore))

-- the constructors of a type, and then the rest
abbrev pub cons_checks : List DataType → List (List ℕ) → List Constructor → Checks → Checks
cons_checks types earlier [] rest = rest
cons_checks types earlier (c ∷ cs) rest =
    Must (stands earlier c.name ≡ false) fault.Name
    (Must (AllByRecursion (IsKnownKind types) c.fields) fault.NoSuchEntry (cons_checks types (earlier ++ c.name ∷ []) cs rest))

-- the types, after types and constructors of these names
abbrev pub types_checks : List DataType → List (List ℕ) → List (List ℕ) → List DataType → Checks
types_checks types earlier cons [] = NoMore
types_checks types earlier cons (t ∷ ts) =
    Must (stands earlier t.name ≡ false) fault.Name
    (cons_checks types cons t.cons (types_checks types (earlier ++ t.name ∷ []) (cons ++ map (λ c. c.name) t.cons) ts))

-- ---- the walk

pub data Walk : Type 1 where
  Finished : Walk
  -- the checks at a place, which is a function, a block, and 0 for its header, the number of a let counted from 1, or
  -- the next number for the end; and then the rest
  At : (func block place : ℕ) → Checks → Walk → Walk

abbrev pub AllPass : Walk → Type 0
AllPass Finished = Unit {0}
AllPass (At func block place checks rest) = Pass checks × AllPass rest

-- the first check that fails is of this kind, at this place
abbrev pub FirstFault : Walk → CodeFault → Type 0
FirstFault Finished e = ⊥
FirstFault (At func block place checks rest) e = (Fails checks e.kind × (e ≡ record { func = func; block = block; place = place; kind = e.kind })) ⊎ (Pass checks × FirstFault rest e)

-- the lets from this place on, and then what comes in the state behind them
abbrev pub lets_walk : Code → Func → (func number place : ℕ) → State → List Let → (State → Walk) → Walk
lets_walk p f func number place s [] next = next s
lets_walk p f func number place s (l ∷ ls) next = At func number place (let_checks p f s l) (lets_walk p f func number (suc place) (after_let (reads_of p) (is_owned p.types f) s l) ls next)

abbrev pub block_walk : Code → Func → (func number : ℕ) → Block → Walk → Walk
block_walk p f func number b rest =
    At func number 0 (header_checks f number b.params)
    (lets_walk p f func number 1 (at_start (is_owned p.types f) b) b.lets (λ s. At func number (suc (length b.lets)) (term_checks p f number s b.term) rest))

-- the blocks from this number on
abbrev pub blocks_walk : Code → Func → (func number : ℕ) → List Block → Walk → Walk
blocks_walk p f func number [] rest = rest
blocks_walk p f func number (b ∷ bs) rest = block_walk p f func number b (blocks_walk p f func (suc number) bs rest)

-- the functions from this number on, after those of these names
abbrev pub funcs_walk : Code → ℕ → List (List ℕ) → List Func → Walk
funcs_walk p func earlier [] = Finished
funcs_walk p func earlier (f ∷ fs) =
    At func 0 0 (func_checks p.types earlier f)
    (blocks_walk p f func 0 f.blocks (funcs_walk p (suc func) (earlier ++ f.name ∷ []) fs))

-- the types, which have the number of functions in place of a function, and then the functions
unfoldable pub walk : Code → Walk
walk p = At (length p.funcs) 0 0 (types_checks p.types [] [] p.types) (funcs_walk p 0 [] p.funcs)
