-- Cited by contracts.
-- The normal form of a program: lets over locals, in basic blocks that jump forward (after the A-normal form of
-- Flanagan, Sabry, Duba and Felleisen 1993). An expression becomes lines, each a let or the end of a block, and blocks
-- are these lines, cut behind each end. Locals are numbered as they are made, after the parameters; blocks in the order
-- in which they are begun, which is that in which they are written. How many locals and blocks come from an expression
-- is known beforehand, so that a jump names its target at once. The code writes blocks, with those of a branch before
-- the end that leads to it, and refuses a function that has too many.
use Rattle.std.specs.Prelude.{ℕ, suc, ◌+◌, if◌then◌else◌, Bool, List, [], ◌∷◌, ◌++◌, length, Option, Some, None}
use Rattle.camelot_values.specs.Kinds.{DataType, type_of}
use Rattle.camelot_values.specs.Names.{find}
use Rattle.camelot_values.specs.Typing.{operator_kind}
use Rattle.camelot_values.specs.declared.kinds.Kind.{Kind}
use Rattle.camelot_values.specs.declared.kinds.Kind.TheVariants as kind
use Rattle.camelot_tree.specs.declared.tree.Name.{Name}
use Rattle.camelot_tree.specs.declared.tree.ArmCell.{ArmCell}
use Rattle.camelot_tree.specs.declared.tree.ArmCell.TheVariants as cell
use Rattle.camelot_tree.specs.Tree.{Expression, Num, Truth, Var, Prim, If, Let, Match, Build, Call, Expressions, NoExpressions, AndExpression, Arms, NoArms, AndArm, Branch, Function, Source}
use Rattle.camelot_tree.specs.Meaning.{constructor_number, function_number, is_that}
use Rattle.camelot_typing.specs.Kinds.{Scope, bind, or_else, types_of, fields_of, is_inline, numbered, numbers_of, arm_scope, atom_of}
use Rattle.camelot_typing.specs.Typing.{Signature, known_kind, params_scope, globals_of}
use Rattle.camelot_typing.specs.Typed.{Typing}
use Rattle.linear_use.specs.Uses.{lent_params}
use Rattle.grail_blocks.specs.declared.blocks.Place.{Place}
use Rattle.grail_blocks.specs.declared.blocks.Place.TheVariants as place
use Rattle.grail_blocks.specs.declared.blocks.CaseCell.{CaseCell}
use Rattle.grail_blocks.specs.declared.blocks.CaseCell.TheVariants as case_cell
use Rattle.grail_blocks.specs.Blocks as block
use Rattle.grail_blocks.specs.Blocks.{Op, CaseArm, Term}

-- ---- programs in normal form

-- a basic block: its lets in order, and its end. It has no parameters: a jump hands on every local that is bound.
pub record NormalBlock : Type 0 where
  pub lets : List block.Let
  pub term : Term

-- A function: its parameters are the locals from 0 on, with a mark for each that is only read, and `locals` has the
-- kinds of the further ones.
pub record NormalFunction : Type 0 where
  pub name : List ℕ
  pub params : List Kind
  pub reads : List Bool
  pub result : Kind
  pub locals : List Kind
  pub blocks : List NormalBlock

pub record NormalProgram : Type 0 where
  pub types : List DataType
  pub functions : List NormalFunction

-- ---- lines

-- a let, or the end of the block, behind which the next one is begun
pub data Line : Type 0 where
  Bind : block.Let → Line
  Close : Term → Line

-- a let in front of the first block; where no block is ended, there is none
abbrev pub in_first : block.Let → List NormalBlock → List NormalBlock
in_first l [] = []
in_first l (b ∷ bs) = record { lets = l ∷ b.lets; term = b.term } ∷ bs

-- lines, cut into blocks behind each end
abbrev pub cut : List Line → List NormalBlock
cut [] = []
cut (Bind l ∷ lines) = in_first l (cut lines)
cut (Close t ∷ lines) = record { lets = []; term = t } ∷ cut lines

-- a new local
abbrev pub new : ℕ → Op → Line
new x op = Bind (record { target = x; op = op })

-- ---- names

abbrev pub con_of : Source → Name → ℕ
con_of p c = or_else (constructor_number p c) 0

abbrev pub fun_of : Source → Name → ℕ
fun_of p f = or_else (function_number p f) 0

-- the local of a name in scope
abbrev pub local : Scope ℕ → Name → ℕ
local s n = or_else (find s n.word) 0

-- where a constructor is built
abbrev pub place_in : Source → ℕ → Option Name → Scope ℕ → Place
place_in p con None s = if is_inline (types_of p) con then place.Inline else place.New
place_in p con (Some d) s = place.Reuse (local s d)

-- ---- arms

-- the constructors of a match, in their order: those of the type of the first arm's
abbrev pub cons_of : Source → Arms → List ℕ
cons_of p NoArms = []
cons_of p (AndArm c fs x b as') = numbers_of (types_of p) (or_else (type_of (types_of p) (con_of p c)) 0)

-- the arm of this constructor
abbrev pub arm_for : Source → Arms → ℕ → Option Branch
arm_for p NoArms con = None
arm_for p (AndArm c fs x b as') con = if is_that (constructor_number p c) con then Some (record { con = c; fields = fs; cell = x; body = b }) else arm_for p as' con

-- the locals that an arm makes at its beginning: one for each field, `_` included, then one for a named diamond
abbrev pub diamonds : ArmCell → ℕ
diamonds (cell.Keep d) = 1
diamonds x = 0

abbrev pub bound_count : List (Option Name) → ArmCell → ℕ
bound_count fs x = length fs + diamonds x

-- the same, where `next` is the first of these locals: the names that are in scope in the arm, and what its end of the
-- case says
abbrev pub with_fields : List (Option Name) → ℕ → Scope ℕ → Scope ℕ
with_fields [] next s = s
with_fields (None ∷ fs) next s = with_fields fs (suc next) s
with_fields (Some n ∷ fs) next s = with_fields fs (suc next) (bind n.word next s)

abbrev pub with_cell : ArmCell → ℕ → Scope ℕ → Scope ℕ
with_cell (cell.Keep d) next s = bind d.word next s
with_cell x next s = s

abbrev pub in_arm : List (Option Name) → ArmCell → ℕ → Scope ℕ → Scope ℕ
in_arm fs x next s = with_cell x (next + length fs) (with_fields fs next s)

-- an arm of a boxed constructor without an `@` only looks at the cell
abbrev pub cell_in : (inline : Bool) → ArmCell → ℕ → CaseCell
cell_in inline cell.Plain next = if inline then case_cell.Inline else case_cell.Look
cell_in inline cell.Free next = case_cell.Free
cell_in inline (cell.Keep d) next = case_cell.Keep next

abbrev pub case_arm : Source → Option Branch → ℕ → ℕ → CaseArm
case_arm p None next target = record { fields = []; cell = case_cell.Inline; target = target }
case_arm p (Some a) next target = record {
  fields = numbered next a.fields;
  cell = cell_in (is_inline (types_of p) (con_of p a.con)) a.cell (next + length a.fields);
  target = target;
}

-- the sum over these constructors
abbrev pub total : (ℕ → ℕ) → List ℕ → ℕ
total count [] = 0
total count (con ∷ cons) = count con + total count cons

-- A part for each of these constructors in turn, from its first local and its first block on; each makes so many locals
-- and ends so many blocks.
abbrev pub in_turn : {A : Type 0} → (locals blocks : ℕ → ℕ) → (ℕ → ℕ → ℕ → List A) → List ℕ → ℕ → ℕ → List A
in_turn locals blocks part [] next first = []
in_turn locals blocks part (con ∷ cons) next first = part con next first ++ in_turn locals blocks part cons (next + locals con) (first + blocks con)

-- the arms of a case
abbrev pub case_arms : Source → Arms → (locals blocks : ℕ → ℕ) → ℕ → ℕ → List CaseArm
case_arms p as' locals blocks next first = in_turn locals blocks (λ con next first. case_arm p (arm_for p as' con) next first ∷ []) (cons_of p as') next first

-- ---- values

-- the number of locals that an expression makes where its value is wanted
abbrev mutual
  pub made : Source → Expression → ℕ
  made p (Var n) = 0
  made p (Num z l) = 1
  made p (Truth b l) = 1
  made p (Prim op a b l) = suc (made p a + made p b)
  made p (Build c es place) = suc (all_made p es)
  made p (Call f es) = suc (all_made p es)
  made p (Let n a b) = made p a + made p b
  made p (If c a b l) = suc (made p c + (made p a + made p b))
  made p (Match e as' l) = suc (made p e + total (arm_made p as') (cons_of p as'))

  pub all_made : Source → Expressions → ℕ
  all_made p NoExpressions = 0
  all_made p (AndExpression e es) = made p e + all_made p es

  -- with those that the arm of this constructor makes at its beginning
  pub arm_made : Source → Arms → ℕ → ℕ
  arm_made p NoArms con = 0
  arm_made p (AndArm c fs x b as') con = if is_that (constructor_number p c) con then bound_count fs x + made p b else arm_made p as' con

-- the number of blocks that are ended in it
abbrev mutual
  pub ends : Source → Expression → ℕ
  ends p (Var n) = 0
  ends p (Num z l) = 0
  ends p (Truth b l) = 0
  ends p (Prim op a b l) = ends p a + ends p b
  ends p (Build c es place) = all_ends p es
  ends p (Call f es) = all_ends p es
  ends p (Let n a b) = ends p a + ends p b
  ends p (If c a b l) = suc (ends p c + (suc (ends p a) + suc (ends p b)))
  ends p (Match e as' l) = suc (ends p e + total (arm_ends p as') (cons_of p as'))

  pub all_ends : Source → Expressions → ℕ
  all_ends p NoExpressions = 0
  all_ends p (AndExpression e es) = ends p e + all_ends p es

  pub arm_ends : Source → Arms → ℕ → ℕ
  arm_ends p NoArms con = 0
  arm_ends p (AndArm c fs x b as') con = if is_that (constructor_number p c) con then suc (ends p b) else arm_ends p as' con

-- the local that has its value, where `next` is the first local that isn't made
abbrev pub local_of : Source → Expression → Scope ℕ → ℕ → ℕ
local_of p (Var n) s next = local s n
local_of p (Num z l) s next = next
local_of p (Truth b l) s next = next
local_of p (Prim op a b l) s next = next + (made p a + made p b)
local_of p (Build c es place) s next = next + all_made p es
local_of p (Call f es) s next = next + all_made p es
local_of p (Let n a b) s next = local_of p b (bind n.word (local_of p a s next) s) (next + made p a)
local_of p (If c a b l) s next = next + made p c
local_of p (Match e as' l) s next = next + made p e

abbrev pub locals_of : Source → Expressions → Scope ℕ → ℕ → List ℕ
locals_of p NoExpressions s next = []
locals_of p (AndExpression e es) s next = local_of p e s next ∷ locals_of p es s (next + made p e)

-- a branch: what is found there is copied to a local, and the joining block goes on with it
abbrev pub joining : List Line → (from to target : ℕ) → List Line
joining lines from to target = lines ++ (new to (block.Copy from) ∷ Close (block.Goto target) ∷ [])

-- The lines that give an expression's value, in a block of this number at first.
abbrev mutual
  pub value : Source → Expression → Scope ℕ → (next number : ℕ) → List Line
  value p (Var n) s next number = []
  value p (Num z l) s next number = new next (block.Lit z) ∷ []
  value p (Truth b l) s next number = new next (block.Flag b) ∷ []
  value p (Prim op a b l) s next number =
      value p a s next number
      ++ (value p b s (next + made p a) (number + ends p a)
      ++ (new (next + (made p a + made p b)) (block.Prim op (local_of p a s next) (local_of p b s (next + made p a))) ∷ []))
  value p (Build c es place) s next number =
      values p es s next number ++ (new (next + all_made p es) (block.Make (con_of p c) (locals_of p es s next) (place_in p (con_of p c) place s)) ∷ [])
  value p (Call f es) s next number = values p es s next number ++ (new (next + all_made p es) (block.Call (fun_of p f) (locals_of p es s next)) ∷ [])
  value p (Let n a b) s next number = value p a s next number ++ value p b (bind n.word (local_of p a s next) s) (next + made p a) (number + ends p a)
  value p (If c a b l) s next number =
      let result = next + made p c in
      let yes = suc (number + ends p c) in
      let no = yes + suc (ends p a) in
      let join = no + suc (ends p b) in
      value p c s next number
      ++ (Close (block.If (local_of p c s next) yes no)
      ∷ (joining (value p a s (suc result) yes) (local_of p a s (suc result)) result join
      ++ joining (value p b s (suc result + made p a) no) (local_of p b s (suc result + made p a)) result join))
  value p (Match e as' l) s next number =
      let result = next + made p e in
      let first = suc (number + ends p e) in
      let join = first + total (arm_ends p as') (cons_of p as') in
      value p e s next number
      ++ (Close (block.Case (local_of p e s next) (case_arms p as' (arm_made p as') (arm_ends p as') (suc result) first))
      ∷ in_turn (arm_made p as') (arm_ends p as') (λ con next number. arm_value p as' con s next number result join) (cons_of p as') (suc result) first)

  -- operands and arguments, from left to right
  pub values : Source → Expressions → Scope ℕ → (next number : ℕ) → List Line
  values p NoExpressions s next number = []
  values p (AndExpression e es) s next number = value p e s next number ++ values p es s (next + made p e) (number + ends p e)

  -- the arm of this constructor
  pub arm_value : Source → Arms → (con : ℕ) → Scope ℕ → (next number result join : ℕ) → List Line
  arm_value p NoArms con s next number result join = []
  arm_value p (AndArm c fs x b as') con s next number result join = if is_that (constructor_number p c) con
      then joining (value p b (in_arm fs x next s) (next + bound_count fs x) number) (local_of p b (in_arm fs x next s) (next + bound_count fs x)) result join
      else arm_value p as' con s next number result join

-- ---- tails

-- the number of locals that an expression makes where it ends the function
abbrev mutual
  pub tail_made : Source → Expression → ℕ
  tail_made p (Call f es) = all_made p es
  tail_made p (Let n a b) = made p a + tail_made p b
  tail_made p (If c a b l) = made p c + (tail_made p a + tail_made p b)
  tail_made p (Match e as' l) = made p e + total (arm_tail_made p as') (cons_of p as')
  tail_made p e = made p e

  pub arm_tail_made : Source → Arms → ℕ → ℕ
  arm_tail_made p NoArms con = 0
  arm_tail_made p (AndArm c fs x b as') con = if is_that (constructor_number p c) con then bound_count fs x + tail_made p b else arm_tail_made p as' con

-- and the number of blocks
abbrev mutual
  pub tail_ends : Source → Expression → ℕ
  tail_ends p (Call f es) = suc (all_ends p es)
  tail_ends p (Let n a b) = ends p a + tail_ends p b
  tail_ends p (If c a b l) = suc (ends p c + (tail_ends p a + tail_ends p b))
  tail_ends p (Match e as' l) = suc (ends p e + total (arm_tail_ends p as') (cons_of p as'))
  tail_ends p e = suc (ends p e)

  pub arm_tail_ends : Source → Arms → ℕ → ℕ
  arm_tail_ends p NoArms con = 0
  arm_tail_ends p (AndArm c fs x b as') con = if is_that (constructor_number p c) con then tail_ends p b else arm_tail_ends p as' con

-- The lines of an expression that ends the function: its last call takes the function's place, and branches don't join.
abbrev mutual
  pub tail : Source → Expression → Scope ℕ → (next number : ℕ) → List Line
  tail p (Call f es) s next number = values p es s next number ++ (Close (block.Tail (fun_of p f) (locals_of p es s next)) ∷ [])
  tail p (Let n a b) s next number = value p a s next number ++ tail p b (bind n.word (local_of p a s next) s) (next + made p a) (number + ends p a)
  tail p (If c a b l) s next number =
      let first = next + made p c in
      let yes = suc (number + ends p c) in
      let no = yes + tail_ends p a in
      value p c s next number
      ++ (Close (block.If (local_of p c s next) yes no)
      ∷ (tail p a s first yes ++ tail p b s (first + tail_made p a) no))
  tail p (Match e as' l) s next number =
      let first = suc (number + ends p e) in
      value p e s next number
      ++ (Close (block.Case (local_of p e s next) (case_arms p as' (arm_tail_made p as') (arm_tail_ends p as') (next + made p e) first))
      ∷ in_turn (arm_tail_made p as') (arm_tail_ends p as') (λ con next number. arm_tail p as' con s next number) (cons_of p as') (next + made p e) first)
  tail p e s next number = value p e s next number ++ (Close (block.Ret (local_of p e s next)) ∷ [])

  pub arm_tail : Source → Arms → (con : ℕ) → Scope ℕ → (next number : ℕ) → List Line
  arm_tail p NoArms con s next number = []
  arm_tail p (AndArm c fs x b as') con s next number = if is_that (constructor_number p c) con
      then tail p b (in_arm fs x next s) (next + bound_count fs x) number
      else arm_tail p as' con s next number

-- ---- the kinds of locals

-- what an arm makes at its beginning
abbrev pub diamond_kinds : ArmCell → List Kind
diamond_kinds (cell.Keep d) = kind.Dia ∷ []
diamond_kinds x = []

abbrev pub bound_kinds : Source → Name → ArmCell → List Kind
bound_kinds p c x = fields_of (types_of p) (con_of p c) ++ diamond_kinds x

-- that of the first of these constructors
abbrev pub of_first : (ℕ → Kind) → List ℕ → Kind
of_first kind_of [] = kind.Int
of_first kind_of (con ∷ cons) = kind_of con

-- The kind of an expression's value. The branches of a typed program are all of one kind, so that the first one gives
-- that of the whole.
abbrev mutual
  pub kind_in : Source → List Signature → Scope Kind → Expression → Kind
  kind_in p sigs s (Let n a b) = kind_in p sigs (bind n.word (kind_in p sigs s a) s) b
  kind_in p sigs s (If c a b l) = kind_in p sigs s a
  kind_in p sigs s (Match e as' l) = of_first (arm_kind p sigs s as') (cons_of p as')
  kind_in p sigs s e = atom_of known_kind (globals_of p sigs) s e

  pub arm_kind : Source → List Signature → Scope Kind → Arms → ℕ → Kind
  arm_kind p sigs s NoArms con = kind.Int
  arm_kind p sigs s (AndArm c fs x b as') con = if is_that (constructor_number p c) con
      then kind_in p sigs (arm_scope known_kind (types_of p) c fs x s) b
      else arm_kind p sigs s as' con

-- what these constructors' arms have, one after the other
abbrev pub all_of : (ℕ → List Kind) → List ℕ → List Kind
all_of kinds [] = []
all_of kinds (con ∷ cons) = kinds con ++ all_of kinds cons

-- the kinds of the locals that an expression makes where its value is wanted, in the order in which they are made
abbrev mutual
  pub kinds : Source → List Signature → Scope Kind → Expression → List Kind
  kinds p sigs s (Var n) = []
  kinds p sigs s (Num z l) = kind.Int ∷ []
  kinds p sigs s (Truth b l) = kind.Flag ∷ []
  kinds p sigs s (Prim op a b l) = kinds p sigs s a ++ (kinds p sigs s b ++ (operator_kind op ∷ []))
  kinds p sigs s (Build c es place) = all_kinds p sigs s es ++ (kind_in p sigs s (Build c es place) ∷ [])
  kinds p sigs s (Call f es) = all_kinds p sigs s es ++ (kind_in p sigs s (Call f es) ∷ [])
  kinds p sigs s (Let n a b) = kinds p sigs s a ++ kinds p sigs (bind n.word (kind_in p sigs s a) s) b
  kinds p sigs s (If c a b l) = kinds p sigs s c ++ (kind_in p sigs s (If c a b l) ∷ (kinds p sigs s a ++ kinds p sigs s b))
  kinds p sigs s (Match e as' l) = kinds p sigs s e ++ (kind_in p sigs s (Match e as' l) ∷ all_of (arm_kinds p sigs s as') (cons_of p as'))

  pub all_kinds : Source → List Signature → Scope Kind → Expressions → List Kind
  all_kinds p sigs s NoExpressions = []
  all_kinds p sigs s (AndExpression e es) = kinds p sigs s e ++ all_kinds p sigs s es

  pub arm_kinds : Source → List Signature → Scope Kind → Arms → ℕ → List Kind
  arm_kinds p sigs s NoArms con = []
  arm_kinds p sigs s (AndArm c fs x b as') con = if is_that (constructor_number p c) con
      then bound_kinds p c x ++ kinds p sigs (arm_scope known_kind (types_of p) c fs x s) b
      else arm_kinds p sigs s as' con

-- and where it ends the function
abbrev mutual
  pub tail_kinds : Source → List Signature → Scope Kind → Expression → List Kind
  tail_kinds p sigs s (Call f es) = all_kinds p sigs s es
  tail_kinds p sigs s (Let n a b) = kinds p sigs s a ++ tail_kinds p sigs (bind n.word (kind_in p sigs s a) s) b
  tail_kinds p sigs s (If c a b l) = kinds p sigs s c ++ (tail_kinds p sigs s a ++ tail_kinds p sigs s b)
  tail_kinds p sigs s (Match e as' l) = kinds p sigs s e ++ all_of (arm_tail_kinds p sigs s as') (cons_of p as')
  tail_kinds p sigs s e = kinds p sigs s e

  pub arm_tail_kinds : Source → List Signature → Scope Kind → Arms → ℕ → List Kind
  arm_tail_kinds p sigs s NoArms con = []
  arm_tail_kinds p sigs s (AndArm c fs x b as') con = if is_that (constructor_number p c) con
      then bound_kinds p c x ++ tail_kinds p sigs (arm_scope known_kind (types_of p) c fs x s) b
      else arm_tail_kinds p sigs s as' con

-- ---- functions and programs

-- a function whose parameters and result have these kinds
abbrev pub normal_function : Source → List Signature → Function → Signature → NormalFunction
normal_function p sigs f s = record {
  name = f.name.word;
  params = s.params;
  reads = lent_params (types_of p) f.params s.params;
  result = s.result;
  locals = tail_kinds p sigs (params_scope f.params s.params) f.body;
  blocks = cut (tail p f.body (params_scope f.params (numbered 0 f.params)) (length f.params) 0);
}

abbrev pub normal_functions : Source → List Signature → List Function → List Signature → List NormalFunction
normal_functions p sigs (f ∷ fs) (s ∷ ss) = normal_function p sigs f s ∷ normal_functions p sigs fs ss
normal_functions p sigs fs ss = []

-- the normal form of a program with the kinds of its functions
abbrev pub normal_form : Typing → NormalProgram
normal_form t = record { types = types_of t.source; functions = normal_functions t.source t.signatures t.source.funs t.signatures }
