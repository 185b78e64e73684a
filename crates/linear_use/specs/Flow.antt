-- Cited by contracts.
-- The check of uses as a walk in text order. An expression is a flow of uses and readings of heap variables: one after
-- the other, or one of two ways. Each variable that is bound gets a number of its own. A use or a reading of an owned
-- variable that some way up to it used before is a fault; what a call reads, it reads behind all of its arguments.
-- Other faults are an occurrence of a lent variable that isn't a reading, a match on one with an `@`, an arm of a boxed
-- constructor without `@` on anything else, and a lent parameter beside a result of a heap kind. The first fault in
-- text order is answered: a match stands where its scrutinee does, and a function where its name does.
use Rattle.std.specs.Prelude.{ℕ, suc, ◌+◌, ◌==◌, ◌||◌, ◌&&◌, Bool, true, false, if◌then◌else◌, List, [], ◌∷◌, ◌++◌, length, Option, Some, None}
use Rattle.std.specs.List.{list_any}
use Rattle.std.specs.Option.{option_map_or}
use Rattle.camelot_values.specs.Names.{find}
use Rattle.camelot_values.specs.Heap.{is_heap}
use Rattle.camelot_values.specs.Kinds.{DataType}
use Rattle.camelot_values.specs.declared.kinds.Kind.{Kind}
use Rattle.camelot_values.specs.declared.kinds.Kind.TheVariants as kind
use Rattle.camelot_tree.specs.declared.tree.Name.{Name}
use Rattle.camelot_tree.specs.declared.tree.Param.{Param}
use Rattle.camelot_tree.specs.declared.tree.ArmCell.{ArmCell}
use Rattle.camelot_tree.specs.declared.tree.ArmCell.TheVariants as cell
use Rattle.camelot_tree.specs.Tree.{Expression, Num, Truth, Var, Prim, If, Let, Match, Build, Call, Expressions, NoExpressions, AndExpression, Arms, NoArms, AndArm, Function, Source}
use Rattle.camelot_typing.specs.Kinds.{Globals, Scope, bind, or_else, constructor_number, fields_of, is_inline, atom_of}
use Rattle.camelot_typing.specs.Typing.{Signature, known_kind, globals_of}
use Rattle.camelot_tree.specs.Cells.{has_cell}
use Rattle.linear_use.specs.declared.variable.Variable.{Variable}
use Rattle.linear_use.specs.declared.fault.UseFault.{UseFault}
use Rattle.linear_use.specs.declared.fault.UseFault.TheVariants.{Twice, ReadMatch, Lent, ReadResult}
use Rattle.linear_use.specs.Uses.{Loans, lent_params, loans_of, some_lent, lends_field, is_read_here, reads_behind}

-- ---- flows

pub data Flow : Type 0 where
  Nothing : Flow
  -- the variable of this number, by its name in this line
  Use : (variable : ℕ) (name : List ℕ) (line : ℕ) → Flow
  -- the same, read by the call around it
  Read : (variable : ℕ) (name : List ℕ) (line : ℕ) → Flow
  Fault : UseFault → Flow
  After : Flow → Flow → Flow
  Either : Flow → Flow → Flow
  -- the arguments of a call, which reads behind them
  Calling : Flow → Flow

-- the variables that are used on some way, in an order that doesn't matter
abbrev pub used : Flow → List ℕ
used Nothing = []
used (Use x name line) = x ∷ []
used (Read x name line) = []
used (Fault fault) = []
used (After a b) = used a ++ used b
used (Either a b) = used b ++ used a
used (Calling a) = used a

-- the variable was used before
abbrev pub is_spent : ℕ → List ℕ → Bool
is_spent x spent = list_any (λ y. y == x) spent

-- the faults in text order, where these variables are spent already, and those are where the call around it reads
abbrev pub faults : (spent called : List ℕ) → Flow → List UseFault
faults spent called Nothing = []
faults spent called (Use x name line) = if is_spent x spent then Twice name line ∷ [] else []
faults spent called (Read x name line) = if is_spent x called then Twice name line ∷ [] else []
faults spent called (Fault fault) = fault ∷ []
faults spent called (After a b) = faults spent called a ++ faults (spent ++ used a) called b
faults spent called (Either a b) = faults spent called a ++ faults spent called b
faults spent called (Calling a) = faults spent (spent ++ used a) a

-- ---- expressions as flows

-- the kinds of the variables in scope
abbrev pub kinds_in : Scope Variable → Scope Kind
kinds_in [] = []
kinds_in (b ∷ bs) = record { name = b.name; is = b.is.kind } ∷ kinds_in bs

-- An occurrence of a name that stands for its value. Only variables of heap kinds are watched, and one that is lent
-- may not stand there.
abbrev pub use_flow : List DataType → Option Variable → Name → Flow
use_flow types None n = Nothing
use_flow types (Some v) n = if v.lent then Fault (Lent n.word n.line) else if is_heap types v.kind then Use v.number n.word n.line else Nothing

-- one that a call reads
abbrev pub read_flow : List DataType → Option Variable → Name → Flow
read_flow types None n = Nothing
read_flow types (Some v) n = if v.lent then Nothing else if is_heap types v.kind then Read v.number n.word n.line else Nothing

abbrev pub name_flow : List DataType → Scope Variable → Name → Flow
name_flow types s n = use_flow types (find s n.word) n

-- an argument, where its parameter is read or not
abbrev pub argument_flow : List DataType → Scope Variable → Bool → Expression → Flow → Flow
argument_flow types s true (Var n) taken = read_flow types (find s n.word) n
argument_flow types s read e taken = taken

abbrev pub place_flow : List DataType → Scope Variable → Option Name → Flow
place_flow types s None = Nothing
place_flow types s (Some d) = name_flow types s d

-- how many variables an arm binds
abbrev pub fields_count : List (Option Name) → List Kind → ℕ
fields_count (Some n ∷ fs) (k ∷ ks) = suc (fields_count fs ks)
fields_count (None ∷ fs) (k ∷ ks) = fields_count fs ks
fields_count fs ks = 0

abbrev pub cell_count : ArmCell → ℕ
cell_count (cell.Keep n) = 1
cell_count x = 0

abbrev pub con_fields : List DataType → Name → List Kind
con_fields types c = fields_of types (or_else (constructor_number types c.word) 0)

-- the fields of an arm and its diamond, numbered from `next` on
abbrev pub number_fields : (lends : Kind → Bool) → ℕ → List (Option Name) → List Kind → Scope Variable → Scope Variable
number_fields lends next (Some n ∷ fs) (k ∷ ks) s = number_fields lends (suc next) fs ks (bind n.word (record { number = next; kind = k; lent = lends k }) s)
number_fields lends next (None ∷ fs) (k ∷ ks) s = number_fields lends next fs ks s
number_fields lends next fs ks s = s

abbrev pub number_cell : (lends : Kind → Bool) → ℕ → ArmCell → Scope Variable → Scope Variable
number_cell lends next (cell.Keep n) s = bind n.word (record { number = next; kind = kind.Dia; lent = lends kind.Dia }) s
number_cell lends next x s = s

abbrev pub arm_variables : List DataType → (lent : Bool) → ℕ → Name → List (Option Name) → ArmCell → Scope Variable → Scope Variable
arm_variables types lent next c fs x s =
    number_cell (lends_field types lent c) (next + fields_count fs (con_fields types c)) x (number_fields (lends_field types lent c) next fs (con_fields types c) s)

abbrev pub arm_count : List DataType → Name → List (Option Name) → ArmCell → ℕ
arm_count types c fs x = fields_count fs (con_fields types c) + cell_count x

-- An arm of a boxed constructor without `@` reads the matched value and leaves it there, which isn't allowed where
-- that value is owned.
abbrev pub cell_flow : List DataType → (lent : Bool) → Name → ArmCell → Flow
cell_flow types true c x = Nothing
cell_flow types false c x = if is_inline types (or_else (constructor_number types c.word) 0) || has_cell x then Nothing else Fault (ReadMatch c.word c.line)

-- some arm has an `@`
abbrev pub some_cell : Arms → Bool
some_cell NoArms = false
some_cell (AndArm c fs x b as') = has_cell x || some_cell as'

-- the scrutinee is a variable that is lent
abbrev pub is_lent_in : Scope Variable → Name → Bool
is_lent_in s n = option_map_or (λ v. v.lent) (find s n.word) false

abbrev pub looks_on : Scope Variable → Expression → Bool
looks_on s (Var n) = is_lent_in s n
looks_on s e = false

-- a match on a variable that is lent takes no cell; on another scrutinee it takes the value
abbrev pub look_flow : Expression → Arms → Flow
look_flow (Var n) as' = if some_cell as' then Fault (Lent n.word n.line) else Nothing
look_flow e as' = Nothing

abbrev pub scrutinee_flow : (lent : Bool) → Expression → Arms → Flow → Flow
scrutinee_flow true e as' taken = look_flow e as'
scrutinee_flow false e as' taken = taken

-- the first number that is free behind an expression
abbrev mutual
  pub next_of : List DataType → ℕ → Expression → ℕ
  next_of types next (Num z l) = next
  next_of types next (Truth b l) = next
  next_of types next (Var n) = next
  next_of types next (Prim op a b l) = next_of types (next_of types next a) b
  next_of types next (If c a b l) = next_of types (next_of types (next_of types next c) a) b
  next_of types next (Let n e b) = next_of types (suc (next_of types next e)) b
  next_of types next (Match e as' l) = arms_next types (next_of types next e) as'
  next_of types next (Build c es place) = all_next types next es
  next_of types next (Call f es) = all_next types next es

  pub all_next : List DataType → ℕ → Expressions → ℕ
  all_next types next NoExpressions = next
  all_next types next (AndExpression e es) = all_next types (next_of types next e) es

  pub arms_next : List DataType → ℕ → Arms → ℕ
  arms_next types next NoArms = next
  arms_next types next (AndArm c fs x b as') = arms_next types (next_of types (next + arm_count types c fs x) b) as'

-- the flow of an expression whose variables get numbers from `next` on
abbrev mutual
  pub flow : Loans → Globals Kind → ℕ → Scope Variable → Expression → Flow
  flow loans g next s (Num z l) = Nothing
  flow loans g next s (Truth b l) = Nothing
  flow loans g next s (Var n) = name_flow g.types s n
  flow loans g next s (Prim op a b l) = After (flow loans g next s a) (flow loans g (next_of g.types next a) s b)
  flow loans g next s (If c a b l) =
      let first = next_of g.types next c in
      After (flow loans g next s c) (Either (flow loans g first s a) (flow loans g (next_of g.types first a) s b))
  flow loans g next s (Let n e b) =
      let number = next_of g.types next e in
      After (flow loans g next s e) (flow loans g (suc number) (bind n.word (record { number = number; kind = atom_of known_kind g (kinds_in s) e; lent = false }) s) b)
  flow loans g next s (Match e as' l) =
      After (scrutinee_flow (looks_on s e) e as' (flow loans g next s e)) (arms_flow loans g (looks_on s e) (next_of g.types next e) s as')
  flow loans g next s (Build c es place) = After (all_flow loans g [] next s es) (place_flow g.types s place)
  flow loans g next s (Call f es) = Calling (all_flow loans g (loans f.word) next s es)

  -- arguments, of which a call reads some
  pub all_flow : Loans → Globals Kind → (reads : List Bool) → ℕ → Scope Variable → Expressions → Flow
  all_flow loans g reads next s NoExpressions = Nothing
  all_flow loans g reads next s (AndExpression e es) =
      After (argument_flow g.types s (is_read_here reads) e (flow loans g next s e)) (all_flow loans g (reads_behind reads) (next_of g.types next e) s es)

  -- arms of a match, on a variable that is lent or on another scrutinee
  pub arms_flow : Loans → Globals Kind → (lent : Bool) → ℕ → Scope Variable → Arms → Flow
  arms_flow loans g lent next s NoArms = Nothing
  arms_flow loans g lent next s (AndArm c fs x b as') =
      let body = next + arm_count g.types c fs x in
      Either (After (cell_flow g.types lent c x) (flow loans g body (arm_variables g.types lent next c fs x s) b)) (arms_flow loans g lent (next_of g.types body b) s as')

-- ---- functions and programs

-- parameters are numbered from 0 on; the first one is innermost, and no two have one name
abbrev pub param_variables : ℕ → List Param → List Kind → List Bool → Scope Variable
param_variables next (x ∷ xs) (k ∷ ks) (m ∷ ms) = record { name = x.name.word; is = record { number = next; kind = k; lent = m } } ∷ param_variables (suc next) xs ks ms
param_variables next xs ks ms = []

-- a function that gives out something of a heap kind may not have a parameter that is lent
abbrev pub result_flow : Globals Kind → Function → Signature → Flow
result_flow g f s = if some_lent (lent_params g.types f.params s.params) && is_heap g.types s.result then Fault (ReadResult f.name.word f.name.line) else Nothing

abbrev pub function_flow : Loans → Globals Kind → Function → Signature → Flow
function_flow loans g f s =
    After (result_flow g f s) (flow loans g (length f.params) (param_variables 0 f.params s.params (lent_params g.types f.params s.params)) f.body)

abbrev pub functions_faults : Loans → Globals Kind → List Function → List Signature → List UseFault
functions_faults loans g (f ∷ fs) (s ∷ ss) = faults [] [] (function_flow loans g f s) ++ functions_faults loans g fs ss
functions_faults loans g fs ss = []

-- all faults of a typed program in text order
abbrev pub program_faults : Source → List Signature → List UseFault
program_faults p sigs = functions_faults (loans_of p sigs) (globals_of p sigs) p.funs sigs
