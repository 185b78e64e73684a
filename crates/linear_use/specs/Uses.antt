-- Cited by contracts.
-- The rule of use of a program: that of LFPL (Hofmann 2000), by which a value that takes cells is used at most once,
-- with parameters that a function only reads. A variable of a heap kind is lent where it is such a parameter, or a
-- field of an arm of a match on a lent variable; every other one is owned. What is lent is only read, as a scrutinee or
-- as an argument at a parameter that is read. What is owned is taken at most once on each path, and nothing comes
-- behind that.
use Rattle.std.specs.Prelude.{◌≡◌, ℕ, ◌&&◌, not, Bool, true, false, if◌then◌else◌, List, [], ◌∷◌, ◌++◌, map, flat_map, Option, Some, None}
use Rattle.std.specs.List.{AllByRecursion, list_any}
use Rattle.std.specs.Str.{bytes_eq}
use Rattle.camelot_values.specs.Kinds.{DataType}
use Rattle.camelot_values.specs.Heap.{is_heap}
use Rattle.camelot_values.specs.Names.{find}
use Rattle.camelot_values.specs.declared.kinds.Kind.{Kind}
use Rattle.camelot_values.specs.declared.kinds.Kind.TheVariants.{Int}
use Rattle.camelot_tree.specs.declared.tree.Name.{Name}
use Rattle.camelot_tree.specs.declared.tree.Param.{Param}
use Rattle.camelot_tree.specs.declared.tree.ArmCell.{ArmCell}
use Rattle.camelot_tree.specs.Tree.{Expression, Num, Truth, Var, Prim, If, Let, Match, Build, Call, Expressions, NoExpressions, AndExpression, Arms, NoArms, AndArm, Function, Source}
use Rattle.camelot_tree.specs.Cells.{has_cell}
use Rattle.camelot_typing.specs.Kinds.{Globals, Scope, bind, or_else, constructor_number, is_inline, bound_names, arm_scope, atom_of}
use Rattle.camelot_typing.specs.Typing.{Signature, known_kind, params_scope, globals_of}

-- ---- what is lent

-- The parameters that a function only reads: those that are marked and of a heap kind. On another kind the mark has no
-- effect.
abbrev pub lent_params : List DataType → List Param → List Kind → List Bool
lent_params types (x ∷ xs) (k ∷ ks) = (x.read && is_heap types k) ∷ lent_params types xs ks
lent_params types xs ks = []

-- those of each function, by its name
abbrev pub Loans : Type 0
Loans = List ℕ → List Bool

abbrev pub lent_by : List DataType → List Function → List Signature → Loans
lent_by types (f ∷ fs) (s ∷ ss) name = if bytes_eq f.name.word name then lent_params types f.params s.params else lent_by types fs ss name
lent_by types fs ss name = []

-- the variable is lent, by the flags of those in scope
abbrev pub is_lent : Scope Bool → Name → Bool
is_lent flags n = or_else (find flags n.word) false

-- the scrutinee is a variable that is lent
abbrev pub looks_at : Scope Bool → Expression → Bool
looks_at flags (Var n) = is_lent flags n
looks_at flags e = false

-- A field of an arm is lent where the scrutinee is, if it is of a heap kind; an inline constructor has no fields.
abbrev pub lends_field : List DataType → Bool → Name → Kind → Bool
lends_field types lent c k = lent && (not (is_inline types (or_else (constructor_number types c.word) 0)) && is_heap types k)

-- the flags in an arm
abbrev pub arm_flags : List DataType → Bool → Name → List (Option Name) → ArmCell → Scope Bool → Scope Bool
arm_flags types lent c fs x flags = arm_scope (lends_field types lent c) types c fs x flags

-- ---- what happens to a variable on each path

-- it is taken, or it is only read
pub data Occurrence : Type 0 where
  Taking : Occurrence
  Reading : Occurrence

-- a path, in the order of evaluation
abbrev pub Path : Type 0
Path = List Occurrence

-- every path of the one before every path of the other
abbrev pub both : List Path → List Path → List Path
both ps qs = flat_map (λ p. map (λ q. p ++ q) qs) ps

abbrev pub one_path : Path → List Path
one_path p = p ∷ []

-- the name is one of these
abbrev pub is_bound : List ℕ → List Name → Bool
is_bound x ns = list_any (λ n. bytes_eq n.word x) ns

-- this name is taken, where it is the variable
abbrev pub taking : List ℕ → Name → List Path
taking x n = one_path (if bytes_eq n.word x then Taking ∷ [] else [])

abbrev pub place_paths : List ℕ → Option Name → List Path
place_paths x None = one_path []
place_paths x (Some d) = taking x d

-- of a call's parameters: whether the first is read, and the others
abbrev pub is_read_here : List Bool → Bool
is_read_here [] = false
is_read_here (m ∷ ms) = m

abbrev pub reads_behind : List Bool → List Bool
reads_behind [] = []
reads_behind (m ∷ ms) = ms

-- an argument is read where it is a variable, at a parameter that is read
abbrev pub is_reading : List Bool → Expression → Bool
is_reading ms (Var n) = is_read_here ms
is_reading ms e = false

abbrev pub is_variable : List ℕ → Expression → Bool
is_variable x (Var n) = bytes_eq n.word x
is_variable x e = false

-- the readings of a variable by a call with these arguments
abbrev pub readings : List ℕ → List Bool → Expressions → Path
readings x ms NoExpressions = []
readings x ms (AndExpression e es) = (if is_reading ms e && is_variable x e then Reading ∷ [] else []) ++ readings x (reads_behind ms) es

-- The occurrences of an owned variable on each path. A name that is bound anew hides it. A call reads behind all of its
-- arguments. The path on which no arm is entered is there too, so that there always is one; it asks nothing.
abbrev mutual
  pub paths : Loans → List ℕ → Expression → List Path
  paths loans x (Num z l) = one_path []
  paths loans x (Truth b l) = one_path []
  paths loans x (Var n) = taking x n
  paths loans x (Prim op a b l) = both (paths loans x a) (paths loans x b)
  paths loans x (If c a b l) = both (paths loans x c) (paths loans x a ++ paths loans x b)
  paths loans x (Let n e b) = both (paths loans x e) (if bytes_eq n.word x then one_path [] else paths loans x b)
  paths loans x (Match e as' l) = both (paths loans x e) (arms_paths loans x as')
  paths loans x (Build c es place) = both (all_paths loans x [] es) (place_paths x place)
  paths loans x (Call f es) = both (all_paths loans x (loans f.word) es) (one_path (readings x (loans f.word) es))

  -- arguments one after the other, without those that are read
  pub all_paths : Loans → List ℕ → List Bool → Expressions → List Path
  all_paths loans x ms NoExpressions = one_path []
  all_paths loans x ms (AndExpression e es) = both (if is_reading ms e then one_path [] else paths loans x e) (all_paths loans x (reads_behind ms) es)

  pub arms_paths : Loans → List ℕ → Arms → List Path
  arms_paths loans x NoArms = one_path []
  arms_paths loans x (AndArm c fs cell b as') = (if is_bound x (bound_names fs cell) then one_path [] else paths loans x b) ++ arms_paths loans x as'

-- nothing comes behind a taking
abbrev pub NoneBehind : Path → Type 0
NoneBehind [] = Unit {0}
NoneBehind (Reading ∷ p) = NoneBehind p
NoneBehind (Taking ∷ p) = p ≡ []

-- ---- the rule

-- a variable of this kind, if that is a heap kind and the variable is owned: on each path nothing comes behind a taking
abbrev pub IsFair : Loans → List DataType → Kind → (lent : Bool) → List ℕ → Expression → Type 0
IsFair loans types k lent x e = (is_heap types k && not lent) ≡ true → AllByRecursion NoneBehind (paths loans x e)

-- each name that an arm binds, with its kind and its flag in the arm
abbrev pub EachIsFair : Loans → List DataType → Scope Kind → Scope Bool → List Name → Expression → Type 0
EachIsFair loans types inner flags ns e = AllByRecursion (λ n. IsFair loans types (or_else (find inner n.word) Int) (is_lent flags n) n.word e) ns

-- In a match on a variable that is lent no arm has an `@`; in every other one each arm of a boxed constructor has one.
abbrev pub CellTaken : List DataType → (lent : Bool) → Name → ArmCell → Type 0
CellTaken types true c x = has_cell x ≡ false
CellTaken types false c x = is_inline types (or_else (constructor_number types c.word) 0) ≡ false → has_cell x ≡ true

-- the diamond of a build is owned
abbrev pub PlaceIsOwned : Scope Bool → Option Name → Type 0
PlaceIsOwned flags None = Unit {0}
PlaceIsOwned flags (Some d) = is_lent flags d ≡ false

abbrev mutual
  -- The rule holds of every variable that is bound in the expression, and of every occurrence and every arm. What
  -- stands for a value is owned; what is lent stands as a scrutinee, or as an argument that is read.
  pub IsLinear : Loans → Globals Kind → Scope Kind → Scope Bool → Expression → Type 0
  IsLinear loans g s flags (Num z l) = Unit {0}
  IsLinear loans g s flags (Truth b l) = Unit {0}
  IsLinear loans g s flags (Var n) = is_lent flags n ≡ false
  IsLinear loans g s flags (Prim op a b l) = IsLinear loans g s flags a × IsLinear loans g s flags b
  IsLinear loans g s flags (If c a b l) = IsLinear loans g s flags c × IsLinear loans g s flags a × IsLinear loans g s flags b
  IsLinear loans g s flags (Let n e b) =
      IsLinear loans g s flags e × IsFair loans g.types (atom_of known_kind g s e) false n.word b
      × IsLinear loans g (bind n.word (atom_of known_kind g s e) s) (bind n.word false flags) b
  IsLinear loans g s flags (Match e as' l) = (looks_at flags e ≡ false → IsLinear loans g s flags e) × ArmsAreLinear loans g s flags (looks_at flags e) as'
  IsLinear loans g s flags (Build c es place) = AllAreLinear loans g s flags [] es × PlaceIsOwned flags place
  IsLinear loans g s flags (Call f es) = AllAreLinear loans g s flags (loans f.word) es

  pub AllAreLinear : Loans → Globals Kind → Scope Kind → Scope Bool → List Bool → Expressions → Type 0
  AllAreLinear loans g s flags ms NoExpressions = Unit {0}
  AllAreLinear loans g s flags ms (AndExpression e es) = (is_reading ms e ≡ false → IsLinear loans g s flags e) × AllAreLinear loans g s flags (reads_behind ms) es

  pub ArmsAreLinear : Loans → Globals Kind → Scope Kind → Scope Bool → (lent : Bool) → Arms → Type 0
  ArmsAreLinear loans g s flags lent NoArms = Unit {0}
  ArmsAreLinear loans g s flags lent (AndArm c fs x b as') =
      CellTaken g.types lent c x
      × EachIsFair loans g.types (arm_scope known_kind g.types c fs x s) (arm_flags g.types lent c fs x flags) (bound_names fs x) b
      × IsLinear loans g (arm_scope known_kind g.types c fs x s) (arm_flags g.types lent c fs x flags) b
      × ArmsAreLinear loans g s flags lent as'

-- each parameter, with its flag
abbrev pub ParamsAreFair : Loans → List DataType → List Param → List Kind → List Bool → Expression → Type 0
ParamsAreFair loans types (x ∷ xs) (k ∷ ks) (m ∷ ms) e = IsFair loans types k m x.name.word e × ParamsAreFair loans types xs ks ms e
ParamsAreFair loans types xs ks ms e = Unit {0}

-- one of these is lent
abbrev pub some_lent : List Bool → Bool
some_lent ms = list_any (λ m. m) ms

-- A function with a parameter that is lent has a result that isn't of a heap kind, and the rule holds of each parameter
-- and in the body.
abbrev pub FunctionIsLinear : Loans → Globals Kind → Function → Signature → Type 0
FunctionIsLinear loans g f s =
    (some_lent (lent_params g.types f.params s.params) ≡ true → is_heap g.types s.result ≡ false)
    × ParamsAreFair loans g.types f.params s.params (lent_params g.types f.params s.params) f.body
    × IsLinear loans g (params_scope f.params s.params) (params_scope f.params (lent_params g.types f.params s.params)) f.body

abbrev pub FunctionsAreLinear : Loans → Globals Kind → List Function → List Signature → Type 0
FunctionsAreLinear loans g (f ∷ fs) (s ∷ ss) = FunctionIsLinear loans g f s × FunctionsAreLinear loans g fs ss
FunctionsAreLinear loans g fs ss = Unit {0}

-- which parameters of a program's functions are lent
abbrev pub loans_of : Source → List Signature → Loans
loans_of p sigs = lent_by (globals_of p sigs).types p.funs sigs

-- the program, typed with these kinds, keeps the rule
abbrev pub KeepsRule : Source → List Signature → Type 0
KeepsRule p sigs = FunctionsAreLinear (loans_of p sigs) (globals_of p sigs) p.funs sigs
