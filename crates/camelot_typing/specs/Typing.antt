-- Cited by contracts.
-- Typed programs: some choice of one kind for each parameter, result, local and expression obeys the rules of ML's
-- typing (Milner
-- 1978) without type parameters, in the monomorphic form of LFPL (Hofmann 2000). The check makes kinds equal one by
--       one; this
-- definition has no order.
use Rattle.std.specs.Prelude.{◌≡◌, ℕ, ◌+◌, ◌≤◌, ◌<◌, Bool, false, if◌then◌else◌, List, [], ◌∷◌, map, length, Option, Some, None, IsSome, IsTrue}
use Rattle.std.specs.List.{AllByRecursion}
use Rattle.camelot_values.specs.Names.{AreDistinct}
use Rattle.camelot_values.specs.Kinds.{DataType, type_of}
use Rattle.camelot_values.specs.Typing.{operator_kind}
use Rattle.camelot_values.specs.declared.kinds.Kind.{Kind}
use Rattle.camelot_values.specs.declared.kinds.Kind.TheVariants as kind
use Rattle.camelot_tree.specs.declared.tree.Name.{Name}
use Rattle.camelot_tree.specs.declared.tree.Atom.{Atom}
use Rattle.camelot_tree.specs.declared.tree.Param.{Param}
use Rattle.camelot_tree.specs.declared.tree.ArmCell.{ArmCell}
use Rattle.camelot_tree.specs.declared.tree.ArmCell.TheVariants as cell
use Rattle.camelot_tree.specs.Tree.{Expression, Num, Truth, Var, Prim, If, Let, Match, Build, Call, Expressions, NoExpressions, AndExpression, Arms, NoArms, AndArm, Constructor, Function, Source}
use Rattle.camelot_values.specs.Names.{find}
use Rattle.camelot_tree.specs.Meaning.{is_that, declared_constructors}
use Rattle.camelot_tree.specs.Tokens.{has_ints}
use Rattle.camelot_typing.specs.Kinds.{Head, Globals, Scope, bind, kind_of_atom, types_of, constructor_number, built_kind, fields_of, is_inline, numbers_of, head_of, bound_names, arm_scope}

-- what is known of a program whose functions have these kinds
abbrev pub Signature : Type 0
Signature = Head Kind

abbrev pub known_kind : Kind → Kind
known_kind k = k

-- ---- expressions

-- an `@` stands on a boxed constructor alone, and names a diamond
abbrev pub PlaceFits : Scope Kind → Bool → Option Name → Type 0
PlaceFits s inline None = Unit {0}
PlaceFits s inline (Some d) = (inline ≡ false) × (find s d.word ≡ Some kind.Dia)

abbrev pub CellFits : Bool → ArmCell → Type 0
CellFits inline cell.Plain = Unit {0}
CellFits inline x = inline ≡ false

-- the number of arms of this constructor
abbrev pub arms_with : List DataType → ℕ → Arms → ℕ
arms_with types con NoArms = 0
arms_with types con (AndArm c fs x b as') = (if is_that (constructor_number types c.word) con then 1 else 0) + arms_with types con as'

-- each constructor of type t stands in exactly one arm
abbrev pub Covers : List DataType → ℕ → Arms → Type 0
Covers types t as' = AllByRecursion (λ con. arms_with types con as' ≡ 1) (numbers_of types t)

-- what stands before the body of an arm for type t: a constructor of that type, one name or `_` for each field, an `@`
-- on a boxed constructor alone, and no name twice
pub record HeadFits (types : List DataType) (t : ℕ) (c : Name) (fs : List (Option Name)) (x : ArmCell) : Type 0 where
  pub con : ℕ
  pub is : constructor_number types c.word ≡ Some con
  pub owned : type_of types con ≡ Some t
  pub full : length fs ≡ length (fields_of types con)
  pub place : CellFits (is_inline types con) x
  pub distinct : AreDistinct (map (λ n. n.word) (bound_names fs x))

abbrev mutual
  -- the expression has this kind
  pub HasKind : Globals Kind → Scope Kind → Expression → Kind → Type 0
  HasKind g s (Num z l) k = k ≡ kind.Int
  HasKind g s (Truth b l) k = k ≡ kind.Flag
  HasKind g s (Var n) k = find s n.word ≡ Some k
  HasKind g s (Prim op a b l) k = HasKind g s a kind.Int × HasKind g s b kind.Int × (k ≡ operator_kind op)
  HasKind g s (If c a b l) k = HasKind g s c kind.Flag × HasKind g s a k × HasKind g s b k
  HasKind g s (Let n e b) k = (q : Kind) × HasKind g s e q × HasKind g (bind n.word q s) b k
  HasKind g s (Match e NoArms l) k = ⊥
  HasKind g s (Match e (AndArm c fs x b as') l) k =
      (t : ℕ) × HasKind g s e (kind.Of t) × Covers g.types t (AndArm c fs x b as') × ArmsHaveKind g s t (AndArm c fs x b as') k
  HasKind g s (Build c es place) k =
      (con : ℕ) × (constructor_number g.types c.word ≡ Some con) × (built_kind g.types con ≡ Some k) × HaveKinds g s es (fields_of g.types con)
      × PlaceFits s (is_inline g.types con) place
  HasKind g s (Call f es) k = (h : Signature) × (head_of g.heads f.word ≡ Some h) × (h.result ≡ k) × HaveKinds g s es h.params

  -- one expression of each of these kinds
  pub HaveKinds : Globals Kind → Scope Kind → Expressions → List Kind → Type 0
  HaveKinds g s NoExpressions [] = Unit {0}
  HaveKinds g s (AndExpression e es) (k ∷ ks) = HasKind g s e k × HaveKinds g s es ks
  HaveKinds g s es ks = ⊥

  -- each arm is for type t, and its body has this kind
  pub ArmsHaveKind : Globals Kind → Scope Kind → ℕ → Arms → Kind → Type 0
  ArmsHaveKind g s t NoArms k = Unit {0}
  ArmsHaveKind g s t (AndArm c fs x b as') k = HeadFits g.types t c fs x × HasKind g (arm_scope known_kind g.types c fs x s) b k × ArmsHaveKind g s t as' k

-- ---- declarations

-- a kind whose type is declared
abbrev pub IsDeclared : List DataType → Kind → Type 0
IsDeclared types (kind.Of t) = t < length types
IsDeclared types k = Unit {0}

-- a written atom stands, and one that isn't written is some kind
abbrev pub Stands : Source → Option Atom → Kind → Type 0
Stands p None k = IsDeclared (types_of p) k
Stands p (Some a) k = kind_of_atom p a ≡ Some k

abbrev pub ParamsStand : Source → List Param → List Kind → Type 0
ParamsStand p [] [] = Unit {0}
ParamsStand p (x ∷ xs) (k ∷ ks) = Stands p x.kind k × ParamsStand p xs ks
ParamsStand p xs ks = ⊥

-- the parameters in scope
abbrev pub params_scope : {A : Type 0} → List Param → List A → Scope A
params_scope (x ∷ xs) (a ∷ as') = record { name = x.name.word; is = a } ∷ params_scope xs as'
params_scope xs as' = []

-- a function with these kinds
pub record FunctionFits (p : Source) (g : Globals Kind) (f : Function) (s : Signature) : Type 0 where
  pub name : s.name ≡ f.name.word
  pub params : ParamsStand p f.params s.params
  pub result : Stands p f.result s.result
  pub distinct : AreDistinct (map (λ x. x.name.word) f.params)
  pub body : HasKind g (params_scope f.params s.params) f.body s.result

abbrev pub FunctionsFit : Source → Globals Kind → List Function → List Signature → Type 0
FunctionsFit p g [] [] = Unit {0}
FunctionsFit p g (f ∷ fs) (s ∷ ss) = FunctionFits p g f s × FunctionsFit p g fs ss
FunctionsFit p g fs ss = ⊥

-- a type whose constructors have at most 4 fields, each of a declared type
abbrev pub IsDeclaredAtom : Source → Atom → Type 0
IsDeclaredAtom p a = IsSome (kind_of_atom p a)

abbrev pub ConstructorFits : Source → Constructor → Type 0
ConstructorFits p c = (length c.fields ≤ 4) × AllByRecursion (IsDeclaredAtom p) c.fields

abbrev pub globals_of : Source → List Signature → Globals Kind
globals_of p sigs = record { types = types_of p; heads = sigs }

-- the program is typed with these kinds of parameters and results, and each of its literals has 32 bits
pub record IsTyped (p : Source) (sigs : List Signature) : Type 0 where
  pub type_names : AreDistinct (map (λ t. t.name.word) p.types)
  pub con_names : AreDistinct (map (λ c. c.name.word) (declared_constructors p))
  pub fun_names : AreDistinct (map (λ f. f.name.word) p.funs)
  pub fields : AllByRecursion (ConstructorFits p) (declared_constructors p)
  pub functions : FunctionsFit p (globals_of p sigs) p.funs sigs
  pub literals : IsTrue (has_ints p)

-- at most 64 types, 64 constructors of one type, 64 functions and 16 parameters
pub record IsWithinLimits (p : Source) : Type 0 where
  pub types : length p.types ≤ 64
  pub cons : AllByRecursion (λ t. length t.cons ≤ 64) p.types
  pub funs : length p.funs ≤ 64
  pub params : AllByRecursion (λ f. length f.params ≤ 16) p.funs
