-- Cited by contracts.
-- The kinds of names and expressions. All of it is stated over any sort of atoms, with what stands for a kind that is
-- known: with the kinds themselves this is what typing speaks of, and with guesses it is what the check works with.
use Rattle.std.specs.Prelude.{ℕ, zero, suc, ◌+◌, Bool, false, if◌then◌else◌, List, [], ◌∷◌, ◌++◌, map, length, Option, Some, None}
use Rattle.std.specs.Option.{option_map, option_map_or}
use Rattle.std.specs.Str.{bytes_eq}
use Rattle.camelot_values.specs.Names.{place_among}
use Rattle.camelot_values.specs.Kinds as values
use Rattle.camelot_values.specs.Kinds.{DataType, constructors, constructor, type_of}
use Rattle.camelot_values.specs.Typing.{operator_kind}
use Rattle.camelot_values.specs.declared.kinds.Kind.{Kind}
use Rattle.camelot_values.specs.declared.kinds.Kind.TheVariants as kind
use Rattle.camelot_tree.specs.declared.tree.Name.{Name}
use Rattle.camelot_tree.specs.declared.tree.Atom.{Atom}
use Rattle.camelot_tree.specs.declared.tree.Atom.TheVariants as atom
use Rattle.camelot_tree.specs.declared.tree.ArmCell.{ArmCell}
use Rattle.camelot_tree.specs.declared.tree.ArmCell.TheVariants as cell
use Rattle.camelot_tree.specs.Tree.{Expression, Num, Truth, Var, Prim, If, Let, Match, Build, Call, Expressions, NoExpressions, AndExpression, Arms, NoArms, AndArm, Constructor, Source}
use Rattle.camelot_tree.specs.Tree as tree
use Rattle.camelot_values.specs.Names.{Binder, find}

-- ---- types

-- the number of the type of this name
abbrev pub type_number : Source → List ℕ → Option ℕ
type_number p name = place_among (map (λ t. t.name.word) p.types) name

-- the kind of a written atom, where its type is declared
abbrev pub kind_of_atom : Source → Atom → Option Kind
kind_of_atom p atom.Int = Some kind.Int
kind_of_atom p atom.Bool = Some kind.Flag
kind_of_atom p atom.Dia = Some kind.Dia
kind_of_atom p (atom.Named n) = option_map kind.Of (type_number p n.word)

-- what is there, or else this
abbrev pub or_else : {A : Type 0} → Option A → A → A
or_else None a = a
or_else (Some b) a = b

abbrev pub field_kind : Source → Atom → Kind
field_kind p a = or_else (kind_of_atom p a) kind.Int

abbrev pub constructor_kinds : Source → Constructor → values.Constructor
constructor_kinds p c = record { name = c.name.word; inline = c.inline; fields = map (field_kind p) c.fields }

abbrev pub data_kinds : Source → tree.DataType → DataType
data_kinds p t = record { name = t.name.word; cons = map (constructor_kinds p) t.cons }

-- the types of a program, with the kinds of the fields
abbrev pub types_of : Source → List DataType
types_of p = map (data_kinds p) p.types

-- the number of the constructor of this name
abbrev pub constructor_number : List DataType → List ℕ → Option ℕ
constructor_number types name = place_among (map (λ c. c.name) (constructors types)) name

-- the kinds of a constructor's fields, and whether it needs no cell
abbrev pub fields_of : List DataType → ℕ → List Kind
fields_of types con = option_map_or (λ c. c.fields) (constructor types con) []

abbrev pub is_inline : List DataType → ℕ → Bool
is_inline types con = option_map_or (λ c. c.inline) (constructor types con) false

-- the kind of a constructor's values
abbrev pub built_kind : List DataType → ℕ → Option Kind
built_kind types con = option_map kind.Of (type_of types con)

-- the numbers of the constructors of type t; the first of these types has the constructors from `first` on
abbrev pub numbered : {A : Type 0} → ℕ → List A → List ℕ
numbered first [] = []
numbered first (x ∷ xs) = first ∷ numbered (suc first) xs

abbrev pub numbers_from : ℕ → List DataType → ℕ → List ℕ
numbers_from first [] t = []
numbers_from first (d ∷ ds) zero = numbered first d.cons
numbers_from first (d ∷ ds) (suc t) = numbers_from (first + length d.cons) ds t

abbrev pub numbers_of : List DataType → ℕ → List ℕ
numbers_of types t = numbers_from 0 types t

-- ---- functions and scopes

-- a function: its name, and the atoms of its parameters and its result
pub record Head (A : Type 0) : Type 0 where
  pub name : List ℕ
  pub params : List A
  pub result : A

-- what is known in the whole program
pub record Globals (A : Type 0) : Type 0 where
  pub types : List DataType
  pub heads : List (Head A)

abbrev pub Scope : Type 0 → Type 0
Scope A = List (Binder A)

abbrev pub bind : {A : Type 0} → List ℕ → A → Scope A → Scope A
bind name a s = record { name = name; is = a } ∷ s

-- the first function of this name
abbrev pub head_of : {A : Type 0} → List (Head A) → List ℕ → Option (Head A)
head_of [] name = None
head_of (h ∷ hs) name = if bytes_eq h.name name then Some h else head_of hs name

-- ---- arms

-- the names that an arm binds, in text order: its fields', and then its diamond's
abbrev pub field_names : List (Option Name) → List Name
field_names [] = []
field_names (None ∷ fs) = field_names fs
field_names (Some n ∷ fs) = n ∷ field_names fs

abbrev pub cell_names : ArmCell → List Name
cell_names (cell.Keep n) = n ∷ []
cell_names x = []

abbrev pub bound_names : List (Option Name) → ArmCell → List Name
bound_names fs x = field_names fs ++ cell_names x

-- the fields' names have the kinds of the constructor's fields, and a cell's name is a diamond
abbrev pub bind_fields : {A : Type 0} → (Kind → A) → List (Option Name) → List Kind → Scope A → Scope A
bind_fields is (Some n ∷ fs) (k ∷ ks) s = bind_fields is fs ks (bind n.word (is k) s)
bind_fields is (None ∷ fs) (k ∷ ks) s = bind_fields is fs ks s
bind_fields is fs ks s = s

abbrev pub bind_cell : {A : Type 0} → (Kind → A) → ArmCell → Scope A → Scope A
bind_cell is (cell.Keep n) s = bind n.word (is kind.Dia) s
bind_cell is x s = s

-- the scope of an arm's body
abbrev pub arm_scope : {A : Type 0} → (Kind → A) → List DataType → Name → List (Option Name) → ArmCell → Scope A → Scope A
arm_scope is types c fs x s = bind_cell is x (bind_fields is fs (fields_of types (or_else (constructor_number types c.word) 0)) s)

-- ---- expressions

-- The atom of an expression, by those of names and functions: that of a conditional or a match is its first branch's.
-- What has none, as an unknown name, gets the kind `int`; no such expression is typed.
abbrev mutual
  pub atom_of : {A : Type 0} → (Kind → A) → Globals A → Scope A → Expression → A
  atom_of is g s (Num z l) = is kind.Int
  atom_of is g s (Truth b l) = is kind.Flag
  atom_of is g s (Var n) = or_else (find s n.word) (is kind.Int)
  atom_of is g s (Prim op a b l) = is (operator_kind op)
  atom_of is g s (If c a b l) = atom_of is g s a
  atom_of is g s (Let n e b) = atom_of is g (bind n.word (atom_of is g s e) s) b
  atom_of is g s (Match e as' l) = arms_atom is g s as'
  atom_of is g s (Build c es place) = is (or_else (built_kind g.types (or_else (constructor_number g.types c.word) 0)) kind.Int)
  atom_of is g s (Call f es) = option_map_or (λ h. h.result) (head_of g.heads f.word) (is kind.Int)

  -- that of the first arm
  pub arms_atom : {A : Type 0} → (Kind → A) → Globals A → Scope A → Arms → A
  arms_atom is g s NoArms = is kind.Int
  arms_atom is g s (AndArm c fs x b as') = atom_of is g (arm_scope is g.types c fs x s) b

-- the atoms of an expression's parts in text order, and then its own
abbrev mutual
  pub atoms_of : {A : Type 0} → (Kind → A) → Globals A → Scope A → Expression → List A
  atoms_of is g s (Num z l) = atom_of is g s (Num z l) ∷ []
  atoms_of is g s (Truth b l) = atom_of is g s (Truth b l) ∷ []
  atoms_of is g s (Var n) = atom_of is g s (Var n) ∷ []
  atoms_of is g s (Prim op a b l) = atoms_of is g s a ++ (atoms_of is g s b ++ atom_of is g s (Prim op a b l) ∷ [])
  atoms_of is g s (If c a b l) = atoms_of is g s c ++ (atoms_of is g s a ++ (atoms_of is g s b ++ atom_of is g s (If c a b l) ∷ []))
  atoms_of is g s (Let n e b) = atoms_of is g s e ++ (atoms_of is g (bind n.word (atom_of is g s e) s) b ++ atom_of is g s (Let n e b) ∷ [])
  atoms_of is g s (Match e as' l) = atoms_of is g s e ++ (arms_atoms is g s as' ++ atom_of is g s (Match e as' l) ∷ [])
  atoms_of is g s (Build c es place) = all_atoms is g s es ++ atom_of is g s (Build c es place) ∷ []
  atoms_of is g s (Call f es) = all_atoms is g s es ++ atom_of is g s (Call f es) ∷ []

  pub all_atoms : {A : Type 0} → (Kind → A) → Globals A → Scope A → Expressions → List A
  all_atoms is g s NoExpressions = []
  all_atoms is g s (AndExpression e es) = atoms_of is g s e ++ all_atoms is g s es

  pub arms_atoms : {A : Type 0} → (Kind → A) → Globals A → Scope A → Arms → List A
  arms_atoms is g s NoArms = []
  arms_atoms is g s (AndArm c fs x b as') = atoms_of is g (arm_scope is g.types c fs x s) b ++ arms_atoms is g s as'
