-- What a choice makes of guesses: kinds computed under a choice are those computed of the guesses, under the choice.
use Rattle.std.proofs.Common.{◌≡◌, ℕ, Bool, true, false, List, [], ◌∷◌, ◌++◌, map, Option, Some, None, refl, sym, ap, ◌∙◌}
use Rattle.std.specs.Prelude.{if◌then◌else◌}
use Rattle.std.specs.Option.{option_map, option_map_or}
use Rattle.std.specs.Str.{bytes_eq}
use Rattle.camelot_values.specs.Names.{Binder, find}
use Rattle.camelot_values.specs.Kinds.{DataType}
use Rattle.camelot_values.specs.declared.kinds.Kind.{Kind}
use Rattle.camelot_values.specs.declared.kinds.Kind.TheVariants as kind
use Rattle.camelot_tree.specs.declared.tree.Name.{Name}
use Rattle.camelot_tree.specs.declared.tree.Param.{Param}
use Rattle.camelot_tree.specs.declared.tree.ArmCell.{ArmCell}
use Rattle.camelot_tree.specs.declared.tree.ArmCell.TheVariants as cell
use Rattle.camelot_tree.specs.Tree.{Expression, Num, Truth, Var, Prim, If, Let, Match, Build, Call, Expressions, NoExpressions, AndExpression, Arms, NoArms, AndArm}
use Rattle.camelot_typing.specs.Kinds.{Head, Globals, Scope, bind, or_else, constructor_number, fields_of, head_of, bind_fields, bind_cell, arm_scope, atom_of, arms_atom, atoms_of, all_atoms, arms_atoms}
use Rattle.camelot_typing.specs.Typing.{Signature, known_kind, params_scope}
use Rattle.camelot_types.specs.declared.guess.Guess.{Guess}
use Rattle.camelot_types.specs.declared.guess.Guess.TheVariants.{Known}
use Rattle.camelot_types.specs.Walk.{Choice, under}

abbrev pub head_under : Choice → Head Guess → Signature
head_under choice h = record { name = h.name; params = map (under choice) h.params; result = under choice h.result }

abbrev pub globals_under : Choice → Globals Guess → Globals Kind
globals_under choice g = record { types = g.types; heads = map (head_under choice) g.heads }

abbrev pub bound_under : Choice → Binder Guess → Binder Kind
bound_under choice b = record { name = b.name; is = under choice b.is }

abbrev pub scope_under : Choice → Scope Guess → Scope Kind
scope_under choice s = map (bound_under choice) s

pub find_under : (choice : Choice) (s : Scope Guess) (n : List ℕ) → find (scope_under choice s) n ≡ option_map (under choice) (find s n)
find_under choice [] n = refl
find_under choice (b ∷ bs) n = by_test (find_under choice bs n) (bytes_eq b.name n)
  where
    by_test : find (scope_under choice bs) n ≡ option_map (under choice) (find bs n) → (t : Bool)
        → (if t then Some (under choice b.is) else find (scope_under choice bs) n) ≡ option_map (under choice) (if t then Some b.is else find bs n)
    by_test h true = refl
    by_test h false = h

pub head_of_under : (choice : Choice) (hs : List (Head Guess)) (n : List ℕ)
    → head_of (map (head_under choice) hs) n ≡ option_map (head_under choice) (head_of hs n)
head_of_under choice [] n = refl
head_of_under choice (h ∷ hs) n = by_test (head_of_under choice hs n) (bytes_eq h.name n)
  where
    by_test : head_of (map (head_under choice) hs) n ≡ option_map (head_under choice) (head_of hs n) → (t : Bool)
        → (if t then Some (head_under choice h) else head_of (map (head_under choice) hs) n) ≡ option_map (head_under choice) (if t then Some h else head_of hs n)
    by_test e true = refl
    by_test e false = e

fields_under : (choice : Choice) (fs : List (Option Name)) (ks : List Kind) (s : Scope Guess)
    → scope_under choice (bind_fields Known fs ks s) ≡ bind_fields known_kind fs ks (scope_under choice s)
fields_under choice [] ks s = refl
fields_under choice (None ∷ fs) [] s = refl
fields_under choice (None ∷ fs) (k ∷ ks) s = fields_under choice fs ks s
fields_under choice (Some n ∷ fs) [] s = refl
fields_under choice (Some n ∷ fs) (k ∷ ks) s = fields_under choice fs ks (bind n.word (Known k) s)

cell_under : (choice : Choice) (x : ArmCell) (s : Scope Guess) → scope_under choice (bind_cell Known x s) ≡ bind_cell known_kind x (scope_under choice s)
cell_under choice cell.Plain s = refl
cell_under choice cell.Free s = refl
cell_under choice (cell.Keep n) s = refl

pub arm_under : (choice : Choice) (types : List DataType) (c : Name) (fs : List (Option Name)) (x : ArmCell) (s : Scope Guess)
    → scope_under choice (arm_scope Known types c fs x s) ≡ arm_scope known_kind types c fs x (scope_under choice s)
arm_under choice types c fs x s =
    let ks = fields_of types (or_else (constructor_number types c.word) 0) in
    cell_under choice x (bind_fields Known fs ks s) ∙ ap (bind_cell known_kind x) (fields_under choice fs ks s)

pub params_under : (choice : Choice) (xs : List Param) (as' : List Guess) → scope_under choice (params_scope xs as') ≡ params_scope xs (map (under choice) as')
params_under choice [] as' = refl
params_under choice (x ∷ xs) [] = refl
params_under choice (x ∷ xs) (a ∷ as') = ap (λ l. record { name = x.name.word; is = under choice a } ∷ l) (params_under choice xs as')

or_else_under : (choice : Choice) (o : Option Guess) (a : Guess) → under choice (or_else o a) ≡ or_else (option_map (under choice) o) (under choice a)
or_else_under choice None a = refl
or_else_under choice (Some b) a = refl

result_under : (choice : Choice) (o : Option (Head Guess))
    → under choice (option_map_or (λ h. h.result) o (Known kind.Int)) ≡ option_map_or (λ h. h.result) (option_map (head_under choice) o) kind.Int
result_under choice None = refl
result_under choice (Some h) = refl

mutual
  pub atom_under : (choice : Choice) (g : Globals Guess) (s : Scope Guess) (e : Expression)
      → under choice (atom_of Known g s e) ≡ atom_of known_kind (globals_under choice g) (scope_under choice s) e
  atom_under choice g s (Num z l) = refl
  atom_under choice g s (Truth b l) = refl
  atom_under choice g s (Var n) = or_else_under choice (find s n.word) (Known kind.Int) ∙ ap (λ o. or_else o kind.Int) (sym (find_under choice s n.word))
  atom_under choice g s (Prim op a b l) = refl
  atom_under choice g s (If c a b l) = atom_under choice g s a
  atom_under choice g s (Let n e b) =
      atom_under choice g (bind n.word (atom_of Known g s e) s) b
      ∙ ap (λ k. atom_of known_kind (globals_under choice g) (bind n.word k (scope_under choice s)) b) (atom_under choice g s e)
  atom_under choice g s (Match e as' l) = arms_under choice g s as'
  atom_under choice g s (Build c es place) = refl
  atom_under choice g s (Call f es) = result_under choice (head_of g.heads f.word) ∙ ap (λ o. option_map_or (λ h. h.result) o kind.Int) (sym (head_of_under choice g.heads f.word))

  pub arms_under : (choice : Choice) (g : Globals Guess) (s : Scope Guess) (as' : Arms)
      → under choice (arms_atom Known g s as') ≡ arms_atom known_kind (globals_under choice g) (scope_under choice s) as'
  arms_under choice g s NoArms = refl
  arms_under choice g s (AndArm c fs x b as') =
      atom_under choice g (arm_scope Known g.types c fs x s) b ∙ ap (λ inner. atom_of known_kind (globals_under choice g) inner b) (arm_under choice g.types c fs x s)

map_append : (choice : Choice) (xs ys : List Guess) → map (under choice) (xs ++ ys) ≡ map (under choice) xs ++ map (under choice) ys
map_append choice [] ys = refl
map_append choice (x ∷ xs) ys = ap (λ l. under choice x ∷ l) (map_append choice xs ys)

both_under : (choice : Choice) (xs ys : List Guess) (ks qs : List Kind) → map (under choice) xs ≡ ks → map (under choice) ys ≡ qs
    → map (under choice) (xs ++ ys) ≡ ks ++ qs
both_under choice xs ys ks qs h k = map_append choice xs ys ∙ ap (λ l. l ++ map (under choice) ys) h ∙ ap (λ l. ks ++ l) k

own_under : (choice : Choice) (g : Globals Guess) (s : Scope Guess) (e : Expression)
    → map (under choice) (atom_of Known g s e ∷ []) ≡ atom_of known_kind (globals_under choice g) (scope_under choice s) e ∷ []
own_under choice g s e = ap (λ x. x ∷ []) (atom_under choice g s e)

mutual
  pub atoms_under : (choice : Choice) (g : Globals Guess) (s : Scope Guess) (e : Expression)
      → map (under choice) (atoms_of Known g s e) ≡ atoms_of known_kind (globals_under choice g) (scope_under choice s) e
  atoms_under choice g s (Num z l) = refl
  atoms_under choice g s (Truth b l) = refl
  atoms_under choice g s (Var n) = own_under choice g s (Var n)
  atoms_under choice g s (Prim op a b l) =
      both_under choice _ _ _ _ (atoms_under choice g s a) (both_under choice _ _ _ _ (atoms_under choice g s b) (own_under choice g s (Prim op a b l)))
  atoms_under choice g s (If c a b l) =
      both_under choice _ _ _ _ (atoms_under choice g s c)
      (both_under choice _ _ _ _ (atoms_under choice g s a) (both_under choice _ _ _ _ (atoms_under choice g s b) (own_under choice g s (If c a b l))))
  atoms_under choice g s (Let n e b) =
      both_under choice _ _ _ _ (atoms_under choice g s e)
      (both_under choice _ _ _ _
      (atoms_under choice g (bind n.word (atom_of Known g s e) s) b ∙ ap (λ k. atoms_of known_kind (globals_under choice g) (bind n.word k (scope_under choice s)) b) (atom_under choice g s e))
      (own_under choice g s (Let n e b)))
  atoms_under choice g s (Match e as' l) =
      both_under choice _ _ _ _ (atoms_under choice g s e) (both_under choice _ _ _ _ (arms_atoms_under choice g s as') (own_under choice g s (Match e as' l)))
  atoms_under choice g s (Build c es place) = both_under choice _ _ _ _ (all_atoms_under choice g s es) (own_under choice g s (Build c es place))
  atoms_under choice g s (Call f es) = both_under choice _ _ _ _ (all_atoms_under choice g s es) (own_under choice g s (Call f es))

  pub all_atoms_under : (choice : Choice) (g : Globals Guess) (s : Scope Guess) (es : Expressions)
      → map (under choice) (all_atoms Known g s es) ≡ all_atoms known_kind (globals_under choice g) (scope_under choice s) es
  all_atoms_under choice g s NoExpressions = refl
  all_atoms_under choice g s (AndExpression e es) = both_under choice _ _ _ _ (atoms_under choice g s e) (all_atoms_under choice g s es)

  pub arms_atoms_under : (choice : Choice) (g : Globals Guess) (s : Scope Guess) (as' : Arms)
      → map (under choice) (arms_atoms Known g s as') ≡ arms_atoms known_kind (globals_under choice g) (scope_under choice s) as'
  arms_atoms_under choice g s NoArms = refl
  arms_atoms_under choice g s (AndArm c fs x b as') =
      both_under choice _ _ _ _
      (atoms_under choice g (arm_scope Known g.types c fs x s) b ∙ ap (λ inner. atoms_of known_kind (globals_under choice g) inner b) (arm_under choice g.types c fs x s))
      (arms_atoms_under choice g s as')
