-- The rule is a proposition.
use Rattle.std.proofs.Common.{◌≡◌, true, false, Bool, List, [], ◌∷◌, ℕ, refl, Option, Some, None}
use Rattle.std.specs.Coded.{×_prop, Unit-prop, Coded-set, coded_list, coded_bool, code_by}
use Rattle.std.specs.List.{AllByRecursion}
use Rattle.std.proofs.Math.Bool.{Bool-set}
use Rattle.std.proofs.Math.Path.{fun_ext}
use Rattle.camelot_values.specs.Kinds.{DataType}
use Rattle.camelot_values.specs.Heap.{is_heap}
use Rattle.camelot_values.specs.Names.{find}
use Rattle.camelot_values.specs.declared.kinds.Kind.{Kind}
use Rattle.camelot_values.specs.declared.kinds.Kind.TheVariants.{Int}
use Rattle.camelot_tree.specs.declared.tree.Name.{Name}
use Rattle.camelot_tree.specs.declared.tree.Param.{Param}
use Rattle.camelot_tree.specs.declared.tree.ArmCell.{ArmCell}
use Rattle.camelot_tree.specs.Tree.{Expression, Num, Truth, Var, Prim, If, Let, Match, Build, Call, Expressions, NoExpressions, AndExpression, Arms, NoArms, AndArm, Function}
use Rattle.camelot_typing.specs.Kinds.{Globals, Scope, bind, or_else, bound_names, arm_scope, atom_of}
use Rattle.camelot_typing.specs.Typing.{Signature, known_kind, params_scope}
use Rattle.camelot_typing.specs.Typed.{Typing, typing_globals}
use Rattle.linear_use.specs.Uses.{Loans, lent_params, some_lent, loans_of, is_lent, looks_at, arm_flags, reads_behind, Occurrence, Taking, Reading, Path, NoneBehind, paths, IsFair, EachIsFair, CellTaken, PlaceIsOwned, IsLinear, AllAreLinear, ArmsAreLinear, ParamsAreFair, FunctionIsLinear, FunctionsAreLinear}
use Rattle.camelot_tree.specs.Cells.{has_cell}
use Rattle.linear_use.specs.Answers.{KeepsRule}

to_prop : {A B : Type 0} → IsProp B → IsProp (A → B)
to_prop h f g = fun_ext (λ x. h (f x) (g x))

-- ---- paths

abbrev takes : Occurrence → Bool
takes Taking = true
takes Reading = false

abbrev occurrence : Bool → Occurrence
occurrence true = Taking
occurrence false = Reading

the_same : (o : Occurrence) → occurrence (takes o) ≡ o
the_same Taking = refl
the_same Reading = refl

nothing_prop : (p : Path) → IsProp (p ≡ [])
nothing_prop p = Coded-set (coded_list (code_by Bool coded_bool takes occurrence the_same)) p []

behind_prop : (p : Path) → IsProp (NoneBehind p)
behind_prop [] = Unit-prop
behind_prop (Reading ∷ p) = behind_prop p
behind_prop (Taking ∷ p) = nothing_prop p

all_behind_prop : (ps : List Path) → IsProp (AllByRecursion NoneBehind ps)
all_behind_prop [] = Unit-prop
all_behind_prop (p ∷ ps) = ×_prop (behind_prop p) (all_behind_prop ps)

fair_prop : (loans : Loans) (types : List DataType) (k : Kind) (lent : Bool) (x : List ℕ) (e : Expression) → IsProp (IsFair loans types k lent x e)
fair_prop loans types k lent x e = to_prop (all_behind_prop (paths loans x e))

each_prop : (loans : Loans) (types : List DataType) (inner : Scope Kind) (flags : Scope Bool) (ns : List Name) (e : Expression) → IsProp (EachIsFair loans types inner flags ns e)
each_prop loans types inner flags [] e = Unit-prop
each_prop loans types inner flags (n ∷ ns) e =
    ×_prop (fair_prop loans types (or_else (find inner n.word) Int) (is_lent flags n) n.word e) (each_prop loans types inner flags ns e)

cell_prop : (types : List DataType) (lent : Bool) (c : Name) (x : ArmCell) → IsProp (CellTaken types lent c x)
cell_prop types true c x = Bool-set (has_cell x) false
cell_prop types false c x = to_prop (Bool-set (has_cell x) true)

place_prop : (flags : Scope Bool) (place : Option Name) → IsProp (PlaceIsOwned flags place)
place_prop flags None = Unit-prop
place_prop flags (Some d) = Bool-set (is_lent flags d) false

mutual
  linear_prop : (loans : Loans) (g : Globals Kind) (s : Scope Kind) (flags : Scope Bool) (e : Expression) → IsProp (IsLinear loans g s flags e)
  linear_prop loans g s flags (Num z l) = Unit-prop
  linear_prop loans g s flags (Truth b l) = Unit-prop
  linear_prop loans g s flags (Var n) = Bool-set (is_lent flags n) false
  linear_prop loans g s flags (Prim op a b l) = ×_prop (linear_prop loans g s flags a) (linear_prop loans g s flags b)
  linear_prop loans g s flags (If c a b l) =
      let p = linear_prop loans g s flags c in let q = linear_prop loans g s flags a in let r = linear_prop loans g s flags b in hlevel (p, q, r)
  linear_prop loans g s flags (Let n e b) =
      let p = linear_prop loans g s flags e in
      let q = fair_prop loans g.types (atom_of known_kind g s e) false n.word b in
      let r = linear_prop loans g (bind n.word (atom_of known_kind g s e) s) (bind n.word false flags) b in
      hlevel (p, q, r)
  linear_prop loans g s flags (Match e as' l) = ×_prop (to_prop (linear_prop loans g s flags e)) (arms_prop loans g s flags (looks_at flags e) as')
  linear_prop loans g s flags (Build c es place) = ×_prop (all_prop loans g s flags [] es) (place_prop flags place)
  linear_prop loans g s flags (Call f es) = all_prop loans g s flags (loans f.word) es

  all_prop : (loans : Loans) (g : Globals Kind) (s : Scope Kind) (flags : Scope Bool) (ms : List Bool) (es : Expressions) → IsProp (AllAreLinear loans g s flags ms es)
  all_prop loans g s flags ms NoExpressions = Unit-prop
  all_prop loans g s flags ms (AndExpression e es) = ×_prop (to_prop (linear_prop loans g s flags e)) (all_prop loans g s flags (reads_behind ms) es)

  arms_prop : (loans : Loans) (g : Globals Kind) (s : Scope Kind) (flags : Scope Bool) (lent : Bool) (as' : Arms) → IsProp (ArmsAreLinear loans g s flags lent as')
  arms_prop loans g s flags lent NoArms = Unit-prop
  arms_prop loans g s flags lent (AndArm c fs x b as') =
      let inner = arm_scope known_kind g.types c fs x s in
      let lents = arm_flags g.types lent c fs x flags in
      let o = cell_prop g.types lent c x in
      let p = each_prop loans g.types inner lents (bound_names fs x) b in
      let q = linear_prop loans g inner lents b in
      let r = arms_prop loans g s flags lent as' in
      hlevel (o, p, q, r)

params_prop : (loans : Loans) (types : List DataType) (xs : List Param) (ks : List Kind) (ms : List Bool) (e : Expression) → IsProp (ParamsAreFair loans types xs ks ms e)
params_prop loans types [] ks ms e = Unit-prop
params_prop loans types (x ∷ xs) [] ms e = Unit-prop
params_prop loans types (x ∷ xs) (k ∷ ks) [] e = Unit-prop
params_prop loans types (x ∷ xs) (k ∷ ks) (m ∷ ms) e = ×_prop (fair_prop loans types k m x.name.word e) (params_prop loans types xs ks ms e)

function_prop : (loans : Loans) (g : Globals Kind) (f : Function) (s : Signature) → IsProp (FunctionIsLinear loans g f s)
function_prop loans g f s =
    let ms = lent_params g.types f.params s.params in
    let o : IsProp (some_lent ms ≡ true → is_heap g.types s.result ≡ false) = to_prop (Bool-set (is_heap g.types s.result) false) in
    let p = params_prop loans g.types f.params s.params ms f.body in
    let q = linear_prop loans g (params_scope f.params s.params) (params_scope f.params ms) f.body in
    hlevel (o, p, q)

functions_prop : (loans : Loans) (g : Globals Kind) (fs : List Function) (ss : List Signature) → IsProp (FunctionsAreLinear loans g fs ss)
functions_prop loans g [] ss = Unit-prop
functions_prop loans g (f ∷ fs) [] = Unit-prop
functions_prop loans g (f ∷ fs) (s ∷ ss) = ×_prop (function_prop loans g f s) (functions_prop loans g fs ss)

pub keeps_prop : (t : Typing) → IsProp (KeepsRule t)
keeps_prop t = functions_prop (loans_of t.source t.signatures) (typing_globals t) t.source.funs t.signatures
