-- The kinds of a typed program's locals are of types that are there.
use Rattle.std.proofs.Common.{◌≡◌, ℕ, zero, suc, ◌<◌, Bool, true, false, List, [], ◌∷◌, ◌++◌, length, map, Option, Some, None, refl, sym, ap, subst, arith}
use Rattle.std.specs.Prelude.{if◌then◌else◌, slice_get, flat_map}
use Rattle.std.specs.List.{AllByRecursion}
use Rattle.std.specs.Option.{option_map, option_map_or}
use Rattle.std.specs.Str.{bytes_eq}
use Rattle.camelot_values.specs.Kinds.{Constructor, DataType, constructors, type_of}
use Rattle.camelot_values.specs.Names.{find, place_among}
use Rattle.camelot_values.specs.Operator as operator
use Rattle.camelot_values.specs.Operator.{Operator}
use Rattle.camelot_values.specs.Typing.{operator_kind}
use Rattle.camelot_values.specs.declared.kinds.Kind.{Kind}
use Rattle.camelot_values.specs.declared.kinds.Kind.TheVariants as kind
use Rattle.camelot_tree.specs.declared.tree.Name.{Name}
use Rattle.camelot_tree.specs.declared.tree.Atom.{Atom}
use Rattle.camelot_tree.specs.declared.tree.Atom.TheVariants as atom
use Rattle.camelot_tree.specs.declared.tree.Param.{Param}
use Rattle.camelot_tree.specs.declared.tree.ArmCell.{ArmCell}
use Rattle.camelot_tree.specs.declared.tree.ArmCell.TheVariants as cell
use Rattle.camelot_tree.specs.Tree as tree
use Rattle.camelot_tree.specs.Tree.{Expression, Num, Truth, Var, Prim, If, Let, Match, Build, Call, Expressions, NoExpressions, AndExpression, Arms, NoArms, AndArm, Function, Source}
use Rattle.camelot_tree.specs.Meaning.{is_that, constructor_number}
use Rattle.camelot_typing.specs.Kinds as typed
use Rattle.camelot_typing.specs.Kinds.{Globals, Scope, bind, bind_fields, bind_cell, arm_scope, or_else, kind_of_atom, field_kind, constructor_kinds, data_kinds, types_of, fields_of, built_kind, head_of}
use Rattle.camelot_typing.specs.Typing.{Signature, known_kind, params_scope, globals_of, IsDeclared, Stands, ParamsStand, FunctionsFit, HaveKinds, ArmsHaveKind}
use Rattle.camelot_typing.specs.NumberLaws.{constructors_same}
use Rattle.grail_code.specs.WellFormed.{IsKnownKind}
use Rattle.normal_form.specs.Normal.{con_of, cons_of, diamond_kinds, bound_kinds, kind_in, all_of, kinds, all_kinds, arm_kinds, tail_kinds, arm_tail_kinds}
use Rattle.normal_form.proofs.KindsAt.{Frame, kind_is, in_let}
use Rattle.normal_form.proofs.Frames.{Typed}
use Rattle.normal_form.proofs.FitTurns.{type_there}

abbrev pub AllKnown : List DataType → List Kind → Type 0
AllKnown types ks = AllByRecursion (IsKnownKind types) ks

pub all_append : (types : List DataType) (xs ys : List Kind) → AllKnown types xs → AllKnown types ys → AllKnown types (xs ++ ys)
all_append types [] ys h k = k
all_append types (x ∷ xs) ys h k = (h.0, all_append types xs ys h.1 k)

-- ---- what is declared

declared_known : (types : List DataType) (k : Kind) → IsDeclared types k → IsKnownKind types k
declared_known types kind.Int h = tt
declared_known types kind.Flag h = tt
declared_known types kind.Dia h = tt
declared_known types (kind.Of t) h = h

place_below : (ns : List (List ℕ)) (name : List ℕ) (i : ℕ) → place_among ns name ≡ Some i → i < length ns
place_below [] name i e = absurd cc
place_below (n ∷ ns) name i e = by_test (bytes_eq n name) (λ j. place_below ns name j) e
  where
    by_place : (o : Option ℕ) → ((j : ℕ) → o ≡ Some j → j < length ns) → option_map suc o ≡ Some i → i < suc (length ns)
    by_place None rec e = absurd cc
    by_place (Some j) rec e = let same : suc j ≡ i = cc in let k = rec j refl in omega (arith, same, k)

    by_test : (b : Bool) → ((j : ℕ) → place_among ns name ≡ Some j → j < length ns)
        → (if b then Some 0 else option_map suc (place_among ns name)) ≡ Some i → i < suc (length ns)
    by_test true rec e = let same : 0 ≡ i = cc in omega (arith, same)
    by_test false rec e = by_place (place_among ns name) rec e

names_length : (p : Source) (ts : List tree.DataType) → length (map (λ t. t.name.word) ts) ≡ length (map (data_kinds p) ts)
names_length p [] = refl
names_length p (t ∷ ts) = ap suc (names_length p ts)

atom_known : (p : Source) (a : Atom) (k : Kind) → kind_of_atom p a ≡ Some k → IsKnownKind (types_of p) k
atom_known p atom.Int k e = let same : kind.Int ≡ k = cc in subst (IsKnownKind (types_of p)) same tt
atom_known p atom.Bool k e = let same : kind.Flag ≡ k = cc in subst (IsKnownKind (types_of p)) same tt
atom_known p atom.Dia k e = let same : kind.Dia ≡ k = cc in subst (IsKnownKind (types_of p)) same tt
atom_known p (atom.Named n) k e = by_place (place_among (map (λ t. t.name.word) p.types) n.word) refl e
  where
    by_place : (o : Option ℕ) → place_among (map (λ t. t.name.word) p.types) n.word ≡ o → option_map kind.Of o ≡ Some k → IsKnownKind (types_of p) k
    by_place None is e = absurd cc
    by_place (Some t) is e =
        let same : kind.Of t ≡ k = cc in
        let less = place_below (map (λ t. t.name.word) p.types) n.word t is in
        let size = names_length p p.types in
        let below : t < length (types_of p) = omega (arith, less, size) in
        subst (IsKnownKind (types_of p)) same below

field_known : (p : Source) (a : Atom) → IsKnownKind (types_of p) (field_kind p a)
field_known p a = by_kind (kind_of_atom p a) refl
  where
    by_kind : (o : Option Kind) → kind_of_atom p a ≡ o → IsKnownKind (types_of p) (or_else o kind.Int)
    by_kind None e = tt
    by_kind (Some k) e = atom_known p a k e

fields_known : (p : Source) (as' : List Atom) → AllKnown (types_of p) (map (field_kind p) as')
fields_known p [] = tt
fields_known p (a ∷ as') = (field_known p a, fields_known p as')

abbrev pub FieldsKnown : List DataType → List Constructor → Type 0
FieldsKnown types cs = AllByRecursion (λ c. AllByRecursion (IsKnownKind types) c.fields) cs

declared_fields : (p : Source) (cs : List tree.Constructor) → FieldsKnown (types_of p) (map (constructor_kinds p) cs)
declared_fields p [] = tt
declared_fields p (c ∷ cs) = (fields_known p c.fields, declared_fields p cs)

-- the fields of all constructors
pub constructors_known : (p : Source) → FieldsKnown (types_of p) (constructors (types_of p))
constructors_known p = subst (FieldsKnown (types_of p)) (sym (constructors_same p p.types)) (declared_fields p (flat_map (λ t. t.cons) p.types))

fields_at : (types : List DataType) (cs : List Constructor) (con : ℕ) → FieldsKnown types cs
    → AllKnown types (option_map_or (λ c. c.fields) (slice_get cs con) [])
fields_at types [] con h = tt
fields_at types (c ∷ cs) zero h = h.0
fields_at types (c ∷ cs) (suc con) h = fields_at types cs con h.1

constructor_fields : (p : Source) (con : ℕ) → AllKnown (types_of p) (fields_of (types_of p) con)
constructor_fields p con = fields_at (types_of p) (constructors (types_of p)) con (constructors_known p)

pub stands_known : (p : Source) (o : Option Atom) (k : Kind) → Stands p o k → IsKnownKind (types_of p) k
stands_known p None k h = declared_known (types_of p) k h
stands_known p (Some a) k h = atom_known p a k h

pub params_known : (p : Source) (xs : List Param) (ks : List Kind) → ParamsStand p xs ks → AllKnown (types_of p) ks
params_known p [] [] h = tt
params_known p [] (k ∷ ks) h = absurd h
params_known p (x ∷ xs) [] h = absurd h
params_known p (x ∷ xs) (k ∷ ks) h = (stands_known p x.kind k h.0, params_known p xs ks h.1)

head_known : (p : Source) (g : Globals Kind) (fs : List Function) (sigs : List Signature) (name : List ℕ) (h : Signature) → FunctionsFit p g fs sigs
    → head_of sigs name ≡ Some h → IsKnownKind (types_of p) h.result
head_known p g [] [] name h fit e = absurd cc
head_known p g [] (s ∷ sigs) name h fit e = absurd fit
head_known p g (f ∷ fs) [] name h fit e = absurd fit
head_known p g (f ∷ fs) (s ∷ sigs) name h fit e = by_test (bytes_eq s.name name) (λ k. head_known p g fs sigs name h fit.1 k) e
  where
    by_test : (b : Bool) → (head_of sigs name ≡ Some h → IsKnownKind (types_of p) h.result) → (if b then Some s else head_of sigs name) ≡ Some h
        → IsKnownKind (types_of p) h.result
    by_test true rec e = let same : s ≡ h = cc in subst (λ u. IsKnownKind (types_of p) u.result) same (stands_known p f.result s.result fit.0.result)
    by_test false rec e = rec e

-- ---- scopes

abbrev pub ScopeKnown : List DataType → Scope Kind → Type 0
ScopeKnown types s = (name : List ℕ) (k : Kind) → find s name ≡ Some k → IsKnownKind types k

bound_known : (types : List DataType) (s : Scope Kind) (n : List ℕ) (q : Kind) → ScopeKnown types s → IsKnownKind types q → ScopeKnown types (bind n q s)
bound_known types s n q h own name k e = by_test (bytes_eq n name) e
  where
    by_test : (b : Bool) → (if b then Some q else find s name) ≡ Some k → IsKnownKind types k
    by_test true e = let same : q ≡ k = cc in subst (IsKnownKind types) same own
    by_test false e = h name k e

fields_bound_known : (types : List DataType) (fs : List (Option Name)) (ks : List Kind) (s : Scope Kind) → ScopeKnown types s → AllKnown types ks
    → ScopeKnown types (bind_fields known_kind fs ks s)
fields_bound_known types [] ks s h all = h
fields_bound_known types (None ∷ fs) [] s h all = h
fields_bound_known types (Some n ∷ fs) [] s h all = h
fields_bound_known types (None ∷ fs) (k ∷ ks) s h all = fields_bound_known types fs ks s h all.1
fields_bound_known types (Some n ∷ fs) (k ∷ ks) s h all = fields_bound_known types fs ks (bind n.word k s) (bound_known types s n.word k h all.0) all.1

cell_bound_known : (types : List DataType) (x : ArmCell) (s : Scope Kind) → ScopeKnown types s → ScopeKnown types (bind_cell known_kind x s)
cell_bound_known types cell.Plain s h = h
cell_bound_known types cell.Free s h = h
cell_bound_known types (cell.Keep d) s h = bound_known types s d.word kind.Dia h tt

arm_known : (p : Source) (c : Name) (fs : List (Option Name)) (x : ArmCell) (s : Scope Kind) → ScopeKnown (types_of p) s
    → ScopeKnown (types_of p) (arm_scope known_kind (types_of p) c fs x s)
arm_known p c fs x s h =
    let con = or_else (typed.constructor_number (types_of p) c.word) 0 in
    cell_bound_known (types_of p) x (bind_fields known_kind fs (fields_of (types_of p) con) s) (fields_bound_known (types_of p) fs (fields_of (types_of p) con) s h (constructor_fields p con))

pub params_scope_known : (types : List DataType) (xs : List Param) (ks : List Kind) → AllKnown types ks → ScopeKnown types (params_scope xs ks)
params_scope_known types [] ks all name k e = absurd cc
params_scope_known types (x ∷ xs) [] all name k e = absurd cc
params_scope_known types (x ∷ xs) (q ∷ ks) all name k e = bound_known types (params_scope xs ks) x.name.word q (params_scope_known types xs ks all.1) all.0 name k e

-- ---- expressions

operator_known : (types : List DataType) (op : Operator) → IsKnownKind types (operator_kind op)
operator_known types operator.Add = tt
operator_known types operator.Sub = tt
operator_known types operator.Mul = tt
operator_known types operator.Div = tt
operator_known types operator.Mod = tt
operator_known types operator.Eq = tt
operator_known types operator.Ne = tt
operator_known types operator.Lt = tt
operator_known types operator.Le = tt
operator_known types operator.Gt = tt
operator_known types operator.Ge = tt

built_known : (types : List DataType) (con : ℕ) (q : Kind) → built_kind types con ≡ Some q → IsKnownKind types q
built_known types con q e = by_type (type_of types con) refl e
  where
    by_type : (o : Option ℕ) → type_of types con ≡ o → option_map kind.Of o ≡ Some q → IsKnownKind types q
    by_type None is e = absurd cc
    by_type (Some t) is e = let same : kind.Of t ≡ q = cc in subst (IsKnownKind types) same (type_there types con t is)

pub kind_known : (F : Frame) (e : Expression) (s : Scope Kind) (q : Kind) → ScopeKnown (types_of F.source) s → Typed F s e q → IsKnownKind (types_of F.source) q
kind_known F (Num z l) s q h has = subst (IsKnownKind (types_of F.source)) (sym has) tt
kind_known F (Truth b l) s q h has = subst (IsKnownKind (types_of F.source)) (sym has) tt
kind_known F (Var n) s q h has = h n.word q has
kind_known F (Prim op a b l) s q h has = subst (IsKnownKind (types_of F.source)) (sym has.2) (operator_known (types_of F.source) op)
kind_known F (If c a b l) s q h has = kind_known F a s q h has.1
kind_known F (Let n a b) s q h has = kind_known F b (bind n.word has.0 s) q (bound_known (types_of F.source) s n.word has.0 h (kind_known F a s has.0 h has.1)) has.2
kind_known F (Match e NoArms l) s q h has = absurd has
kind_known F (Match e (AndArm c fs x b as') l) s q h has = kind_known F b (arm_scope known_kind (types_of F.source) c fs x s) q (arm_known F.source c fs x s h) has.3.1
kind_known F (Build c es place) s q h has = built_known (types_of F.source) has.0 q has.2
kind_known F (Call f es) s q h has = subst (IsKnownKind (types_of F.source)) has.2 (head_known F.source (globals_of F.source F.sigs) F.source.funs F.sigs f.word has.0 F.fit has.1)

-- the computed kind
in_known : (F : Frame) (e : Expression) (s : Scope Kind) (q : Kind) → ScopeKnown (types_of F.source) s → Typed F s e q
    → IsKnownKind (types_of F.source) (kind_in F.source F.sigs s e)
in_known F e s q h has = subst (IsKnownKind (types_of F.source)) (kind_is F e s q has) (kind_known F e s q h has)

all_of_known : (types : List DataType) (kinds_of : ℕ → List Kind) → ((con : ℕ) → AllKnown types (kinds_of con)) → (cons : List ℕ)
    → AllKnown types (all_of kinds_of cons)
all_of_known types kinds_of h [] = tt
all_of_known types kinds_of h (con ∷ cons) = all_append types (kinds_of con) (all_of kinds_of cons) (h con) (all_of_known types kinds_of h cons)

diamonds_known : (types : List DataType) (x : ArmCell) → AllKnown types (diamond_kinds x)
diamonds_known types cell.Plain = tt
diamonds_known types cell.Free = tt
diamonds_known types (cell.Keep d) = (tt, tt)

bound_kinds_known : (p : Source) (c : Name) (x : ArmCell) → AllKnown (types_of p) (bound_kinds p c x)
bound_kinds_known p c x = all_append (types_of p) (fields_of (types_of p) (con_of p c)) (diamond_kinds x) (constructor_fields p (con_of p c)) (diamonds_known (types_of p) x)

chosen_known : (types : List DataType) (t : Bool) (xs ys : List Kind) → AllKnown types xs → AllKnown types ys → AllKnown types (if t then xs else ys)
chosen_known types true xs ys h k = h
chosen_known types false xs ys h k = k

mutual
  pub kinds_known : (F : Frame) (e : Expression) (s : Scope Kind) (q : Kind) → ScopeKnown (types_of F.source) s → Typed F s e q
      → AllKnown (types_of F.source) (kinds F.source F.sigs s e)
  kinds_known F (Var n) s q h has = tt
  kinds_known F (Num z l) s q h has = (tt, tt)
  kinds_known F (Truth b l) s q h has = (tt, tt)
  kinds_known F (Prim op a b l) s q h has =
      let types = types_of F.source in
      all_append types (kinds F.source F.sigs s a) (kinds F.source F.sigs s b ++ (operator_kind op ∷ [])) (kinds_known F a s kind.Int h has.0)
      (all_append types (kinds F.source F.sigs s b) (operator_kind op ∷ []) (kinds_known F b s kind.Int h has.1) (operator_known types op, tt))
  kinds_known F (Build c es place) s q h has =
      all_append (types_of F.source) (all_kinds F.source F.sigs s es) (kind_in F.source F.sigs s (Build c es place) ∷ []) (all_kinds_known F es s _ h has.3) (in_known F (Build c es place) s q h has, tt)
  kinds_known F (Call f es) s q h has =
      all_append (types_of F.source) (all_kinds F.source F.sigs s es) (kind_in F.source F.sigs s (Call f es) ∷ []) (all_kinds_known F es s _ h has.3) (in_known F (Call f es) s q h has, tt)
  kinds_known F (Let n a b) s q h has =
      let inner = bind n.word (kind_in F.source F.sigs s a) s in
      all_append (types_of F.source) (kinds F.source F.sigs s a) (kinds F.source F.sigs inner b) (kinds_known F a s has.0 h has.1)
      (kinds_known F b inner q (bound_known (types_of F.source) s n.word (kind_in F.source F.sigs s a) h (in_known F a s has.0 h has.1)) (in_let F s n a b has.0 q has.1 has.2))
  kinds_known F (If c a b l) s q h has =
      let types = types_of F.source in
      all_append types (kinds F.source F.sigs s c) (kind_in F.source F.sigs s (If c a b l) ∷ (kinds F.source F.sigs s a ++ kinds F.source F.sigs s b)) (kinds_known F c s kind.Flag h has.0)
      (in_known F (If c a b l) s q h has, all_append types (kinds F.source F.sigs s a) (kinds F.source F.sigs s b) (kinds_known F a s q h has.1) (kinds_known F b s q h has.2))
  kinds_known F (Match e NoArms l) s q h has = absurd has
  kinds_known F (Match e (AndArm c fs x b as') l) s q h has =
      let arms = AndArm c fs x b as' in
      all_append (types_of F.source) (kinds F.source F.sigs s e) (kind_in F.source F.sigs s (Match e arms l) ∷ all_of (arm_kinds F.source F.sigs s arms) (cons_of F.source arms)) (kinds_known F e s (kind.Of has.0) h has.1)
      (in_known F (Match e (AndArm c fs x b as') l) s q h has, all_of_known (types_of F.source) (arm_kinds F.source F.sigs s arms) (λ con. arm_kinds_known F (AndArm c fs x b as') s has.0 con q h has.3) (cons_of F.source arms))

  pub all_kinds_known : (F : Frame) (es : Expressions) (s : Scope Kind) (ks : List Kind) → ScopeKnown (types_of F.source) s
      → HaveKinds (globals_of F.source F.sigs) s es ks → AllKnown (types_of F.source) (all_kinds F.source F.sigs s es)
  all_kinds_known F NoExpressions s ks h has = tt
  all_kinds_known F (AndExpression e es) s [] h has = absurd has
  all_kinds_known F (AndExpression e es) s (k ∷ ks) h has = all_append (types_of F.source) (kinds F.source F.sigs s e) (all_kinds F.source F.sigs s es) (kinds_known F e s k h has.0) (all_kinds_known F es s ks h has.1)

  pub arm_kinds_known : (F : Frame) (as' : Arms) (s : Scope Kind) (t con : ℕ) (q : Kind) → ScopeKnown (types_of F.source) s
      → ArmsHaveKind (globals_of F.source F.sigs) s t as' q → AllKnown (types_of F.source) (arm_kinds F.source F.sigs s as' con)
  arm_kinds_known F NoArms s t con q h has = tt
  arm_kinds_known F (AndArm c fs x b as') s t con q h has =
      let inner = arm_scope known_kind (types_of F.source) c fs x s in
      chosen_known (types_of F.source) (is_that (constructor_number F.source c) con) (bound_kinds F.source c x ++ kinds F.source F.sigs inner b) (arm_kinds F.source F.sigs s as' con)
      (all_append (types_of F.source) (bound_kinds F.source c x) (kinds F.source F.sigs inner b) (bound_kinds_known F.source c x) (kinds_known F b inner q (arm_known F.source c fs x s h) has.1))
      (arm_kinds_known F as' s t con q h has.2)

mutual
  pub tail_kinds_known : (F : Frame) (e : Expression) (s : Scope Kind) (q : Kind) → ScopeKnown (types_of F.source) s → Typed F s e q
      → AllKnown (types_of F.source) (tail_kinds F.source F.sigs s e)
  tail_kinds_known F (Var n) s q h has = tt
  tail_kinds_known F (Num z l) s q h has = (tt, tt)
  tail_kinds_known F (Truth b l) s q h has = (tt, tt)
  tail_kinds_known F (Prim op a b l) s q h has = kinds_known F (Prim op a b l) s q h has
  tail_kinds_known F (Build c es place) s q h has = kinds_known F (Build c es place) s q h has
  tail_kinds_known F (Call f es) s q h has = all_kinds_known F es s _ h has.3
  tail_kinds_known F (Let n a b) s q h has =
      let inner = bind n.word (kind_in F.source F.sigs s a) s in
      all_append (types_of F.source) (kinds F.source F.sigs s a) (tail_kinds F.source F.sigs inner b) (kinds_known F a s has.0 h has.1)
      (tail_kinds_known F b inner q (bound_known (types_of F.source) s n.word (kind_in F.source F.sigs s a) h (in_known F a s has.0 h has.1)) (in_let F s n a b has.0 q has.1 has.2))
  tail_kinds_known F (If c a b l) s q h has =
      let types = types_of F.source in
      all_append types (kinds F.source F.sigs s c) (tail_kinds F.source F.sigs s a ++ tail_kinds F.source F.sigs s b) (kinds_known F c s kind.Flag h has.0)
      (all_append types (tail_kinds F.source F.sigs s a) (tail_kinds F.source F.sigs s b) (tail_kinds_known F a s q h has.1) (tail_kinds_known F b s q h has.2))
  tail_kinds_known F (Match e NoArms l) s q h has = absurd has
  tail_kinds_known F (Match e (AndArm c fs x b as') l) s q h has =
      let arms = AndArm c fs x b as' in
      all_append (types_of F.source) (kinds F.source F.sigs s e) (all_of (arm_tail_kinds F.source F.sigs s arms) (cons_of F.source arms)) (kinds_known F e s (kind.Of has.0) h has.1)
      (all_of_known (types_of F.source) (arm_tail_kinds F.source F.sigs s arms) (λ con. arm_tail_kinds_known F (AndArm c fs x b as') s has.0 con q h has.3) (cons_of F.source arms))

  pub arm_tail_kinds_known : (F : Frame) (as' : Arms) (s : Scope Kind) (t con : ℕ) (q : Kind) → ScopeKnown (types_of F.source) s
      → ArmsHaveKind (globals_of F.source F.sigs) s t as' q → AllKnown (types_of F.source) (arm_tail_kinds F.source F.sigs s as' con)
  arm_tail_kinds_known F NoArms s t con q h has = tt
  arm_tail_kinds_known F (AndArm c fs x b as') s t con q h has =
      let inner = arm_scope known_kind (types_of F.source) c fs x s in
      chosen_known (types_of F.source) (is_that (constructor_number F.source c) con) (bound_kinds F.source c x ++ tail_kinds F.source F.sigs inner b) (arm_tail_kinds F.source F.sigs s as' con)
      (all_append (types_of F.source) (bound_kinds F.source c x) (tail_kinds F.source F.sigs inner b) (bound_kinds_known F.source c x) (tail_kinds_known F b inner q (arm_known F.source c fs x s h) has.1))
      (arm_tail_kinds_known F as' s t con q h has.2)
