-- Laws, for the proofs of this crate and of those above it.
-- A typed program on fitting arguments doesn't get stuck, and what it comes to is of the function's result kind.
use Rattle.std.proofs.Common.{◌≡◌, ℕ, zero, suc, ◌+◌, ◌≤◌, Bool, true, false, List, [], ◌∷◌, ◌++◌, length, map, Option, Some, None, refl, sym, ap, ◌∙◌, subst, arith}
use Rattle.std.specs.Prelude.{cond, ◌&&◌, if◌then◌else◌, slice_get, IsSomeAnd, IsTrue}
use Rattle.std.specs.List.{list_all}
use Rattle.std.specs.Option.{option_map, option_map_or}
use Rattle.std.specs.Str.{bytes_eq}
use Rattle.std.proofs.lemmas.Bool.Decides.{nat_tests}
use Rattle.camelot_values.specs.Value as value
use Rattle.camelot_values.specs.Value.{Value, Values, parts}
use Rattle.camelot_values.specs.Names.{AreDistinct, find}
use Rattle.camelot_values.specs.Kinds as values
use Rattle.camelot_values.specs.Kinds.{DataType, constructor, type_of}
use Rattle.camelot_values.specs.Typing.{Fits, FitAll, ArgumentsFit, IsSafe}
use Rattle.camelot_values.specs.Operator.{operate}
use Rattle.camelot_values.specs.Bounds.{Yields}
use Rattle.camelot_values.specs.BoundLaws.{yields_after, yields_then}
use Rattle.camelot_values.specs.IntLaws.{operate_sound, passing_int}
use Rattle.camelot_values.specs.Outcome.{Outcome, Done, Deep, first_then, at_once, known, given, entered}
use Rattle.camelot_values.specs.Runs.{Enter, chosen, on_diamond, is_too_deep, calls}
use Rattle.camelot_values.specs.declared.kinds.Kind.{Kind}
use Rattle.camelot_values.specs.declared.kinds.Kind.TheVariants as kind
use Rattle.camelot_values.specs.NameLaws.{same_name, name_itself}
use Rattle.camelot_tree.specs.declared.tree.Name.{Name}
use Rattle.camelot_tree.specs.declared.tree.Param.{Param}
use Rattle.camelot_tree.specs.declared.tree.ArmCell.{ArmCell}
use Rattle.camelot_tree.specs.declared.tree.ArmCell.TheVariants as cell
use Rattle.camelot_tree.specs.Tree as tree
use Rattle.camelot_tree.specs.Tree.{Expression, Num, Truth, Var, Prim, If, Let, Match, Build, Call, Expressions, NoExpressions, AndExpression, Arms, NoArms, AndArm, Function, Source}
use Rattle.camelot_tree.specs.Meaning as meaning
use Rattle.camelot_tree.specs.Meaning.{Environment, put, put_field, put_fields, put_params, in_cell, placed, cell_run, is_that, on_constructor, eval, eval_all, arms_run, function_number, body_run, bodies, run_of}
use Rattle.camelot_tree.specs.Tokens.{expression_has_ints, expressions_have_ints, arms_have_ints, has_ints}
use Rattle.camelot_typing.specs.Kinds.{Scope, bind, bind_fields, bind_cell, arm_scope, or_else, types_of, constructor_number, fields_of, is_inline, built_kind}
use Rattle.camelot_typing.specs.Typing.{Signature, known_kind, PlaceFits, arms_with, HeadFits, HasKind, HaveKinds, ArmsHaveKind, ParamsStand, params_scope, FunctionFits, FunctionsFit, globals_of, IsTyped}
use Rattle.camelot_typing.specs.Fitting.{Scoped, CallsFit}
use Rattle.camelot_typing.specs.NumberLaws.{number_same, At, numbered_constructor, written_constructor, head_number, signature_function, among_numbers}

-- ---- outcomes

yields_known : {A : Type 0} (P : A → Type 0) (o : Option A) → IsSomeAnd o P → Yields P (known o)
yields_known P None h = absurd h
yields_known P (Some v) h = h

yields_given : {A B : Type 0} (P : A → Type 0) (Q : B → Type 0) (o : Option A) (next : A → Outcome B) → IsSomeAnd o P
    → ((v : A) → P v → Yields Q (next v)) → Yields Q (given o next)
yields_given P Q None next h go = absurd h
yields_given P Q (Some v) next h go = go v h

-- ---- literals

pub both_hold : (a b : Bool) → (a && b) ≡ true → (a ≡ true) × (b ≡ true)
both_hold true b h = (refl, h)
both_hold false b h = absurd cc

pub each_holds : {A : Type 0} (test : A → Bool) (xs : List A) (i : ℕ) (x : A) → list_all test xs ≡ true → slice_get xs i ≡ Some x → test x ≡ true
each_holds test [] i x h e = absurd cc
each_holds test (y ∷ ys) zero x h e = let same : y ≡ x = cc in subst (λ z. test z ≡ true) same (both_hold (test y) (list_all test ys) h).0
each_holds test (y ∷ ys) (suc i) x h e = each_holds test ys i x (both_hold (test y) (list_all test ys) h).1 e

-- ---- names

pub kind_same : (k q : Kind) → ◌≡◌ {A = Option Kind} (Some k) (Some q) → k ≡ q
kind_same k q e = cc

pub scoped_bind : (types : List DataType) (s : Scope Kind) (env : Environment) (n : List ℕ) (k : Kind) (v : Value) → Scoped types s env
    → Fits types k v → Scoped types (bind n k s) (put env n v)
scoped_bind types s env n k v h fit = record { holds = λ name q e. by_test name q (bytes_eq n name) e }
  where
    by_test : (name : List ℕ) (q : Kind) (b : Bool) → (if b then Some k else find s name) ≡ Some q → IsSomeAnd (if b then Some v else env name) (Fits types q)
    by_test name q true e = subst (λ r. Fits types r v) (kind_same k q e) fit
    by_test name q false e = h.holds name q e

-- the names of fields are bound to parts of these kinds
pub record FieldsBound (types : List DataType) (s : Scope Kind) (env : Environment) (fs : List (Option Name)) (vs : Values) : Type 0 where
  pub bound : Environment
  pub is : put_fields env fs vs ≡ Some bound
  pub fits : Scoped types s bound

pub fields_bound : (types : List DataType) (s : Scope Kind) (env : Environment) (fs : List (Option Name)) (ks : List Kind) (vs : Values)
    → Scoped types s env → length fs ≡ length ks → FitAll types ks vs
    → FieldsBound types (bind_fields known_kind fs ks s) env fs vs
fields_bound types s env [] [] value.End h full fit = record { bound = env; is = refl; fits = h }
fields_bound types s env [] [] (value.And v vs) h full fit = absurd fit
fields_bound types s env [] (k ∷ ks) vs h full fit = absurd (omega (arith, full))
fields_bound types s env (f ∷ fs) [] vs h full fit = absurd (omega (arith, full))
fields_bound types s env (f ∷ fs) (k ∷ ks) value.End h full fit = absurd fit
fields_bound types s env (None ∷ fs) (k ∷ ks) (value.And v vs) h full fit = let r = fields_bound types s env fs ks vs h (omega (arith, full)) fit.1 in record { bound = r.bound; is = r.is; fits = r.fits }
fields_bound types s env (Some n ∷ fs) (k ∷ ks) (value.And v vs) h full fit =
    let r = fields_bound types (bind n.word k s) (put env n.word v) fs ks vs (scoped_bind types s env n.word k v h fit.0) (omega (arith, full)) fit.1 in
    record { bound = r.bound; is = r.is; fits = r.fits }

-- ---- parameters

-- a name stands in a list
pub record Among (names : List (List ℕ)) (name : List ℕ) : Type 0 where
  pub before : List (List ℕ)
  pub rest : List (List ℕ)
  pub is : names ≡ before ++ name ∷ rest

abbrev pub param_names : List Param → List (List ℕ)
param_names xs = map (λ x. x.name.word) xs

pub found_among : {A : Type 0} (xs : List Param) (ks : List A) (name : List ℕ) (q : A) → find (params_scope xs ks) name ≡ Some q → Among (param_names xs) name
found_among [] ks name q e = absurd cc
found_among (x ∷ xs) [] name q e = absurd cc
found_among (x ∷ xs) (k ∷ ks) name q e = by_test (bytes_eq x.name.word name) refl (λ h. found_among xs ks name q h) e
  where
    by_test : (b : Bool) → bytes_eq x.name.word name ≡ b → (find (params_scope xs ks) name ≡ Some q → Among (param_names xs) name)
        → (if b then Some k else find (params_scope xs ks) name) ≡ Some q
        → Among (x.name.word ∷ param_names xs) name
    by_test true b rec e = record { before = []; rest = param_names xs; is = ap (λ w. w ∷ param_names xs) (same_name x.name.word name b) }
    by_test false b rec e = let r = rec e in record { before = x.name.word ∷ r.before; rest = r.rest; is = ap (λ l. x.name.word ∷ l) r.is }

-- parameters are bound to values of their kinds, and no other name is bound
pub record ParamsBound (types : List DataType) (env : Environment) (xs : List Param) (ks : List Kind) (vs : List Value) : Type 0 where
  pub bound : Environment
  pub is : put_params env xs vs ≡ Some bound
  pub fits : Scoped types (params_scope xs ks) bound
  pub others : (name : List ℕ) → find (params_scope xs ks) name ≡ None → bound name ≡ env name

pub params_bound : (types : List DataType) (env : Environment) (xs : List Param) (ks : List Kind) (vs : List Value) → length xs ≡ length ks
    → AreDistinct (param_names xs) → FitAll types ks (parts vs) → ParamsBound types env xs ks vs
params_bound types env [] [] [] full distinct fit = record { bound = env; is = refl; fits = record { holds = λ name k e. absurd cc }; others = λ name e. refl }
params_bound types env [] [] (v ∷ vs) full distinct fit = absurd fit
params_bound types env [] (k ∷ ks) vs full distinct fit = absurd (omega (arith, full))
params_bound types env (x ∷ xs) [] vs full distinct fit = absurd (omega (arith, full))
params_bound types env (x ∷ xs) (k ∷ ks) [] full distinct fit = absurd fit
params_bound types env (x ∷ xs) (k ∷ ks) (v ∷ vs) full distinct fit =
    let r = params_bound types (put env x.name.word v) xs ks vs (omega (arith, full)) (λ w before between rest e. distinct w (x.name.word ∷ before) between rest (ap (λ l. x.name.word ∷ l) e)) fit.1 in
    whole r
  where
    absent : (o : Option Kind) → find (params_scope xs ks) x.name.word ≡ o → find (params_scope xs ks) x.name.word ≡ None
    absent None e = e
    absent (Some q) e =
        let a = found_among xs ks x.name.word q e in
        absurd (distinct x.name.word [] a.before a.rest (ap (λ l. x.name.word ∷ l) a.is))

    whole : ParamsBound types (put env x.name.word v) xs ks vs → ParamsBound types env (x ∷ xs) (k ∷ ks) (v ∷ vs)
    whole r = record {
      bound = r.bound;
      is = r.is;
      fits = record { holds = λ name q e. by_test name q (bytes_eq x.name.word name) refl e };
      others = λ name e. other name (bytes_eq x.name.word name) refl e;
    }
      where
        here : r.bound x.name.word ≡ Some v
        here = r.others x.name.word (absent (find (params_scope xs ks) x.name.word) refl) ∙ ap (λ b. if b then Some v else env x.name.word) (name_itself x.name.word)

        by_test : (name : List ℕ) (q : Kind) (b : Bool) → bytes_eq x.name.word name ≡ b
            → (if b then Some k else find (params_scope xs ks) name) ≡ Some q → IsSomeAnd (r.bound name) (Fits types q)
        by_test name q true b e =
            subst (λ o. IsSomeAnd o (Fits types q)) (sym (ap r.bound (sym (same_name x.name.word name b)) ∙ here)) (subst (λ p. Fits types p v) (kind_same k q e) fit.0)
        by_test name q false b e = r.fits.holds name q e

        other : (name : List ℕ) (b : Bool) → bytes_eq x.name.word name ≡ b → (if b then Some k else find (params_scope xs ks) name) ≡ None
            → r.bound name ≡ env name
        other name true b e = absurd cc
        other name false b e = r.others name e ∙ ap (λ t. if t then Some v else env name) b

-- ---- steps

pub not_built : (o : Option ℕ) (k : Kind) → ((t : ℕ) → kind.Of t ≡ k → ⊥) → option_map kind.Of o ≡ Some k → ⊥
not_built None k none e = cc
not_built (Some t) k none e = none t (kind_same (kind.Of t) k e)

pub no_int : (t : ℕ) → kind.Of t ≡ kind.Int → ⊥
no_int t e = cc

pub no_flag : (t : ℕ) → kind.Of t ≡ kind.Flag → ⊥
no_flag t e = cc

pub no_dia : (t : ℕ) → kind.Of t ≡ kind.Dia → ⊥
no_dia t e = cc

pub chosen_fits : (types : List DataType) (q : Kind) (v : Value) (a b : Outcome Value) → Fits types kind.Flag v → Yields (Fits types q) a
    → Yields (Fits types q) b → Yields (Fits types q) (chosen v a b)
chosen_fits types q (value.Flag true) a b h s t = s
chosen_fits types q (value.Flag false) a b h s t = t
chosen_fits types q (value.Int z) a b h s t = absurd cc
chosen_fits types q value.Dia a b h s t = absurd cc
chosen_fits types q (value.Con c vs) a b h s t = absurd (not_built (type_of types c) kind.Flag no_flag h.0)

pub on_diamond_fits : (types : List DataType) (q : Kind) (u : Value) (o : Outcome Value) → Fits types kind.Dia u → Yields (Fits types q) o
    → Yields (Fits types q) (on_diamond u o)
on_diamond_fits types q value.Dia o h g = g
on_diamond_fits types q (value.Int z) o h g = absurd cc
on_diamond_fits types q (value.Flag b) o h g = absurd cc
on_diamond_fits types q (value.Con c vs) o h g = absurd (not_built (type_of types c) kind.Dia no_dia h.0)

-- ---- builds

in_cell_fits : (types : List DataType) (q : Kind) (c : tree.Constructor) (v : Value) → Fits types q v → Yields (Fits types q) (in_cell (Some c) v)
in_cell_fits types q c v h = by_test c.inline
  where
    by_test : (b : Bool) → Yields (Fits types q) (if b then at_once v else Done v 0 1 0)
    by_test true = h
    by_test false = h

pub placed_fits : (p : Source) (s : Scope Kind) (q : Kind) (place : Option Name) (inline : Bool) (env : Environment) (con : ℕ) (vs : List Value)
    → Scoped (types_of p) s env → At (meaning.declared_constructors p) con → PlaceFits s inline place
    → Fits (types_of p) q (value.Con con (parts vs)) → Yields (Fits (types_of p) q) (placed p place env con vs)
placed_fits p s q None inline env con vs h at place fit =
    subst (λ o. Yields (Fits (types_of p) q) (in_cell o (value.Con con (parts vs)))) (sym at.is) (in_cell_fits (types_of p) q at.item (value.Con con (parts vs)) fit)
placed_fits p s q (Some d) inline env con vs h at place fit =
    yields_given (Fits (types_of p) kind.Dia) (Fits (types_of p) q) (env d.word) (λ v. on_diamond v (at_once (value.Con con (parts vs)))) (h.holds d.word kind.Dia place.1)
    (λ v g. on_diamond_fits (types_of p) q v (at_once (value.Con con (parts vs))) g fit)

-- a constructor's value, from values of its fields' kinds
pub con_fits : (types : List DataType) (q : Kind) (con : ℕ) (vs : List Value) → At (values.constructors types) con → built_kind types con ≡ Some q
    → ArgumentsFit types (fields_of types con) vs → Fits types q (value.Con con (parts vs))
con_fits types q con vs at built fit =
    let fields : fields_of types con ≡ at.item.fields = ap (λ o. option_map_or (λ c. c.fields) o []) at.is in
    (built, subst (λ o. IsSomeAnd o (λ c. FitAll types c.fields (parts vs))) (sym at.is) (subst (λ ks. FitAll types ks (parts vs)) fields fit))

-- ---- arms

pub cell_fits : (types : List DataType) (q : Kind) (s : Scope Kind) (x : ArmCell) (env : Environment) (next : Environment → Outcome Value) → Scoped types s env
    → ((last : Environment) → Scoped types (bind_cell known_kind x s) last → Yields (Fits types q) (next last)) → Yields (Fits types q) (cell_run x env next)
cell_fits types q s cell.Plain env next h go = go env h
cell_fits types q s cell.Free env next h go = yields_after (Fits types q) 0 0 1 (next env) (go env h)
cell_fits types q s (cell.Keep d) env next h go = go (put env d.word value.Dia) (scoped_bind types s env d.word kind.Dia value.Dia h refl)

-- the arm of the value's constructor, where its body comes to a value of this kind
arm_fits : (types : List DataType) (q : Kind) (t con : ℕ) (def : values.Constructor) (c : Name) (fs : List (Option Name)) (x : ArmCell) (vs : Values) (s : Scope Kind) (env : Environment) (next : Environment → Outcome Value) → Scoped types s env
    → HeadFits types t c fs x → constructor_number types c.word ≡ Some con → constructor types con ≡ Some def → FitAll types def.fields vs
    → ((last : Environment) → Scoped types (arm_scope known_kind types c fs x s) last → Yields (Fits types q) (next last))
    → Yields (Fits types q) (given (put_fields env fs vs) (λ bound. cell_run x bound next))
arm_fits types q t con def c fs x vs s env next h head number is fit go =
    let same : head.con ≡ con = number_one head.con con (sym head.is ∙ number) in
    let fields : fields_of types con ≡ def.fields = ap (λ o. option_map_or (λ c. c.fields) o []) is in
    let full : length fs ≡ length def.fields = head.full ∙ ap (λ n. length (fields_of types n)) same ∙ ap length fields in
    let kinds : fields_of types (or_else (constructor_number types c.word) 0) ≡ def.fields = ap (λ o. fields_of types (or_else o 0)) number ∙ fields in
    let r = fields_bound types s env fs def.fields vs h full fit in
    subst (λ o. Yields (Fits types q) (given o (λ bound. cell_run x bound next))) (sym r.is)
    (cell_fits types q (bind_fields known_kind fs def.fields s) x r.bound next r.fits
    (λ last g. go last (subst (λ ks. Scoped types (bind_cell known_kind x (bind_fields known_kind fs ks s)) last) (sym kinds) g)))
  where
    number_one : (a b : ℕ) → ◌≡◌ {A = Option ℕ} (Some a) (Some b) → a ≡ b
    number_one a b e = cc

-- the first arm, or one behind it
by_arm : (p : Source) (enter : Enter) (c : Name) (fs : List (Option Name)) (x : ArmCell) (b : Expression) (as' : Arms) (con : ℕ) (vs : Values) (fuel waits : ℕ) (tail : Bool) (env : Environment) (types : List DataType) (q : Kind)
    → constructor_number types c.word ≡ meaning.constructor_number p c → 1 ≤ arms_with types con (AndArm c fs x b as')
    → (constructor_number types c.word ≡ Some con → Yields (Fits types q) (given (put_fields env fs vs) (λ bound. cell_run x bound (λ last. eval p enter b fuel waits tail last))))
    → (1 ≤ arms_with types con as' → Yields (Fits types q) (arms_run p enter as' con vs fuel waits tail env))
    → Yields (Fits types q) (arms_run p enter (AndArm c fs x b as') con vs fuel waits tail env)
by_arm p enter c fs x b as' con vs fuel waits tail env types q same some here later =
    subst (λ o. Yields (Fits types q) (if is_that o con then given (put_fields env fs vs) (λ bound. cell_run x bound (λ last. eval p enter b fuel waits tail last)) else arms_run p enter as' con vs fuel waits tail env)) same
    (by_test (is_that (constructor_number types c.word) con) refl some)
  where
    found : (o : Option ℕ) → is_that o con ≡ true → o ≡ Some con
    found None e = absurd cc
    found (Some m) e = let equal : m ≡ con = grind (arith, nat_tests, e) in ap Some equal

    by_test : (t : Bool) → is_that (constructor_number types c.word) con ≡ t → 1 ≤ (if t then 1 else 0) + arms_with types con as'
        → Yields (Fits types q) (if t then given (put_fields env fs vs) (λ bound. cell_run x bound (λ last. eval p enter b fuel waits tail last)) else arms_run p enter as' con vs fuel waits tail env)
    by_test true e more = here (found (constructor_number types c.word) e)
    by_test false e more = later (omega (arith, more))

-- a value of a type is a constructor of it
on_constructor_fits : (types : List DataType) (q : Kind) (t : ℕ) (v : Value) (next : ℕ → Values → Outcome Value) → Fits types (kind.Of t) v
    → ((con : ℕ) (vs : Values) (def : values.Constructor) → type_of types con ≡ Some t → constructor types con ≡ Some def → FitAll types def.fields vs → Yields (Fits types q) (next con vs)) → Yields (Fits types q) (on_constructor v next)
on_constructor_fits types q t (value.Int z) next h go = absurd cc
on_constructor_fits types q t (value.Flag b) next h go = absurd cc
on_constructor_fits types q t value.Dia next h go = absurd cc
on_constructor_fits types q t (value.Con c vs) next h go = by_con (constructor types c) refl h.1
  where
    owned : (o : Option ℕ) → option_map kind.Of o ≡ Some (kind.Of t) → o ≡ Some t
    owned None e = absurd cc
    owned (Some u) e = let same : u ≡ t = cc in ap Some same

    by_con : (o : Option values.Constructor) → constructor types c ≡ o → IsSomeAnd o (λ con. FitAll types con.fields vs) → Yields (Fits types q) (next c vs)
    by_con None e g = absurd g
    by_con (Some def) e g = go c vs def (owned (type_of types c) h.0) e g

-- ---- expressions

mutual
  pub eval_fits : (p : Source) (sigs : List Signature) (enter : Enter) → FunctionsFit p (globals_of p sigs) p.funs sigs → CallsFit p sigs enter
      → (e : Expression) (s : Scope Kind) (q : Kind) (fuel waits : ℕ) (tail : Bool) (env : Environment)
      → Scoped (types_of p) s env → expression_has_ints e ≡ true → HasKind (globals_of p sigs) s e q → Yields (Fits (types_of p) q) (eval p enter e fuel waits tail env)
  eval_fits p sigs enter known_funs entry (Num z l) s q fuel waits tail env h i k = (k, passing_int z i)
  eval_fits p sigs enter known_funs entry (Truth b l) s q fuel waits tail env h i k = k
  eval_fits p sigs enter known_funs entry (Var n) s q fuel waits tail env h i k = yields_known (Fits (types_of p) q) (env n.word) (h.holds n.word q k)
  eval_fits p sigs enter known_funs entry (Prim op a b l) s q fuel waits tail env h i k =
      yields_then (Fits (types_of p) kind.Int) (Fits (types_of p) q) fuel (eval p enter a fuel waits false env) (λ left u. first_then left (eval p enter b left waits false env) (λ last v. operate op u v))
      (eval_fits p sigs enter known_funs entry a s kind.Int fuel waits false env h (both_hold (expression_has_ints a) (expression_has_ints b) i).0 k.0)
      (λ left u u_fits. yields_then (Fits (types_of p) kind.Int) (Fits (types_of p) q) left (eval p enter b left waits false env) (λ last v. operate op u v)
      (eval_fits p sigs enter known_funs entry b s kind.Int left waits false env h (both_hold (expression_has_ints a) (expression_has_ints b) i).1 k.1)
      (λ last v v_fits. subst (λ r. Yields (Fits (types_of p) r) (operate op u v)) (sym k.2) (operate_sound (types_of p) op u v u_fits v_fits)))
  eval_fits p sigs enter known_funs entry (If c a b l) s q fuel waits tail env h i k =
      yields_then (Fits (types_of p) kind.Flag) (Fits (types_of p) q) fuel (eval p enter c fuel waits false env) (λ left v. chosen v (eval p enter a left waits tail env) (eval p enter b left waits tail env))
      (eval_fits p sigs enter known_funs entry c s kind.Flag fuel waits false env h (both_hold (expression_has_ints c) (expression_has_ints a && expression_has_ints b) i).0 k.0)
      (λ left v v_fits. chosen_fits (types_of p) q v (eval p enter a left waits tail env) (eval p enter b left waits tail env) v_fits
      (eval_fits p sigs enter known_funs entry a s q left waits tail env h (both_hold (expression_has_ints a) (expression_has_ints b) (both_hold (expression_has_ints c) (expression_has_ints a && expression_has_ints b) i).1).0 k.1) (eval_fits p sigs enter known_funs entry b s q left waits tail env h (both_hold (expression_has_ints a) (expression_has_ints b) (both_hold (expression_has_ints c) (expression_has_ints a && expression_has_ints b) i).1).1 k.2))
  eval_fits p sigs enter known_funs entry (Let n e b) s q fuel waits tail env h i k =
      yields_then (Fits (types_of p) k.0) (Fits (types_of p) q) fuel (eval p enter e fuel waits false env) (λ left v. eval p enter b left waits tail (put env n.word v))
      (eval_fits p sigs enter known_funs entry e s k.0 fuel waits false env h (both_hold (expression_has_ints e) (expression_has_ints b) i).0 k.1)
      (λ left v v_fits. eval_fits p sigs enter known_funs entry b (bind n.word k.0 s) q left waits tail (put env n.word v) (scoped_bind (types_of p) s env n.word k.0 v h v_fits) (both_hold (expression_has_ints e) (expression_has_ints b) i).1 k.2)
  eval_fits p sigs enter known_funs entry (Match e NoArms l) s q fuel waits tail env h i k = absurd k
  eval_fits p sigs enter known_funs entry (Match e (AndArm c fs x b as') l) s q fuel waits tail env h i k =
      yields_then (Fits (types_of p) (kind.Of k.0)) (Fits (types_of p) q) fuel (eval p enter e fuel waits false env) (λ left v. on_constructor v (λ con vs. arms_run p enter (AndArm c fs x b as') con vs left waits tail env))
      (eval_fits p sigs enter known_funs entry e s (kind.Of k.0) fuel waits false env h (both_hold (expression_has_ints e) (arms_have_ints (AndArm c fs x b as')) i).0 k.1)
      (λ left v v_fits. on_constructor_fits (types_of p) q k.0 v (λ con vs. arms_run p enter (AndArm c fs x b as') con vs left waits tail env) v_fits
      (λ con vs def owned is fit.
      let one : arms_with (types_of p) con (AndArm c fs x b as') ≡ 1 = among_numbers (λ con. arms_with (types_of p) con (AndArm c fs x b as') ≡ 1) (types_of p) con k.0 owned k.2 in
      arms_fit p sigs enter known_funs entry (AndArm c fs x b as') s q k.0 con def vs left waits tail env h (both_hold (expression_has_ints e) (arms_have_ints (AndArm c fs x b as')) i).1 k.3 (omega (arith, one)) is fit))
  eval_fits p sigs enter known_funs entry (Build c es place) s q fuel waits tail env h i k =
      yields_then (ArgumentsFit (types_of p) (fields_of (types_of p) k.0)) (Fits (types_of p) q) fuel (eval_all p enter es fuel waits env) (λ left vs. given (meaning.constructor_number p c) (λ con. placed p place env con vs))
      (all_fit p sigs enter known_funs entry es s (fields_of (types_of p) k.0) fuel waits env h i k.3)
      (λ left vs vs_fit. subst (λ o. Yields (Fits (types_of p) q) (given o (λ con. placed p place env con vs))) (sym (sym (number_same p c) ∙ k.1))
      (placed_fits p s q place (is_inline (types_of p) k.0) env k.0 vs h (written_constructor p c k.0 k.1) k.4
      (con_fits (types_of p) q k.0 vs (numbered_constructor p c k.0 k.1) k.2 vs_fit)))
  eval_fits p sigs enter known_funs entry (Call f es) s q fuel waits tail env h i k =
      yields_then (ArgumentsFit (types_of p) k.0.params) (Fits (types_of p) q) fuel (eval_all p enter es fuel waits env) (λ left vs. given (function_number p f) (λ func. enter left waits tail func vs))
      (all_fit p sigs enter known_funs entry es s k.0.params fuel waits env h i k.3)
      (λ left vs vs_fit.
      let n = head_number p (globals_of p sigs) p.funs sigs f.word k.0 known_funs k.1 in
      subst (λ o. Yields (Fits (types_of p) q) (given o (λ func. enter left waits tail func vs))) (sym n.is)
      (subst (λ r. Yields (Fits (types_of p) r) (enter left waits tail n.number vs)) k.2 (entry left waits tail n.number vs k.0 n.at vs_fit)))

  pub all_fit : (p : Source) (sigs : List Signature) (enter : Enter) → FunctionsFit p (globals_of p sigs) p.funs sigs → CallsFit p sigs enter
      → (es : Expressions) (s : Scope Kind) (ks : List Kind) (fuel waits : ℕ) (env : Environment)
      → Scoped (types_of p) s env → expressions_have_ints es ≡ true → HaveKinds (globals_of p sigs) s es ks → Yields (ArgumentsFit (types_of p) ks) (eval_all p enter es fuel waits env)
  all_fit p sigs enter known_funs entry NoExpressions s [] fuel waits env h i k = tt
  all_fit p sigs enter known_funs entry NoExpressions s (q ∷ ks) fuel waits env h i k = absurd k
  all_fit p sigs enter known_funs entry (AndExpression e es) s [] fuel waits env h i k = absurd k
  all_fit p sigs enter known_funs entry (AndExpression e es) s (q ∷ ks) fuel waits env h i k =
      yields_then (Fits (types_of p) q) (ArgumentsFit (types_of p) (q ∷ ks)) fuel (eval p enter e fuel waits false env) (λ left v. first_then left (eval_all p enter es left waits env) (λ last vs. at_once (v ∷ vs)))
      (eval_fits p sigs enter known_funs entry e s q fuel waits false env h (both_hold (expression_has_ints e) (expressions_have_ints es) i).0 k.0)
      (λ left v v_fits. yields_then (ArgumentsFit (types_of p) ks) (ArgumentsFit (types_of p) (q ∷ ks)) left (eval_all p enter es left waits env) (λ last vs. at_once (v ∷ vs))
      (all_fit p sigs enter known_funs entry es s ks left waits env h (both_hold (expression_has_ints e) (expressions_have_ints es) i).1 k.1)
      (λ last vs vs_fit. (v_fits, vs_fit)))

  -- some arm is for the value's constructor
  pub arms_fit : (p : Source) (sigs : List Signature) (enter : Enter) → FunctionsFit p (globals_of p sigs) p.funs sigs → CallsFit p sigs enter
      → (as' : Arms) (s : Scope Kind) (q : Kind) (t con : ℕ) (def : values.Constructor) (vs : Values)
      (fuel waits : ℕ) (tail : Bool) (env : Environment) → Scoped (types_of p) s env → arms_have_ints as' ≡ true
      → ArmsHaveKind (globals_of p sigs) s t as' q → 1 ≤ arms_with (types_of p) con as' → constructor (types_of p) con ≡ Some def
      → FitAll (types_of p) def.fields vs
      → Yields (Fits (types_of p) q) (arms_run p enter as' con vs fuel waits tail env)
  arms_fit p sigs enter known_funs entry NoArms s q t con def vs fuel waits tail env h i k some is fit = absurd (omega (arith, some))
  arms_fit p sigs enter known_funs entry (AndArm c fs x b as') s q t con def vs fuel waits tail env h i k some is fit =
      by_arm p enter c fs x b as' con vs fuel waits tail env (types_of p) q (number_same p c) some
      (λ number. arm_fits (types_of p) q t con def c fs x vs s env (λ last. eval p enter b fuel waits tail last) h k.0 number is fit
      (λ last g. eval_fits p sigs enter known_funs entry b (arm_scope known_kind (types_of p) c fs x s) q fuel waits tail last g (both_hold (expression_has_ints b) (arms_have_ints as') i).0 k.1))
      (λ more. arms_fit p sigs enter known_funs entry as' s q t con def vs fuel waits tail env h (both_hold (expression_has_ints b) (arms_have_ints as') i).1 k.2 more is fit)

-- ---- functions and programs

pub params_full : (p : Source) (xs : List Param) (ks : List Kind) → ParamsStand p xs ks → length xs ≡ length ks
params_full p [] [] h = refl
params_full p [] (k ∷ ks) h = absurd h
params_full p (x ∷ xs) [] h = absurd h
params_full p (x ∷ xs) (k ∷ ks) h = ap suc (params_full p xs ks h.1)

body_fits : (p : Source) (sigs : List Signature) (enter : Enter) → FunctionsFit p (globals_of p sigs) p.funs sigs → CallsFit p sigs enter
    → (f : Function) (s : Signature) (fuel waits : ℕ) (args : List Value)
    → expression_has_ints f.body ≡ true → FunctionFits p (globals_of p sigs) f s → ArgumentsFit (types_of p) s.params args → Yields (Fits (types_of p) s.result) (body_run p enter (Some f) fuel waits args)
body_fits p sigs enter known_funs entry f s fuel waits args ints fit args_fit =
    let r = params_bound (types_of p) (λ n. None) f.params s.params args (params_full p f.params s.params fit.params) fit.distinct args_fit in
    subst (λ o. Yields (Fits (types_of p) s.result) (given o (λ env. eval p enter f.body fuel waits true env))) (sym r.is)
    (eval_fits p sigs enter known_funs entry f.body (params_scope f.params s.params) s.result fuel waits true r.bound r.fits ints fit.body)

pub calls_fit : (p : Source) (sigs : List Signature) → FunctionsFit p (globals_of p sigs) p.funs sigs → IsTrue (has_ints p) → (limit clock : ℕ)
    → CallsFit p sigs (calls (bodies p) limit clock)
calls_fit p sigs known_funs ints limit clock zero w t i args s is fit = tt
calls_fit p sigs known_funs ints limit zero (suc k) w t i args s is fit = tt
calls_fit p sigs known_funs ints limit (suc clock) (suc k) w t i args s is fit =
    let f = signature_function p (globals_of p sigs) p.funs sigs i s known_funs is in
    by_depth (is_too_deep limit w t)
    (subst (λ o. Yields (Fits (types_of p) s.result) (body_run p (calls (bodies p) limit clock) o k (cond t w (suc w)) args)) (sym f.is)
    (body_fits p sigs (calls (bodies p) limit clock) known_funs (calls_fit p sigs known_funs ints limit clock) f.function s k (cond t w (suc w)) args
    (each_holds (λ f. expression_has_ints f.body) p.funs i f.function ints f.is) f.fits fit))
  where
    by_depth : (b : Bool) → Yields (Fits (types_of p) s.result) (body_run p (calls (bodies p) limit clock) (slice_get p.funs i) k (cond t w (suc w)) args)
        → Yields (Fits (types_of p) s.result) (if b then Deep 0 else entered (body_run p (calls (bodies p) limit clock) (slice_get p.funs i) k (cond t w (suc w)) args))
    by_depth true h = tt
    by_depth false h = yields_after (Fits (types_of p) s.result) 1 0 0 (body_run p (calls (bodies p) limit clock) (slice_get p.funs i) k (cond t w (suc w)) args) h

pub never_stuck : (p : Source) (sigs : List Signature) (limit func fuel : ℕ) (args : List Value) (s : Signature) → IsTyped p sigs
    → slice_get sigs func ≡ Some s → ArgumentsFit (types_of p) s.params args
    → IsSafe (types_of p) s.result (run_of p limit func fuel args)
never_stuck p sigs limit func fuel args s typed is fit = calls_fit p sigs typed.functions typed.literals limit fuel fuel 0 true func args s is fit
