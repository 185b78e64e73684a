-- A typed program has no faults exactly where it keeps the rule.
use Rattle.std.proofs.Common.{◌≡◌, ℕ, suc, ◌+◌, ◌≤◌, ◌<◌, Bool, true, false, if◌then◌else◌, List, [], ◌∷◌, ◌++◌, map, length, refl, sym, ap, ◌∙◌, subst, arith, ◌⊎◌, inl, inr}
use Rattle.std.specs.Prelude.{◌||◌, ◌&&◌, not}
use Rattle.std.specs.Str.{bytes_eq}
use Rattle.camelot_values.specs.Kinds.{DataType}
use Rattle.camelot_values.specs.Heap.{is_heap}
use Rattle.camelot_values.specs.Names.{AreDistinct}
use Rattle.camelot_values.specs.declared.kinds.Kind.{Kind}
use Rattle.camelot_values.specs.NameLaws.{same_name, name_itself}
use Rattle.camelot_tree.specs.declared.tree.Name.{Name}
use Rattle.camelot_tree.specs.declared.tree.Param.{Param}
use Rattle.camelot_tree.specs.Tree.{Expression, Function, Source}
use Rattle.camelot_typing.specs.Kinds.{Globals, Scope, bind}
use Rattle.camelot_typing.specs.Typing.{Signature, ParamsStand, FunctionFits, FunctionsFit, IsTyped, params_scope, globals_of}
use Rattle.linear_use.specs.declared.variable.Variable.{Variable}
use Rattle.linear_use.specs.declared.fault.UseFault.TheVariants.{ReadResult}
use Rattle.linear_use.specs.Uses.{Loans, lent_params, some_lent, loans_of, is_bound, IsLinear, ParamsAreFair, FunctionIsLinear, FunctionsAreLinear, KeepsRule}
use Rattle.linear_use.specs.Fairness.{taken, seen, Fair}
use Rattle.linear_use.specs.FairLaws.{fair_by_paths, paths_by_fair}
use Rattle.linear_use.specs.Flow.{Flow, Nothing, Fault, faults, kinds_in, flow, param_variables, result_flow, function_flow, functions_faults, program_faults}
use Rattle.linear_use.proofs.Flows.{IsClean, IsFairIn, seen_one, reads_one, fits_faultless, faultless_fits, nothing_left, nothing_right}
use Rattle.linear_use.proofs.Shapes.{IsFull, AreApart, distinct_apart, typed_full}
use Rattle.linear_use.proofs.Binders.{and_true, Means, Occurs, means_by, bind_here, bind_other, unequal}
use Rattle.linear_use.proofs.Counting.{Counts, counted}
use Rattle.linear_use.proofs.Fields.{lents_in, Below}
use Rattle.linear_use.proofs.Ruling.{IsQuiet, sides, quiet_linear, linear_quiet}

-- ---- parameters

abbrev pub param_names : List Param → List Name
param_names [] = []
param_names (x ∷ xs) = x.name ∷ param_names xs

param_words : (xs : List Param) → map (λ n. n.word) (param_names xs) ≡ map (λ x. x.name.word) xs
param_words [] = refl
param_words (x ∷ xs) = ap (λ l. x.name.word ∷ l) (param_words xs)

stand_length : (p : Source) (xs : List Param) (ks : List Kind) → ParamsStand p xs ks → length xs ≡ length ks
stand_length p [] [] h = refl
stand_length p [] (k ∷ ks) h = absurd h
stand_length p (x ∷ xs) [] h = absurd h
stand_length p (x ∷ xs) (k ∷ ks) h = ap suc (stand_length p xs ks h.1)

pub param_kinds : (types : List DataType) (next : ℕ) (xs : List Param) (ks : List Kind) → kinds_in (param_variables next xs ks (lent_params types xs ks)) ≡ params_scope xs ks
param_kinds types next [] ks = refl
param_kinds types next (x ∷ xs) [] = refl
param_kinds types next (x ∷ xs) (k ∷ ks) = ap (bind x.name.word k) (param_kinds types (suc next) xs ks)

param_lents : (types : List DataType) (next : ℕ) (xs : List Param) (ks : List Kind)
    → lents_in (param_variables next xs ks (lent_params types xs ks)) ≡ params_scope xs (lent_params types xs ks)
param_lents types next [] ks = refl
param_lents types next (x ∷ xs) [] = refl
param_lents types next (x ∷ xs) (k ∷ ks) = ap (bind x.name.word (x.read && is_heap types k)) (param_lents types (suc next) xs ks)

lent_length : (types : List DataType) (xs : List Param) (ks : List Kind) → length xs ≡ length ks → length xs ≡ length (lent_params types xs ks)
lent_length types [] ks h = refl
lent_length types (x ∷ xs) [] h = absurd (omega (arith, h))
lent_length types (x ∷ xs) (k ∷ ks) h = ap suc (lent_length types xs ks (omega (arith, h)))

-- a number that no parameter has
params_other : (types : List DataType) (next : ℕ) (xs : List Param) (ks : List Kind) (ms : List Bool) (i : ℕ) → (next ≤ i → next + length xs ≤ i)
    → Means types (param_variables next xs ks ms) i [] false
params_other types next [] ks ms i o n = refl
params_other types next (x ∷ xs) [] ms i o n = refl
params_other types next (x ∷ xs) (k ∷ ks) [] i o n = refl
params_other types next (x ∷ xs) (k ∷ ks) (m ∷ ms) i o n =
    bind_other types (param_variables (suc next) xs ks ms) x.name.word (record { number = next; kind = k; lent = m }) i [] false (unequal next i (λ q. omega (arith, q, o)))
    (params_other types (suc next) xs ks ms i (λ q. omega (arith, q, o))) n

params_below : (types : List DataType) (xs : List Param) (ks : List Kind) (ms : List Bool) → Below types (length xs) (param_variables 0 xs ks ms)
params_below types xs ks ms i p = params_other types 0 xs ks ms i (λ q. omega (arith, p))

-- each number is that of its parameter
abbrev pub ParamsAre : List DataType → Scope Variable → ℕ → List Param → List Kind → List Bool → Type 0
ParamsAre types s next (x ∷ xs) (k ∷ ks) (m ∷ ms) = Means types s next x.name.word (is_heap types k && not m) × ParamsAre types s (suc next) xs ks ms
ParamsAre types s next xs ks ms = Unit {0}

not_first : (a b : Bool) → (a || b) ≡ false → a ≡ false
not_first true b h = cc
not_first false b h = refl

not_second : (a b : Bool) → (a || b) ≡ false → b ≡ false
not_second true b h = cc
not_second false b h = h

other_way : (x y : List ℕ) → bytes_eq y x ≡ false → bytes_eq x y ≡ false
other_way x y h = at_test (bytes_eq x y) refl
  where
    at_test : (b : Bool) → bytes_eq x y ≡ b → b ≡ false
    at_test true e = let q : x ≡ y = same_name x y e in let r : bytes_eq y x ≡ true = subst (λ z. bytes_eq y z ≡ true) (sym q) (name_itself y) in cc
    at_test false e = refl

still_params : (types : List DataType) (s : Scope Variable) (w : List ℕ) (v : Variable) (next : ℕ) (xs : List Param) (ks : List Kind) (ms : List Bool)
    → v.number < next → is_bound w (param_names xs) ≡ false
    → ParamsAre types s next xs ks ms → ParamsAre types (bind w v s) next xs ks ms
still_params types s w v next [] ks ms h a m = tt
still_params types s w v next (x ∷ xs) [] ms h a m = tt
still_params types s w v next (x ∷ xs) (k ∷ ks) [] h a m = tt
still_params types s w v next (x ∷ xs) (k ∷ ks) (l ∷ ms) h a m =
    let own = is_heap types k && not l in
    let other : bytes_eq w x.name.word ≡ false = other_way w x.name.word (not_first (bytes_eq x.name.word w) (is_bound w (param_names xs)) a) in
    let kept = bind_other types s w v next x.name.word own (unequal v.number next (λ q. omega (arith, q, h))) m.0 in (
      means_by types (bind w v s) next x.name.word (own && not (bytes_eq w x.name.word)) own (ap (λ b. own && not b) other ∙ and_true own) kept,
      still_params types s w v (suc next) xs ks ms (omega (arith, h)) (not_second (bytes_eq x.name.word w) (is_bound w (param_names xs)) a) m.1,
    )

params_are : (types : List DataType) (next : ℕ) (xs : List Param) (ks : List Kind) (ms : List Bool) → AreApart (param_names xs)
    → ParamsAre types (param_variables next xs ks ms) next xs ks ms
params_are types next [] ks ms a = tt
params_are types next (x ∷ xs) [] ms a = tt
params_are types next (x ∷ xs) (k ∷ ks) [] a = tt
params_are types next (x ∷ xs) (k ∷ ks) (m ∷ ms) a =
    let v : Variable = record { number = next; kind = k; lent = m } in
    let s = param_variables (suc next) xs ks ms in (
      bind_here types s x.name.word v (params_other types (suc next) xs ks ms next (λ q. absurd (omega (arith, q)))),
      still_params types s x.name.word v (suc next) xs ks ms (omega arith) a.0 (params_are types (suc next) xs ks ms a.1),
    )

-- ---- functions

result_occurs : (g : Globals Kind) (f : Function) (s : Signature) (i : ℕ) → Occurs i (result_flow g f s) 0 0
result_occurs g f s i = at_test (some_lent (lent_params g.types f.params s.params) && is_heap g.types s.result)
  where
    at_test : (b : Bool) → Occurs i (if b then Fault (ReadResult f.name.word f.name.line) else Nothing) 0 0
    at_test true = record { uses_is = refl; seen_is = refl; reads_is = refl; fair = tt }
    at_test false = record { uses_is = refl; seen_is = refl; reads_is = refl; fair = tt }

clean_result : (g : Globals Kind) (f : Function) (s : Signature) → IsClean (result_flow g f s) → some_lent (lent_params g.types f.params s.params) ≡ true
    → is_heap g.types s.result ≡ false
clean_result g f s h e = at_test (some_lent (lent_params g.types f.params s.params)) (is_heap g.types s.result) h e
  where
    at_test : (a b : Bool) → IsClean (if a && b then Fault (ReadResult f.name.word f.name.line) else Nothing) → a ≡ true → b ≡ false
    at_test true true h e = absurd h
    at_test true false h e = refl
    at_test false b h e = cc

result_clean : (g : Globals Kind) (f : Function) (s : Signature) → (some_lent (lent_params g.types f.params s.params) ≡ true → is_heap g.types s.result ≡ false)
    → IsClean (result_flow g f s)
result_clean g f s h = at_test (some_lent (lent_params g.types f.params s.params)) (is_heap g.types s.result) h
  where
    at_test : (a b : Bool) → (a ≡ true → b ≡ false) → IsClean (if a && b then Fault (ReadResult f.name.word f.name.line) else Nothing)
    at_test true true h = let e = h refl in cc
    at_test true false h = tt
    at_test false b h = tt

-- what a parameter's number counts in the body
abbrev BodyCounts : Loans → List DataType → Scope Variable → Flow → Expression → ℕ → Type 0
BodyCounts loans types s f e end = (i : ℕ) (y : List ℕ) (h : Bool) → i < end → Means types s i y h → Counts i h f (taken loans y e) (seen loans y e) 0 (Fair loans y e)

fair_params : (loans : Loans) (types : List DataType) (s : Scope Variable) (f : Flow) (e : Expression) (next : ℕ) (xs : List Param) (ks : List Kind) (ms : List Bool)
    → BodyCounts loans types s f e (next + length xs)
    → ParamsAre types s next xs ks ms → ((i : ℕ) → IsFairIn i f) → ParamsAreFair loans types xs ks ms e
fair_params loans types s f e next [] ks ms count a fair = tt
fair_params loans types s f e next (x ∷ xs) [] ms count a fair = tt
fair_params loans types s f e next (x ∷ xs) (k ∷ ks) [] count a fair = tt
fair_params loans types s f e next (x ∷ xs) (k ∷ ks) (m ∷ ms) count a fair =
    let own = count next x.name.word (is_heap types k && not m) (omega arith) a.0 in (
      λ t. paths_by_fair loans x.name.word e (own.back (fair next) t),
      fair_params loans types s f e (suc next) xs ks ms (λ i y h p. count i y h (omega (arith, p))) a.1 fair,
    )

params_fair : (loans : Loans) (types : List DataType) (s : Scope Variable) (f : Flow) (e : Expression) (next : ℕ) (xs : List Param) (ks : List Kind) (ms : List Bool)
    → BodyCounts loans types s f e (next + length xs)
    → length xs ≡ length ks → length xs ≡ length ms → ParamsAre types s next xs ks ms → ParamsAreFair loans types xs ks ms e → (i : ℕ) → next ≤ i → i < next + length xs → IsFairIn i f
params_fair loans types s f e next [] ks ms count l d a u i p q = absurd (omega (arith, p, q))
params_fair loans types s f e next (x ∷ xs) [] ms count l d a u i p q = absurd (omega (arith, l))
params_fair loans types s f e next (x ∷ xs) (k ∷ ks) [] count l d a u i p q = absurd (omega (arith, d))
params_fair loans types s f e next (x ∷ xs) (k ∷ ks) (m ∷ ms) count l d a u i p q =
    at_side (λ r. params_fair loans types s f e (suc next) xs ks ms (λ j y h t. count j y h (omega (arith, t))) (omega (arith, l)) (omega (arith, d)) a.1 u.1 i r (omega (arith, q))) (sides i (suc next))
  where
    at_side : (suc next ≤ i → IsFairIn i f) → (i < suc next) ⊎ (suc next ≤ i) → IsFairIn i f
    at_side rest (inl j) =
        let same : next ≡ i = omega (arith, p, j) in
        let own = count next x.name.word (is_heap types k && not m) (omega arith) a.0 in
        subst (λ n. IsFairIn n f) same (own.fair (λ t. fair_by_paths loans x.name.word e (u.0 t)))
    at_side rest (inr j) = rest j

-- what typing says of a function here
record Shape (g : Globals Kind) (f : Function) (s : Signature) : Type 0 where
  lengths : length f.params ≡ length s.params
  apart : AreApart (param_names f.params)
  full : IsFull g.types f.body

shape_of : (p : Source) (g : Globals Kind) (f : Function) (s : Signature) → FunctionFits p g f s → Shape g f s
shape_of p g f s h = record {
  lengths = stand_length p f.params s.params h.params;
  apart = distinct_apart (param_names f.params) (subst AreDistinct (sym (param_words f.params)) h.distinct);
  full = typed_full g (params_scope f.params s.params) f.body s.result h.body;
}

abbrev scope_of : Globals Kind → Function → Signature → Scope Variable
scope_of g f s = param_variables 0 f.params s.params (lent_params g.types f.params s.params)

abbrev body_of : Loans → Globals Kind → Function → Signature → Flow
body_of loans g f s = flow loans g (length f.params) (scope_of g f s) f.body

body_counted : (loans : Loans) (g : Globals Kind) (f : Function) (s : Signature) → Shape g f s → BodyCounts loans g.types (scope_of g f s) (body_of loans g f s) f.body (0 + length f.params)
body_counted loans g f s shape i y h p m = counted loans g f.body (length f.params) (scope_of g f s) i y h shape.full (λ t. absurd (omega (arith, p, t))) m

function_linear : (loans : Loans) (g : Globals Kind) (f : Function) (s : Signature) → Shape g f s → faults [] [] (function_flow loans g f s) ≡ [] → FunctionIsLinear loans g f s
function_linear loans g f s shape h =
    let ms = lent_params g.types f.params s.params in
    let scope = scope_of g f s in
    let body = body_of loans g f s in
    let fits = faultless_fits (function_flow loans g f s) [] [] h in
    let fair : (i : ℕ) → IsFairIn i body = λ i. (fits.fair i).1 in
    let inside : IsLinear loans g (kinds_in scope) (lents_in scope) f.body =
    quiet_linear loans g f.body (length f.params) scope shape.full (params_below g.types f.params s.params ms) (record { clean = fits.clean.1; fair = λ i p. fair i }) in (
      clean_result g f s fits.clean.0,
      fair_params loans g.types scope body f.body 0 f.params s.params ms (body_counted loans g f s shape) (params_are g.types 0 f.params s.params ms shape.apart) fair,
      subst (λ k. IsLinear loans g k (params_scope f.params ms) f.body) (param_kinds g.types 0 f.params s.params)
          (subst (λ l. IsLinear loans g (kinds_in scope) l f.body) (param_lents g.types 0 f.params s.params) inside),
    )

function_faultless : (loans : Loans) (g : Globals Kind) (f : Function) (s : Signature) → Shape g f s → FunctionIsLinear loans g f s → faults [] [] (function_flow loans g f s) ≡ []
function_faultless loans g f s shape h =
    let ms = lent_params g.types f.params s.params in
    let scope = scope_of g f s in
    let body = body_of loans g f s in
    let inside : IsLinear loans g (kinds_in scope) (lents_in scope) f.body =
    subst (λ l. IsLinear loans g (kinds_in scope) l f.body) (sym (param_lents g.types 0 f.params s.params))
    (subst (λ k. IsLinear loans g k (params_scope f.params ms) f.body) (sym (param_kinds g.types 0 f.params s.params)) h.2) in
    let quiet : IsQuiet (length f.params) body = linear_quiet loans g f.body (length f.params) scope shape.full (params_below g.types f.params s.params ms) inside in
    let early : (i : ℕ) → 0 ≤ i → i < 0 + length f.params → IsFairIn i body =
    params_fair loans g.types scope body f.body 0 f.params s.params ms (body_counted loans g f s shape) shape.lengths (lent_length g.types f.params s.params shape.lengths) (params_are g.types 0 f.params s.params ms shape.apart) h.1 in
    fits_faultless (function_flow loans g f s) [] [] (record {
      clean = (result_clean g f s h.0, quiet.clean);
      fair =
          λ i. let o = result_occurs g f s i in let u = o.uses_is in let m = seen_one i body in (o.fair, at_side body quiet early i (sides i (length f.params)), omega (arith, u, m));
      early = λ i. let m = seen_one i (function_flow loans g f s) in omega (arith, m);
      late = λ i. let m = reads_one i (function_flow loans g f s) in omega (arith, m);
    })
  where
    at_side : (body : Flow) → IsQuiet (length f.params) body → ((i : ℕ) → 0 ≤ i → i < 0 + length f.params → IsFairIn i body) → (i : ℕ)
        → (i < length f.params) ⊎ (length f.params ≤ i) → IsFairIn i body
    at_side body quiet early i (inl p) = early i (omega arith) (omega (arith, p))
    at_side body quiet early i (inr p) = quiet.fair i p

functions_linear : (p : Source) (loans : Loans) (g : Globals Kind) (fs : List Function) (ss : List Signature) → FunctionsFit p g fs ss
    → functions_faults loans g fs ss ≡ [] → FunctionsAreLinear loans g fs ss
functions_linear p loans g [] ss fit h = tt
functions_linear p loans g (f ∷ fs) [] fit h = tt
functions_linear p loans g (f ∷ fs) (s ∷ ss) fit h = (
  function_linear loans g f s (shape_of p g f s fit.0) (nothing_left (faults [] [] (function_flow loans g f s)) (functions_faults loans g fs ss) h),
  functions_linear p loans g fs ss fit.1 (nothing_right (faults [] [] (function_flow loans g f s)) (functions_faults loans g fs ss) h),
)

functions_faultless : (p : Source) (loans : Loans) (g : Globals Kind) (fs : List Function) (ss : List Signature) → FunctionsFit p g fs ss
    → FunctionsAreLinear loans g fs ss → functions_faults loans g fs ss ≡ []
functions_faultless p loans g [] ss fit h = refl
functions_faultless p loans g (f ∷ fs) [] fit h = refl
functions_faultless p loans g (f ∷ fs) (s ∷ ss) fit h =
    ap (λ l. l ++ functions_faults loans g fs ss) (function_faultless loans g f s (shape_of p g f s fit.0) h.0) ∙ functions_faultless p loans g fs ss fit.1 h.1

pub keeps_by_faults : (p : Source) (sigs : List Signature) → IsTyped p sigs → program_faults p sigs ≡ [] → KeepsRule p sigs
keeps_by_faults p sigs h = functions_linear p (loans_of p sigs) (globals_of p sigs) p.funs sigs h.functions

pub faultless_by_rule : (p : Source) (sigs : List Signature) → IsTyped p sigs → KeepsRule p sigs → program_faults p sigs ≡ []
faultless_by_rule p sigs h = functions_faultless p (loans_of p sigs) (globals_of p sigs) p.funs sigs h.functions
