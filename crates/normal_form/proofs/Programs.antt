-- A program's normal form means what the program means.
use Rattle.std.proofs.Common.{◌≡◌, ℕ, zero, suc, ◌+◌, ◌-◌, ◌≤◌, ◌<◌, Bool, true, false, List, [], ◌∷◌, length, map, Option, Some, None, refl, sym, ap, ◌∙◌, arith, append-nil}
use Rattle.std.specs.Prelude.{◌==◌, cond, if◌then◌else◌, slice_get}
use Rattle.std.proofs.Math.Logic.{∥∥₁_elim}
use Rattle.std.specs.Str.{bytes_eq}
use Rattle.std.proofs.lemmas.Bool.Decides.{nat_tests}
use Rattle.camelot_values.specs.Value.{Value, parts}
use Rattle.camelot_values.specs.Names.{AreDistinct, find}
use Rattle.camelot_values.specs.NameLaws.{same_name}
use Rattle.camelot_values.specs.Kinds.{DataType}
use Rattle.camelot_values.specs.Typing.{FitAll, ArgumentsFit}
use Rattle.camelot_values.specs.Outcome.{Deep, Stuck, given, entered}
use Rattle.camelot_values.specs.Runs.{is_too_deep, calls}
use Rattle.camelot_values.specs.declared.kinds.Kind.{Kind}
use Rattle.camelot_tree.specs.declared.tree.Param.{Param}
use Rattle.camelot_tree.specs.Tree.{Function, Source}
use Rattle.camelot_tree.specs.Meaning as meaning
use Rattle.camelot_tree.specs.Meaning.{Environment, put_params, eval}
use Rattle.camelot_tree.specs.Tokens.{expression_has_ints}
use Rattle.camelot_typing.specs.Kinds.{types_of, numbered}
use Rattle.camelot_typing.specs.Typing.{Signature, params_scope, globals_of, FunctionFits, IsTyped}
use Rattle.camelot_typing.specs.Typed.{Typing, IsTyping}
use Rattle.camelot_typing.specs.NumberLaws.{signature_function}
use Rattle.camelot_typing.specs.TypingLaws.{param_names, found_among, params_bound, params_full, calls_fit, each_holds}
use Rattle.grail_blocks.specs.Running.{arguments, blocks_run}
use Rattle.normal_form.specs.Normal.{tail, cut, normal_function, normal_functions, normal_form}
use Rattle.normal_form.specs.Running.{everything, body_run, bodies, run_of}
use Rattle.normal_form.proofs.Lines.{here, blocks_are_lines, ends_is_closed}
use Rattle.normal_form.proofs.Ends.{tail_closed}
use Rattle.normal_form.proofs.Stands.{CallsAgree, Setting, seen}
use Rattle.normal_form.specs.SetLaws.{outcome_set}
use Rattle.normal_form.proofs.Tails.{tail_runs}

-- ---- parameters

-- parameters are numbered from `first` on
found_within : (xs : List Param) (first : ℕ) (name : List ℕ) (y : ℕ) → find (params_scope xs (numbered first xs)) name ≡ Some y
    → (first ≤ y) × (y < first + length xs)
found_within [] first name y e = absurd cc
found_within (x ∷ xs) first name y e = by_test (bytes_eq x.name.word name) (λ k. found_within xs (suc first) name y k) e
  where
    by_test : (b : Bool) → (find (params_scope xs (numbered (suc first) xs)) name ≡ Some y → (suc first ≤ y) × (y < suc first + length xs))
        → (if b then Some first else find (params_scope xs (numbered (suc first) xs)) name) ≡ Some y
        → (first ≤ y) × (y < first + suc (length xs))
    by_test true rec e = let same : first ≡ y = cc in (omega (arith, same), omega (arith, same))
    by_test false rec e = let r = rec e in let least = r.0 in let less = r.1 in (omega (arith, least), omega (arith, less))

-- what a name is bound to, by its parameter's number
abbrev bound_to : Environment → List Value → ℕ → List ℕ → Option ℕ → Option Value
bound_to base vs first name None = base name
bound_to base vs first name (Some y) = slice_get vs (y - first)

params_match : (xs : List Param) (vs : List Value) (first : ℕ) (base bound : Environment) → put_params base xs vs ≡ Some bound
    → AreDistinct (param_names xs) → (name : List ℕ)
    → bound name ≡ bound_to base vs first name (find (params_scope xs (numbered first xs)) name)
params_match [] [] first base bound e distinct name = let same : base ≡ bound = cc in ap (λ env. env name) (sym same)
params_match [] (v ∷ vs) first base bound e distinct name = absurd cc
params_match (x ∷ xs) [] first base bound e distinct name = absurd cc
params_match (x ∷ xs) (v ∷ vs) first base bound e distinct name =
    by_test (bytes_eq x.name.word name) refl
    (params_match xs vs (suc first) (meaning.put base x.name.word v) bound e (λ w before between rest k. distinct w (x.name.word ∷ before) between rest (ap (λ l. x.name.word ∷ l) k)) name)
  where
    absent : (o : Option ℕ) → find (params_scope xs (numbered (suc first) xs)) x.name.word ≡ o
        → find (params_scope xs (numbered (suc first) xs)) x.name.word ≡ None
    absent None k = k
    absent (Some y) k =
        let a = found_among xs (numbered (suc first) xs) x.name.word y k in
        absurd (distinct x.name.word [] a.before a.rest (ap (λ l. x.name.word ∷ l) a.is))

    other : (o : Option ℕ) → find (params_scope xs (numbered (suc first) xs)) name ≡ o → bytes_eq x.name.word name ≡ false
        → bound_to (meaning.put base x.name.word v) vs (suc first) name o ≡ bound_to base (v ∷ vs) first name o
    other None k b = ap (λ t. if t then Some v else base name) b
    other (Some y) k b =
        let within = found_within xs (suc first) name y k in
        let least = within.0 in
        let same : suc (y - suc first) ≡ y - first = omega (arith, least) in
        ap (slice_get (v ∷ vs)) same

    by_test : (b : Bool) → bytes_eq x.name.word name ≡ b
        → bound name ≡ bound_to (meaning.put base x.name.word v) vs (suc first) name (find (params_scope xs (numbered (suc first) xs)) name)
        → bound name ≡ bound_to base (v ∷ vs) first name (if b then Some first else find (params_scope xs (numbered (suc first) xs)) name)
    by_test true b h =
        let none : find (params_scope xs (numbered (suc first) xs)) name ≡ None = ap (find (params_scope xs (numbered (suc first) xs))) (sym (same_name x.name.word name b)) ∙ absent (find (params_scope xs (numbered (suc first) xs)) x.name.word) refl in
        let first_is : 0 ≡ first - first = omega arith in
        h ∙ ap (bound_to (meaning.put base x.name.word v) vs (suc first) name) none ∙ ap (λ t. if t then Some v else base name) b ∙ ap (slice_get (v ∷ vs)) first_is
    by_test false b h = h ∙ other (find (params_scope xs (numbered (suc first) xs)) name) refl b

-- ---- functions

full : (types : List DataType) (ks : List Kind) (vs : List Value) → FitAll types ks (parts vs) → length vs ≡ length ks
full types [] [] h = refl
full types [] (v ∷ vs) h = absurd h
full types (k ∷ ks) [] h = absurd h
full types (k ∷ ks) (v ∷ vs) h = ap suc (full types ks vs h.1)

function_at : (p : Source) (sigs : List Signature) (fs : List Function) (ss : List Signature) (i : ℕ) (f : Function) (s : Signature)
    → slice_get fs i ≡ Some f → slice_get ss i ≡ Some s
    → slice_get (normal_functions p sigs fs ss) i ≡ Some (normal_function p sigs f s)
function_at p sigs [] ss i f s e k = absurd cc
function_at p sigs (g ∷ fs) [] i f s e k = absurd cc
function_at p sigs (g ∷ fs) (t ∷ ss) zero f s e k = let same : g ≡ f = cc in let equal : t ≡ s = cc in ap (λ x. Some (normal_function p sigs x t)) same ∙ ap (λ x. Some (normal_function p sigs f x)) equal
function_at p sigs (g ∷ fs) (t ∷ ss) (suc i) f s e k = function_at p sigs fs ss i f s e k

body_agrees : (S : Setting) (f : Function) (s : Signature) (k w : ℕ) (args : List Value) → expression_has_ints f.body ≡ true
    → FunctionFits S.source (globals_of S.source S.sigs) f s → ArgumentsFit (types_of S.source) s.params args
    → body_run (types_of S.source) S.code (Some (normal_function S.source S.sigs f s)) k w args ≡ meaning.body_run S.source S.enter (Some f) k w args
body_agrees S f s k w args ints fit args_fit =
    let p = S.source in
    let types = types_of p in
    let scope = params_scope f.params (numbered 0 f.params) in
    let lines = tail p f.body scope (length f.params) 0 in
    let count = full types s.params args args_fit in
    let test : (length args == length s.params) ≡ true = grind (arith, nat_tests, count) in
    let r = params_bound types (λ n. None) f.params s.params args (params_full p f.params s.params fit.params) fit.distinct args_fit in
    ap (λ b. if b then blocks_run types S.code (map everything (cut lines)) k w (arguments args) else Stuck) test
    ∙ blocks_are_lines types S.code lines (ends_is_closed lines (tail_closed p f.body scope (length f.params) 0)) k w (arguments args)
    ∙ ap (λ l. here types S.code 0 l k w (arguments args)) (sym (append-nil lines))
    ∙ tail_runs S f.body (params_scope f.params s.params) scope r.bound (arguments args) (length f.params) 0 s.result k w []
    (record {
      scoped = r.fits;
      matches = λ name. params_match f.params args 0 (λ n. None) r.bound r.is fit.distinct name ∙ seen_is args (find scope name) name;
      below = λ name y e. let h = found_within f.params 0 name y e in let less = h.1 in omega (arith, less);
    }) ints fit.body
    ∙ sym (ap (λ o. given o (λ env. eval p S.enter f.body k w true env)) r.is)
  where
    seen_is : (vs : List Value) (o : Option ℕ) (name : List ℕ) → bound_to (λ n. None) vs 0 name o ≡ seen (arguments vs) o
    seen_is vs None name = refl
    seen_is vs (Some y) name = let same : y - 0 ≡ y = omega arith in ap (slice_get vs) same

-- ---- programs

pub calls_agree : (p : Source) (sigs : List Signature) → IsTyped p sigs → (limit clock : ℕ) → CallsAgree p sigs (calls (bodies (normal_form (record { source = p; signatures = sigs }))) limit clock) (calls (meaning.bodies p) limit clock)
calls_agree p sigs typed limit clock zero w t i args s is fit = refl
calls_agree p sigs typed limit zero (suc k) w t i args s is fit = refl
calls_agree p sigs typed limit (suc clock) (suc k) w t i args s is fit =
    let f = signature_function p (globals_of p sigs) p.funs sigs i s typed.functions is in
    let normal = normal_form (record { source = p; signatures = sigs }) in
    let S : Setting = record {
      source = p;
      sigs = sigs;
      code = calls (bodies normal) limit clock;
      enter = calls (meaning.bodies p) limit clock;
      typed = typed.functions;
      fits = calls_fit p sigs typed.functions typed.literals limit clock;
      agree = calls_agree p sigs typed limit clock;
    } in
    ap (λ o. if is_too_deep limit w t then Deep 0 else entered o)
    (ap (λ o. body_run (types_of p) (calls (bodies normal) limit clock) o k (cond t w (suc w)) args) (function_at p sigs p.funs sigs i f.function s f.is is)
    ∙ body_agrees S f.function s k (cond t w (suc w)) args (each_holds (λ f. expression_has_ints f.body) p.funs i f.function typed.literals f.is) f.fits fit
    ∙ ap (λ o. meaning.body_run p (calls (meaning.bodies p) limit clock) o k (cond t w (suc w)) args) (sym f.is))

-- The meaning is kept: value, calls, peak and net, and each stop.
pub runs_agree : (t : Typing) (limit func fuel : ℕ) (args : List Value) (s : Signature) → IsTyping t → slice_get t.signatures func ≡ Some s
    → ArgumentsFit (types_of t.source) s.params args
    → run_of (normal_form t) limit func fuel args ≡ meaning.run_of t.source limit func fuel args
runs_agree t limit func fuel args s h is fit = calls_agree t.source t.signatures h.typed limit fuel fuel 0 true func args s is fit

-- The same of a program that is known to be typed, however it is.
pub means_same : (t : Typing) → ∥ IsTyping t ∥₁ → (limit func fuel : ℕ) (args : List Value) (s : Signature) → slice_get t.signatures func ≡ Some s
    → ArgumentsFit (types_of t.source) s.params args
    → run_of (normal_form t) limit func fuel args ≡ meaning.run_of t.source limit func fuel args
means_same t h limit func fuel args s is fit =
    ∥∥₁_elim h (outcome_set (run_of (normal_form t) limit func fuel args) (meaning.run_of t.source limit func fuel args)) (λ k. runs_agree t limit func fuel args s k is fit)
