-- The evaluator's locals are those of the meaning of code.
use Rattle.std.proofs.Common.{◌≡◌, ℕ, zero, suc, ◌+◌, ◌<◌, ◌≤◌, Bool, true, false, List, [], ◌∷◌, ◌++◌, length, get_or, drop, take, map, Option, Some, None, refl, sym, ap, ◌∙◌, arith, drop-cons, add-one, append_assoc, append-nil, drop_of_length-le}
use Rattle.std.specs.Prelude.{◌==◌, if◌then◌else◌, slice_get}
use Rattle.std.specs.List.{list_any}
use Rattle.std.proofs.lemmas.List.{map_push, length-map, length-take-le, get_or-map, take_all}
use Rattle.std.proofs.Math.Seq.{take-suc}
use Rattle.std.proofs.lemmas.Bool.Decides.{nat_tests}
use Rattle.camelot_values.specs.Value.{Value, parts}
use Rattle.grail_code.specs.Meaning.{Locals, arguments, put, narrowed, put_all, values_of, in_front}
use Rattle.grail_evaluator.specs.Trees.{plain, plain_all}
use Rattle.grail_evaluator.specs.Locals.{Pair, bound_of, last_of, env_of, kept, behind}
use Rattle.grail_evaluator.specs.declared.locals.Bound.{Bound}
use Rattle.grail_evaluator.specs.declared.tree.Tree.{Tree}

last-push : (o : Option Value) (bs : List Pair) (b : Pair) (x : ℕ) → last_of o (bs ++ (b ∷ [])) x ≡ (if b.local == x then Some b.value else last_of o bs x)
last-push o [] b x = refl
last-push o (c ∷ bs) b x = last-push (if c.local == x then Some c.value else o) bs b x

pub env_push : (old new : List Bound) (x : ℕ) (t : Tree) → new ≡ old ++ (record { local = x; value = t } ∷ []) → env_of new ≡ put (env_of old) x (plain t)
env_push old new x t e = λ i y. each y i
  where
    each : (y : ℕ) → env_of new y ≡ put (env_of old) x (plain t) y
    each y = ap (λ bs. last_of None (map bound_of bs) y) e ∙ ap (λ ps. last_of None ps y) (map_push bound_of old (record { local = x; value = t })) ∙ last-push None (map bound_of old) (record { local = x; value = plain t }) y

pub one_more : (env : List Bound) (i : ℕ) (b : Bound) (x : ℕ) (o p : Option Value) → i < length env → b ≡ get_or env i b
    → last_of o (map bound_of (drop i env)) x ≡ p
    → last_of (if b.local == x then Some (plain b.value) else o) (map bound_of (drop (i + 1) env)) x ≡ p
one_more env i b x o p h is e =
    ap (λ n. last_of (if b.local == x then Some (plain b.value) else o) (map bound_of (drop n env)) x) (add-one i)
    ∙ ap (λ c. last_of o (bound_of c ∷ map bound_of (drop (suc i) env)) x) is
    ∙ ap (λ bs. last_of o (map bound_of bs) x) (sym (drop-cons env i b h)) ∙ e

-- ---- the values of several locals

-- nothing in front
pub behind_nothing : (o : Option (List Value)) → behind [] o ≡ o
behind_nothing None = refl
behind_nothing (Some vs) = refl

pub one_value_more : (env : Locals) (xs : List ℕ) (i x : ℕ) (d : ℕ) (front new : List Value) (v : Value) (all : Option (List Value)) → i < length xs
    → x ≡ get_or xs i d
    → env x ≡ Some v → new ≡ front ++ (v ∷ []) → behind front (values_of env (drop i xs)) ≡ all → behind new (values_of env (drop (i + 1) xs)) ≡ all
one_value_more env xs i x d front new v all h is found n e =
    ap (λ vs. behind vs (values_of env (drop (i + 1) xs))) n
    ∙ ap (λ k. behind (front ++ (v ∷ [])) (values_of env (drop k xs))) (add-one i)
    ∙ step (values_of env (drop (suc i) xs))
    ∙ ap (λ o. behind front (in_front o (values_of env (drop (suc i) xs)))) (sym found ∙ ap env is)
    ∙ ap (λ ys. behind front (values_of env ys)) (sym (drop-cons xs i d h)) ∙ e
  where
    step : (o : Option (List Value)) → behind (front ++ (v ∷ [])) o ≡ behind front (in_front (Some v) o)
    step None = refl
    step (Some ws) = ap Some (append_assoc front (v ∷ []) ws)

pub no_value : (env : Locals) (xs : List ℕ) (i x : ℕ) (d : ℕ) (front : List Value) (all : Option (List Value)) → i < length xs → x ≡ get_or xs i d
    → env x ≡ None → behind front (values_of env (drop i xs)) ≡ all → None ≡ all
no_value env xs i x d front all h is found e =
    ap (λ o. behind front (in_front o (values_of env (drop (suc i) xs)))) (sym found ∙ ap env is)
    ∙ ap (λ ys. behind front (values_of env ys)) (sym (drop-cons xs i d h)) ∙ e

pub all_values : (front : List Value) (all : Option (List Value)) → behind front (Some []) ≡ all → Some front ≡ all
all_values front all e = ap Some (sym (append-nil front)) ∙ e

-- ---- narrowing

step : (same any_b any_x : Bool) (o : Option Value) (v : Value) (kept_from all_from : Option Value → Option Value)
    → ((q : Option Value) → kept_from q ≡ (if any_x then all_from q else q)) → (same ≡ true → any_b ≡ any_x)
    → (if any_b then kept_from (if same then Some v else o) else kept_from o) ≡ (if any_x then all_from (if same then Some v else o) else o)
step true true true o v k l h e = h (Some v)
step true false false o v k l h e = h o
step true true false o v k l h e = let f : true ≡ false = e refl in absurd cc
step true false true o v k l h e = let f : false ≡ true = e refl in absurd cc
step false true x o v k l h e = h o
step false false x o v k l h e = h o

pushed : (params : List ℕ) (o : Option Value) (b : Pair) (bs : List Pair) (x : ℕ) (any : Bool)
    → last_of o (if any then b ∷ bs else bs) x ≡ (if any then last_of (if b.local == x then Some b.value else o) bs x else last_of o bs x)
pushed params o b bs x true = refl
pushed params o b bs x false = refl

last-kept : (params : List ℕ) (o : Option Value) (bs : List Pair) (x : ℕ)
    → last_of o (kept params bs) x ≡ (if list_any (λ p. p == x) params then last_of o bs x else o)
last-kept params o [] x = sym (same_either (list_any (λ p. p == x) params) o)
  where
    same_either : (b : Bool) (o : Option Value) → (if b then o else o) ≡ o
    same_either true o = refl
    same_either false o = refl
last-kept params o (b ∷ bs) x =
    pushed params o b (kept params bs) x (list_any (λ p. p == b.local) params)
    ∙ step (b.local == x) (list_any (λ p. p == b.local) params) (list_any (λ p. p == x) params) o b.value (λ q. last_of q (kept params bs) x) (λ q. last_of q bs x) (λ q. last-kept params q bs x)
    (λ e. let same : b.local ≡ x = grind (arith, nat_tests) in ap (λ y. list_any (λ p. p == y) params) same)

-- what is narrowed is what the kept bindings say
narrowed_is : (params : List ℕ) (env : List Bound) (ps : List Pair) → ps ≡ kept params (map bound_of env)
    → (λ (x : ℕ). last_of None ps x) ≡ narrowed params (env_of env)
narrowed_is params env ps e = λ i x. each x i
  where
    each : (x : ℕ) → last_of None ps x ≡ narrowed params (env_of env) x
    each x = ap (λ qs. last_of None qs x) e ∙ last-kept params None (map bound_of env) x

pub kept_end : (params : List ℕ) (env all : List Bound) (i : ℕ) → length env ≤ i
    → map bound_of all ++ kept params (map bound_of (drop i env)) ≡ kept params (map bound_of env) → env_of all ≡ narrowed params (env_of env)
kept_end params env all i h e =
    narrowed_is params env (map bound_of all)
    (sym (append-nil (map bound_of all)) ∙ ap (λ bs. map bound_of all ++ kept params (map bound_of bs)) (sym (drop_of_length-le env {i = i} h)) ∙ e)

kept_front : (params : List ℕ) (b : Pair) (bs : List Pair) → kept params (b ∷ []) ++ kept params bs ≡ kept params (b ∷ bs)
kept_front params b bs = either (list_any (λ p. p == b.local) params)
  where
    either : (t : Bool) → (if t then b ∷ [] else []) ++ kept params bs ≡ (if t then b ∷ kept params bs else kept params bs)
    either true = refl
    either false = refl

pub kept_more : (params : List ℕ) (env all new : List Bound) (i : ℕ) (b : Bound) (ps : List Pair) → i < length env → b ≡ get_or env i b
    → map bound_of new ≡ map bound_of all ++ kept params (bound_of b ∷ [])
    → map bound_of all ++ kept params (map bound_of (drop i env)) ≡ ps → map bound_of new ++ kept params (map bound_of (drop (i + 1) env)) ≡ ps
kept_more params env all new i b ps h is n e =
    let rest : List Bound = drop (suc i) env in
    ap (λ k. map bound_of new ++ kept params (map bound_of (drop k env))) (add-one i)
    ∙ ap (λ xs. xs ++ kept params (map bound_of rest)) n
    ∙ append_assoc (map bound_of all) (kept params (bound_of b ∷ [])) (kept params (map bound_of rest))
    ∙ ap (λ xs. map bound_of all ++ xs) (kept_front params (bound_of b) (map bound_of rest))
    ∙ ap (λ d. map bound_of all ++ kept params (bound_of d ∷ map bound_of rest)) is
    ∙ ap (λ bs. map bound_of all ++ kept params (map bound_of bs)) (sym (drop-cons env i b h)) ∙ e

-- ---- the fields of an arm

pub unequal : (env : Locals) (xs : List ℕ) (ts : List Tree) → (length xs ≡ length ts → ⊥) → None ≡ put_all env xs (parts (plain_all ts))
unequal env [] [] h = absurd (h refl)
unequal env [] (t ∷ ts) h = refl
unequal env (x ∷ xs) [] h = refl
unequal env (x ∷ xs) (t ∷ ts) h = unequal (put env x (plain t)) xs ts (λ e. h (ap suc e))

pub one_field_more : (env new : Locals) (xs : List ℕ) (ts : List Tree) (i : ℕ) (d : ℕ) (t u : Tree) (o : Option Locals) → i < length xs
    → i < length ts → u ≡ get_or ts i u → plain t ≡ plain u
    → new ≡ put env (get_or xs i d) (plain t) → put_all env (drop i xs) (parts (plain_all (drop i ts))) ≡ o → put_all new (drop (i + 1) xs) (parts (plain_all (drop (i + 1) ts))) ≡ o
one_field_more env new xs ts i d t u o h g is same n e =
    ap (λ k. put_all new (drop k xs) (parts (plain_all (drop k ts)))) (add-one i)
    ∙ ap (λ f. put_all f (drop (suc i) xs) (parts (plain_all (drop (suc i) ts)))) (n ∙ ap (put env (get_or xs i d)) (same ∙ ap plain is))
    ∙ ap (λ ys. put_all env ys (parts (plain_all (get_or ts i u ∷ drop (suc i) ts)))) (sym (drop-cons xs i d h))
    ∙ ap (λ us. put_all env (drop i xs) (parts (plain_all us))) (sym (drop-cons ts i u g)) ∙ e

-- ---- arguments

get_push : (vs : List Value) (v : Value) (y : ℕ) → slice_get (vs ++ (v ∷ [])) y ≡ (if length vs == y then Some v else slice_get vs y)
get_push [] v zero = refl
get_push [] v (suc y) = let e : (0 == suc y) ≡ false = grind (arith, nat_tests) in sym (ap (λ b. if b then Some v else None) e)
get_push (u ∷ vs) v zero = let e : (suc (length vs) == 0) ≡ false = grind (arith, nat_tests) in sym (ap (λ b. if b then Some v else Some u) e)
get_push (u ∷ vs) v (suc y) = let e : (length vs == y) ≡ (suc (length vs) == suc y) = grind (arith, nat_tests) in get_push vs v y ∙ ap (λ b. if b then Some v else slice_get vs y) e

put_argument : (vs : List Value) (n : ℕ) (v : Value) → n ≡ length vs → put (arguments vs) n v ≡ arguments (vs ++ (v ∷ []))
put_argument vs n v e = λ i y. each y i
  where
    each : (y : ℕ) → put (arguments vs) n v y ≡ slice_get (vs ++ (v ∷ [])) y
    each y = ap (λ m. if m == y then Some v else slice_get vs y) e ∙ sym (get_push vs v y)

pub one_argument_more : (old new : List Bound) (args : List Tree) (i : ℕ) (t u : Tree) → i < length args → u ≡ get_or args i u → plain t ≡ plain u → new ≡ old ++ (record { local = i; value = t } ∷ [])
    → env_of old ≡ arguments (take i (plain_all args)) → env_of new ≡ arguments (take (i + 1) (plain_all args))
one_argument_more old new args i t u h is same n e =
    env_push old new i t n
    ∙ ap (λ f. put f i (plain t)) e
    ∙ put_argument (take i (plain_all args)) i (plain t) (sym (length-take-le i (plain_all args) (omega (arith, length-map args plain))))
    ∙ ap arguments (ap (λ v. take i (plain_all args) ++ (v ∷ [])) (same ∙ ap plain is ∙ sym (get_or-map plain args i u (plain u) h))
    ∙ sym (take-suc (plain_all args) i (plain u) (omega (arith, length-map args plain))) ∙ ap (λ n. take n (plain_all args)) (sym (add-one i)))

pub all_arguments : (bs : List Bound) (args : List Tree) (i : ℕ) → length args ≤ i → env_of bs ≡ arguments (take i (plain_all args))
    → env_of bs ≡ arguments (plain_all args)
all_arguments bs args i h e = e ∙ ap arguments (take_all i (plain_all args) (omega (arith, length-map args plain)))
