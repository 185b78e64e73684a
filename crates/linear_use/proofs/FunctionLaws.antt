-- Laws of the walk through functions and programs.
use Rattle.std.proofs.Common.{◌≡◌, ℕ, zero, suc, min, Bool, true, false, if◌then◌else◌, List, [], ◌∷◌, ◌++◌, map, length, drop, Option, Some, None, refl, sym, ap, ◌∙◌, subst, arith, slice_get, ◌⊎◌, inl, inr}
use Rattle.std.specs.Prelude.{Result, Ok, Err, IsErrAnd, ◌&&◌}
use Rattle.camelot_values.specs.Heap.{is_heap}
use Rattle.std.specs.Option.{option_or}
use Rattle.stops.specs.declared.stop.Stop.{Stop}
use Rattle.stops.specs.declared.stop.Stop.TheVariants as stop
use Rattle.camelot_values.specs.Kinds.{DataType}
use Rattle.camelot_values.specs.declared.kinds.Kind.{Kind}
use Rattle.camelot_tree.specs.declared.tree.Param.{Param}
use Rattle.camelot_tree.specs.Tree.{Expression, Function}
use Rattle.camelot_typing.specs.Kinds.{Globals, Scope, atoms_of}
use Rattle.camelot_typing.specs.Typing.{Signature, known_kind, params_scope}
use Rattle.camelot_typing.specs.Typed.{FunctionKinds, signature_of, signatures_of, functions_kinds, typing_globals}
use Rattle.camelot_typing.specs.TypedPrograms.{typing_of}
use Rattle.camelot_typing.specs.declared.typed.Typed.{Typed}
use Rattle.linear_use.specs.declared.fault.UseFault.{UseFault}
use Rattle.linear_use.specs.declared.fault.UseFault.TheVariants.{Twice, ReadResult}
use Rattle.linear_use.specs.Uses.{Loans, lent_params, lent_by, loans_of, some_lent}
use Rattle.linear_use.specs.declared.variable.Variable.{Variable}
use Rattle.linear_use.specs.declared.state.State.{State}
use Rattle.linear_use.specs.Flow.{Flow, Nothing, Use, Read, Fault, After, Either, Calling, used, is_spent, faults, kinds_in, flow, param_variables, result_flow, function_flow, functions_faults}
use Rattle.linear_use.specs.Walk.{first_of, StopsAt, Finds, AreAt, Walked, globals_in, loans_in}
use Rattle.linear_use.specs.Answers.{first}
use Rattle.linear_use.proofs.Walking.{or_none, or_some}
use Rattle.linear_use.proofs.Programs.{param_kinds}

-- ---- the first of the faults

first_append : (xs ys : List UseFault) → first (xs ++ ys) ≡ option_or (first xs) (first ys)
first_append [] ys = refl
first_append (x ∷ xs) ys = refl

first_spent : (name : List ℕ) (line : ℕ) (b : Bool) → first (if b then Twice name line ∷ [] else []) ≡ (if b then Some (Twice name line) else None)
first_spent name line true = refl
first_spent name line false = refl

pub first_faults : (f : Flow) (spent called : List ℕ) → first (faults spent called f) ≡ first_of spent called f
first_faults Nothing spent called = refl
first_faults (Use x name line) spent called = first_spent name line (is_spent x spent)
first_faults (Read x name line) spent called = first_spent name line (is_spent x called)
first_faults (Fault fault) spent called = refl
first_faults (After a b) spent called =
    first_append (faults spent called a) (faults (spent ++ used a) called b) ∙ ap (λ o. option_or o (first (faults (spent ++ used a) called b))) (first_faults a spent called)
    ∙ ap (option_or (first_of spent called a)) (first_faults b (spent ++ used a) called)
first_faults (Either a b) spent called =
    first_append (faults spent called a) (faults spent called b) ∙ ap (λ o. option_or o (first (faults spent called b))) (first_faults a spent called)
    ∙ ap (option_or (first_of spent called a)) (first_faults b spent called)
first_faults (Calling a) spent called = first_faults a spent (spent ++ used a)

-- ---- functions

pub params_over : (types : List DataType) (n : ℕ) (xs : List Param) (ks : List Kind) → n ≡ min (length xs) (length ks)
    → param_variables n (drop n xs) (drop n ks) (lent_params types (drop n xs) (drop n ks)) ≡ []
params_over types n xs ks e = over n n xs ks e
  where
    over : (m n : ℕ) (xs : List Param) (ks : List Kind) → n ≡ min (length xs) (length ks) → param_variables m (drop n xs) (drop n ks) (lent_params types (drop n xs) (drop n ks)) ≡ []
    over m zero [] ks e = refl
    over m zero (x ∷ xs) [] e = refl
    over m zero (x ∷ xs) (k ∷ ks) e = absurd (omega (arith, e))
    over m (suc n) [] ks e = absurd (omega (arith, e))
    over m (suc n) (x ∷ xs) [] e = absurd (omega (arith, e))
    over m (suc n) (x ∷ xs) (k ∷ ks) e = over m n xs ks (omega (arith, e))

-- one parameter further in front
pub params_step : (types : List DataType) (n m : ℕ) (xs : List Param) (ks : List Kind) (x : Param) (k : Kind) (l : Bool) → m ≡ suc n → slice_get xs n ≡ Some x → slice_get ks n ≡ Some k
    → l ≡ (x.read && is_heap types k)
    → record { name = x.name.word; is = record { number = n; kind = k; lent = l } } ∷ param_variables m (drop m xs) (drop m ks) (lent_params types (drop m xs) (drop m ks))
    ≡ param_variables n (drop n xs) (drop n ks) (lent_params types (drop n xs) (drop n ks))
params_step types n m xs ks x k l e p q r =
    ap (λ i. Front i) e ∙ ap (λ b. record { name = x.name.word; is = record { number = n; kind = k; lent = b } } ∷ param_variables (suc n) (drop (suc n) xs) (drop (suc n) ks) (lent_params types (drop (suc n) xs) (drop (suc n) ks))) r
    ∙ step n n xs ks p q
  where
    Front : ℕ → Scope Variable
    Front i = record { name = x.name.word; is = record { number = n; kind = k; lent = l } } ∷ param_variables i (drop i xs) (drop i ks) (lent_params types (drop i xs) (drop i ks))

    step : (i n : ℕ) (xs : List Param) (ks : List Kind) → slice_get xs n ≡ Some x → slice_get ks n ≡ Some k
        → record { name = x.name.word; is = record { number = i; kind = k; lent = x.read && is_heap types k } } ∷ param_variables (suc i) (drop (suc n) xs) (drop (suc n) ks) (lent_params types (drop (suc n) xs) (drop (suc n) ks))
        ≡ param_variables i (drop n xs) (drop n ks) (lent_params types (drop n xs) (drop n ks))
    step i n [] ks p q = cc
    step i n (y ∷ xs) [] p q = cc
    step i zero (y ∷ xs) (t ∷ ks) p q =
        let same : y ≡ x = cc in
        let kind : t ≡ k = cc in
        sym (ap (λ (z : Param). param_variables i (z ∷ xs) (t ∷ ks) (lent_params types (z ∷ xs) (t ∷ ks))) same ∙ ap (λ (z : Kind). param_variables i (x ∷ xs) (z ∷ ks) (lent_params types (x ∷ xs) (z ∷ ks))) kind)
    step i (suc n) (y ∷ xs) (t ∷ ks) p q = step i n xs ks p q

at_behind : (front xs : List Kind) (p : ℕ) → p ≡ length front → AreAt (front ++ xs) p xs
at_behind front [] p e = tt
at_behind front (x ∷ xs) p e =
    (here front p e, subst (λ l. AreAt l (suc p) xs) (moved front) (at_behind (front ++ x ∷ []) xs (suc p) (counted front p e)))
  where
    here : (front : List Kind) (p : ℕ) → p ≡ length front → slice_get (front ++ x ∷ xs) p ≡ Some x
    here [] zero e = refl
    here [] (suc p) e = absurd (omega (arith, e))
    here (y ∷ front) zero e = absurd (omega (arith, e))
    here (y ∷ front) (suc p) e = here front p (omega (arith, e))

    moved : (front : List Kind) → (front ++ x ∷ []) ++ xs ≡ front ++ x ∷ xs
    moved [] = refl
    moved (y ∷ front) = ap (λ l. y ∷ l) (moved front)

    counted : (front : List Kind) (p : ℕ) → p ≡ length front → suc p ≡ length (front ++ x ∷ [])
    counted [] p e = omega (arith, e)
    counted (y ∷ front) zero e = absurd (omega (arith, e))
    counted (y ∷ front) (suc p) e = let h = counted front p (omega (arith, e)) in omega (arith, h)

-- the kinds of a body, where the whole list is theirs
pub body_at : (types : List DataType) (g : Globals Kind) (ex list : List Kind) (xs ys : List Param) (ks ls : List Kind) (s : Scope Variable) (e : Expression) → ex ≡ list
    → list ≡ atoms_of known_kind g (params_scope xs ks) e
    → s ≡ param_variables 0 ys ls (lent_params types ys ls) → ys ≡ xs → ls ≡ ks → AreAt ex 0 (atoms_of known_kind g (kinds_in s) e)
body_at types g ex list xs ys ks ls s e p q h i j =
    let scope : kinds_in s ≡ params_scope xs ks =
    ap kinds_in h ∙ ap (λ z. kinds_in (param_variables 0 z ls (lent_params types z ls))) i ∙ ap (λ z. kinds_in (param_variables 0 xs z (lent_params types xs z))) j ∙ param_kinds types 0 xs ks in
    subst (λ k. AreAt ex 0 (atoms_of known_kind g k e)) (sym scope) (subst (AreAt ex 0) (p ∙ q) (at_behind [] ex 0 refl))

result_used : (g : Globals Kind) (f : Function) (s : Signature) → used (result_flow g f s) ≡ []
result_used g f s = at_test (some_lent (lent_params g.types f.params s.params) && is_heap g.types s.result)
  where
    at_test : (b : Bool) → used (if b then Fault (ReadResult f.name.word f.name.line) else Nothing) ≡ []
    at_test true = refl
    at_test false = refl

-- what was found of a function, where its result is fine
pub function_found : (loans : Loans) (g : Globals Kind) (f : Function) (k : FunctionKinds) (ys : List Param) (ls : List Kind) (next free count : ℕ) (s0 s1 : State)
    → first_of [] [] (result_flow g f (signature_of f k)) ≡ None → s0.next ≡ next → next ≡ length f.params → s0.scope ≡ param_variables 0 ys ls (lent_params g.types ys ls) → ys ≡ f.params → ls ≡ k.params
    → s0.spent ≡ [] → s0.fault ≡ None
    → Walked (flow loans g s0.next s0.scope f.body) free count s0 s1 → first_of [] [] (function_flow loans g f (signature_of f k)) ≡ s1.fault
function_found loans g f k ys ls next free count s0 s1 n nx len sc yx lk sp fa w =
    let scope : s0.scope ≡ param_variables 0 f.params k.params (lent_params g.types f.params k.params) =
    sc ∙ ap (λ z. param_variables 0 z ls (lent_params g.types z ls)) yx ∙ ap (λ z. param_variables 0 f.params z (lent_params g.types f.params z)) lk in
    let body : Flow = flow loans g (length f.params) (param_variables 0 f.params k.params (lent_params g.types f.params k.params)) f.body in
    let same : flow loans g s0.next s0.scope f.body ≡ body = ap (λ i. flow loans g i s0.scope f.body) (nx ∙ len) ∙ ap (λ s. flow loans g (length f.params) s f.body) scope in
    let result = result_flow g f (signature_of f k) in
    or_none (first_of [] [] result) (first_of (used result) [] body) n ∙ ap (λ l. first_of l [] body) (result_used g f (signature_of f k) ∙ sym sp) ∙ ap (first_of s0.spent []) (sym same)
    ∙ ap (λ o. option_or o (first_of s0.spent [] (flow loans g s0.next s0.scope f.body))) (sym fa) ∙ sym (w.fault [])

pub finds_by : {A : Type 0} (r : Result A (Stop UseFault)) (a b : Option UseFault) → b ≡ a → Finds r a → Finds r b
finds_by r a b e h = subst (Finds r) (sym e) h

-- ---- programs

pub functions_on : (loans : Loans) (g : Globals Kind) (f : Function) (fs : List Function) (k : FunctionKinds) (ks : List FunctionKinds)
    → first_of [] [] (function_flow loans g f (signature_of f k)) ≡ None
    → first (functions_faults loans g (f ∷ fs) (signatures_of (f ∷ fs) (k ∷ ks))) ≡ first (functions_faults loans g fs (signatures_of fs ks))
functions_on loans g f fs k ks h =
    first_append (faults [] [] (function_flow loans g f (signature_of f k))) (functions_faults loans g fs (signatures_of fs ks))
    ∙ or_none (first (faults [] [] (function_flow loans g f (signature_of f k)))) (first (functions_faults loans g fs (signatures_of fs ks))) (first_faults (function_flow loans g f (signature_of f k)) [] [] ∙ h)

pub functions_stop : (loans : Loans) (g : Globals Kind) (f : Function) (fs : List Function) (k : FunctionKinds) (ks : List FunctionKinds) (fault : UseFault)
    → first_of [] [] (function_flow loans g f (signature_of f k)) ≡ Some fault
    → first (functions_faults loans g (f ∷ fs) (signatures_of (f ∷ fs) (k ∷ ks))) ≡ Some fault
functions_stop loans g f fs k ks fault h =
    first_append (faults [] [] (function_flow loans g f (signature_of f k))) (functions_faults loans g fs (signatures_of fs ks))
    ∙ or_some (first (faults [] [] (function_flow loans g f (signature_of f k)))) (first (functions_faults loans g fs (signatures_of fs ks))) fault (first_faults (function_flow loans g f (signature_of f k)) [] [] ∙ h)

pub functions_over : {A B : Type 0} (loans : Loans) (g : Globals Kind) (p : A → Function) (q : B → FunctionKinds) (fs : List A) (ks : List B)
    → (length fs ≡ 0) ⊎ (length ks ≡ 0)
    → functions_faults loans g (map p fs) (signatures_of (map p fs) (map q ks)) ≡ []
functions_over loans g p q [] ks h = refl
functions_over loans g p q (f ∷ fs) [] h = refl
functions_over loans g p q (f ∷ fs) (k ∷ ks) (inl h) = absurd (omega (arith, h))
functions_over loans g p q (f ∷ fs) (k ∷ ks) (inr h) = absurd (omega (arith, h))

-- ---- the loop over functions, each with its kinds

pub funs_step : {A B : Type 0} (p : A → Function) (q : B → FunctionKinds) (loans : Loans) (g : Globals Kind) (fs gs : List A) (ks ls : List B) (f : A) (k : B) (found : Option UseFault)
    → fs ≡ f ∷ gs → ks ≡ k ∷ ls → first_of [] [] (function_flow loans g (p f) (signature_of (p f) (q k))) ≡ None
    → first (functions_faults loans g (map p fs) (signatures_of (map p fs) (map q ks))) ≡ found → first (functions_faults loans g (map p gs) (signatures_of (map p gs) (map q ls))) ≡ found
funs_step p q loans g fs gs ks ls f k found e d n h =
    sym (functions_on loans g (p f) (map p gs) (q k) (map q ls) n) ∙ ap (λ l. first (functions_faults loans g (map p l) (signatures_of (map p l) (q k ∷ map q ls)))) (sym e)
    ∙ ap (λ l. first (functions_faults loans g (map p fs) (signatures_of (map p fs) (map q l)))) (sym d) ∙ h

pub funs_stop : {A B : Type 0} (p : A → Function) (q : B → FunctionKinds) (loans : Loans) (g : Globals Kind) (fs gs : List A) (ks ls : List B) (f : A) (k : B) (found : Option UseFault) (stop : Stop UseFault)
    → fs ≡ f ∷ gs → ks ≡ k ∷ ls → StopsAt (first_of [] [] (function_flow loans g (p f) (signature_of (p f) (q k)))) stop
    → first (functions_faults loans g (map p fs) (signatures_of (map p fs) (map q ks))) ≡ found → StopsAt found stop
funs_stop p q loans g fs gs ks ls f k found (stop.Fault fault) e d n h =
    sym h ∙ ap (λ l. first (functions_faults loans g (map p fs) (signatures_of (map p fs) (map q l)))) d
    ∙ ap (λ l. first (functions_faults loans g (map p l) (signatures_of (map p l) (q k ∷ map q ls)))) e ∙ functions_stop loans g (p f) (map p gs) (q k) (map q ls) fault n
funs_stop p q loans g fs gs ks ls f k found stop.Memory e d n h = tt

pub kinds_step : {A B : Type 0} (p : A → Function) (q : B → FunctionKinds) (g : Globals Kind) (fs gs : List A) (ks ls : List B) (f : A) (k : B)
    → fs ≡ f ∷ gs → ks ≡ k ∷ ls
    → map q ks ≡ functions_kinds g (map p fs) (signatures_of (map p fs) (map q ks)) → map q ls ≡ functions_kinds g (map p gs) (signatures_of (map p gs) (map q ls))
kinds_step {A} {B} p q g fs gs ks ls f k e d h =
    let Left : List A → List B → Type 0 = λ x y. map q y ≡ functions_kinds g (map p x) (signatures_of (map p x) (map q y)) in
    let whole : Left (f ∷ gs) (k ∷ ls) = subst (λ x. Left x (k ∷ ls)) e (subst (λ y. Left fs y) d h) in
    tail whole
  where
    tail : q k ∷ map q ls ≡ functions_kinds g (map p (f ∷ gs)) (signatures_of (map p (f ∷ gs)) (map q (k ∷ ls)))
        → map q ls ≡ functions_kinds g (map p gs) (signatures_of (map p gs) (map q ls))
    tail w = cc

pub finds_err : {A : Type 0} (r : Result A (Stop UseFault)) (stop : Stop UseFault) (found : Option UseFault) → IsErrAnd r (λ e. e ≡ stop)
    → StopsAt found stop → Finds r found
finds_err (Ok x) stop found h t = absurd h
finds_err (Err e) stop found h t = subst (StopsAt found) (sym h) t

pub loans_is : (t : Typed) → loans_in t ≡ loans_of (typing_of t).source (typing_of t).signatures
loans_is t = let f : List DataType → Loans = λ types. lent_by types (typing_of t).source.funs (typing_of t).signatures in ap f t.its_types

pub globals_is : (t : Typed) → globals_in t ≡ typing_globals (typing_of t)
globals_is t = let f : List DataType → Globals Kind = λ types. record { types = types; heads = (typing_of t).signatures } in ap f t.its_types
