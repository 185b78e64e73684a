-- The steps of a program hold for a choice exactly where the program is typed, within the limits, with the kinds that
-- the choice gives.
use Rattle.std.proofs.Common.{◌≡◌, ℕ, zero, suc, ◌+◌, ◌≤◌, List, [], ◌∷◌, ◌++◌, map, length, get_or, Option, Some, None, refl, sym, ap, ◌∙◌, subst, arith}
use Rattle.std.specs.Prelude.{is_some, codes, IsSome, IsTrue}
use Rattle.std.specs.List.{AllByRecursion}
use Rattle.camelot_values.specs.NameLaws.{new_distinct, distinct_new}
use Rattle.camelot_values.specs.declared.kinds.Kind.{Kind}
use Rattle.camelot_values.specs.declared.kinds.Kind.TheVariants as kind
use Rattle.camelot_tree.specs.declared.tree.Atom.{Atom}
use Rattle.camelot_tree.specs.declared.tree.Param.{Param}
use Rattle.camelot_tree.specs.Tree.{Function, Source}
use Rattle.camelot_tree.specs.Tokens.{has_ints}
use Rattle.camelot_typing.specs.Kinds.{Head, Globals, Scope, or_else, kind_of_atom, types_of}
use Rattle.camelot_typing.specs.Typing.{Signature, HasKind, IsDeclared, Stands, ParamsStand, params_scope, FunctionsFit, globals_of, IsTyped, IsWithinLimits}
use Rattle.camelot_tree.specs.Meaning.{declared_constructors}
use Rattle.camelot_types.specs.declared.guess.Guess.{Guess}
use Rattle.camelot_types.specs.Walk.{Step, Same, Choice, under, AllHold, few, types_steps, headers_steps, guess_of, param_guesses, head_guess, head_guesses, guesses_of, line_of, guess, steps, body_steps, bodies_steps, program_steps}
use Rattle.camelot_types.proofs.Unifying.{all_both, all_front, all_back}
use Rattle.camelot_types.proofs.Choosing.{head_under, globals_under, scope_under, params_under}
use Rattle.camelot_types.proofs.Judging.{sound, complete}
use Rattle.camelot_types.proofs.Declaring.{few_hold, hold_few, TypesFit, types_hold, hold_types, IsDeclaredKind, HeaderFits, HeadersFit, headers_hold, hold_headers}

-- the kinds of a program's functions that a choice gives
abbrev pub signatures_under : Choice → Source → List Signature
signatures_under choice p = map (head_under choice) (head_guesses p 0 p.funs)

-- the steps behind those of the types, and behind those of the headers
abbrev header_part : Source → List Step
header_part p = few (codes "functions") 64 (map (λ f. f.name) p.funs) ∷ (headers_steps p [] p.funs ++ bodies_steps (guesses_of p) p.funs (head_guesses p 0 p.funs))

abbrev body_part : Source → List Step
body_part p = bodies_steps (guesses_of p) p.funs (head_guesses p 0 p.funs)

-- ---- steps that hold give kinds

-- every unknown has a kind of a declared type
abbrev IsDeclaredChoice : Source → Choice → Type 0
IsDeclaredChoice p choice = (x : ℕ) → IsDeclared (types_of p) (choice x)

there : {A : Type 0} (o : Option A) (a : A) → IsSome o → o ≡ Some (or_else o a)
there None a h = cc
there (Some b) a h = refl

stands_under : (choice : Choice) (p : Source) (number : ℕ) (o : Option Atom) → IsDeclaredChoice p choice → IsDeclaredKind p o
    → Stands p o (under choice (guess_of p number o))
stands_under choice p number None d h = d number
stands_under choice p number (Some a) d h = there (kind_of_atom p a) kind.Int h

params_stand : (choice : Choice) (p : Source) (number : ℕ) (xs : List Param) → IsDeclaredChoice p choice → AllByRecursion (λ x. IsDeclaredKind p x.kind) xs
    → ParamsStand p xs (map (under choice) (param_guesses p number xs))
params_stand choice p number [] d h = tt
params_stand choice p number (x ∷ xs) d h = (stands_under choice p number x.kind d h.0, params_stand choice p (suc number) xs d h.1)

-- a function's body has its kind, in the scope of its parameters
body_sound : (choice : Choice) (g : Globals Guess) (f : Function) (h : Head Guess) → AllHold choice (body_steps g f h)
    → HasKind (globals_under choice g) (params_scope f.params (map (under choice) h.params)) f.body (under choice h.result)
body_sound choice g f h k =
    let s : Scope Guess = params_scope f.params h.params in
    let last : List Step = Same (guess g s f.body) h.result (line_of f.body) ∷ [] in
    subst (λ inner. HasKind (globals_under choice g) inner f.body (under choice h.result)) (params_under choice f.params h.params)
    (subst (HasKind (globals_under choice g) (scope_under choice s) f.body) (all_back choice (steps g s f.body) last k).0 (sound choice g s f.body (all_front choice (steps g s f.body) last k)))

functions_fit : (choice : Choice) (p : Source) (g : Globals Guess) (number : ℕ) (fs : List Function) → IsDeclaredChoice p choice
    → AllByRecursion (HeaderFits p) fs
    → AllHold choice (bodies_steps g fs (head_guesses p number fs)) → FunctionsFit p (globals_under choice g) fs (map (head_under choice) (head_guesses p number fs))
functions_fit choice p g number [] d h k = tt
functions_fit choice p g number (f ∷ fs) d h k =
    let own : Head Guess = head_guess p number f in
    let next : ℕ = suc (number + length f.params) in
    let rest : List Step = bodies_steps g fs (head_guesses p next fs) in (
      record {
        name = refl;
        params = params_stand choice p number f.params d h.0.params;
        result = stands_under choice p (number + length f.params) f.result d h.0.result;
        distinct = h.0.distinct;
        body = body_sound choice g f own (all_front choice (body_steps g f own) rest k);
      },
      functions_fit choice p g next fs d h.1 (all_back choice (body_steps g f own) rest k),
    )

limits_of : (p : Source) (fs : List Function) → AllByRecursion (HeaderFits p) fs → AllByRecursion (λ f. length f.params ≤ 16) fs
limits_of p [] h = tt
limits_of p (f ∷ fs) h = (h.0.few, limits_of p fs h.1)

pub program_sound : (choice : Choice) (p : Source) → ((x : ℕ) → IsDeclared (types_of p) (choice x)) → IsTrue (has_ints p)
    → AllHold choice (program_steps p) → IsTyped p (signatures_under choice p) × IsWithinLimits p
program_sound choice p d ints h =
    let types = types_hold choice p [] [] p.types (all_front choice (types_steps p [] [] p.types) (header_part p) h.1) in
    let behind = all_back choice (types_steps p [] [] p.types) (header_part p) h.1 in
    let headers = headers_hold choice p [] p.funs (all_front choice (headers_steps p [] p.funs) (body_part p) behind.1) in
    let bodies = all_back choice (headers_steps p [] p.funs) (body_part p) behind.1 in (
      record {
        type_names = new_distinct (map (λ t. t.name.word) p.types) types.names;
        con_names = new_distinct (map (λ c. c.name.word) (declared_constructors p)) types.con_names;
        fun_names = new_distinct (map (λ f. f.name.word) p.funs) headers.names;
        fields = types.fit;
        functions = functions_fit choice p (guesses_of p) 0 p.funs d headers.fit bodies;
        literals = ints;
      },
      record {
        types = few_hold (λ t. t.name) 64 p.types h.0;
        cons = types.few;
        funs = few_hold (λ f. f.name) 64 p.funs behind.0;
        params = limits_of p p.funs headers.fit;
      },
    )

-- ---- kinds make steps hold

-- the kinds of parameters and results in a row
abbrev flat : List Signature → List Kind
flat [] = []
flat (s ∷ ss) = s.params ++ (s.result ∷ flat ss)

-- the unknowns from this number on have these kinds
abbrev Agrees : Choice → ℕ → List Kind → Type 0
Agrees choice number [] = Unit {0}
Agrees choice number (k ∷ ks) = (choice number ≡ k) × Agrees choice (suc number) ks

agrees : (choice : Choice) (number : ℕ) (ks : List Kind) → ((x : ℕ) → choice (number + x) ≡ get_or ks x kind.Int) → Agrees choice number ks
agrees choice number [] h = tt
agrees choice number (k ∷ ks) h = (
  subst (λ n. choice n ≡ k) (omega arith) (h zero),
  agrees choice (suc number) ks (λ x. let e : number + suc x ≡ suc number + x = omega arith in subst (λ n. choice n ≡ get_or ks x kind.Int) e (h (suc x))),
)

-- what stands where an atom is guessed
guess_stands : (choice : Choice) (p : Source) (number : ℕ) (o : Option Atom) (k : Kind) → Stands p o k → choice number ≡ k
    → under choice (guess_of p number o) ≡ k
guess_stands choice p number None k h e = e
guess_stands choice p number (Some a) k h e = ap (λ o. or_else o kind.Int) h

declared_kind : (p : Source) (o : Option Atom) (k : Kind) → Stands p o k → IsDeclaredKind p o
declared_kind p None k h = tt
declared_kind p (Some a) k h = ap is_some h

-- parameters, before what follows them
record ParamsAre (choice : Choice) (p : Source) (number : ℕ) (xs : List Param) (ks rest : List Kind) : Type 0 where
  same : map (under choice) (param_guesses p number xs) ≡ ks
  declared : AllByRecursion (λ x. IsDeclaredKind p x.kind) xs
  more : Agrees choice (number + length xs) rest

params_are : (choice : Choice) (p : Source) (number : ℕ) (xs : List Param) (ks rest : List Kind) → ParamsStand p xs ks
    → Agrees choice number (ks ++ rest) → ParamsAre choice p number xs ks rest
params_are choice p number [] [] rest h a = let e : number ≡ number + 0 = omega arith in record { same = refl; declared = tt; more = subst (λ n. Agrees choice n rest) e a }
params_are choice p number [] (k ∷ ks) rest h a = absurd h
params_are choice p number (x ∷ xs) [] rest h a = absurd h
params_are choice p number (x ∷ xs) (k ∷ ks) rest h a =
    let more = params_are choice p (suc number) xs ks rest h.1 a.1 in
    let own : under choice (guess_of p number x.kind) ≡ k = guess_stands choice p number x.kind k h.0 a.0 in
    let e : suc number + length xs ≡ number + length (x ∷ xs) = omega arith in
    record {
      same = ap (λ q. q ∷ map (under choice) (param_guesses p (suc number) xs)) own ∙ ap (λ l. k ∷ l) more.same;
      declared = (declared_kind p x.kind k h.0, more.declared);
      more = subst (λ n. Agrees choice n rest) e more.more;
    }

same_head : (n m : List ℕ) (ks qs : List Kind) (k q : Kind) → n ≡ m → ks ≡ qs → k ≡ q → (let h : Signature = record { name = n; params = ks; result = k } in h) ≡ record { name = m; params = qs; result = q }
same_head n m ks qs k q e f g = cc

-- functions whose kinds are those of a choice
record FunctionsAre (choice : Choice) (p : Source) (number : ℕ) (fs : List Function) (ss : List Signature) : Type 0 where
  same : map (head_under choice) (head_guesses p number fs) ≡ ss
  fit : AllByRecursion (HeaderFits p) fs

functions_are : (choice : Choice) (p : Source) (g : Globals Kind) (number : ℕ) (fs : List Function) (ss : List Signature)
    → AllByRecursion (λ f. length f.params ≤ 16) fs → FunctionsFit p g fs ss → Agrees choice number (flat ss)
    → FunctionsAre choice p number fs ss
functions_are choice p g number [] [] l h a = record { same = refl; fit = tt }
functions_are choice p g number [] (s ∷ ss) l h a = absurd h
functions_are choice p g number (f ∷ fs) [] l h a = absurd h
functions_are choice p g number (f ∷ fs) (s ∷ ss) l h a =
    let ps = params_are choice p number f.params s.params (s.result ∷ flat ss) h.0.params a in
    let more = functions_are choice p g (suc (number + length f.params)) fs ss l.1 h.1 ps.more.1 in
    let result = guess_stands choice p (number + length f.params) f.result s.result h.0.result ps.more.0 in
    let own : head_under choice (head_guess p number f) ≡ s =
    same_head f.name.word s.name (map (under choice) (param_guesses p number f.params)) s.params (under choice (guess_of p (number + length f.params) f.result)) s.result (sym h.0.name) ps.same result in
    record {
      same = ap (λ q. q ∷ map (head_under choice) (head_guesses p (suc (number + length f.params)) fs)) own ∙ ap (λ l. s ∷ l) more.same;
      fit = (record { few = l.0; distinct = h.0.distinct; params = ps.declared; result = declared_kind p f.result s.result h.0.result }, more.fit);
    }

body_complete : (choice : Choice) (g : Globals Guess) (f : Function) (h : Head Guess)
    → HasKind (globals_under choice g) (params_scope f.params (map (under choice) h.params)) f.body (under choice h.result)
    → AllHold choice (body_steps g f h)
body_complete choice g f h k =
    let s : Scope Guess = params_scope f.params h.params in
    let last : List Step = Same (guess g s f.body) h.result (line_of f.body) ∷ [] in
    let j = complete choice g s f.body (under choice h.result) (subst (λ inner. HasKind (globals_under choice g) inner f.body (under choice h.result)) (sym (params_under choice f.params h.params)) k) in
    all_both choice (steps g s f.body) last j.hold (j.is, tt)

bodies_complete : (choice : Choice) (p : Source) (g : Globals Guess) (fs : List Function) (hs : List (Head Guess))
    → FunctionsFit p (globals_under choice g) fs (map (head_under choice) hs) → AllHold choice (bodies_steps g fs hs)
bodies_complete choice p g [] [] k = tt
bodies_complete choice p g [] (h ∷ hs) k = absurd k
bodies_complete choice p g (f ∷ fs) [] k = absurd k
bodies_complete choice p g (f ∷ fs) (h ∷ hs) k = all_both choice (body_steps g f h) (bodies_steps g fs hs) (body_complete choice g f h k.0.body) (bodies_complete choice p g fs hs k.1)

-- a choice for which the program's steps hold, and that gives these kinds
pub record ProgramChoice (p : Source) (sigs : List Signature) : Type 0 where
  pub choice : Choice
  pub hold : AllHold choice (program_steps p)
  pub is : signatures_under choice p ≡ sigs

pub program_complete : (p : Source) (sigs : List Signature) → IsTyped p sigs → IsWithinLimits p → ProgramChoice p sigs
program_complete p sigs t l =
    let choice : Choice = λ x. get_or (flat sigs) x kind.Int in
    let start : Agrees choice 0 (flat sigs) = agrees choice 0 (flat sigs) (λ x. let e : 0 + x ≡ x = omega arith in ap choice e) in
    let are = functions_are choice p (globals_of p sigs) 0 p.funs sigs l.params t.functions start in
    let fits : FunctionsFit p (globals_of p (signatures_under choice p)) p.funs (signatures_under choice p) = subst (λ ss. FunctionsFit p (globals_of p ss) p.funs ss) (sym are.same) t.functions in
    let types : TypesFit p [] [] p.types = record {
      names = distinct_new (map (λ t. t.name.word) p.types) t.type_names;
      con_names = distinct_new (map (λ c. c.name.word) (declared_constructors p)) t.con_names;
      few = l.cons;
      fit = t.fields;
    } in
    let headers : HeadersFit p [] p.funs = record { names = distinct_new (map (λ f. f.name.word) p.funs) t.fun_names; fit = are.fit } in
    record {
      choice = choice;
      hold = (
        hold_few (λ t. t.name) 64 p.types l.types,
        all_both choice (types_steps p [] [] p.types) (header_part p) (hold_types choice p [] [] p.types types) (
          hold_few (λ f. f.name) 64 p.funs l.funs,
          all_both choice (headers_steps p [] p.funs) (body_part p) (hold_headers choice p [] p.funs headers) (bodies_complete choice p (guesses_of p) p.funs (head_guesses p 0 p.funs) fits),
        ),
      );
      is = are.same;
    }
