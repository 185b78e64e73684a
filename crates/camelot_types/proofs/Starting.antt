-- The table that the walk starts with has a place for each unknown in a program's steps, and every choice agrees with
-- it.
use Rattle.std.proofs.Common.{◌≡◌, ℕ, zero, suc, ◌+◌, ◌<◌, ◌≤◌, List, [], ◌∷◌, ◌++◌, map, length, get_or, Option, Some, None, refl, sym, ap, ◌∙◌, subst, arith}
use Rattle.std.specs.Prelude.{slice_get, flat_map}
use Rattle.std.specs.List.{AllByRecursion}
use Rattle.std.specs.Option.{option_map, option_map_or}
use Rattle.camelot_values.specs.Kinds as values
use Rattle.camelot_values.specs.Kinds.{DataType, constructors}
use Rattle.camelot_values.specs.declared.kinds.Kind.TheVariants as kind
use Rattle.camelot_tree.specs.declared.tree.Name.{Name}
use Rattle.camelot_tree.specs.declared.tree.Atom.{Atom}
use Rattle.camelot_tree.specs.declared.tree.Atom.TheVariants as atom
use Rattle.camelot_tree.specs.declared.tree.Param.{Param}
use Rattle.camelot_tree.specs.Tree as tree
use Rattle.camelot_tree.specs.Tree.{Constructor, Function, Source}
use Rattle.camelot_typing.specs.Kinds.{Head, Globals, Scope, or_else, type_number, field_kind, constructor_kinds, data_kinds, types_of}
use Rattle.camelot_typing.specs.Typing.{IsDeclared, params_scope}
use Rattle.camelot_types.specs.declared.guess.Guess.{Guess}
use Rattle.camelot_types.specs.declared.guess.Guess.TheVariants.{Unknown}
use Rattle.camelot_types.specs.Walk.{Step, Same, under, new_names, line_of, guess, steps, fields_step, atom_step, con_names, words, types_steps, kind_step, param_names, headers_steps, guess_of, param_guesses, head_guesses, guesses_of, body_steps, bodies_steps, program_steps}
use Rattle.camelot_types.specs.Solving.{looked_up, unknowns, fresh}
use Rattle.camelot_types.proofs.Unifying.{IsWithin, AllWithin, within_both, IsFresh}
use Rattle.camelot_types.proofs.Numbers.{place_within}
use Rattle.camelot_types.proofs.Proper.{IsProper, ScopeWithin, guess_within, expr_within}
use Rattle.camelot_types.proofs.Declaring.{length_map}

-- ---- the number of unknowns

-- ---- the types of a program are proper

number_declared : (p : Source) (o : Option ℕ) (w : List ℕ) → type_number p w ≡ o → IsDeclared (types_of p) (or_else (option_map kind.Of o) kind.Int)
number_declared p None w e = tt
number_declared p (Some t) w e =
    let l = place_within (map (λ t. t.name.word) p.types) w t e in
    let m : length (map (λ t. t.name.word) p.types) ≡ length p.types = length_map (λ t. t.name.word) p.types in
    let n : length (types_of p) ≡ length p.types = length_map (data_kinds p) p.types in
    subst (λ k. t < k) (m ∙ sym n) l

field_declared : (p : Source) (a : Atom) → IsDeclared (types_of p) (field_kind p a)
field_declared p atom.Int = tt
field_declared p atom.Bool = tt
field_declared p atom.Dia = tt
field_declared p (atom.Named n) = number_declared p (type_number p n.word) n.word refl

fields_declared : (p : Source) (as' : List Atom) → AllByRecursion (IsDeclared (types_of p)) (map (field_kind p) as')
fields_declared p [] = tt
fields_declared p (a ∷ as') = (field_declared p a, fields_declared p as')

abbrev FieldsDeclared : Source → values.Constructor → Type 0
FieldsDeclared p c = AllByRecursion (IsDeclared (types_of p)) c.fields

cons_declared : (p : Source) (cs : List Constructor) (rest : List values.Constructor) → AllByRecursion (FieldsDeclared p) rest
    → AllByRecursion (FieldsDeclared p) (map (constructor_kinds p) cs ++ rest)
cons_declared p [] rest h = h
cons_declared p (c ∷ cs) rest h = (fields_declared p c.fields, cons_declared p cs rest h)

types_declared : (p : Source) (ts : List tree.DataType) → AllByRecursion (FieldsDeclared p) (constructors (map (data_kinds p) ts))
types_declared p [] = tt
types_declared p (t ∷ ts) = cons_declared p t.cons (constructors (map (data_kinds p) ts)) (types_declared p ts)

one_declared : (p : Source) (cs : List values.Constructor) (con : ℕ) → AllByRecursion (FieldsDeclared p) cs
    → AllByRecursion (IsDeclared (types_of p)) (option_map_or (λ c. c.fields) (slice_get cs con) [])
one_declared p [] con h = tt
one_declared p (c ∷ cs) zero h = h.0
one_declared p (c ∷ cs) (suc con) h = one_declared p cs con h.1

-- ---- and the heads of its functions

guess_of_within : (p : Source) (n number : ℕ) (o : Option Atom) → number < n → IsWithin (types_of p) n (guess_of p number o)
guess_of_within p n number None l = l
guess_of_within p n number (Some a) l = field_declared p a

params_within : (p : Source) (n number : ℕ) (xs : List Param) → number + length xs ≤ n → AllByRecursion (IsWithin (types_of p) n) (param_guesses p number xs)
params_within p n number [] l = tt
params_within p n number (x ∷ xs) l = (guess_of_within p n number x.kind (omega (arith, l)), params_within p n (suc number) xs (omega (arith, l)))

abbrev HeadWithin : Source → ℕ → Head Guess → Type 0
HeadWithin p n h = AllByRecursion (IsWithin (types_of p) n) h.params × IsWithin (types_of p) n h.result

heads_within : (p : Source) (n number : ℕ) (fs : List Function) → number + unknowns fs ≤ n → AllByRecursion (HeadWithin p n) (head_guesses p number fs)
heads_within p n number [] l = tt
heads_within p n number (f ∷ fs) l = (
  (params_within p n number f.params (omega (arith, l)), guess_of_within p n (number + length f.params) f.result (omega (arith, l))),
  heads_within p n (suc (number + length f.params)) fs (omega (arith, l)),
)

pub guesses_proper : (p : Source) (n : ℕ) → unknowns p.funs ≡ n → IsProper n (guesses_of p)
guesses_proper p n e = record { fields = λ con. one_declared p (constructors (types_of p)) con (types_declared p p.types); heads = heads_within p n 0 p.funs (omega (arith, e)) }

-- ---- steps of tests alone

names_within : (types : List DataType) (n : ℕ) (earlier : List (List ℕ)) (ns : List Name) → AllWithin types n (new_names earlier ns)
names_within types n earlier [] = tt
names_within types n earlier (m ∷ ns) = (tt, names_within types n (earlier ++ m.word ∷ []) ns)

flat_within : {A : Type 0} (types : List DataType) (n : ℕ) (f : A → List Step) (xs : List A) → ((x : A) → AllWithin types n (f x))
    → AllWithin types n (flat_map f xs)
flat_within types n f [] h = tt
flat_within types n f (x ∷ xs) h = within_both types n (f x) (flat_map f xs) (h x) (flat_within types n f xs h)

atom_within : (types : List DataType) (n : ℕ) (p : Source) (a : Atom) → AllWithin types n (atom_step p a)
atom_within types n p atom.Int = tt
atom_within types n p atom.Bool = tt
atom_within types n p atom.Dia = tt
atom_within types n p (atom.Named m) = (tt, tt)

kind_within : (types : List DataType) (n : ℕ) (p : Source) (o : Option Atom) → AllWithin types n (kind_step p o)
kind_within types n p None = tt
kind_within types n p (Some a) = atom_within types n p a

few_within : (types : List DataType) (n : ℕ) (cs : List Constructor) → AllWithin types n (map fields_step cs)
few_within types n [] = tt
few_within types n (c ∷ cs) = (tt, few_within types n cs)

types_within : (types : List DataType) (n : ℕ) (p : Source) (names cons : List (List ℕ)) (ts : List tree.DataType)
    → AllWithin types n (types_steps p names cons ts)
types_within types n p names cons [] = tt
types_within types n p names cons (t ∷ ts) = (
  tt,
  within_both types n _ _
      (within_both types n _ _ (names_within types n cons (con_names t))
      (tt, within_both types n _ _ (few_within types n t.cons) (flat_within types n (λ c. flat_map (atom_step p) c.fields) t.cons (λ c. flat_within types n (atom_step p) c.fields (atom_within types n p)))))
      (types_within types n p (names ++ t.name.word ∷ []) (cons ++ words (con_names t)) ts),
)

headers_within : (types : List DataType) (n : ℕ) (p : Source) (earlier : List (List ℕ)) (fs : List Function) → AllWithin types n (headers_steps p earlier fs)
headers_within types n p earlier [] = tt
headers_within types n p earlier (f ∷ fs) = (
  tt,
  (
    tt,
    within_both types n _ _
        (within_both types n _ _ (names_within types n [] (param_names f))
        (within_both types n _ _ (flat_within types n (λ x. kind_step p x.kind) f.params (λ x. kind_within types n p x.kind)) (kind_within types n p f.result)))
        (headers_within types n p (earlier ++ f.name.word ∷ []) fs),
  ),
)

-- ---- bodies

scope_within : (types : List DataType) (n : ℕ) (xs : List Param) (gs : List Guess) → AllByRecursion (IsWithin types n) gs
    → ScopeWithin types n (params_scope xs gs)
scope_within types n [] gs h = tt
scope_within types n (x ∷ xs) [] h = tt
scope_within types n (x ∷ xs) (a ∷ gs) h = (h.0, scope_within types n xs gs h.1)

body_within : (n : ℕ) (g : Globals Guess) (f : Function) (h : Head Guess) → IsProper n g → AllByRecursion (IsWithin g.types n) h.params
    → IsWithin g.types n h.result → AllWithin g.types n (body_steps g f h)
body_within n g f h p w r =
    let s : Scope Guess = params_scope f.params h.params in
    let inside = scope_within g.types n f.params h.params w in
    within_both g.types n (steps g s f.body) (Same (guess g s f.body) h.result (line_of f.body) ∷ []) (expr_within n g s f.body p inside) ((guess_within n g s f.body p inside, r), tt)

bodies_within : (n : ℕ) (g : Globals Guess) (fs : List Function) (hs : List (Head Guess)) → IsProper n g
    → AllByRecursion (λ h. AllByRecursion (IsWithin g.types n) h.params × IsWithin g.types n h.result) hs
    → AllWithin g.types n (bodies_steps g fs hs)
bodies_within n g [] hs p h = tt
bodies_within n g (f ∷ fs) [] p h = tt
bodies_within n g (f ∷ fs) (d ∷ hs) p h = within_both g.types n (body_steps g f d) (bodies_steps g fs hs) (body_within n g f d p h.0.0 h.0.1) (bodies_within n g fs hs p h.1)

pub program_within : (p : Source) (n : ℕ) → unknowns p.funs ≡ n → AllWithin (types_of p) n (program_steps p)
program_within p n e =
    let proper = guesses_proper p n e in (
      tt,
      within_both (types_of p) n _ _ (types_within (types_of p) n p [] [] p.types) (
        tt,
        within_both (types_of p) n _ _ (headers_within (types_of p) n p [] p.funs) (bodies_within n (guesses_of p) p.funs (head_guesses p 0 p.funs) proper proper.heads),
      ),
    )

-- ---- the table that one starts with

pub length_fresh : (first k : ℕ) → length (fresh first k) ≡ k
length_fresh first zero = refl
length_fresh first (suc k) = ap suc (length_fresh (suc first) k)

itself : (first k x : ℕ) → get_or (fresh first k) x (Unknown (first + x)) ≡ Unknown (first + x)
itself first zero x = refl
itself first (suc k) zero = let e : first ≡ first + 0 = omega arith in ap Unknown e
itself first (suc k) (suc x) =
    let e : first + suc x ≡ suc first + x = omega arith in
    ap (λ y. get_or (fresh (suc first) k) x (Unknown y)) e ∙ itself (suc first) k x ∙ ap Unknown (sym e)

fresh_itself : (n x : ℕ) → looked_up (fresh 0 n) (Unknown x) ≡ Unknown x
fresh_itself n x = let e : 0 + x ≡ x = omega arith in subst (λ y. get_or (fresh 0 n) x (Unknown y) ≡ Unknown y) e (itself 0 n x)

pub is_fresh : (types : List DataType) (n : ℕ) → IsFresh types (fresh 0 n)
is_fresh types n = record {
  sound = record {
    settled = λ x. ap (looked_up (fresh 0 n)) (fresh_itself n x);
    within = λ x l. subst (IsWithin types (length (fresh 0 n))) (sym (fresh_itself n x)) l;
  };
  free = λ choice x. ap (under choice) (sym (fresh_itself n x));
}
