-- What the tests of declarations tell, and that they are the runs of their steps.
use Rattle.std.proofs.Common.{◌≡◌, ℕ, ◌≤◌, Bool, true, false, List, [], ◌∷◌, ◌++◌, map, length, Option, Some, None, refl, sym, ap, ◌∙◌, subst, arith}
use Rattle.std.specs.Prelude.{nat_le, is_some, not, ◌&&◌, ◌||◌, if◌then◌else◌, flat_map, codes, IsTrue}
use Rattle.std.specs.List.{AllByRecursion, list_all}
use Rattle.std.proofs.lemmas.Bool.{leb-true}
use Rattle.std.proofs.lemmas.List.{map-append}
use Rattle.camelot_values.specs.Kinds as values
use Rattle.camelot_values.specs.Kinds.{AreTypes, IsDataType, IsConstructor, constructors}
use Rattle.camelot_values.specs.declared.kinds.Kind.{Kind}
use Rattle.camelot_tree.specs.declared.tree.Name.{Name}
use Rattle.camelot_tree.specs.declared.tree.Atom.{Atom}
use Rattle.camelot_tree.specs.declared.tree.Atom.TheVariants as atom
use Rattle.camelot_tree.specs.declared.tree.Param.{Param}
use Rattle.camelot_tree.specs.Tree.{Constructor, DataType, Function, Source}
use Rattle.camelot_tree.specs.Shape.{is_nothing, con_is_whole, type_is_whole, fun_is_whole, is_whole}
use Rattle.camelot_typing.specs.Kinds.{kind_of_atom, field_kind, constructor_kinds, data_kinds, types_of}
use Rattle.camelot_tree.specs.Meaning.{declared_constructors}
use Rattle.camelot_types.specs.declared.fault.TypeFault.{TypeFault}
use Rattle.camelot_types.specs.declared.fault.TypeFault.TheVariants.{UnknownType, TooManyFields, TooMany}
use Rattle.camelot_types.specs.declared.guess.Guess.{Guess}
use Rattle.camelot_types.specs.Walk.{Step, Must, line_above, new_names, words, few, atom_step, fields_step, con_names, type_steps, types_steps, param_names, kind_step, header_steps, headers_steps}
use Rattle.camelot_types.specs.Solving.{Walked, Goes, Stops, and_then, run, names_checked}
use Rattle.camelot_types.specs.Declaring.{few_checked, kind_checked, atom_checked, atoms_checked, fields_checked, cons_checked, type_checked, each_type_checked, types_checked, kind_written, params_checked, header_checked, each_header_checked, headers_checked}
use Rattle.camelot_types.proofs.Unifying.{append_run}
use Rattle.camelot_types.proofs.Walking.{names_is}
use Rattle.camelot_types.proofs.Declaring.{length_map, few_hold}
use Rattle.camelot_types.proofs.Passing.{map_map}

-- ---- runs of tests

both_run : (types : List values.DataType) (table : List Guess) (o : Walked (Unit {0})) (q : Unit {0} → Walked (Unit {0})) (xs ys : List Step)
    → run types table xs ≡ and_then o (λ u. Goes table) → run types table ys ≡ and_then (q tt) (λ u. Goes table) → run types table (xs ++ ys) ≡ and_then (and_then o q) (λ u. Goes table)
both_run types table o q xs ys h k = append_run types table xs ys ∙ ap (λ r. and_then r (λ t. run types t ys)) h ∙ by_test o
  where
    by_test : (r : Walked (Unit {0})) → and_then (and_then r (λ u. Goes table)) (λ t. run types t ys) ≡ and_then (and_then r q) (λ u. Goes table)
    by_test (Goes tt) = k
    by_test (Stops fault) = refl

-- the first one is a single step
one_runs : (types : List values.DataType) (table : List Guess) (b : Bool) (fault : TypeFault) (q : Unit {0} → Walked (Unit {0})) (ys : List Step)
    → run types table ys ≡ and_then (q tt) (λ u. Goes table) → run types table (Must b fault ∷ ys) ≡ and_then (and_then (if b then Goes tt else Stops fault) q) (λ u. Goes table)
one_runs types table true fault q ys k = k
one_runs types table false fault q ys k = refl

few_runs : (types : List values.DataType) (table : List Guess) (what : List ℕ) (most : ℕ) (names : List Name) (q : Unit {0} → Walked (Unit {0})) (ys : List Step)
    → run types table ys ≡ and_then (q tt) (λ u. Goes table) → run types table (few what most names ∷ ys) ≡ and_then (and_then (few_checked what most names) q) (λ u. Goes table)
unfolding few_checked
few_runs types table what most names q ys k = one_runs types table (nat_le (length names) most) (TooMany what (length names) (line_above most names)) q ys k

names_run : (types : List values.DataType) (table : List Guess) (earlier : List (List ℕ)) (ns : List Name)
    → run types table (new_names earlier ns) ≡ and_then (names_checked earlier ns) (λ u. Goes table)
names_run types table earlier ns = sym (names_is types table earlier ns)

atom_runs : (types : List values.DataType) (table : List Guess) (p : Source) (a : Atom)
    → run types table (atom_step p a) ≡ and_then (atom_checked p a) (λ u. Goes table)
unfolding atom_checked kind_checked
atom_runs types table p atom.Int = refl
atom_runs types table p atom.Bool = refl
atom_runs types table p atom.Dia = refl
atom_runs types table p (atom.Named n) = by_kind (kind_of_atom p (atom.Named n))
  where
    by_kind : (o : Option Kind) → run types table (Must (is_some o) (UnknownType n.word n.line) ∷ []) ≡ and_then (kind_checked n o) (λ u. Goes table)
    by_kind None = refl
    by_kind (Some k) = refl

atoms_run : (types : List values.DataType) (table : List Guess) (p : Source) (as' : List Atom)
    → run types table (flat_map (atom_step p) as') ≡ and_then (atoms_checked p as') (λ u. Goes table)
unfolding atoms_checked
atoms_run types table p [] = refl
atoms_run types table p (a ∷ as') = both_run types table (atom_checked p a) (λ u. atoms_checked p as') (atom_step p a) (flat_map (atom_step p) as') (atom_runs types table p a) (atoms_run types table p as')

fields_run : (types : List values.DataType) (table : List Guess) (cs : List Constructor)
    → run types table (map fields_step cs) ≡ and_then (fields_checked cs) (λ u. Goes table)
unfolding fields_checked
fields_run types table [] = refl
fields_run types table (c ∷ cs) = by_test (nat_le (length c.fields) 4) (fields_run types table cs)
  where
    fault : TypeFault
    fault = TooManyFields c.name.word (length c.fields) c.name.line

    by_test : (b : Bool) → run types table (map fields_step cs) ≡ and_then (fields_checked cs) (λ u. Goes table)
        → run types table (Must b fault ∷ map fields_step cs) ≡ and_then (if b then fields_checked cs else Stops fault) (λ u. Goes table)
    by_test true h = h
    by_test false h = refl

abbrev cons_steps : Source → List Constructor → List Step
cons_steps p cs = flat_map (λ c. flat_map (atom_step p) c.fields) cs

cons_run : (types : List values.DataType) (table : List Guess) (p : Source) (cs : List Constructor)
    → run types table (cons_steps p cs) ≡ and_then (cons_checked p cs) (λ u. Goes table)
unfolding cons_checked
cons_run types table p [] = refl
cons_run types table p (c ∷ cs) = both_run types table (atoms_checked p c.fields) (λ u. cons_checked p cs) (flat_map (atom_step p) c.fields) (cons_steps p cs) (atoms_run types table p c.fields) (cons_run types table p cs)

type_runs : (types : List values.DataType) (table : List Guess) (p : Source) (earlier cons : List (List ℕ)) (t : DataType)
    → run types table (type_steps p earlier cons t) ≡ and_then (type_checked p earlier cons t) (λ u. Goes table)
unfolding type_checked
type_runs types table p earlier cons t =
    let last : List Step = map fields_step t.cons ++ cons_steps p t.cons in
    both_run types table (names_checked earlier (t.name ∷ [])) (λ u. and_then (names_checked cons (con_names t)) (λ v. and_then (few_checked (codes "constructors") 64 (con_names t)) (λ w. and_then (fields_checked t.cons) (λ x. cons_checked p t.cons))))
    (new_names earlier (t.name ∷ [])) (new_names cons (con_names t) ++ (few (codes "constructors") 64 (con_names t) ∷ last)) (names_run types table earlier (t.name ∷ []))
    (both_run types table (names_checked cons (con_names t)) (λ v. and_then (few_checked (codes "constructors") 64 (con_names t)) (λ w. and_then (fields_checked t.cons) (λ x. cons_checked p t.cons)))
    (new_names cons (con_names t)) (few (codes "constructors") 64 (con_names t) ∷ last) (names_run types table cons (con_names t))
    (few_runs types table (codes "constructors") 64 (con_names t) (λ w. and_then (fields_checked t.cons) (λ x. cons_checked p t.cons)) last
    (both_run types table (fields_checked t.cons) (λ x. cons_checked p t.cons) (map fields_step t.cons) (cons_steps p t.cons) (fields_run types table t.cons) (cons_run types table p t.cons))))

types_run : (types : List values.DataType) (table : List Guess) (p : Source) (earlier cons : List (List ℕ)) (ts : List DataType)
    → run types table (types_steps p earlier cons ts) ≡ and_then (each_type_checked p earlier cons ts) (λ u. Goes table)
unfolding each_type_checked
types_run types table p earlier cons [] = refl
types_run types table p earlier cons (t ∷ ts) =
    both_run types table (type_checked p earlier cons t) (λ u. each_type_checked p (earlier ++ t.name.word ∷ []) (cons ++ words (con_names t)) ts) (type_steps p earlier cons t) (types_steps p (earlier ++ t.name.word ∷ []) (cons ++ words (con_names t)) ts)
    (type_runs types table p earlier cons t) (types_run types table p (earlier ++ t.name.word ∷ []) (cons ++ words (con_names t)) ts)

pub checked_run : (types : List values.DataType) (table : List Guess) (p : Source)
    → run types table (few (codes "types") 64 (map (λ t. t.name) p.types) ∷ types_steps p [] [] p.types) ≡ and_then (types_checked p) (λ u. Goes table)
unfolding types_checked
checked_run types table p = few_runs types table (codes "types") 64 (map (λ t. t.name) p.types) (λ u. each_type_checked p [] [] p.types) (types_steps p [] [] p.types) (types_run types table p [] [] p.types)

-- ---- the same of headers

kind_runs : (types : List values.DataType) (table : List Guess) (p : Source) (o : Option Atom)
    → run types table (kind_step p o) ≡ and_then (kind_written p o) (λ u. Goes table)
unfolding kind_written
kind_runs types table p None = refl
kind_runs types table p (Some a) = atom_runs types table p a

abbrev params_steps : Source → List Param → List Step
params_steps p xs = flat_map (λ x. kind_step p x.kind) xs

params_run : (types : List values.DataType) (table : List Guess) (p : Source) (xs : List Param)
    → run types table (params_steps p xs) ≡ and_then (params_checked p xs) (λ u. Goes table)
unfolding params_checked
params_run types table p [] = refl
params_run types table p (x ∷ xs) = both_run types table (kind_written p x.kind) (λ u. params_checked p xs) (kind_step p x.kind) (params_steps p xs) (kind_runs types table p x.kind) (params_run types table p xs)

header_runs : (types : List values.DataType) (table : List Guess) (p : Source) (earlier : List (List ℕ)) (f : Function)
    → run types table (header_steps p earlier f) ≡ and_then (header_checked p earlier f) (λ u. Goes table)
unfolding header_checked
header_runs types table p earlier f =
    let last : List Step = params_steps p f.params ++ kind_step p f.result in
    both_run types table (names_checked earlier (f.name ∷ [])) (λ u. and_then (few_checked (codes "parameters") 16 (param_names f)) (λ v. and_then (names_checked [] (param_names f)) (λ w. and_then (params_checked p f.params) (λ x. kind_written p f.result))))
    (new_names earlier (f.name ∷ [])) (few (codes "parameters") 16 (param_names f) ∷ (new_names [] (param_names f) ++ last)) (names_run types table earlier (f.name ∷ []))
    (few_runs types table (codes "parameters") 16 (param_names f) (λ v. and_then (names_checked [] (param_names f)) (λ w. and_then (params_checked p f.params) (λ x. kind_written p f.result))) (new_names [] (param_names f) ++ last)
    (both_run types table (names_checked [] (param_names f)) (λ w. and_then (params_checked p f.params) (λ x. kind_written p f.result)) (new_names [] (param_names f)) last (names_run types table [] (param_names f))
    (both_run types table (params_checked p f.params) (λ x. kind_written p f.result) (params_steps p f.params) (kind_step p f.result) (params_run types table p f.params) (kind_runs types table p f.result))))

each_header_runs : (types : List values.DataType) (table : List Guess) (p : Source) (earlier : List (List ℕ)) (fs : List Function)
    → run types table (headers_steps p earlier fs) ≡ and_then (each_header_checked p earlier fs) (λ u. Goes table)
unfolding each_header_checked
each_header_runs types table p earlier [] = refl
each_header_runs types table p earlier (f ∷ fs) =
    both_run types table (header_checked p earlier f) (λ u. each_header_checked p (earlier ++ f.name.word ∷ []) fs) (header_steps p earlier f) (headers_steps p (earlier ++ f.name.word ∷ []) fs)
    (header_runs types table p earlier f) (each_header_runs types table p (earlier ++ f.name.word ∷ []) fs)

pub headers_run : (types : List values.DataType) (table : List Guess) (p : Source)
    → run types table (few (codes "functions") 64 (map (λ f. f.name) p.funs) ∷ headers_steps p [] p.funs) ≡ and_then (headers_checked p) (λ u. Goes table)
unfolding headers_checked
headers_run types table p = few_runs types table (codes "functions") 64 (map (λ f. f.name) p.funs) (λ u. each_header_checked p [] p.funs) (headers_steps p [] p.funs) (each_header_runs types table p [] p.funs)

-- ---- what the tests tell

goes_first : (o : Walked (Unit {0})) (q : Unit {0} → Walked (Unit {0})) → and_then o q ≡ Goes tt → o ≡ Goes tt
goes_first (Goes tt) q h = refl
goes_first (Stops fault) q h = cc

goes_next : (o : Walked (Unit {0})) (q : Unit {0} → Walked (Unit {0})) → and_then o q ≡ Goes tt → q tt ≡ Goes tt
goes_next (Goes tt) q h = h
goes_next (Stops fault) q h = cc

test_goes : (b : Bool) (o : Walked (Unit {0})) (fault : TypeFault) → (if b then o else Stops fault) ≡ Goes tt → (b ≡ true) × (o ≡ Goes tt)
test_goes true o fault h = (refl, h)
test_goes false o fault h = cc

few_goes : {A : Type 0} (name : A → Name) (what : List ℕ) (most : ℕ) (xs : List A) → few_checked what most (map name xs) ≡ Goes tt → length xs ≤ most
unfolding few_checked
few_goes name what most xs h = few_hold name most xs (test_goes (nat_le (length (map name xs)) most) (Goes tt) (TooMany what (length (map name xs)) (line_above most (map name xs))) h).0

pub types_few : (p : Source) → types_checked p ≡ Goes tt → length p.types ≤ 64
unfolding types_checked
types_few p h = few_goes (λ t. t.name) (codes "types") 64 p.types (goes_first (few_checked (codes "types") 64 (map (λ t. t.name) p.types)) (λ u. each_type_checked p [] [] p.types) h)

both_true : (a b : Bool) → IsTrue (a && b) → IsTrue a × IsTrue b
both_true true b h = (refl, h)
both_true false b h = cc

-- a constructor without a cell has no fields
bare : {A B : Type 0} (f : A → B) (inline : Bool) (xs : List A) → IsTrue (not inline || is_nothing xs) → inline ≡ true → map f xs ≡ []
bare f inline [] h e = refl
bare f true (x ∷ xs) h e = cc
bare f false (x ∷ xs) h e = cc

cons_are : (p : Source) (cs : List Constructor) → fields_checked cs ≡ Goes tt → IsTrue (list_all con_is_whole cs)
    → AllByRecursion IsConstructor (map (constructor_kinds p) cs)
unfolding fields_checked
cons_are p [] h w = tt
cons_are p (c ∷ cs) h w =
    let own = test_goes (nat_le (length c.fields) 4) (fields_checked cs) (TooManyFields c.name.word (length c.fields) c.name.line) h in
    let whole = both_true (con_is_whole c) (list_all con_is_whole cs) w in (
      record {
        few_fields = subst (λ n. n ≤ 4) (sym (length_map (field_kind p) c.fields)) (leb-true (length c.fields) 4 own.0);
        inline_is_bare = bare (field_kind p) c.inline c.fields whole.0;
      },
      cons_are p cs own.1 whole.1,
    )

some_there : {A : Type 0} (xs : List A) → IsTrue (not (is_nothing xs)) → 1 ≤ length xs
some_there [] h = cc
some_there (x ∷ xs) h = omega arith

type_is : (p : Source) (earlier cons : List (List ℕ)) (t : DataType) → type_checked p earlier cons t ≡ Goes tt → IsTrue (type_is_whole t)
    → IsDataType (data_kinds p t)
unfolding type_checked
type_is p earlier cons t h w =
    let whole = both_true (not (is_nothing t.cons)) (list_all con_is_whole t.cons) w in
    let behind_name = goes_next (names_checked earlier (t.name ∷ [])) (λ u. and_then (names_checked cons (con_names t)) (λ v. and_then (few_checked (codes "constructors") 64 (con_names t)) (λ w. and_then (fields_checked t.cons) (λ x. cons_checked p t.cons)))) h in
    let behind_names = goes_next (names_checked cons (con_names t)) (λ v. and_then (few_checked (codes "constructors") 64 (con_names t)) (λ w. and_then (fields_checked t.cons) (λ x. cons_checked p t.cons))) behind_name in
    let few_are = goes_first (few_checked (codes "constructors") 64 (con_names t)) (λ w. and_then (fields_checked t.cons) (λ x. cons_checked p t.cons)) behind_names in
    let behind_few = goes_next (few_checked (codes "constructors") 64 (con_names t)) (λ w. and_then (fields_checked t.cons) (λ x. cons_checked p t.cons)) behind_names in
    let same : length t.cons ≡ length (map (constructor_kinds p) t.cons) = sym (length_map (constructor_kinds p) t.cons) in
    record {
      some_cons = subst (λ n. 1 ≤ n) same (some_there t.cons whole.0);
      few_cons = subst (λ n. n ≤ 64) same (few_goes (λ c. c.name) (codes "constructors") 64 t.cons few_are);
      each = cons_are p t.cons (goes_first (fields_checked t.cons) (λ x. cons_checked p t.cons) behind_few) whole.1;
    }

each_is : (p : Source) (earlier cons : List (List ℕ)) (ts : List DataType) → each_type_checked p earlier cons ts ≡ Goes tt
    → IsTrue (list_all type_is_whole ts) → AllByRecursion IsDataType (map (data_kinds p) ts)
unfolding each_type_checked
each_is p earlier cons [] h w = tt
each_is p earlier cons (t ∷ ts) h w =
    let whole = both_true (type_is_whole t) (list_all type_is_whole ts) w in
    let next = λ (u : Unit {0}). each_type_checked p (earlier ++ t.name.word ∷ []) (cons ++ words (con_names t)) ts in (
      type_is p earlier cons t (goes_first (type_checked p earlier cons t) next h) whole.0,
      each_is p (earlier ++ t.name.word ∷ []) (cons ++ words (con_names t)) ts (goes_next (type_checked p earlier cons t) next h) whole.1,
    )

pub types_are : (p : Source) → types_checked p ≡ Goes tt → IsTrue (is_whole p) → AreTypes (types_of p)
unfolding types_checked
types_are p h w = record {
  few_types = subst (λ n. n ≤ 64) (sym (length_map (data_kinds p) p.types)) (types_few p h);
  each = each_is p [] [] p.types (goes_next (few_checked (codes "types") 64 (map (λ t. t.name) p.types)) (λ u. each_type_checked p [] [] p.types) h)
      (both_true (list_all type_is_whole p.types) (list_all fun_is_whole p.funs) w).0;
}

params_few : (p : Source) (earlier : List (List ℕ)) (f : Function) → header_checked p earlier f ≡ Goes tt → length f.params ≤ 16
unfolding header_checked
params_few p earlier f h =
    let behind_few = λ (v : Unit {0}). and_then (names_checked [] (param_names f)) (λ w. and_then (params_checked p f.params) (λ x. kind_written p f.result)) in
    let behind_name = goes_next (names_checked earlier (f.name ∷ [])) (λ u. and_then (few_checked (codes "parameters") 16 (param_names f)) behind_few) h in
    few_goes (λ x. x.name) (codes "parameters") 16 f.params (goes_first (few_checked (codes "parameters") 16 (param_names f)) behind_few behind_name)

each_few : (p : Source) (earlier : List (List ℕ)) (fs : List Function) → each_header_checked p earlier fs ≡ Goes tt
    → AllByRecursion (λ f. length f.params ≤ 16) fs
unfolding each_header_checked
each_few p earlier [] h = tt
each_few p earlier (f ∷ fs) h =
    let next = λ (u : Unit {0}). each_header_checked p (earlier ++ f.name.word ∷ []) fs in (
      params_few p earlier f (goes_first (header_checked p earlier f) next h),
      each_few p (earlier ++ f.name.word ∷ []) fs (goes_next (header_checked p earlier f) next h),
    )

pub headers_few : (p : Source) → headers_checked p ≡ Goes tt → (length p.funs ≤ 64) × AllByRecursion (λ f. length f.params ≤ 16) p.funs
unfolding headers_checked
headers_few p h =
    let first = few_checked (codes "functions") 64 (map (λ f. f.name) p.funs) in
    let next = λ (u : Unit {0}). each_header_checked p [] p.funs in
    (few_goes (λ f. f.name) (codes "functions") 64 p.funs (goes_first first next h), each_few p [] p.funs (goes_next first next h))

-- ---- names of constructors

names_of_types : (p : Source) (ts : List DataType)
    → map (λ c. c.name) (constructors (map (data_kinds p) ts)) ≡ map (λ c. c.name.word) (flat_map (λ t. t.cons) ts)
names_of_types p [] = refl
names_of_types p (t ∷ ts) =
    map-append {B = List ℕ} (λ c. c.name) (map (constructor_kinds p) t.cons) (constructors (map (data_kinds p) ts))
    ∙ ap (λ l. l ++ map {B = List ℕ} (λ c. c.name) (constructors (map (data_kinds p) ts))) (map_map (constructor_kinds p) (λ c. c.name) t.cons)
    ∙ ap (λ l. map {B = List ℕ} (λ c. c.name.word) t.cons ++ l) (names_of_types p ts)
    ∙ sym (map-append {B = List ℕ} (λ c. c.name.word) t.cons (flat_map (λ t. t.cons) ts))

pub con_names_are : (p : Source) → map (λ c. c.name) (constructors (types_of p)) ≡ map (λ c. c.name.word) (declared_constructors p)
con_names_are p = names_of_types p p.types
