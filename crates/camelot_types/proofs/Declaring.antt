-- The steps of declarations of types and of headers of functions hold exactly where the declarations stand.
use Rattle.std.proofs.Common.{◌≡◌, ℕ, suc, ◌≤◌, true, List, [], ◌∷◌, ◌++◌, map, length, Option, Some, None, refl, sym, ap, subst, append_assoc, append-nil}
use Rattle.std.specs.Prelude.{nat_le, flat_map, codes}
use Rattle.std.specs.List.{AllByRecursion}
use Rattle.std.proofs.lemmas.Bool.{leb-true, le-leb}
use Rattle.camelot_values.specs.Names.{AreDistinct}
use Rattle.camelot_values.specs.NameLaws.{AreNew, new_distinct, distinct_new}
use Rattle.camelot_tree.specs.declared.tree.Name.{Name}
use Rattle.camelot_tree.specs.declared.tree.Atom.{Atom}
use Rattle.camelot_tree.specs.declared.tree.Atom.TheVariants as atom
use Rattle.camelot_tree.specs.declared.tree.Param.{Param}
use Rattle.camelot_tree.specs.Tree.{Constructor, DataType, Function, Source}
use Rattle.camelot_typing.specs.Typing.{IsDeclaredAtom, ConstructorFits}
use Rattle.camelot_types.specs.Walk.{Step, Choice, AllHold, new_names, words, few, atom_step, fields_step, con_names, types_steps, param_names, kind_step, headers_steps}
use Rattle.camelot_types.proofs.Unifying.{all_both, all_front, all_back}
use Rattle.camelot_types.proofs.Judging.{new_hold, hold_new}

-- ---- lists

pub length_map : {A B : Type 0} (f : A → B) (xs : List A) → length (map f xs) ≡ length xs
length_map f [] = refl
length_map f (x ∷ xs) = ap suc (length_map f xs)

-- at most so many of these
pub few_hold : {A : Type 0} (name : A → Name) (most : ℕ) (xs : List A) → nat_le (length (map name xs)) most ≡ true → length xs ≤ most
few_hold name most xs h = subst (λ n. n ≤ most) (length_map name xs) (leb-true (length (map name xs)) most h)

pub hold_few : {A : Type 0} (name : A → Name) (most : ℕ) (xs : List A) → length xs ≤ most → nat_le (length (map name xs)) most ≡ true
hold_few name most xs h = le-leb (length (map name xs)) most (subst (λ n. n ≤ most) (sym (length_map name xs)) h)

pub words_of : {A : Type 0} (name : A → Name) (xs : List A) → words (map name xs) ≡ map (λ x. (name x).word) xs
words_of name [] = refl
words_of name (x ∷ xs) = ap (λ l. (name x).word ∷ l) (words_of name xs)

-- names that are new, one behind the other
new_both : {A : Type 0} (word : A → List ℕ) (earlier : List (List ℕ)) (xs ys : List A) → AreNew earlier (map word xs)
    → AreNew (earlier ++ map word xs) (map word ys) → AreNew earlier (map word (xs ++ ys))
new_both word earlier [] ys h k = subst (λ l. AreNew l (map word ys)) (append-nil earlier) k
new_both word earlier (x ∷ xs) ys h k = (
  h.0,
  new_both word (earlier ++ word x ∷ []) xs ys h.1 (subst (λ l. AreNew l (map word ys)) (sym (append_assoc earlier (word x ∷ []) (map word xs))) k),
)

new_front : {A : Type 0} (word : A → List ℕ) (earlier : List (List ℕ)) (xs ys : List A) → AreNew earlier (map word (xs ++ ys)) → AreNew earlier (map word xs)
new_front word earlier [] ys h = tt
new_front word earlier (x ∷ xs) ys h = (h.0, new_front word (earlier ++ word x ∷ []) xs ys h.1)

new_back : {A : Type 0} (word : A → List ℕ) (earlier : List (List ℕ)) (xs ys : List A) → AreNew earlier (map word (xs ++ ys))
    → AreNew (earlier ++ map word xs) (map word ys)
new_back word earlier [] ys h = subst (λ l. AreNew l (map word ys)) (sym (append-nil earlier)) h
new_back word earlier (x ∷ xs) ys h = subst (λ l. AreNew l (map word ys)) (append_assoc earlier (word x ∷ []) (map word xs)) (new_back word (earlier ++ word x ∷ []) xs ys h.1)

each_both : {A : Type 0} (P : A → Type 0) (xs ys : List A) → AllByRecursion P xs → AllByRecursion P ys → AllByRecursion P (xs ++ ys)
each_both P [] ys h k = k
each_both P (x ∷ xs) ys h k = (h.0, each_both P xs ys h.1 k)

each_front : {A : Type 0} (P : A → Type 0) (xs ys : List A) → AllByRecursion P (xs ++ ys) → AllByRecursion P xs
each_front P [] ys h = tt
each_front P (x ∷ xs) ys h = (h.0, each_front P xs ys h.1)

each_back : {A : Type 0} (P : A → Type 0) (xs ys : List A) → AllByRecursion P (xs ++ ys) → AllByRecursion P ys
each_back P [] ys h = h
each_back P (x ∷ xs) ys h = each_back P xs ys h.1

-- ---- atoms

atom_holds : (choice : Choice) (p : Source) (a : Atom) → AllHold choice (atom_step p a) → IsDeclaredAtom p a
atom_holds choice p atom.Int h = refl
atom_holds choice p atom.Bool h = refl
atom_holds choice p atom.Dia h = refl
atom_holds choice p (atom.Named n) h = h.0

holds_atom : (choice : Choice) (p : Source) (a : Atom) → IsDeclaredAtom p a → AllHold choice (atom_step p a)
holds_atom choice p atom.Int h = tt
holds_atom choice p atom.Bool h = tt
holds_atom choice p atom.Dia h = tt
holds_atom choice p (atom.Named n) h = (h, tt)

atoms_hold : (choice : Choice) (p : Source) (as' : List Atom) → AllHold choice (flat_map (atom_step p) as') → AllByRecursion (IsDeclaredAtom p) as'
atoms_hold choice p [] h = tt
atoms_hold choice p (a ∷ as') h = (
  atom_holds choice p a (all_front choice (atom_step p a) (flat_map (atom_step p) as') h),
  atoms_hold choice p as' (all_back choice (atom_step p a) (flat_map (atom_step p) as') h),
)

hold_atoms : (choice : Choice) (p : Source) (as' : List Atom) → AllByRecursion (IsDeclaredAtom p) as' → AllHold choice (flat_map (atom_step p) as')
hold_atoms choice p [] h = tt
hold_atoms choice p (a ∷ as') h = all_both choice (atom_step p a) (flat_map (atom_step p) as') (holds_atom choice p a h.0) (hold_atoms choice p as' h.1)

-- ---- constructors

abbrev cons_steps : Source → List Constructor → List Step
cons_steps p cs = flat_map (λ c. flat_map (atom_step p) c.fields) cs

cons_hold : (choice : Choice) (p : Source) (cs : List Constructor) → AllHold choice (map fields_step cs) → AllHold choice (cons_steps p cs)
    → AllByRecursion (ConstructorFits p) cs
cons_hold choice p [] h k = tt
cons_hold choice p (c ∷ cs) h k =
    let own : List Step = flat_map (atom_step p) c.fields in (
      (leb-true (length c.fields) 4 h.0, atoms_hold choice p c.fields (all_front choice own (cons_steps p cs) k)),
      cons_hold choice p cs h.1 (all_back choice own (cons_steps p cs) k),
    )

few_fields : (choice : Choice) (p : Source) (cs : List Constructor) → AllByRecursion (ConstructorFits p) cs → AllHold choice (map fields_step cs)
few_fields choice p [] h = tt
few_fields choice p (c ∷ cs) h = (le-leb (length c.fields) 4 h.0.0, few_fields choice p cs h.1)

hold_cons : (choice : Choice) (p : Source) (cs : List Constructor) → AllByRecursion (ConstructorFits p) cs → AllHold choice (cons_steps p cs)
hold_cons choice p [] h = tt
hold_cons choice p (c ∷ cs) h = all_both choice (flat_map (atom_step p) c.fields) (cons_steps p cs) (hold_atoms choice p c.fields h.0.1) (hold_cons choice p cs h.1)

-- ---- types

abbrev con_word : Constructor → List ℕ
con_word c = c.name.word

abbrev cons_of : List DataType → List Constructor
cons_of ts = flat_map (λ t. t.cons) ts

-- types behind others, whose names and whose constructors' names these are
pub record TypesFit (p : Source) (types cons : List (List ℕ)) (ts : List DataType) : Type 0 where
  pub names : AreNew types (map (λ t. t.name.word) ts)
  pub con_names : AreNew cons (map (λ c. c.name.word) (flat_map (λ t. t.cons) ts))
  pub few : AllByRecursion (λ t. length t.cons ≤ 64) ts
  pub fit : AllByRecursion (ConstructorFits p) (flat_map (λ t. t.cons) ts)

-- the steps of a type behind its name
abbrev inner_steps : Source → List (List ℕ) → DataType → List Step
inner_steps p cons t = new_names cons (con_names t) ++ (few (codes "constructors") 64 (con_names t) ∷ (map fields_step t.cons ++ cons_steps p t.cons))

pub types_hold : (choice : Choice) (p : Source) (types cons : List (List ℕ)) (ts : List DataType) → AllHold choice (types_steps p types cons ts)
    → TypesFit p types cons ts
types_hold choice p types cons [] h = record { names = tt; con_names = tt; few = tt; fit = tt }
types_hold choice p types cons (t ∷ ts) h =
    let rest : List Step = types_steps p (types ++ t.name.word ∷ []) (cons ++ words (con_names t)) ts in
    let ends : List Step = map fields_step t.cons ++ cons_steps p t.cons in
    let own = all_front choice (inner_steps p cons t) rest h.1 in
    let more = types_hold choice p (types ++ t.name.word ∷ []) (cons ++ words (con_names t)) ts (all_back choice (inner_steps p cons t) rest h.1) in
    let behind = all_back choice (new_names cons (con_names t)) (few (codes "constructors") 64 (con_names t) ∷ ends) own in
    let new = new_hold choice cons (con_names t) (all_front choice (new_names cons (con_names t)) (few (codes "constructors") 64 (con_names t) ∷ ends) own) in
    let same : words (con_names t) ≡ map con_word t.cons = words_of (λ c. c.name) t.cons in
    record {
      names = (h.0, more.names);
      con_names = new_both con_word cons t.cons (cons_of ts) (subst (AreNew cons) same new) (subst (λ l. AreNew (cons ++ l) (map con_word (cons_of ts))) same more.con_names);
      few = (few_hold (λ c. c.name) 64 t.cons behind.0, more.few);
      fit = each_both (ConstructorFits p) t.cons (cons_of ts)
          (cons_hold choice p t.cons (all_front choice (map fields_step t.cons) (cons_steps p t.cons) behind.1) (all_back choice (map fields_step t.cons) (cons_steps p t.cons) behind.1)) more.fit;
    }

pub hold_types : (choice : Choice) (p : Source) (types cons : List (List ℕ)) (ts : List DataType) → TypesFit p types cons ts
    → AllHold choice (types_steps p types cons ts)
hold_types choice p types cons [] f = tt
hold_types choice p types cons (t ∷ ts) f =
    let rest : List Step = types_steps p (types ++ t.name.word ∷ []) (cons ++ words (con_names t)) ts in
    let ends : List Step = map fields_step t.cons ++ cons_steps p t.cons in
    let same : map con_word t.cons ≡ words (con_names t) = sym (words_of (λ c. c.name) t.cons) in
    let own = each_front (ConstructorFits p) t.cons (cons_of ts) f.fit in
    let new : AreNew cons (words (con_names t)) = subst (AreNew cons) same (new_front con_word cons t.cons (cons_of ts) f.con_names) in
    let more : TypesFit p (types ++ t.name.word ∷ []) (cons ++ words (con_names t)) ts = record {
      names = f.names.1;
      con_names = subst (λ l. AreNew (cons ++ l) (map con_word (cons_of ts))) same (new_back con_word cons t.cons (cons_of ts) f.con_names);
      few = f.few.1;
      fit = each_back (ConstructorFits p) t.cons (cons_of ts) f.fit;
    } in (
      f.names.0,
      all_both choice (inner_steps p cons t) rest
          (all_both choice (new_names cons (con_names t)) (few (codes "constructors") 64 (con_names t) ∷ ends) (hold_new choice cons (con_names t) new)
          (hold_few (λ c. c.name) 64 t.cons f.few.0, all_both choice (map fields_step t.cons) (cons_steps p t.cons) (few_fields choice p t.cons own) (hold_cons choice p t.cons own)))
          (hold_types choice p (types ++ t.name.word ∷ []) (cons ++ words (con_names t)) ts more),
    )

-- ---- headers

-- a kind that is written is one of the program's
abbrev pub IsDeclaredKind : Source → Option Atom → Type 0
IsDeclaredKind p None = Unit {0}
IsDeclaredKind p (Some a) = IsDeclaredAtom p a

pub record HeaderFits (p : Source) (f : Function) : Type 0 where
  pub few : length f.params ≤ 16
  pub distinct : AreDistinct (map (λ x. x.name.word) f.params)
  pub params : AllByRecursion (λ x. IsDeclaredKind p x.kind) f.params
  pub result : IsDeclaredKind p f.result

-- functions behind others, whose names these are
pub record HeadersFit (p : Source) (earlier : List (List ℕ)) (fs : List Function) : Type 0 where
  pub names : AreNew earlier (map (λ f. f.name.word) fs)
  pub fit : AllByRecursion (HeaderFits p) fs

kind_holds : (choice : Choice) (p : Source) (o : Option Atom) → AllHold choice (kind_step p o) → IsDeclaredKind p o
kind_holds choice p None h = tt
kind_holds choice p (Some a) h = atom_holds choice p a h

holds_kind : (choice : Choice) (p : Source) (o : Option Atom) → IsDeclaredKind p o → AllHold choice (kind_step p o)
holds_kind choice p None h = tt
holds_kind choice p (Some a) h = holds_atom choice p a h

abbrev params_steps : Source → List Param → List Step
params_steps p xs = flat_map (λ x. kind_step p x.kind) xs

params_hold : (choice : Choice) (p : Source) (xs : List Param) → AllHold choice (params_steps p xs) → AllByRecursion (λ x. IsDeclaredKind p x.kind) xs
params_hold choice p [] h = tt
params_hold choice p (x ∷ xs) h = (
  kind_holds choice p x.kind (all_front choice (kind_step p x.kind) (params_steps p xs) h),
  params_hold choice p xs (all_back choice (kind_step p x.kind) (params_steps p xs) h),
)

hold_params : (choice : Choice) (p : Source) (xs : List Param) → AllByRecursion (λ x. IsDeclaredKind p x.kind) xs → AllHold choice (params_steps p xs)
hold_params choice p [] h = tt
hold_params choice p (x ∷ xs) h = all_both choice (kind_step p x.kind) (params_steps p xs) (holds_kind choice p x.kind h.0) (hold_params choice p xs h.1)

-- the steps of a header behind its name
abbrev behind_name : Source → Function → List Step
behind_name p f = few (codes "parameters") 16 (param_names f) ∷ (new_names [] (param_names f) ++ (params_steps p f.params ++ kind_step p f.result))

header_holds : (choice : Choice) (p : Source) (f : Function) → AllHold choice (behind_name p f) → HeaderFits p f
header_holds choice p f h =
    let ends : List Step = params_steps p f.params ++ kind_step p f.result in
    let behind = all_back choice (new_names [] (param_names f)) ends h.1 in
    let new = new_hold choice [] (param_names f) (all_front choice (new_names [] (param_names f)) ends h.1) in
    let same : words (param_names f) ≡ map (λ x. x.name.word) f.params = words_of (λ x. x.name) f.params in
    record {
      few = few_hold (λ x. x.name) 16 f.params h.0;
      distinct = subst AreDistinct same (new_distinct (words (param_names f)) new);
      params = params_hold choice p f.params (all_front choice (params_steps p f.params) (kind_step p f.result) behind);
      result = kind_holds choice p f.result (all_back choice (params_steps p f.params) (kind_step p f.result) behind);
    }

holds_header : (choice : Choice) (p : Source) (f : Function) → HeaderFits p f → AllHold choice (behind_name p f)
holds_header choice p f h =
    let ends : List Step = params_steps p f.params ++ kind_step p f.result in
    let same : map (λ x. x.name.word) f.params ≡ words (param_names f) = sym (words_of (λ x. x.name) f.params) in (
      hold_few (λ x. x.name) 16 f.params h.few,
      all_both choice (new_names [] (param_names f)) ends
          (hold_new choice [] (param_names f) (distinct_new (words (param_names f)) (subst AreDistinct same h.distinct)))
          (all_both choice (params_steps p f.params) (kind_step p f.result) (hold_params choice p f.params h.params) (holds_kind choice p f.result h.result)),
    )

pub headers_hold : (choice : Choice) (p : Source) (earlier : List (List ℕ)) (fs : List Function) → AllHold choice (headers_steps p earlier fs)
    → HeadersFit p earlier fs
headers_hold choice p earlier [] h = record { names = tt; fit = tt }
headers_hold choice p earlier (f ∷ fs) h =
    let rest : List Step = headers_steps p (earlier ++ f.name.word ∷ []) fs in
    let more = headers_hold choice p (earlier ++ f.name.word ∷ []) fs (all_back choice (behind_name p f) rest h.1) in
    record { names = (h.0, more.names); fit = (header_holds choice p f (all_front choice (behind_name p f) rest h.1), more.fit) }

pub hold_headers : (choice : Choice) (p : Source) (earlier : List (List ℕ)) (fs : List Function) → HeadersFit p earlier fs
    → AllHold choice (headers_steps p earlier fs)
hold_headers choice p earlier [] h = tt
hold_headers choice p earlier (f ∷ fs) h =
    let rest : List Step = headers_steps p (earlier ++ f.name.word ∷ []) fs in (
      h.names.0,
      all_both choice (behind_name p f) rest (holds_header choice p f h.fit.0) (hold_headers choice p (earlier ++ f.name.word ∷ []) fs (record { names = h.names.1; fit = h.fit.1 })),
    )
