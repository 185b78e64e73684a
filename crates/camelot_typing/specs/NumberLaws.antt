-- Laws, for the proofs of this crate and of those above it; `law_of_numbers` has two of them as its clauses.
-- Names and numbers: typing and meaning number constructors and functions alike, and a type's constructors are those
-- that belong to it.
use Rattle.std.proofs.Common.{◌≡◌, ℕ, zero, suc, ◌+◌, ◌-◌, ◌*◌, ◌<◌, ◌≤◌, Bool, true, false, List, [], ◌∷◌, ◌++◌, length, map, Option, Some, None, refl, sym, ap, ◌∙◌, subst, arith, length-append}
use Rattle.std.specs.Prelude.{slice_get, nat_lt, ◌==◌, ◌||◌, IsTrue, if◌then◌else◌, flat_map}
use Rattle.std.specs.List.{AllByRecursion}
use Rattle.std.specs.Option.{option_map}
use Rattle.std.specs.Str.{bytes_eq}
use Rattle.std.proofs.lemmas.List.{map-append}
use Rattle.std.proofs.lemmas.Bool.Decides.{nat_tests}
use Rattle.camelot_values.specs.Names.{place_among}
use Rattle.camelot_values.specs.Kinds as values
use Rattle.camelot_values.specs.Kinds.{DataType, IsDataType, AreTypes, type_from, type_of, constructor}
use Rattle.camelot_values.specs.Lists.{is_among}
use Rattle.camelot_values.specs.declared.kinds.Kind.{Kind}
use Rattle.camelot_tree.specs.declared.tree.Name.{Name}
use Rattle.camelot_tree.specs.Tree as tree
use Rattle.camelot_tree.specs.Tree.{Constructor, Function, Source}
use Rattle.camelot_tree.specs.Meaning as meaning
use Rattle.camelot_typing.specs.Kinds.{Globals, data_kinds, constructor_kinds, types_of, constructor_number, numbered, numbers_from, numbers_of, head_of}
use Rattle.camelot_typing.specs.Typing.{Signature, FunctionFits, FunctionsFit}

-- ---- constructors by name

-- the constructors of the kinds' types are those of the program's
pub constructors_same : (p : Source) (ts : List tree.DataType)
    → values.constructors (map (data_kinds p) ts) ≡ map (constructor_kinds p) (flat_map (λ t. t.cons) ts)
constructors_same p [] = refl
constructors_same p (t ∷ ts) = ap (λ l. map (constructor_kinds p) t.cons ++ l) (constructors_same p ts) ∙ sym (map-append (constructor_kinds p) t.cons (flat_map (λ t. t.cons) ts))

names_same : (p : Source) (cs : List Constructor) → map (λ c. c.name) (map (constructor_kinds p) cs) ≡ map (λ c. c.name.word) cs
names_same p [] = refl
names_same p (c ∷ cs) = ap (λ l. c.name.word ∷ l) (names_same p cs)

-- a constructor has the same number in both
pub number_same : (p : Source) (c : Name) → constructor_number (types_of p) c.word ≡ meaning.constructor_number p c
number_same p c = ap (λ l. place_among (map (λ c. c.name) l) c.word) (constructors_same p p.types) ∙ ap (λ l. place_among l c.word) (names_same p (meaning.declared_constructors p))

-- what stands at a place among names
pub record At {A : Type 0} (xs : List A) (i : ℕ) : Type 0 where
  pub item : A
  pub is : slice_get xs i ≡ Some item

pub place_has : {A : Type 0} (name_of : A → List ℕ) (xs : List A) (name : List ℕ) (i : ℕ) → place_among (map name_of xs) name ≡ Some i → At xs i
place_has name_of [] name i e = absurd cc
place_has name_of (x ∷ xs) name i e = by_test (bytes_eq (name_of x) name) (λ j. place_has name_of xs name j) e
  where
    by_place : (o : Option ℕ) → ((j : ℕ) → o ≡ Some j → At xs j) → option_map suc o ≡ Some i → At (x ∷ xs) i
    by_place None rec e = absurd cc
    by_place (Some j) rec e =
        let same : suc j ≡ i = cc in
        let r = rec j refl in
        subst (At (x ∷ xs)) same (record { item = r.item; is = r.is })

    by_test : (b : Bool) → ((j : ℕ) → place_among (map name_of xs) name ≡ Some j → At xs j)
        → (if b then Some 0 else option_map suc (place_among (map name_of xs) name)) ≡ Some i → At (x ∷ xs) i
    by_test true rec e =
        let same : 0 ≡ i = cc in
        subst (At (x ∷ xs)) same (record { item = x; is = refl })
    by_test false rec e = by_place (place_among (map name_of xs) name) rec e

-- a constructor of this number, with kinds and as the program writes it
pub numbered_constructor : (p : Source) (c : Name) (con : ℕ) → constructor_number (types_of p) c.word ≡ Some con → At (values.constructors (types_of p)) con
numbered_constructor p c con e = place_has (λ c. c.name) (values.constructors (types_of p)) c.word con e

pub written_constructor : (p : Source) (c : Name) (con : ℕ) → constructor_number (types_of p) c.word ≡ Some con → At (meaning.declared_constructors p) con
written_constructor p c con e = place_has (λ c. c.name.word) (meaning.declared_constructors p) c.word con (sym (number_same p c) ∙ e)

-- ---- functions by name

-- a function's number, by its name
pub record Numbered (fs : List Function) (sigs : List Signature) (name : List ℕ) (h : Signature) : Type 0 where
  pub number : ℕ
  pub is : place_among (map (λ f. f.name.word) fs) name ≡ Some number
  pub at : slice_get sigs number ≡ Some h

pub head_number : (p : Source) (g : Globals Kind) (fs : List Function) (sigs : List Signature) (name : List ℕ) (h : Signature)
    → FunctionsFit p g fs sigs → head_of sigs name ≡ Some h → Numbered fs sigs name h
head_number p g [] [] name h fit e = absurd cc
head_number p g [] (s ∷ sigs) name h fit e = absurd fit
head_number p g (f ∷ fs) [] name h fit e = absurd fit
head_number p g (f ∷ fs) (s ∷ sigs) name h fit e = by_test (bytes_eq s.name name) refl (λ k. head_number p g fs sigs name h fit.1 k) e
  where
    same : bytes_eq f.name.word name ≡ bytes_eq s.name name
    same = ap (λ w. bytes_eq w name) (sym fit.0.name)

    by_test : (b : Bool) → bytes_eq s.name name ≡ b → (head_of sigs name ≡ Some h → Numbered fs sigs name h)
        → (if b then Some s else head_of sigs name) ≡ Some h → Numbered (f ∷ fs) (s ∷ sigs) name h
    by_test true t rec e = record {
      number = 0;
      is = ap (λ b. if b then Some 0 else option_map suc (place_among (map (λ f. f.name.word) fs) name)) (same ∙ t);
      at = e;
    }
    by_test false t rec e =
        let r = rec e in
        record {
          number = suc r.number;
          is = ap (λ b. if b then Some 0 else option_map suc (place_among (map (λ f. f.name.word) fs) name)) (same ∙ t) ∙ ap (option_map suc) r.is;
          at = r.at;
        }

-- the function of a number whose kinds are these
pub record Written (p : Source) (g : Globals Kind) (fs : List Function) (i : ℕ) (s : Signature) : Type 0 where
  pub function : Function
  pub is : slice_get fs i ≡ Some function
  pub fits : FunctionFits p g function s

pub signature_function : (p : Source) (g : Globals Kind) (fs : List Function) (sigs : List Signature) (i : ℕ) (s : Signature)
    → FunctionsFit p g fs sigs → slice_get sigs i ≡ Some s → Written p g fs i s
signature_function p g [] [] i s fit e = absurd cc
signature_function p g [] (t ∷ sigs) i s fit e = absurd fit
signature_function p g (f ∷ fs) [] i s fit e = absurd fit
signature_function p g (f ∷ fs) (t ∷ sigs) zero s fit e = let same : t ≡ s = cc in record { function = f; is = refl; fits = subst (FunctionFits p g f) same fit.0 }
signature_function p g (f ∷ fs) (t ∷ sigs) (suc i) s fit e = let r = signature_function p g fs sigs i s fit.1 e in record { function = r.function; is = r.is; fits = r.fits }

-- ---- constructors of a type

some_same : (a b : ℕ) → ◌≡◌ {A = Option ℕ} (Some a) (Some b) → a ≡ b
some_same a b e = cc

-- types are numbered upwards
type_least : (first : ℕ) (types : List DataType) (c t : ℕ) → type_from first types c ≡ Some t → first ≤ t
type_least first [] c t e = absurd cc
type_least first (d ∷ ds) c t e = by_test (nat_lt c (length d.cons)) (λ k. type_least (suc first) ds (c - length d.cons) t k) e
  where
    by_test : (b : Bool) → (type_from (suc first) ds (c - length d.cons) ≡ Some t → suc first ≤ t)
        → (if b then Some first else type_from (suc first) ds (c - length d.cons)) ≡ Some t → first ≤ t
    by_test true rec e = let same : first ≡ t = some_same first t e in omega (arith, same)
    by_test false rec e = let less : suc first ≤ t = rec e in omega (arith, less)

-- one of these numbers in a row
numbered_at : {A : Type 0} (P : ℕ → Type 0) (first c : ℕ) (xs : List A) → c < length xs → AllByRecursion P (numbered first xs) → P (first + c)
numbered_at P first c [] less h = absurd (omega (arith, less))
numbered_at P first zero (x ∷ xs) less h = subst P (omega arith) h.0
numbered_at P first (suc c) (x ∷ xs) less h = subst P (omega arith) (numbered_at P (suc first) c xs (omega (arith, less)) h.1)

-- a type's numbers are those of the constructors that belong to it
among_from : (P : ℕ → Type 0) (number first c t : ℕ) (types : List DataType) → type_from number types c ≡ Some (number + t)
    → AllByRecursion P (numbers_from first types t) → P (first + c)
among_from P number first c t [] e h = absurd cc
among_from P number first c zero (d ∷ ds) e h = by_test (nat_lt c (length d.cons)) refl e
  where
    by_test : (b : Bool) → nat_lt c (length d.cons) ≡ b
        → (if b then Some number else type_from (suc number) ds (c - length d.cons)) ≡ Some (number + 0) → P (first + c)
    by_test true b e = let less : c < length d.cons = grind (arith, nat_tests, b) in numbered_at P first c d.cons less h
    by_test false b e = let less : suc number ≤ number + 0 = type_least (suc number) ds (c - length d.cons) (number + 0) e in absurd (omega (arith, less))
among_from P number first c (suc t) (d ∷ ds) e h =
    by_test (nat_lt c (length d.cons)) refl (λ k. among_from P (suc number) (first + length d.cons) (c - length d.cons) t ds k h) e
  where
    by_test : (b : Bool) → nat_lt c (length d.cons) ≡ b
        → (type_from (suc number) ds (c - length d.cons) ≡ Some (suc number + t) → P ((first + length d.cons) + (c - length d.cons)))
        → (if b then Some number else type_from (suc number) ds (c - length d.cons)) ≡ Some (number + suc t) → P (first + c)
    by_test true b rec e = let same : number ≡ number + suc t = some_same number (number + suc t) e in absurd (omega (arith, same))
    by_test false b rec e =
        let more : length d.cons ≤ c = grind (arith, nat_tests, b) in
        let same : number + suc t ≡ suc number + t = omega arith in
        let back : (first + length d.cons) + (c - length d.cons) ≡ first + c = omega (arith, more) in
        subst P back (rec (e ∙ ap Some same))

pub among_numbers : (P : ℕ → Type 0) (types : List DataType) (c t : ℕ) → type_of types c ≡ Some t → AllByRecursion P (numbers_of types t) → P c
among_numbers P types c t e h = let same : t ≡ 0 + t = omega arith in let back : 0 + c ≡ c = omega arith in subst P back (among_from P 0 0 c t types (e ∙ ap Some same) h)

all_among : (ns : List ℕ) → AllByRecursion (λ n. is_among ns n ≡ true) ns
all_among ns = each ns (λ n h. h)
  where
    itself : (n : ℕ) (ms : List ℕ) → is_among (n ∷ ms) n ≡ true
    itself n ms = let e : (n == n) ≡ true = grind (arith, nat_tests) in ap (λ b. b || is_among ms n) e

    or_true : (a b : Bool) → b ≡ true → (a || b) ≡ true
    or_true true b h = refl
    or_true false b h = h

    each : (ms : List ℕ) → ((n : ℕ) → is_among ms n ≡ true → is_among ns n ≡ true) → AllByRecursion (λ n. is_among ns n ≡ true) ms
    each [] sub = tt
    each (m ∷ ms) sub = (sub m (itself m ms), each ms (λ n h. sub n (or_true (m == n) (is_among ms n) h)))

-- a constructor that belongs to a type is among that type's
pub is_among_numbers : (types : List DataType) (c t : ℕ) → type_of types c ≡ Some t → IsTrue (is_among (numbers_of types t) c)
is_among_numbers types c t e = among_numbers (λ n. is_among (numbers_of types t) n ≡ true) types c t e (all_among (numbers_of types t))

-- ---- how many constructors there are

-- at most 64 times 64
few_from : (n : ℕ) (types : List DataType) → length types ≤ n → AllByRecursion IsDataType types → length (values.constructors types) ≤ 64 * n
few_from n [] h each = omega arith
few_from zero (d ∷ ds) h each = absurd (omega (arith, h))
few_from (suc n) (d ∷ ds) h each =
    let rest = few_from n ds (omega (arith, h)) each.1 in
    let own = each.0.few_cons in
    let both = length-append d.cons (values.constructors ds) in
    omega (arith, rest, own, both)

pub few_constructors : (types : List DataType) → AreTypes types → length (values.constructors types) ≤ 4096
few_constructors types h = let e = few_from 64 types h.few_types h.each in omega (arith, e)
