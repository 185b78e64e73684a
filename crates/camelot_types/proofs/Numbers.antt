-- Numbers of constructors and of their types.
use Rattle.std.proofs.Common.{◌≡◌, ℕ, suc, ◌+◌, ◌-◌, ◌<◌, ◌≤◌, Bool, true, false, List, [], ◌∷◌, ◌++◌, map, length, Option, Some, None, refl, sym, ap, ◌∙◌, subst, arith, length-append}
use Rattle.std.specs.Prelude.{nat_lt, ◌==◌, ◌||◌, not, if◌then◌else◌}
use Rattle.std.specs.List.{list_any}
use Rattle.std.specs.Option.{option_map}
use Rattle.std.specs.Str.{bytes_eq}
use Rattle.std.proofs.lemmas.Bool.{eqb-true}
use Rattle.std.proofs.lemmas.Bool.Decides.{nat_tests}
use Rattle.camelot_values.specs.Names.{place_among}
use Rattle.camelot_values.specs.Kinds.{DataType, constructors, type_from, type_of}
use Rattle.camelot_typing.specs.Kinds.{constructor_number}

not_below : (c n : ℕ) → nat_lt c n ≡ false → n ≤ c
not_below c n h = grind (arith, nat_tests)

-- ---- names have numbers within their list

pub place_within : (ns : List (List ℕ)) (name : List ℕ) (i : ℕ) → place_among ns name ≡ Some i → i < length ns
place_within [] name i h = absurd cc
place_within (n ∷ ns) name i h = by_test (λ j k. place_within ns name j k) (bytes_eq n name) h
  where
    later : (o : Option ℕ) → ((j : ℕ) → o ≡ Some j → j < length ns) → option_map suc o ≡ Some i → i < length (n ∷ ns)
    later None f h = absurd cc
    later (Some j) f h = let l = f j refl in let e : suc j ≡ i = cc in omega (arith, l, e)

    by_test : ((j : ℕ) → place_among ns name ≡ Some j → j < length ns) → (b : Bool)
        → (if b then Some 0 else option_map suc (place_among ns name)) ≡ Some i → i < length (n ∷ ns)
    by_test f true h = let e : 0 ≡ i = cc in omega (arith, e)
    by_test f false h = later (place_among ns name) f h

length_map : {A B : Type 0} (f : A → B) (xs : List A) → length (map f xs) ≡ length xs
length_map f [] = refl
length_map f (x ∷ xs) = ap suc (length_map f xs)

-- ---- each constructor has a type

type_there : (number : ℕ) (types : List DataType) (c : ℕ) → c < length (constructors types) → (t : ℕ) × (type_from number types c ≡ Some t)
type_there number [] c h = absurd (omega (arith, h))
type_there number (d ∷ ds) c h = by_test (type_there (suc number) ds (c - length d.cons)) (nat_lt c (length d.cons)) refl
  where
    by_test : (c - length d.cons < length (constructors ds) → (t : ℕ) × (type_from (suc number) ds (c - length d.cons) ≡ Some t))
        → (b : Bool) → nat_lt c (length d.cons) ≡ b → (t : ℕ) × ((if b then Some number else type_from (suc number) ds (c - length d.cons)) ≡ Some t)
    by_test f true e = (number, refl)
    by_test f false e =
        let l = not_below c (length d.cons) e in
        f (omega (arith, h, l, length-append d.cons (constructors ds)))

pub owned : (types : List DataType) (name : List ℕ) (con : ℕ) → constructor_number types name ≡ Some con → (t : ℕ) × (type_of types con ≡ Some t)
owned types name con h =
    type_there 0 types con (subst (λ n. con < n) (length_map (λ c. c.name) (constructors types)) (place_within (map (λ c. c.name) (constructors types)) name con h))

-- ---- and that type is there

pub type_below : (number : ℕ) (types : List DataType) (c t : ℕ) → type_from number types c ≡ Some t → t < number + length types
type_below number [] c t h = absurd cc
type_below number (d ∷ ds) c t h = by_test (type_below (suc number) ds (c - length d.cons) t) (nat_lt c (length d.cons)) h
  where
    by_test : (type_from (suc number) ds (c - length d.cons) ≡ Some t → t < suc number + length ds) → (b : Bool)
        → (if b then Some number else type_from (suc number) ds (c - length d.cons)) ≡ Some t → t < number + length (d ∷ ds)
    by_test f true k = let e : number ≡ t = cc in omega (arith, e)
    by_test f false k = let l = f k in omega (arith, l)

pub type_declared : (types : List DataType) (con t : ℕ) → type_of types con ≡ Some t → t < length types
type_declared types con t h = let l = type_below 0 types con t h in omega (arith, l)

-- ---- how often a number stands in a list

abbrev pub times : ℕ → List ℕ → ℕ
times con [] = 0
times con (n ∷ ns) = (if n == con then 1 else 0) + times con ns

pub times_append : (con : ℕ) (xs ys : List ℕ) → times con (xs ++ ys) ≡ times con xs + times con ys
times_append con [] ys = omega arith
times_append con (x ∷ xs) ys = let h = times_append con xs ys in omega (arith, h)

abbrev pub is_in : ℕ → List ℕ → Bool
is_in con ns = list_any (λ n. n == con) ns

pub times_some : (con : ℕ) (ns : List ℕ) → is_in con ns ≡ true → 1 ≤ times con ns
times_some con [] h = absurd cc
times_some con (n ∷ ns) h = by_test (times_some con ns) (n == con) h
  where
    by_test : (is_in con ns ≡ true → 1 ≤ times con ns) → (b : Bool) → (b || is_in con ns) ≡ true → 1 ≤ (if b then 1 else 0) + times con ns
    by_test f true h = omega arith
    by_test f false h = let k = f h in omega (arith, k)

pub some_times : (con : ℕ) (ns : List ℕ) → 1 ≤ times con ns → is_in con ns ≡ true
some_times con [] h = absurd (omega (arith, h))
some_times con (n ∷ ns) h = by_test (some_times con ns) (n == con) h
  where
    by_test : (1 ≤ times con ns → is_in con ns ≡ true) → (b : Bool) → 1 ≤ (if b then 1 else 0) + times con ns → (b || is_in con ns) ≡ true
    by_test f true h = refl
    by_test f false h = f (omega (arith, h))

pub times_none : (con : ℕ) (ns : List ℕ) → is_in con ns ≡ false → times con ns ≡ 0
times_none con [] h = refl
times_none con (n ∷ ns) h = by_test (times_none con ns) (n == con) h
  where
    by_test : (is_in con ns ≡ false → times con ns ≡ 0) → (b : Bool) → (b || is_in con ns) ≡ false → (if b then 1 else 0) + times con ns ≡ 0
    by_test f true h = cc
    by_test f false h = let k = f h in omega (arith, k)

-- each number stands behind none of its sort
abbrev pub NoneRepeated : List ℕ → List ℕ → Type 0
NoneRepeated earlier [] = Unit {0}
NoneRepeated earlier (n ∷ ns) = (not (is_in n earlier) ≡ true) × NoneRepeated (earlier ++ n ∷ []) ns

-- what isn't repeated stands at most once
pub at_most_once : (con : ℕ) (earlier ns : List ℕ) → times con earlier ≤ 1 → NoneRepeated earlier ns → times con (earlier ++ ns) ≤ 1
at_most_once con earlier [] l h = subst (λ n. n ≤ 1) (sym (times_append con earlier [])) (omega (arith, l))
at_most_once con earlier (n ∷ ns) l h =
    let e : times con (earlier ++ n ∷ ns) ≡ times con ((earlier ++ n ∷ []) ++ ns) =
    times_append con earlier (n ∷ ns) ∙ omega (arith, times_append con (earlier ++ n ∷ []) ns, times_append con earlier (n ∷ [])) in
    subst (λ m. m ≤ 1) (sym e) (at_most_once con (earlier ++ n ∷ []) ns (by_test (n == con) refl) h.1)
  where
    falsehood : (b : Bool) → not b ≡ true → b ≡ false
    falsehood true h = cc
    falsehood false h = refl

    by_test : (b : Bool) → (n == con) ≡ b → times con (earlier ++ n ∷ []) ≤ 1
    by_test true q =
        let s : n ≡ con = eqb-true n con q in
        let z : times con earlier ≡ 0 = subst (λ m. times m earlier ≡ 0) s (times_none n earlier (falsehood (is_in n earlier) h.0)) in
        let a = times_append con earlier (n ∷ []) in
        let o : times con (n ∷ []) ≡ 1 = ap (λ b. (if b then 1 else 0) + 0) q in
        omega (arith, a, z, o)
    by_test false q =
        let a = times_append con earlier (n ∷ []) in
        let o : times con (n ∷ []) ≡ 0 = ap (λ b. (if b then 1 else 0) + 0) q in
        omega (arith, a, l, o)

pub not_repeated : (n : ℕ) (earlier ns : List ℕ) → times n (earlier ++ n ∷ ns) ≤ 1 → not (is_in n earlier) ≡ true
not_repeated n earlier ns h = by_test (is_in n earlier) refl
  where
    by_test : (b : Bool) → is_in n earlier ≡ b → not b ≡ true
    by_test true q =
        let a = times_append n earlier (n ∷ ns) in
        let s = times_some n earlier q in
        let e : (n == n) ≡ true = grind (arith, nat_tests) in
        let o : times n (n ∷ ns) ≡ 1 + times n ns = ap (λ b. (if b then 1 else 0) + times n ns) e in
        absurd (omega (arith, a, s, o, h))
    by_test false q = refl
