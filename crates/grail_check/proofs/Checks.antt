-- Checks in a row, and tests of numbers, lists and names.
use Rattle.std.proofs.Common.{◌≡◌, ℕ, ◌<◌, Bool, true, false, List, [], ◌∷◌, ◌++◌, map, Option, Some, None, refl, arith}
use Rattle.std.specs.Prelude.{◌&&◌, ◌==◌, nat_lt}
use Rattle.std.specs.List.{list_all, AllByRecursion}
use Rattle.std.specs.Option.{option_or}
use Rattle.std.proofs.lemmas.Bool.{eqb-true, ltb-true, lt-ltb}
use Rattle.std.proofs.lemmas.Bool.Decides.{nat_tests}
use Rattle.grail_check.specs.declared.fault.CodeKind.{CodeKind}
use Rattle.grail_check.specs.Faulting.{unless, first_of, at_place}

-- ---- checks in a row

pub or_first : {A : Type 0} (a b : Option A) → option_or a b ≡ None → a ≡ None
or_first None b h = refl
or_first (Some x) b h = h

pub or_second : {A : Type 0} (a b : Option A) → option_or a b ≡ None → b ≡ None
or_second None b h = h
or_second (Some x) b h = cc

pub or_none : {A : Type 0} (a b : Option A) → a ≡ None → b ≡ None → option_or a b ≡ None
or_none None b h k = k
or_none (Some x) b h k = h

-- all checks pass
abbrev pub NoneFails : {A : Type 0} → List (Option A) → Type 0
NoneFails checks = AllByRecursion (λ c. c ≡ None) checks

pub none_fails : {A : Type 0} (checks : List (Option A)) → first_of checks ≡ None → NoneFails checks
none_fails [] h = tt
none_fails (c ∷ cs) h = (or_first c (first_of cs) h, none_fails cs (or_second c (first_of cs) h))

pub all_pass : {A : Type 0} (checks : List (Option A)) → NoneFails checks → first_of checks ≡ None
all_pass [] h = refl
all_pass (c ∷ cs) h = or_none c (first_of cs) h.0 (all_pass cs h.1)

pub unless_true : (b : Bool) (k : CodeKind) → unless b k ≡ None → b ≡ true
unless_true true k h = refl
unless_true false k h = cc

pub true_unless : (b : Bool) (k : CodeKind) → b ≡ true → unless b k ≡ None
true_unless true k h = refl
true_unless false k h = cc

pub nothing_there : (func block place : ℕ) (o : Option CodeKind) → at_place func block place o ≡ None → o ≡ None
nothing_there func block place None h = refl
nothing_there func block place (Some k) h = cc

pub nowhere : (func block place : ℕ) (o : Option CodeKind) → o ≡ None → at_place func block place o ≡ None
nowhere func block place None h = refl
nowhere func block place (Some k) h = cc

-- ---- tests

pub both : (a b : Bool) → (a && b) ≡ true → (a ≡ true) × (b ≡ true)
both true b h = (refl, h)
both false b h = cc

pub join : (a b : Bool) → a ≡ true → b ≡ true → (a && b) ≡ true
join true b h k = k
join false b h k = h

pub all_true : {A : Type 0} (p : A → Bool) (xs : List A) → list_all p xs ≡ true → AllByRecursion (λ x. p x ≡ true) xs
all_true p [] h = tt
all_true p (x ∷ xs) h = let parts : (p x ≡ true) × (list_all p xs ≡ true) = both (p x) (list_all p xs) h in (parts.0, all_true p xs parts.1)

pub true_all : {A : Type 0} (p : A → Bool) (xs : List A) → AllByRecursion (λ x. p x ≡ true) xs → list_all p xs ≡ true
true_all p [] h = refl
true_all p (x ∷ xs) h = join (p x) (list_all p xs) h.0 (true_all p xs h.1)

-- what holds of each, by what each gives
pub all_then : {A : Type 0} (P Q : A → Type 0) (xs : List A) → ((x : A) → P x → Q x) → AllByRecursion P xs → AllByRecursion Q xs
all_then P Q [] f h = tt
all_then P Q (x ∷ xs) f h = (f x h.0, all_then P Q xs f h.1)

pub all_map : {A B : Type 0} (P : B → Type 0) (f : A → B) (xs : List A) → AllByRecursion (λ x. P (f x)) xs → AllByRecursion P (map f xs)
all_map P f [] h = tt
all_map P f (x ∷ xs) h = (h.0, all_map P f xs h.1)

pub map_all : {A B : Type 0} (P : B → Type 0) (f : A → B) (xs : List A) → AllByRecursion P (map f xs) → AllByRecursion (λ x. P (f x)) xs
map_all P f [] h = tt
map_all P f (x ∷ xs) h = (h.0, map_all P f xs h.1)

pub all_both : {A : Type 0} (P : A → Type 0) (xs ys : List A) → AllByRecursion P xs → AllByRecursion P ys → AllByRecursion P (xs ++ ys)
all_both P [] ys h k = k
all_both P (x ∷ xs) ys h k = (h.0, all_both P xs ys h.1 k)

pub all_front : {A : Type 0} (P : A → Type 0) (xs ys : List A) → AllByRecursion P (xs ++ ys) → AllByRecursion P xs
all_front P [] ys h = tt
all_front P (x ∷ xs) ys h = (h.0, all_front P xs ys h.1)

pub all_back : {A : Type 0} (P : A → Type 0) (xs ys : List A) → AllByRecursion P (xs ++ ys) → AllByRecursion P ys
all_back P [] ys h = h
all_back P (x ∷ xs) ys h = all_back P xs ys h.1

pub below : (x n : ℕ) → nat_lt x n ≡ true → x < n
below x n h = ltb-true x n h

pub is_below : (x n : ℕ) → x < n → nat_lt x n ≡ true
is_below x n h = lt-ltb x n h

pub same : (x y : ℕ) → (x == y) ≡ true → x ≡ y
same x y h = eqb-true x y h

pub is_same : (x y : ℕ) → x ≡ y → (x == y) ≡ true
is_same x y h = grind (arith, nat_tests)
