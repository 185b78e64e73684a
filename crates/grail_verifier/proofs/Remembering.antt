-- What is remembered is so, and annotations are at least themselves.
use Rattle.std.proofs.Common.{◌≡◌, ℕ, zero, suc, ◌<◌, true, List, [], ◌∷◌, ◌++◌, length, get_or, refl, sym, ap, subst, arith, Result, Ok, Err, OnOk, OnErr}
use Rattle.std.specs.Prelude.{◌==◌, ◌&&◌, ◌||◌, nat_eq, nat_lt, set, replicate}
use Rattle.std.specs.List.{AllByRecursion, list_any}
use Rattle.std.proofs.Common.{Ordering, Less, Equal, Greater, is_eq, nat_cmp}
use Rattle.std.specs.Ordering.{match_ordering, ordering_then}
use Rattle.std.specs.BTreeMap.{is_at}
use Rattle.std.specs.BTreeSet.{insert_key}
use Rattle.std.proofs.lemmas.Map.Lookups.{CmpEqualImpliesEq, exact_unsigned, exact_pairs}
use Rattle.std.proofs.lemmas.Bool.Decides.{nat_tests}
use Rattle.camelot_values.specs.Kinds.{DataType}
use Rattle.camelot_values.specs.declared.kinds.Kind.{Kind}
use Rattle.camelot_values.specs.declared.kinds.Kind.TheVariants.{Of}
use Rattle.annotations.specs.Vectors.{Vector, at, AtLeast}
use Rattle.grail_verifier.specs.Numbered.{held}
use Rattle.grail_verifier.specs.Remembered.{Passed, IsPassed, IsSound}

exact_keys : CmpEqualImpliesEq (λ (x y : Passed). ordering_then (ordering_then (nat_cmp x.0.0 y.0.0) (nat_cmp x.0.1 y.0.1)) (nat_cmp x.1 y.1))
exact_keys = exact_pairs (λ (x y : ℕ × ℕ). ordering_then (nat_cmp x.0 y.0) (nat_cmp x.1 y.1)) nat_cmp (exact_pairs nat_cmp nat_cmp exact_unsigned exact_unsigned) exact_unsigned

found_holds : {K : Type 0} (P : K → Type 0) (cmp : K → K → Ordering) → CmpEqualImpliesEq cmp → (ks : List K) (k : K) → AllByRecursion P ks
    → list_any (is_at (cmp k)) ks ≡ true → P k
found_holds P cmp exact [] k h m = absurd cc
found_holds P cmp exact (x ∷ ks) k h m = by (λ n. found_holds P cmp exact ks k h.1 n) (cmp k x) refl m
  where
    by : (list_any (is_at (cmp k)) ks ≡ true → P k) → (o : Ordering) → cmp k x ≡ o → (is_eq o || list_any (is_at (cmp k)) ks) ≡ true → P k
    by rec Less e n = rec n
    by rec Equal e n = subst P (sym (exact k x e)) h.0
    by rec Greater e n = rec n

inserted_holds : {K : Type 0} (P : K → Type 0) (cmp : K → K → Ordering) (ks : List K) (k : K) → AllByRecursion P ks → P k
    → AllByRecursion P (insert_key cmp ks k)
inserted_holds P cmp [] k h p = (p, tt)
inserted_holds P cmp (x ∷ ks) k h p = by (cmp k x) (inserted_holds P cmp ks k h.1 p)
  where
    by : (o : Ordering) → AllByRecursion P (insert_key cmp ks k) → AllByRecursion P (match_ordering o (k ∷ x ∷ ks) (x ∷ ks) (x ∷ insert_key cmp ks k))
    by Less rec = (p, h)
    by Equal rec = h
    by Greater rec = (h.0, rec)

-- what is remembered in two parts

both_hold : {K : Type 0} (P : K → Type 0) (xs ys : List K) → AllByRecursion P xs → AllByRecursion P ys → AllByRecursion P (xs ++ ys)
both_hold P [] ys h k = k
both_hold P (x ∷ xs) ys h k = (h.0, both_hold P xs ys h.1 k)

front_holds : {K : Type 0} (P : K → Type 0) (xs ys : List K) → AllByRecursion P (xs ++ ys) → AllByRecursion P xs
front_holds P [] ys h = tt
front_holds P (x ∷ xs) ys h = (h.0, front_holds P xs ys h.1)

rest_holds : {K : Type 0} (P : K → Type 0) (xs ys : List K) → AllByRecursion P (xs ++ ys) → AllByRecursion P ys
rest_holds P [] ys h = h
rest_holds P (x ∷ xs) ys h = rest_holds P xs ys h.1

same_hold : {K : Type 0} (P : K → Type 0) (n : ℕ) (x : K) → P x → AllByRecursion P (replicate n x)
same_hold P zero x h = tt
same_hold P (suc n) x h = (h, same_hold P n x h)

there_holds : {K : Type 0} (P : K → Type 0) (xs : List K) (n : ℕ) (x : K) → AllByRecursion P xs → n < length xs → x ≡ get_or xs n x → P x
there_holds P [] n x h l e = absurd (omega (arith, l))
there_holds P (y ∷ xs) zero x h l e = subst P (sym e) h.0
there_holds P (y ∷ xs) (suc n) x h l e = there_holds P xs n x h.1 (omega (arith, l)) e

set_holds : {K : Type 0} (P : K → Type 0) (xs : List K) (n : ℕ) (x : K) → AllByRecursion P xs → P x → AllByRecursion P (set xs n x)
set_holds P [] n x h p = tt
set_holds P (y ∷ xs) zero x h p = (p, h.1)
set_holds P (y ∷ xs) (suc n) x h p = (h.0, set_holds P xs n x h.1 p)

pub nothing_sound : (types : List DataType) (all : List Vector) (ks : List Passed) → ks ≡ [] → IsSound types all ks
unfolding IsSound
nothing_sound types all [] e = tt
nothing_sound types all (k ∷ ks) e = absurd cc

pub parts_sound : (types : List DataType) (all : List Vector) (last ks : List Passed) → IsSound types all last → IsSound types all ks
    → IsSound types all (last ++ ks)
unfolding IsSound
parts_sound types all last ks h k = both_hold (IsPassed types all) last ks h k

pub last_sound : (types : List DataType) (all : List Vector) (last ks : List Passed) → IsSound types all (last ++ ks) → IsSound types all last
unfolding IsSound
last_sound types all last ks h = front_holds (IsPassed types all) last ks h

pub kept_sound : (types : List DataType) (all : List Vector) (last ks : List Passed) → IsSound types all (last ++ ks) → IsSound types all ks
unfolding IsSound
kept_sound types all last ks h = rest_holds (IsPassed types all) last ks h

pub there_passed : (types : List DataType) (all : List Vector) (last : List Passed) (n : ℕ) (k : Passed) → IsSound types all last → n < length last
    → k ≡ get_or last n k → IsPassed types all k
unfolding IsSound
there_passed types all last n k h l e = there_holds (IsPassed types all) last n k h l e

pub set_sound : (types : List DataType) (all : List Vector) (last : List Passed) (n : ℕ) (k : Passed) → IsSound types all last → IsPassed types all k
    → IsSound types all (set last n k)
unfolding IsSound
set_sound types all last n k h p = set_holds (IsPassed types all) last n k h p

pub passed_before : (types : List DataType) (all : List Vector) (ks : List Passed) (k : Passed) → IsSound types all ks
    → list_any (is_at (λ (y : Passed). ordering_then (ordering_then (nat_cmp k.0.0 y.0.0) (nat_cmp k.0.1 y.0.1)) (nat_cmp k.1 y.1))) ks ≡ true
    → IsPassed types all k
unfolding IsSound
passed_before types all ks k h m = found_holds (IsPassed types all) (λ (x y : Passed). ordering_then (ordering_then (nat_cmp x.0.0 y.0.0) (nat_cmp x.0.1 y.0.1)) (nat_cmp x.1 y.1)) exact_keys ks k h m

pub sound_with : (types : List DataType) (all : List Vector) (ks : List Passed) (k : Passed) → IsSound types all ks → IsPassed types all k
    → IsSound types all (insert_key (λ (x y : Passed). ordering_then (ordering_then (nat_cmp x.0.0 y.0.0) (nat_cmp x.0.1 y.0.1)) (nat_cmp x.1 y.1)) ks k)
unfolding IsSound
sound_with types all ks k h p = inserted_holds (IsPassed types all) (λ (x y : Passed). ordering_then (ordering_then (nat_cmp x.0.0 y.0.0) (nat_cmp x.0.1 y.0.1)) (nat_cmp x.1 y.1)) ks k h p

pub sound_behind : {A E : Type 0} (r : Result A E) (types : List DataType) (all : List Vector) (self last old new : List Passed) (k : Passed)
    → OnOk r (new ≡ insert_key (λ (x y : Passed). ordering_then (ordering_then (nat_cmp x.0.0 y.0.0) (nat_cmp x.0.1 y.0.1)) (nat_cmp x.1 y.1)) old k)
    → OnErr r (new ≡ old) → self ≡ last ++ old
    → IsSound types all self → IsPassed types all k → IsSound types all (last ++ new)
sound_behind (Ok x) types all self last old new k added kept is h p =
    let s : IsSound types all (last ++ old) = subst (IsSound types all) is h in
    parts_sound types all last new (last_sound types all last old s) (subst (IsSound types all) (sym added) (sound_with types all old k (kept_sound types all last old s) p))
sound_behind (Err x) types all self last old new k added kept is h p = subst (λ l. IsSound types all (last ++ l)) (sym kept) (subst (IsSound types all) is h)

-- ---- equal numbers

pub at_least_itself : (types : List DataType) (q : Kind) (all : List Vector) (have need : ℕ) → have ≡ need
    → AtLeast types q (at (held all have)) (at (held all need))
unfolding AtLeast
at_least_itself types q all have need e con r = let same : at (held all need) con ≡ at (held all have) con = ap (λ n. at (held all n) con) (sym e) in omega (arith, same)

pub themselves_sound : (types : List DataType) (all : List Vector) (n : ℕ) → IsSound types all (replicate n ((0, 0), 0))
unfolding IsSound
themselves_sound types all n = same_hold (IsPassed types all) n ((0, 0), 0) (at_least_itself types (Of 0) all 0 0 refl)

pub this_pair : (k : Passed) (have need number : ℕ) → ((nat_eq k.0.0 have && nat_eq k.0.1 need) && nat_eq k.1 number) ≡ true → k ≡ ((have, need), number)
this_pair ((a, b), t) have need number e =
    let p : a ≡ have = grind (arith, nat_tests, e) in
    let q : b ≡ need = grind (arith, nat_tests, e) in
    let r : t ≡ number = grind (arith, nat_tests, e) in
    λ i. ((p i, q i), r i)

pub last_passed : (types : List DataType) (all : List Vector) (self last ks lent : List Passed) (n : ℕ) (k : Passed) (have need number : ℕ)
    → self ≡ last ++ ks → IsSound types all self → lent ≡ last → true ≡ nat_lt n (length lent) → k ≡ get_or lent n k
    → ((nat_eq k.0.0 have && nat_eq k.0.1 need) && nat_eq k.1 number) ≡ true → IsPassed types all ((have, need), number)
last_passed types all self last ks lent n k have need number e h same less at is =
    subst (IsPassed types all) (this_pair k have need number is) (there_passed types all lent n k (subst (IsSound types all) (sym same) (last_sound types all last ks (subst (IsSound types all) e h))) (grind (arith, nat_tests, less)) at)

pub put_sound : (types : List DataType) (all : List Vector) (self last ks : List Passed) (n : ℕ) (k : Passed) → self ≡ last ++ ks
    → IsSound types all self → IsPassed types all k → IsSound types all (set last n k ++ ks)
put_sound types all self last ks n k e h p =
    parts_sound types all (set last n k) ks (set_sound types all last n k (last_sound types all last ks (subst (IsSound types all) e h)) p) (kept_sound types all last ks (subst (IsSound types all) e h))

pub same_number : (types : List DataType) (q : Kind) (all : List Vector) (have need : ℕ) → (have == need) ≡ true
    → AtLeast types q (at (held all have)) (at (held all need))
same_number types q all have need e = at_least_itself types q all have need (grind (arith, nat_tests, e))
