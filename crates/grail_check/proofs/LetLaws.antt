-- Kinds of locals, what the check knows of each local, and tests of options.
use Rattle.std.proofs.Common.{◌≡◌, ℕ, zero, suc, ◌+◌, ◌<◌, Bool, true, false, List, [], ◌∷◌, length, map, Option, Some, None, refl, sym, ap, ◌∙◌, subst, arith}
use Rattle.std.specs.Prelude.{◌&&◌, IsSomeAnd, not, slice_get}
use Rattle.std.specs.List.{list_all, AllByRecursion, range_with_len}
use Rattle.std.specs.Option.{option_map, option_map_or}
use Rattle.std.proofs.lemmas.Option.{slice_get_within}
use Rattle.camelot_values.specs.Kinds.{DataType}
use Rattle.camelot_values.specs.Heap.{is_heap}
use Rattle.camelot_values.specs.declared.kinds.Kind.{Kind}
use Rattle.camelot_values.specs.declared.kinds.Kind.TheVariants as kind
use Rattle.grail_code.specs.Code.{Func}
use Rattle.grail_code.specs.WellFormed.{IsKnownKind, local_kinds, kind_of, HaveKinds, is_owned, is_lent, is_read}
use Rattle.grail_check.specs.declared.locals.Local.{Local}
use Rattle.grail_check.specs.declared.locals.Mark.{Mark}
use Rattle.grail_check.specs.declared.locals.Mark.TheVariants as mark
use Rattle.grail_check.specs.Faulting.{local_of, locals_from, locals_of, is_local, kind_at, is_owned_at, is_lent_at, same_kind, same_kinds, has_kind, have_kinds, mark_fault, is_known, entry_fits}
use Rattle.grail_check.proofs.Checks.{both, join, all_true, true_all, all_then, below, is_below, same, is_same}
use Rattle.grail_check.proofs.Distinct.{first_numbers, are_first_numbers}

-- ---- what is known of each local

some_local : (types : List DataType) (f : Func) (y : ℕ) (ks : List Kind) (x : ℕ)
    → slice_get (locals_from types f y ks) x ≡ option_map (λ k. local_of types k (is_read f (y + x))) (slice_get ks x)
some_local types f y [] x = refl
some_local types f y (k ∷ ks) zero = let same : y ≡ y + 0 = omega arith in ap (λ n. Some (local_of types k (is_read f n))) same
some_local types f y (k ∷ ks) (suc x) =
    let same : suc y + x ≡ y + suc x = omega arith in some_local types f (suc y) ks x ∙ ap (λ n. option_map (λ k. local_of types k (is_read f n)) (slice_get ks x)) same

pub local_is : (types : List DataType) (f : Func) (x : ℕ) → slice_get (locals_of types f) x ≡ option_map (λ k. local_of types k (is_read f x)) (kind_of f x)
local_is types f x = let same : 0 + x ≡ x = omega arith in some_local types f 0 (local_kinds f) x ∙ ap (λ n. option_map (λ k. local_of types k (is_read f n)) (kind_of f x)) same

pub kind_is : (types : List DataType) (f : Func) (x : ℕ) → kind_at (locals_of types f) x ≡ kind_of f x
kind_is types f x = ap (option_map (λ l. l.kind)) (local_is types f x) ∙ by_kind (kind_of f x)
  where
    by_kind : (o : Option Kind) → option_map (λ l. l.kind) (option_map (λ k. local_of types k (is_read f x)) o) ≡ o
    by_kind None = refl
    by_kind (Some k) = refl

pub owned_is : (types : List DataType) (f : Func) (x : ℕ) → is_owned_at (locals_of types f) x ≡ is_owned types f x
owned_is types f x = ap (λ o. option_map_or (λ l. l.owned) o false) (local_is types f x) ∙ by_kind (kind_of f x)
  where
    by_kind : (o : Option Kind) → option_map_or (λ l. l.owned) (option_map (λ k. local_of types k (is_read f x)) o) false ≡ (option_map_or (is_heap types) o false && not (is_read f x))
    by_kind None = refl
    by_kind (Some k) = refl

pub lent_is : (types : List DataType) (f : Func) (x : ℕ) → is_lent_at (locals_of types f) x ≡ is_lent types f x
lent_is types f x = ap (λ o. option_map_or (λ l. l.lent) o false) (local_is types f x) ∙ by_kind (kind_of f x)
  where
    by_kind : (o : Option Kind) → option_map_or (λ l. l.lent) (option_map (λ k. local_of types k (is_read f x)) o) false ≡ (option_map_or (is_heap types) o false && is_read f x)
    by_kind None = refl
    by_kind (Some k) = refl

pub count_from : (types : List DataType) (f : Func) (y : ℕ) (ks : List Kind) → length (locals_from types f y ks) ≡ length ks
count_from types f y [] = refl
count_from types f y (k ∷ ks) = ap suc (count_from types f (suc y) ks)

pub count_is : (types : List DataType) (f : Func) → length (locals_of types f) ≡ length (local_kinds f)
count_is types f = count_from types f 0 (local_kinds f)

pub kinds_are : (types : List DataType) (f : Func) (xs : List ℕ) → map (kind_at (locals_of types f)) xs ≡ map (kind_of f) xs
kinds_are types f [] = refl
kinds_are types f (x ∷ xs) = let e : kind_at (locals_of types f) x ≡ kind_of f x = kind_is types f x in let q : map (kind_at (locals_of types f)) xs ≡ map (kind_of f) xs = kinds_are types f xs in cc

-- ---- kinds

pub kinds_same : (j k : Kind) → same_kind j k ≡ true → j ≡ k
kinds_same kind.Int kind.Int h = refl
kinds_same kind.Int kind.Flag h = cc
kinds_same kind.Int kind.Dia h = cc
kinds_same kind.Int (kind.Of u) h = cc
kinds_same kind.Flag kind.Int h = cc
kinds_same kind.Flag kind.Flag h = refl
kinds_same kind.Flag kind.Dia h = cc
kinds_same kind.Flag (kind.Of u) h = cc
kinds_same kind.Dia kind.Int h = cc
kinds_same kind.Dia kind.Flag h = cc
kinds_same kind.Dia kind.Dia h = refl
kinds_same kind.Dia (kind.Of u) h = cc
kinds_same (kind.Of t) kind.Int h = cc
kinds_same (kind.Of t) kind.Flag h = cc
kinds_same (kind.Of t) kind.Dia h = cc
kinds_same (kind.Of t) (kind.Of u) h = ap kind.Of (same t u h)

kind_itself : (k : Kind) → same_kind k k ≡ true
kind_itself kind.Int = refl
kind_itself kind.Flag = refl
kind_itself kind.Dia = refl
kind_itself (kind.Of t) = is_same t t refl

pub same_kinds_true : (j k : Kind) → j ≡ k → same_kind j k ≡ true
same_kinds_true j k e = subst (λ l. same_kind j l ≡ true) e (kind_itself j)

-- two kinds that are there and the same
pub some_same : (o q : Option Kind) → same_kinds o q ≡ true → (k : Kind) × (o ≡ Some k) × (q ≡ Some k)
some_same None q h = cc
some_same (Some j) None h = cc
some_same (Some j) (Some k) h = (k, ap Some (kinds_same j k h), refl)

pub same_some : (o q : Option Kind) (k : Kind) → o ≡ Some k → q ≡ Some k → same_kinds o q ≡ true
same_some o q k a b = subst (λ r. same_kinds r q ≡ true) (sym a) (subst (λ r. same_kinds (Some k) r ≡ true) (sym b) (kind_itself k))

pub has_the_kind : (locals : List Local) (x : ℕ) (k : Kind) → has_kind locals x k ≡ true → kind_at locals x ≡ Some k
has_the_kind locals x k h = let (j, a, b) = some_same (kind_at locals x) (Some k) h in a ∙ sym b

pub the_kind_it_has : (locals : List Local) (x : ℕ) (k : Kind) → kind_at locals x ≡ Some k → has_kind locals x k ≡ true
the_kind_it_has locals x k h = same_some (kind_at locals x) (Some k) k h refl

some_there : (locals : List Local) (x : ℕ) (o : Option Local) (k : Kind) → slice_get locals x ≡ o → option_map (λ l. l.kind) o ≡ Some k → x < length locals
some_there locals x None k e h = cc
some_there locals x (Some l) k e h = slice_get_within locals x l e

-- a local with a kind is there
pub kind_there : (locals : List Local) (x : ℕ) (k : Kind) → kind_at locals x ≡ Some k → x < length locals
kind_there locals x k h = some_there locals x (slice_get locals x) k refl h

pub kinds_there : (locals : List Local) (xs : List ℕ) (ks : List Kind) → map (kind_at locals) xs ≡ map Some ks → list_all (is_local locals) xs ≡ true
kinds_there locals [] ks h = refl
kinds_there locals (x ∷ xs) [] h = cc
kinds_there locals (x ∷ xs) (k ∷ ks) h =
    let a : kind_at locals x ≡ Some k = cc in
    let b : map (kind_at locals) xs ≡ map Some ks = cc in
    join (is_local locals x) (list_all (is_local locals) xs) (is_below x (length locals) (kind_there locals x k a)) (kinds_there locals xs ks b)

-- ---- marks

pub mark_ready : (o : Option Mark) → mark_fault o ≡ None → o ≡ Some mark.Ready
mark_ready None h = cc
mark_ready (Some mark.Ready) h = refl
mark_ready (Some mark.Spent) h = cc
mark_ready (Some mark.Unbound) h = cc

pub ready_mark : (o : Option Mark) → o ≡ Some mark.Ready → mark_fault o ≡ None
ready_mark o e = ap mark_fault e

-- ---- tests

pub not_true : (b : Bool) → not b ≡ true → b ≡ false
not_true true h = cc
not_true false h = refl

pub true_not : (b : Bool) → b ≡ false → not b ≡ true
true_not b e = ap not e

pub some_and : {A : Type 0} (o : Option A) (P : A → Type 0) → IsSomeAnd o P → (a : A) × (o ≡ Some a) × P a
some_and None P h = absurd h
some_and (Some a) P h = (a, refl, h)

pub and_some : {A : Type 0} (o : Option A) (P : A → Type 0) (a : A) → o ≡ Some a → P a → IsSomeAnd o P
and_some o P a e h = subst (λ q. IsSomeAnd q P) (sym e) h

pub kind_of_is : (types : List DataType) (f : Func) (x : ℕ) (k : Kind) → kind_at (locals_of types f) x ≡ Some k → kind_of f x ≡ Some k
kind_of_is types f x k h = sym (kind_is types f x) ∙ h

pub kind_at_is : (types : List DataType) (f : Func) (x : ℕ) (k : Kind) → kind_of f x ≡ Some k → kind_at (locals_of types f) x ≡ Some k
kind_at_is types f x k h = kind_is types f x ∙ h

pub have_the_kinds : (types : List DataType) (f : Func) (xs : List ℕ) (ks : List Kind) → map (kind_at (locals_of types f)) xs ≡ map Some ks → HaveKinds f xs ks
have_the_kinds types f xs ks h = sym (kinds_are types f xs) ∙ h

pub the_kinds_had : (types : List DataType) (f : Func) (xs : List ℕ) (ks : List Kind) → HaveKinds f xs ks → map (kind_at (locals_of types f)) xs ≡ map Some ks
the_kinds_had types f xs ks h = kinds_are types f xs ∙ h

pub the_kinds : (locals : List Local) (xs : List ℕ) (ks : List Kind) → length xs ≡ length ks → have_kinds locals xs ks ≡ true
    → map (kind_at locals) xs ≡ map Some ks
the_kinds locals [] [] e h = refl
the_kinds locals [] (k ∷ ks) e h = absurd (omega arith)
the_kinds locals (x ∷ xs) [] e h = absurd (omega arith)
the_kinds locals (x ∷ xs) (k ∷ ks) e h =
    let parts : (has_kind locals x k ≡ true) × (have_kinds locals xs ks ≡ true) = both (has_kind locals x k) (have_kinds locals xs ks) h in
    let a : kind_at locals x ≡ Some k = has_the_kind locals x k parts.0 in
    let b : map (kind_at locals) xs ≡ map Some ks = the_kinds locals xs ks (omega arith) parts.1 in
    cc

pub kinds_had : (locals : List Local) (xs : List ℕ) (ks : List Kind) → map (kind_at locals) xs ≡ map Some ks
    → (length xs ≡ length ks) × (have_kinds locals xs ks ≡ true)
kinds_had locals [] [] h = (refl, refl)
kinds_had locals [] (k ∷ ks) h = cc
kinds_had locals (x ∷ xs) [] h = cc
kinds_had locals (x ∷ xs) (k ∷ ks) h =
    let a : kind_at locals x ≡ Some k = cc in
    let b : map (kind_at locals) xs ≡ map Some ks = cc in
    let c = kinds_had locals xs ks b in
    (ap suc c.0, join (has_kind locals x k) (have_kinds locals xs ks) (the_kind_it_has locals x k a) c.1)

-- ---- kinds whose types are there

pub known_is : (types : List DataType) (k : Kind) → is_known types k ≡ true → IsKnownKind types k
known_is types kind.Int h = tt
known_is types kind.Flag h = tt
known_is types kind.Dia h = tt
known_is types (kind.Of t) h = below t (length types) h

pub is_known_kind : (types : List DataType) (k : Kind) → IsKnownKind types k → is_known types k ≡ true
is_known_kind types kind.Int h = refl
is_known_kind types kind.Flag h = refl
is_known_kind types kind.Dia h = refl
is_known_kind types (kind.Of t) h = is_below t (length types) h

pub all_known : (types : List DataType) (ks : List Kind) → list_all (is_known types) ks ≡ true → AllByRecursion (IsKnownKind types) ks
all_known types ks h = all_then (λ k. is_known types k ≡ true) (IsKnownKind types) ks (known_is types) (all_true (is_known types) ks h)

pub known_all : (types : List DataType) (ks : List Kind) → AllByRecursion (IsKnownKind types) ks → list_all (is_known types) ks ≡ true
known_all types ks h = true_all (is_known types) ks (all_then (IsKnownKind types) (λ k. is_known types k ≡ true) ks (is_known_kind types) h)

-- ---- the first block

pub entry_is : (f : Func) (number : ℕ) (params : List ℕ) → entry_fits f number params ≡ true → number ≡ 0 → params ≡ range_with_len 0 (length f.params)
entry_is f zero params h e = first_numbers (length f.params) params h
entry_is f (suc number) params h e = absurd (omega arith)

pub is_entry : (f : Func) (number : ℕ) (params : List ℕ) → (number ≡ 0 → params ≡ range_with_len 0 (length f.params)) → entry_fits f number params ≡ true
is_entry f zero params h = are_first_numbers (length f.params) params (h refl)
is_entry f (suc number) params h = refl
