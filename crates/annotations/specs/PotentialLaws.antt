-- Laws, for the proofs of this crate and of those above it.
-- Potential: by constructors, of a constructor, of arguments, of kinds that reach nothing, from larger annotations, and
-- its bound.
use Rattle.std.proofs.Common.{◌≡◌, ◌⊎◌, ℤ, ℕ, zero, suc, ◌+◌, ◌*◌, ◌-◌, ◌<◌, ◌≤◌, Bool, true, false, List, [], ◌∷◌, ◌++◌, length, length-append, map, Option, Some, None, refl, sym, ap, ◌∙◌, subst, inl, inr, arith}
use Rattle.std.specs.Prelude.{slice_get, cond, not, flat_map, nat_lt, if◌then◌else◌, ◌==◌, ◌||◌, IsSomeAnd}
use Rattle.std.specs.List.{AllByRecursion, list_any, filter, range_with_len, sum_by}
use Rattle.std.proofs.lemmas.List.Sums.{sum_by-cons}
use Rattle.std.specs.Option.{option_map, option_map_or}
use Rattle.std.proofs.lemmas.Bool.Decides.{nat_tests}
use Rattle.std.proofs.lemmas.Bool.{cases_lt}
use Rattle.camelot_values.specs.Value as value
use Rattle.camelot_values.specs.Value.{Value, Values, parts}
use Rattle.camelot_values.specs.Kinds.{DataType, Constructor, IsConstructor, IsDataType, AreTypes, constructors, constructor, type_from, type_of}
use Rattle.camelot_values.specs.KindLaws.{Located, located}
use Rattle.camelot_values.specs.Heap.{has_boxed, is_heap_type, is_heap, is_of, fields_of, fields_at, Reaches, ReachesFrom}
use Rattle.camelot_values.specs.Counts.{one_where, count_all, size, size_all}
use Rattle.camelot_values.specs.Typing.{Fits, FitAll}
use Rattle.camelot_values.specs.declared.kinds.Kind.{Kind}
use Rattle.camelot_values.specs.declared.kinds.Kind.TheVariants as kind
use Rattle.annotations.specs.Vectors.{Vector, at, AtLeast, EachAtLeast, IsFirstBelow, is_heap_con, node_units, potential, potential_all, potentials, heap_cons, sum_over}

-- ---- comparing

-- Annotations aren't both at least as many and fewer somewhere.
pub not_both : (types : List DataType) (q : Kind) (left right : ℕ → ℕ) (con : ℕ) → AtLeast types q left right → IsFirstBelow types q left right con → ⊥
unfolding AtLeast
not_both types q left right con h k = omega (arith, k.below, h con k.reached)

-- There is one first constructor that has fewer.
pub one_first : (types : List DataType) (q : Kind) (left right : ℕ → ℕ) (a b : ℕ) → IsFirstBelow types q left right a
    → IsFirstBelow types q left right b → a ≡ b
one_first types q left right a b h k = by_order (cases_lt a b) (cases_lt b a)
  where
    by_order : (a < b) ⊎ (b ≤ a) → (b < a) ⊎ (a ≤ b) → a ≡ b
    by_order (inl x) y = absurd (omega (arith, h.below, k.before a x h.reached))
    by_order (inr x) (inl y) = absurd (omega (arith, k.below, h.before b y k.reached))
    by_order (inr x) (inr y) = omega (arith, x, y)

pub at_least_itself : (types : List DataType) (q : Kind) (units : ℕ → ℕ) → AtLeast types q units units
unfolding AtLeast
at_least_itself types q units = λ con r. omega arith

pub at_least_on : (types : List DataType) (q : Kind) (a b c : ℕ → ℕ) → AtLeast types q a b → AtLeast types q b c → AtLeast types q a c
unfolding AtLeast
at_least_on types q a b c h k = λ con r. omega (arith, h con r, k con r)

-- ---- of a constructor

-- What a constructor carries is what its node carries and what its parts do.
pub potential_of_con : (types : List DataType) (units : ℕ → ℕ) (c : ℕ) (vs : Values)
    → potential types units (value.Con c vs) ≡ node_units types units c + potential_all types units vs
potential_of_con types units c vs = refl

-- the parts, as a list
pub potential_of_parts : (types : List DataType) (units : ℕ → ℕ) (vs : List Value) → potential_all types units (parts vs) ≡ sum_by (potential types units) vs
potential_of_parts types units [] = refl
potential_of_parts types units (v ∷ vs) = ap (λ n. potential types units v + n) (potential_of_parts types units vs) ∙ sym (sum_by-cons (potential types units) v vs)

-- The node of a heap type carries its units, and that of another type nothing.
pub node_of_heap : (types : List DataType) (units : ℕ → ℕ) (c t : ℕ) → type_of types c ≡ Some t → is_heap_type types t ≡ true
    → node_units types units c ≡ units c
node_of_heap types units c t h k = ap (λ o. cond (option_map_or (is_heap_type types) o false) (units c) 0) h ∙ ap (λ b. cond b (units c) 0) k

pub node_of_other : (types : List DataType) (units : ℕ → ℕ) (c t : ℕ) → type_of types c ≡ Some t → is_heap_type types t ≡ false → node_units types units c ≡ 0
node_of_other types units c t h k = ap (λ o. cond (option_map_or (is_heap_type types) o false) (units c) 0) h ∙ ap (λ b. cond b (units c) 0) k

-- ---- of arguments

-- one after the other, each with its units
pub potentials_append : (types : List DataType) (us ws : List (ℕ → ℕ)) (xs ys : List Value) → length us ≡ length xs
    → potentials types (us ++ ws) (xs ++ ys) ≡ potentials types us xs + potentials types ws ys
potentials_append types [] ws [] ys h = omega arith
potentials_append types [] ws (x ∷ xs) ys h = absurd (omega (arith, h))
potentials_append types (u ∷ us) ws [] ys h = absurd (omega (arith, h))
potentials_append types (u ∷ us) ws (x ∷ xs) ys h = omega (arith, potentials_append types us ws xs ys (omega (arith, h)))

-- all with the same units: as the parts of a constructor
pub potentials_same : (types : List DataType) (units : ℕ → ℕ) (vs : List Value)
    → potentials types (map (λ v. units) vs) vs ≡ potential_all types units (parts vs)
potentials_same types units [] = refl
potentials_same types units (v ∷ vs) = ap (λ n. potential types units v + n) (potentials_same types units vs)

-- ---- a bound

-- No constructor has more units than the pairs.
pub at_within : (vector : Vector) (m : ℕ) → AllByRecursion (λ p. p.1 ≤ m) vector → (con : ℕ) → at vector con ≤ m
at_within [] m h con = omega arith
at_within (p ∷ ps) m h con = by_test (p.0 == con) (at_within ps m h.1 con)
  where
    by_test : (b : Bool) → at ps con ≤ m → (if b then p.1 else at ps con) ≤ m
    by_test true f = h.0
    by_test false f = f

one_node : (m : ℕ) (b : Bool) (n : ℕ) → n ≤ m → cond b n 0 ≤ m
one_node m true n h = h
one_node m false n h = omega arith

mutual
  pub potential_within : (types : List DataType) (units : ℕ → ℕ) (m : ℕ) → ((c : ℕ) → units c ≤ m) → (v : Value) → potential types units v ≤ m * size v
  potential_within types units m h (value.Int z) = omega arith
  potential_within types units m h (value.Flag b) = omega arith
  potential_within types units m h value.Dia = omega arith
  potential_within types units m h (value.Con c vs) = grind (arith, one_node m (is_heap_con types c) (units c) (h c), potential_all_within types units m h vs)

  pub potential_all_within : (types : List DataType) (units : ℕ → ℕ) (m : ℕ) → ((c : ℕ) → units c ≤ m) → (vs : Values)
      → potential_all types units vs ≤ m * size_all vs
  potential_all_within types units m h value.End = omega arith
  potential_all_within types units m h (value.And v vs) = grind (arith, potential_within types units m h v, potential_all_within types units m h vs)

pub potentials_within : (types : List DataType) (us : List (ℕ → ℕ)) (m : ℕ) → AllByRecursion (λ units. (c : ℕ) → units c ≤ m) us → (vs : List Value)
    → potentials types us vs ≤ m * size_all (parts vs)
potentials_within types [] m h vs = omega arith
potentials_within types (u ∷ us) m h [] = omega arith
potentials_within types (u ∷ us) m h (v ∷ vs) = grind (arith, potential_within types u m h.0 v, potentials_within types us m h.1 vs)

-- ---- by constructors

-- a constructor that belongs to a type is there
owned_there : (first : ℕ) (types : List DataType) (c t : ℕ) → type_from first types c ≡ Some t → c < length (constructors types)
owned_there first [] c t h = let e : None ≡ Some t = h in absurd cc
owned_there first (d ∷ ds) c t h = by_test (λ q. owned_there (suc first) ds (c - length d.cons) t q) (nat_lt c (length d.cons)) refl h
  where
    by_test : (type_from (suc first) ds (c - length d.cons) ≡ Some t → c - length d.cons < length (constructors ds)) → (b : Bool)
        → nat_lt c (length d.cons) ≡ b → (if b then Some first else type_from (suc first) ds (c - length d.cons)) ≡ Some t
        → c < length (d.cons ++ constructors ds)
    by_test f true e q = let k : c < length d.cons = grind (arith, nat_tests, e) in omega (arith, k, length-append d.cons (constructors ds))
    by_test f false e q = let k : length d.cons ≤ c = grind (arith, nat_tests, e) in omega (arith, k, f q, length-append d.cons (constructors ds))

-- one that isn't there carries nothing
nothing_there : (types : List DataType) (units : ℕ → ℕ) (c : ℕ) → length (constructors types) ≤ c → node_units types units c ≡ 0
nothing_there types units c h = by_type (type_of types c) refl
  where
    by_type : (o : Option ℕ) → type_of types c ≡ o → cond (option_map_or (is_heap_type types) o false) (units c) 0 ≡ 0
    by_type None e = refl
    by_type (Some t) e = absurd (omega (arith, h, owned_there 0 types c t e))

-- one node, by constructors
abbrev node_over : List ℕ → (ℕ → ℕ) → ℕ → ℕ
node_over [] units c = 0
node_over (d ∷ ds) units c = units d * one_where (c == d) + node_over ds units c

node_below : (p : ℕ → Bool) (units : ℕ → ℕ) (a n c : ℕ) → c < a → node_over (filter p (range_with_len a n)) units c ≡ 0
node_below p units a zero c h = refl
node_below p units a (suc n) c h = by_test (p a) (node_below p units (a + 1) n c (omega (arith, h)))
  where
    other : (c == a) ≡ false
    other = grind (arith, nat_tests, h)

    by_test : (b : Bool) → node_over (filter p (range_with_len (a + 1) n)) units c ≡ 0
        → node_over (cond b (a ∷ filter p (range_with_len (a + 1) n)) (filter p (range_with_len (a + 1) n))) units c ≡ 0
    by_test true f = ap (λ x. units a * one_where x + node_over (filter p (range_with_len (a + 1) n)) units c) other ∙ grind (arith, f)
    by_test false f = f

node_within : (p : ℕ → Bool) (units : ℕ → ℕ) (a n c : ℕ) → a ≤ c → c < a + n → node_over (filter p (range_with_len a n)) units c ≡ cond (p c) (units c) 0
node_within p units a zero c h k = absurd (omega (arith, h, k))
node_within p units a (suc n) c h k = by_order (λ g l. node_within p units (a + 1) n c g l) (cases_lt a c)
  where
    rest : ℕ
    rest = node_over (filter p (range_with_len (a + 1) n)) units c

    behind : (b : Bool) → (c == a) ≡ false → node_over (filter p (range_with_len (a + 1) n)) units c ≡ cond (p c) (units c) 0
        → node_over (cond b (a ∷ filter p (range_with_len (a + 1) n)) (filter p (range_with_len (a + 1) n))) units c ≡ cond (p c) (units c) 0
    behind true e f = ap (λ x. units a * one_where x + node_over (filter p (range_with_len (a + 1) n)) units c) e ∙ grind (arith, f)
    behind false e f = f

    here : (b : Bool) → node_over (filter p (range_with_len (a + 1) n)) units a ≡ 0
        → node_over (cond b (a ∷ filter p (range_with_len (a + 1) n)) (filter p (range_with_len (a + 1) n))) units a ≡ cond b (units a) 0
    here true f = let e : (a == a) ≡ true = grind (arith, nat_tests) in ap (λ x. units a * one_where x + node_over (filter p (range_with_len (a + 1) n)) units a) e ∙ grind (arith, f)
    here false f = f

    by_order : (a + 1 ≤ c → c < a + 1 + n → node_over (filter p (range_with_len (a + 1) n)) units c ≡ cond (p c) (units c) 0) → (a < c) ⊎ (c ≤ a)
        → node_over (filter p (range_with_len a (suc n))) units c ≡ cond (p c) (units c) 0
    by_order f (inl less) = behind (p a) (grind (arith, nat_tests, less)) (f (omega (arith, less)) (omega (arith, k)))
    by_order f (inr more) = let q : a ≡ c = omega (arith, h, more) in subst (λ x. node_over (filter p (range_with_len a (suc n))) units x ≡ cond (p x) (units x) 0) q (here (p a) (node_below p units (a + 1) n a (omega arith)))

node_beyond : (p : ℕ → Bool) (units : ℕ → ℕ) (a n c : ℕ) → a + n ≤ c → node_over (filter p (range_with_len a n)) units c ≡ 0
node_beyond p units a zero c h = refl
node_beyond p units a (suc n) c h = by_test (p a) (node_beyond p units (a + 1) n c (omega (arith, h)))
  where
    other : (c == a) ≡ false
    other = grind (arith, nat_tests, h)

    by_test : (b : Bool) → node_over (filter p (range_with_len (a + 1) n)) units c ≡ 0
        → node_over (cond b (a ∷ filter p (range_with_len (a + 1) n)) (filter p (range_with_len (a + 1) n))) units c ≡ 0
    by_test true f = ap (λ x. units a * one_where x + node_over (filter p (range_with_len (a + 1) n)) units c) other ∙ grind (arith, f)
    by_test false f = f

node_is : (types : List DataType) (units : ℕ → ℕ) (c : ℕ) → node_over (heap_cons types) units c ≡ node_units types units c
node_is types units c = by_order (cases_lt c (length (constructors types)))
  where
    by_order : (c < length (constructors types)) ⊎ (length (constructors types) ≤ c) → node_over (heap_cons types) units c ≡ node_units types units c
    by_order (inl less) = node_within (is_heap_con types) units 0 (length (constructors types)) c (omega arith) (omega (arith, less))
    by_order (inr more) = node_beyond (is_heap_con types) units 0 (length (constructors types)) c (omega (arith, more)) ∙ sym (nothing_there types units c more)

-- the sum over constructors, of parts
abbrev all_over : List ℕ → (ℕ → ℕ) → Values → ℕ
all_over [] units vs = 0
all_over (d ∷ ds) units vs = units d * count_all d vs + all_over ds units vs

over_nothing : (ds : List ℕ) (units : ℕ → ℕ) → all_over ds units value.End ≡ 0
over_nothing [] units = refl
over_nothing (d ∷ ds) units = grind (arith, over_nothing ds units)

over_parts : (ds : List ℕ) (units : ℕ → ℕ) (v : Value) (vs : Values) → all_over ds units (value.And v vs) ≡ sum_over ds units v + all_over ds units vs
over_parts [] units v vs = refl
over_parts (d ∷ ds) units v vs = grind (arith, over_parts ds units v vs)

over_con : (ds : List ℕ) (units : ℕ → ℕ) (c : ℕ) (vs : Values) → sum_over ds units (value.Con c vs) ≡ node_over ds units c + all_over ds units vs
over_con [] units c vs = refl
over_con (d ∷ ds) units c vs = grind (arith, over_con ds units c vs)

over_int : (ds : List ℕ) (units : ℕ → ℕ) (z : ℤ) → sum_over ds units (value.Int z) ≡ 0
over_int [] units z = refl
over_int (d ∷ ds) units z = grind (arith, over_int ds units z)

over_flag : (ds : List ℕ) (units : ℕ → ℕ) (b : Bool) → sum_over ds units (value.Flag b) ≡ 0
over_flag [] units b = refl
over_flag (d ∷ ds) units b = grind (arith, over_flag ds units b)

over_dia : (ds : List ℕ) (units : ℕ → ℕ) → sum_over ds units value.Dia ≡ 0
over_dia [] units = refl
over_dia (d ∷ ds) units = grind (arith, over_dia ds units)

mutual
  -- Potential is the sum, over the constructors of heap types, of the units times the number of nodes.
  pub by_constructors : (types : List DataType) (units : ℕ → ℕ) (v : Value) → potential types units v ≡ sum_over (heap_cons types) units v
  by_constructors types units (value.Int z) = sym (over_int (heap_cons types) units z)
  by_constructors types units (value.Flag b) = sym (over_flag (heap_cons types) units b)
  by_constructors types units value.Dia = sym (over_dia (heap_cons types) units)
  by_constructors types units (value.Con c vs) = omega (arith, node_is types units c, over_con (heap_cons types) units c vs, all_by_constructors types units vs)

  all_by_constructors : (types : List DataType) (units : ℕ → ℕ) (vs : Values) → potential_all types units vs ≡ all_over (heap_cons types) units vs
  all_by_constructors types units value.End = sym (over_nothing (heap_cons types) units)
  all_by_constructors types units (value.And v vs) = omega (arith, over_parts (heap_cons types) units v vs, by_constructors types units v, all_by_constructors types units vs)

-- ---- a value of a kind

-- the list has this number
any_here : {A : Type 0} (p : A → Bool) (xs : List A) (i : ℕ) (x : A) → slice_get xs i ≡ Some x → p x ≡ true → list_any p xs ≡ true
any_here p [] i x h k = let e : None ≡ Some x = h in absurd cc
any_here p (y ∷ ys) zero x h k = ap (λ b. b || list_any p ys) (let e : y ≡ x = cc in ap p e ∙ k)
any_here p (y ∷ ys) (suc i) x h k = or_last (p y) (list_any p ys) (any_here p ys i x h k)
  where
    or_last : (a b : Bool) → b ≡ true → (a || b) ≡ true
    or_last true b e = refl
    or_last false b e = e

any_front : {A : Type 0} (p : A → Bool) (xs ys : List A) → list_any p xs ≡ true → list_any p (xs ++ ys) ≡ true
any_front p [] ys h = absurd cc
any_front p (x ∷ xs) ys h = by_test (p x) (any_front p xs ys) h
  where
    by_test : (b : Bool) → (list_any p xs ≡ true → list_any p (xs ++ ys) ≡ true) → (b || list_any p xs) ≡ true → (b || list_any p (xs ++ ys)) ≡ true
    by_test true f e = refl
    by_test false f e = f e

any_behind : {A : Type 0} (p : A → Bool) (xs ys : List A) → list_any p ys ≡ true → list_any p (xs ++ ys) ≡ true
any_behind p [] ys h = h
any_behind p (x ∷ xs) ys h = by_test (p x) (any_behind p xs ys h)
  where
    by_test : (b : Bool) → list_any p (xs ++ ys) ≡ true → (b || list_any p (xs ++ ys)) ≡ true
    by_test true e = refl
    by_test false e = e

any_flat : {A B : Type 0} (p : B → Bool) (f : A → List B) (xs : List A) (i : ℕ) (x : A) → slice_get xs i ≡ Some x → list_any p (f x) ≡ true
    → list_any p (flat_map f xs) ≡ true
any_flat p f [] i x h k = let e : None ≡ Some x = h in absurd cc
any_flat p f (y ∷ ys) zero x h k = let e : y ≡ x = cc in any_front p (f y) (flat_map f ys) (ap (λ z. list_any p (f z)) e ∙ k)
any_flat p f (y ∷ ys) (suc i) x h k = any_behind p (f y) (flat_map f ys) (any_flat p f ys i x h k)

all_at : {A : Type 0} (P : A → Type 0) (xs : List A) (i : ℕ) (x : A) → AllByRecursion P xs → slice_get xs i ≡ Some x → P x
all_at P [] i x h k = let e : None ≡ Some x = k in absurd cc
all_at P (y ∷ ys) zero x h k = let e : y ≡ x = cc in subst P e h.0
all_at P (y ∷ ys) (suc i) x h k = all_at P ys i x h.1 k

all_of : {A : Type 0} (P : A → Type 0) (xs : List A) → ((i : ℕ) (x : A) → slice_get xs i ≡ Some x → P x) → AllByRecursion P xs
all_of P [] h = tt
all_of P (x ∷ xs) h = (h 0 x refl, all_of P xs (λ i y k. h (suc i) y k))

-- what a fitting constructor is
record Built (types : List DataType) (q : Kind) (c : ℕ) (vs : Values) : Type 0 where
  t : ℕ
  con : Constructor
  kind_is : q ≡ kind.Of t
  owned : type_of types c ≡ Some t
  con_is : constructor types c ≡ Some con
  parts_fit : FitAll types con.fields vs

built : (types : List DataType) (q : Kind) (c : ℕ) (vs : Values) → Fits types q (value.Con c vs) → Built types q c vs
built types q c vs h = by_both (type_of types c) refl (constructor types c) refl h.0 h.1
  where
    by_both : (o : Option ℕ) → type_of types c ≡ o → (p : Option Constructor) → constructor types c ≡ p → option_map kind.Of o ≡ Some q
        → IsSomeAnd p (λ con. FitAll types con.fields vs) → Built types q c vs
    by_both None e p d k f = let x : None ≡ Some q = k in absurd cc
    by_both (Some t) e None d k f = absurd f
    by_both (Some t) e (Some con) d k f = record { t = t; con = con; kind_is = (let x : Some (kind.Of t) ≡ Some q = k in cc); owned = e; con_is = d; parts_fit = f }

-- the type of a fitting constructor
type_there : (types : List DataType) (q : Kind) (c : ℕ) (vs : Values) (b : Built types q c vs) → Located types 0 c b.t b.con
type_there types q c vs b = located 0 types c b.t b.con b.con_is b.owned

-- What a field reaches, the whole does.
pub field_reaches : (types : List DataType) (c t : ℕ) (con : Constructor) → Located types 0 c t con → (i : ℕ) (q : Kind)
    → slice_get con.fields i ≡ Some q → (k : ℕ) → Reaches types q k → ReachesFrom types t k
field_reaches types c t con l i kind.Int h k r = absurd r
field_reaches types c t con l i kind.Flag h k r = absurd r
field_reaches types c t con l i kind.Dia h k r = absurd r
field_reaches types c t con l i (kind.Of u) h k r = record { last = r.last; leads = (u ∷ r.leads.0, (holds, r.leads.1)); heap = r.heap; owned = r.owned }
  where
    own : (u == u) ≡ true
    own = grind (arith, nat_tests)

    here : t ≡ l.index
    here = omega (arith, l.number)

    def_is : slice_get types t ≡ Some l.def
    def_is = ap (slice_get types) here ∙ l.is

    holds : list_any (is_of u) (fields_at types t) ≡ true
    holds = ap (λ o. list_any (is_of u) (option_map_or fields_of o [])) def_is ∙ any_flat (is_of u) (λ x. x.fields) l.def.cons l.place con l.con_is (any_here (is_of u) con.fields i (kind.Of u) h own)

-- ---- larger annotations

-- So the fields have at least as much where the whole has.
pub fields_at_least : (types : List DataType) (left right : ℕ → ℕ) (c t : ℕ) (con : Constructor) → Located types 0 c t con
    → AtLeast types (kind.Of t) left right → AllByRecursion (λ q. AtLeast types q left right) con.fields
unfolding AtLeast
fields_at_least types left right c t con l h = all_of (λ q. AtLeast types q left right) con.fields (λ i q e. λ k r. h k (field_reaches types c t con l i q e k r))

node_at_least : (types : List DataType) (left right : ℕ → ℕ) (c t : ℕ) → type_of types c ≡ Some t → AtLeast types (kind.Of t) left right
    → node_units types right c ≤ node_units types left c
unfolding AtLeast
node_at_least types left right c t e h = by_heap (is_heap_type types t) refl
  where
    by_heap : (b : Bool) → is_heap_type types t ≡ b → node_units types right c ≤ node_units types left c
    by_heap true k = omega (arith, node_of_heap types right c t e k, node_of_heap types left c t e k, h c (record { last = t; leads = ([], refl); heap = k; owned = e }))
    by_heap false k = omega (arith, node_of_other types right c t e k, node_of_other types left c t e k)

mutual
  -- Where each constructor that the kind reaches has at least as many units, a value of the kind carries at least as
  -- many.
  pub potential_at_least : (types : List DataType) (q : Kind) (left right : ℕ → ℕ) → AtLeast types q left right → (v : Value) → Fits types q v
      → potential types right v ≤ potential types left v
  potential_at_least types q left right h (value.Int z) f = omega arith
  potential_at_least types q left right h (value.Flag b) f = omega arith
  potential_at_least types q left right h value.Dia f = omega arith
  potential_at_least types q left right h (value.Con c vs) f =
      let b = built types q c vs f in
      let g : AtLeast types (kind.Of b.t) left right = subst (λ x. AtLeast types x left right) b.kind_is h in
      omega (
        arith,
        node_at_least types left right c b.t b.owned g,
        all_at_least types b.con.fields left right (fields_at_least types left right c b.t b.con (type_there types q c vs b) g) vs b.parts_fit,
      )

  pub all_at_least : (types : List DataType) (qs : List Kind) (left right : ℕ → ℕ) → AllByRecursion (λ q. AtLeast types q left right) qs
      → (vs : Values) → FitAll types qs vs → potential_all types right vs ≤ potential_all types left vs
  all_at_least types [] left right h value.End f = omega arith
  all_at_least types [] left right h (value.And v vs) f = absurd f
  all_at_least types (q ∷ qs) left right h value.End f = absurd f
  all_at_least types (q ∷ qs) left right h (value.And v vs) f = omega (arith, potential_at_least types q left right h.0 v f.0, all_at_least types qs left right h.1 vs f.1)

-- Only the constructors that the kind reaches count.
pub potential_by_reached : (types : List DataType) (q : Kind) (left right : ℕ → ℕ) → ((c : ℕ) → Reaches types q c → left c ≡ right c) → (v : Value)
    → Fits types q v → potential types left v ≡ potential types right v
unfolding AtLeast
potential_by_reached types q left right h v f =
    let a = potential_at_least types q left right (λ c r. omega (arith, h c r)) v f in
    let b = potential_at_least types q right left (λ c r. omega (arith, h c r)) v f in
    omega (arith, a, b)

-- The same of arguments, each with units of its own.
pub potentials_at_least : (types : List DataType) (qs : List Kind) (lefts rights : List (ℕ → ℕ)) → EachAtLeast types qs lefts rights
    → (vs : List Value) → FitAll types qs (parts vs) → potentials types rights vs ≤ potentials types lefts vs
potentials_at_least types [] [] [] h [] f = omega arith
potentials_at_least types [] [] [] h (v ∷ vs) f = absurd f
potentials_at_least types [] [] (right ∷ rights) h vs f = absurd h
potentials_at_least types [] (left ∷ lefts) rights h vs f = absurd h
potentials_at_least types (q ∷ qs) [] rights h vs f = absurd h
potentials_at_least types (q ∷ qs) (left ∷ lefts) [] h vs f = absurd h
potentials_at_least types (q ∷ qs) (left ∷ lefts) (right ∷ rights) h [] f = absurd f
potentials_at_least types (q ∷ qs) (left ∷ lefts) (right ∷ rights) h (v ∷ vs) f = omega (arith, potential_at_least types q left right h.0 v f.0, potentials_at_least types qs lefts rights h.1 vs f.1)

-- ---- kinds that carry nothing

-- a constructor of a type that needs no cell has no fields
bare : (types : List DataType) (c t : ℕ) (con : Constructor) → AreTypes types → is_heap_type types t ≡ false → Located types 0 c t con → con.fields ≡ []
bare types c t con w h l = is_con.inline_is_bare (is_inline con.inline refl)
  where
    here : t ≡ l.index
    here = omega (arith, l.number)

    none_boxed : has_boxed l.def ≡ false
    none_boxed = sym (ap (λ o. option_map_or has_boxed o false) (ap (slice_get types) here ∙ l.is)) ∙ h

    is_con : IsConstructor con
    is_con = let d = all_at IsDataType types l.index l.def w.each l.is in all_at IsConstructor l.def.cons l.place con d.each l.con_is

    is_inline : (b : Bool) → con.inline ≡ b → con.inline ≡ true
    is_inline true e = e
    is_inline false e = let x : has_boxed l.def ≡ true = any_here (λ y. not y.inline) l.def.cons l.place con l.con_is (ap not e) in let y : true ≡ false = sym x ∙ none_boxed in absurd cc

no_parts : (types : List DataType) (units : ℕ → ℕ) (qs : List Kind) (vs : Values) → qs ≡ [] → FitAll types qs vs → potential_all types units vs ≡ 0
no_parts types units [] value.End e f = refl
no_parts types units [] (value.And v vs) e f = absurd f
no_parts types units (q ∷ qs) vs e f = absurd cc

-- A value of a kind that isn't a heap kind carries nothing.
pub nothing_of_heap_free : (types : List DataType) → AreTypes types → (units : ℕ → ℕ) (q : Kind) → is_heap types q ≡ false → (v : Value)
    → Fits types q v → potential types units v ≡ 0
nothing_of_heap_free types w units q h (value.Int z) f = refl
nothing_of_heap_free types w units q h (value.Flag b) f = refl
nothing_of_heap_free types w units q h value.Dia f = refl
nothing_of_heap_free types w units q h (value.Con c vs) f =
    let b = built types q c vs f in
    let e : is_heap_type types b.t ≡ false = sym (ap (is_heap types) b.kind_is) ∙ h in
    omega (arith, node_of_other types units c b.t b.owned e, no_parts types units b.con.fields vs (bare types c b.t b.con w e (type_there types q c vs b)) b.parts_fit)

-- A diamond carries nothing.
pub nothing_of_diamonds : (types : List DataType) (units : ℕ → ℕ) (v : Value) → Fits types kind.Dia v → potential types units v ≡ 0
nothing_of_diamonds types units (value.Int z) f = refl
nothing_of_diamonds types units (value.Flag b) f = refl
nothing_of_diamonds types units value.Dia f = refl
nothing_of_diamonds types units (value.Con c vs) f = let b = built types kind.Dia c vs f in let e : kind.Dia ≡ kind.Of b.t = b.kind_is in absurd cc
