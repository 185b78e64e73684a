-- Laws, for the proofs of this crate and of those above it.
-- The list of the constructors that a kind reaches has just these, ascending.
use Rattle.std.proofs.Common.{◌≡◌, ℕ, zero, suc, ◌+◌, ◌-◌, ◌<◌, ◌≤◌, Bool, true, false, List, [], ◌∷◌, ◌++◌, length, Option, Some, None, refl, sym, ap, ◌∙◌, subst, arith, inl, inr, length-append}
use Rattle.std.specs.Prelude.{slice_get, cond, IsTrue, ◌⊎◌, ◌↔◌, nat_lt, if◌then◌else◌, ◌==◌, ◌||◌, ◌&&◌}
use Rattle.std.specs.List.{list_any, filter, range_with_len}
use Rattle.std.specs.Option.{option_map_or}
use Rattle.std.proofs.lemmas.Bool.Decides.{nat_tests}
use Rattle.std.proofs.lemmas.Bool.{cases_lt}
use Rattle.camelot_values.specs.declared.kinds.Kind.{Kind}
use Rattle.camelot_values.specs.declared.kinds.Kind.TheVariants.{Int, Flag, Dia, Of}
use Rattle.camelot_values.specs.Kinds.{DataType, constructors, type_from, type_of}
use Rattle.camelot_values.specs.Lists.{Ascend, is_among}
use Rattle.camelot_values.specs.Heap.{is_of, fields_of, holds_type, LeadsTo, IsLedTo, ReachesFrom, Reaches, is_heap_type, leads_by, is_reached_in, is_reached, reached}

-- ---- tests

or_split : (a b : Bool) → (a || b) ≡ true → (a ≡ true) ⊎ (b ≡ true)
or_split true b h = inl refl
or_split false b h = inr h

or_first : (a b : Bool) → a ≡ true → (a || b) ≡ true
or_first true b h = refl
or_first false b h = absurd cc

or_second : (a b : Bool) → b ≡ true → (a || b) ≡ true
or_second true b h = refl
or_second false b h = h

and_split : (a b : Bool) → (a && b) ≡ true → (a ≡ true) × (b ≡ true)
and_split true b h = (refl, h)
and_split false b h = absurd cc

and_both : (a b : Bool) → a ≡ true → b ≡ true → (a && b) ≡ true
and_both true b h k = k
and_both false b h k = absurd cc

-- ---- ways from type to type

led_on : (types : List DataType) (t v u : ℕ) → IsLedTo types t v → IsLedTo types v u → IsLedTo types t u
led_on types t v u a b = join t a.0 a.1
  where
    join : (t : ℕ) (path : List ℕ) → LeadsTo types t path v → IsLedTo types t u
    join t [] h = subst (λ x. IsLedTo types x u) (sym h) b
    join t (w ∷ path) h = let r = join w path h.1 in (w ∷ r.0, (h.0, r.1))

pub leads_by_sound : (types : List DataType) (n t u : ℕ) → leads_by types n t u ≡ true → IsLedTo types t u
leads_by_sound types zero t u h = either (or_split (t == u) (holds_type types t u) h)
  where
    either : ((t == u) ≡ true) ⊎ (holds_type types t u ≡ true) → IsLedTo types t u
    either (inl e) = ([], grind (arith, nat_tests, e))
    either (inr e) = (u ∷ [], (e, refl))
leads_by_sound types (suc n) t u h = either (λ x y e. leads_by_sound types n x y e) (or_split (leads_by types n t u) (leads_by types n t n && leads_by types n n u) h)
  where
    either : ((x y : ℕ) → leads_by types n x y ≡ true → IsLedTo types x y)
        → (leads_by types n t u ≡ true) ⊎ ((leads_by types n t n && leads_by types n n u) ≡ true) → IsLedTo types t u
    either f (inl e) = f t u e
    either f (inr e) = let p = and_split (leads_by types n t n) (leads_by types n n u) e in led_on types t n u (f t n p.0) (f n u p.1)

-- from a type to itself
itself : (types : List DataType) (n t : ℕ) → leads_by types n t t ≡ true
itself types zero t = or_first (t == t) (holds_type types t t) (grind (arith, nat_tests))
itself types (suc n) t = or_first (leads_by types n t t) _ (itself types n t)

one_step : (types : List DataType) (n t u : ℕ) → holds_type types t u ≡ true → leads_by types n t u ≡ true
one_step types zero t u h = or_second (t == u) (holds_type types t u) h
one_step types (suc n) t u h = or_first (leads_by types n t u) _ (one_step types n t u h)

-- by way of a type below n
pub on : (types : List DataType) (n t v u : ℕ) → v < n → leads_by types n t v ≡ true → leads_by types n v u ≡ true → leads_by types n t u ≡ true
on types zero t v u h a b = absurd (omega (arith, h))
on types (suc n) t v u h a b = by_order (λ x y z k p q. on types n x y z k p q) (cases_lt v n)
  where
    to_last : (x : ℕ) → leads_by types (suc n) x n ≡ true → leads_by types n x n ≡ true
    to_last x e = either (or_split (leads_by types n x n) (leads_by types n x n && leads_by types n n n) e)
      where
        either : (leads_by types n x n ≡ true) ⊎ ((leads_by types n x n && leads_by types n n n) ≡ true) → leads_by types n x n ≡ true
        either (inl k) = k
        either (inr k) = (and_split (leads_by types n x n) (leads_by types n n n) k).0

    from_last : (x : ℕ) → leads_by types (suc n) n x ≡ true → leads_by types n n x ≡ true
    from_last x e = either (or_split (leads_by types n n x) (leads_by types n n n && leads_by types n n x) e)
      where
        either : (leads_by types n n x ≡ true) ⊎ ((leads_by types n n n && leads_by types n n x) ≡ true) → leads_by types n n x ≡ true
        either (inl k) = k
        either (inr k) = (and_split (leads_by types n n n) (leads_by types n n x) k).1

    by_last : leads_by types n t n ≡ true → leads_by types n n u ≡ true → leads_by types (suc n) t u ≡ true
    by_last p q = or_second (leads_by types n t u) (leads_by types n t n && leads_by types n n u) (and_both (leads_by types n t n) (leads_by types n n u) p q)

    either : ((x y z : ℕ) → y < n → leads_by types n x y ≡ true → leads_by types n y z ≡ true → leads_by types n x z ≡ true) → v < n
        → (leads_by types n t v ≡ true) ⊎ ((leads_by types n t n && leads_by types n n v) ≡ true)
        → (leads_by types n v u ≡ true) ⊎ ((leads_by types n v n && leads_by types n n u) ≡ true) → leads_by types (suc n) t u ≡ true
    either f k (inl p) (inl q) = or_first (leads_by types n t u) _ (f t v u k p q)
    either f k (inl p) (inr q) = let r = and_split (leads_by types n v n) (leads_by types n n u) q in by_last (f t v n k p r.0) r.1
    either f k (inr p) (inl q) = let r = and_split (leads_by types n t n) (leads_by types n n v) p in by_last r.0 (f n v u k r.1 q)
    either f k (inr p) (inr q) = by_last (and_split (leads_by types n t n) (leads_by types n n v) p).0 (and_split (leads_by types n v n) (leads_by types n n u) q).1

    by_order : ((x y z : ℕ) → y < n → leads_by types n x y ≡ true → leads_by types n y z ≡ true → leads_by types n x z ≡ true) → (v < n) ⊎ (n ≤ v)
        → leads_by types (suc n) t u ≡ true
    by_order f (inl k) = either f k (or_split (leads_by types n t v) (leads_by types n t n && leads_by types n n v) a) (or_split (leads_by types n v u) (leads_by types n v n && leads_by types n n u) b)
    by_order f (inr k) = let e : v ≡ n = omega (arith, h, k) in
        by_last (to_last t (subst (λ x. leads_by types (suc n) t x ≡ true) e a)) (from_last u (subst (λ x. leads_by types (suc n) x u ≡ true) e b))

past_end : {A : Type 0} (xs : List A) (n : ℕ) → length xs ≤ n → slice_get xs n ≡ None
past_end [] n h = refl
past_end (x ∷ xs) zero h = absurd (omega (arith, h))
past_end (x ∷ xs) (suc n) h = past_end xs n (omega (arith, h))

-- a type that isn't there holds none
holds_none : (types : List DataType) (t u : ℕ) → length types ≤ t → holds_type types t u ≡ true → ⊥
holds_none types t u h k = let e : list_any (is_of u) (option_map_or fields_of None []) ≡ true = subst (λ o. list_any (is_of u) (option_map_or fields_of o []) ≡ true) (past_end types t h) k in absurd cc

-- along a way
led_along : (types : List DataType) (u t : ℕ) (path : List ℕ) → LeadsTo types t path u → leads_by types (length types) t u ≡ true
led_along types u t [] h = subst (λ x. leads_by types (length types) t x ≡ true) h (itself types (length types) t)
led_along types u t (v ∷ path) h = by_order (cases_lt v (length types)) (led_along types u v path h.1) path h.1
  where
    by_order : (v < length types) ⊎ (length types ≤ v) → leads_by types (length types) v u ≡ true → (path : List ℕ) → LeadsTo types v path u
        → leads_by types (length types) t u ≡ true
    by_order (inl k) e path g = on types (length types) t v u k (one_step types (length types) t v h.0) e
    by_order (inr k) e [] g = subst (λ x. leads_by types (length types) t x ≡ true) g (one_step types (length types) t v h.0)
    by_order (inr k) e (w ∷ path) g = absurd (holds_none types v w k g.0)

pub leads_by_complete : (types : List DataType) (t u : ℕ) → IsLedTo types t u → leads_by types (length types) t u ≡ true
leads_by_complete types t u p = led_along types u t p.0 p.1

-- ---- numbers that pass a test

-- a number that passes is among those that do
among_passing : (p : ℕ → Bool) (a n x : ℕ) → a ≤ x → x < a + n → p x ≡ true → is_among (filter p (range_with_len a n)) x ≡ true
among_passing p a zero x h k e = absurd (omega (arith, h, k))
among_passing p a (suc n) x h k e = by_order (λ g l. among_passing p (a + 1) n x g l e) (cases_lt a x)
  where
    behind : (b : Bool) → is_among (filter p (range_with_len (a + 1) n)) x ≡ true
        → is_among (cond b (a ∷ filter p (range_with_len (a + 1) n)) (filter p (range_with_len (a + 1) n))) x ≡ true
    behind true q = or_second (a == x) _ q
    behind false q = q

    here : (b : Bool) → b ≡ true → a ≡ x → is_among (cond b (a ∷ filter p (range_with_len (a + 1) n)) (filter p (range_with_len (a + 1) n))) x ≡ true
    here true f q = or_first (a == x) _ (grind (arith, nat_tests, q))
    here false f q = absurd cc

    by_order : (a + 1 ≤ x → x < a + 1 + n → is_among (filter p (range_with_len (a + 1) n)) x ≡ true) → (a < x) ⊎ (x ≤ a)
        → is_among (filter p (range_with_len a (suc n))) x ≡ true
    by_order f (inl less) = behind (p a) (f (omega (arith, less)) (omega (arith, k)))
    by_order f (inr more) = let q : a ≡ x = omega (arith, h, more) in here (p a) (ap p q ∙ e) q

-- and those that are among them pass
passing_among : (p : ℕ → Bool) (a n x : ℕ) → is_among (filter p (range_with_len a n)) x ≡ true → p x ≡ true
passing_among p a zero x h = absurd cc
passing_among p a (suc n) x h = by_test (λ q. passing_among p (a + 1) n x q) (p a) refl h
  where
    by_test : (is_among (filter p (range_with_len (a + 1) n)) x ≡ true → p x ≡ true) → (b : Bool) → p a ≡ b
        → is_among (cond b (a ∷ filter p (range_with_len (a + 1) n)) (filter p (range_with_len (a + 1) n))) x ≡ true → p x ≡ true
    by_test f false e q = f q
    by_test f true e q = either (or_split (a == x) _ q)
      where
        either : ((a == x) ≡ true) ⊎ (is_among (filter p (range_with_len (a + 1) n)) x ≡ true) → p x ≡ true
        either (inl same) = let s : a ≡ x = grind (arith, nat_tests, same) in ap p (sym s) ∙ e
        either (inr r) = f r

-- in front of numbers that are larger
abbrev Above : ℕ → List ℕ → Type 0
Above a [] = Unit {0}
Above a (x ∷ xs) = a < x

in_order : (a : ℕ) (xs : List ℕ) → Above a xs → Ascend xs → Ascend (a ∷ xs)
in_order a [] h k = tt
in_order a (x ∷ xs) h k = (h, k)

passing_above : (p : ℕ → Bool) (b a n : ℕ) → b < a → Above b (filter p (range_with_len a n))
passing_above p b a zero h = tt
passing_above p b a (suc n) h = by_test (passing_above p b (a + 1) n (omega (arith, h))) (p a)
  where
    by_test : Above b (filter p (range_with_len (a + 1) n)) → (c : Bool)
        → Above b (cond c (a ∷ filter p (range_with_len (a + 1) n)) (filter p (range_with_len (a + 1) n)))
    by_test f true = h
    by_test f false = f

passing_ascend : (p : ℕ → Bool) (a n : ℕ) → Ascend (filter p (range_with_len a n))
passing_ascend p a zero = tt
passing_ascend p a (suc n) = by_test (passing_ascend p (a + 1) n) (p a)
  where
    by_test : Ascend (filter p (range_with_len (a + 1) n)) → (c : Bool)
        → Ascend (cond c (a ∷ filter p (range_with_len (a + 1) n)) (filter p (range_with_len (a + 1) n)))
    by_test f true = in_order a _ (passing_above p a (a + 1) n (omega arith)) f
    by_test f false = f

-- ---- the constructors that a kind reaches

-- a constructor that belongs to a type is there
owned_there : (first : ℕ) (types : List DataType) (c t : ℕ) → type_from first types c ≡ Some t → c < length (constructors types)
owned_there first [] c t h = let e : None ≡ Some t = h in absurd cc
owned_there first (d ∷ ds) c t h = by_test (λ q. owned_there (suc first) ds (c - length d.cons) t q) (nat_lt c (length d.cons)) refl h
  where
    by_test : (type_from (suc first) ds (c - length d.cons) ≡ Some t → c - length d.cons < length (constructors ds)) → (b : Bool)
        → nat_lt c (length d.cons) ≡ b → (if b then Some first else type_from (suc first) ds (c - length d.cons)) ≡ Some t
        → c < length (d.cons ++ constructors ds)
    by_test f true e q = let k : c < length d.cons = grind (arith, nat_tests, e) in omega (arith, k, length-append d.cons (constructors ds))
    by_test f false e q = let k : length d.cons ≤ c = grind (arith, nat_tests, e) in omega (arith, k, f q, length-append d.cons (constructors ds))

reached_in : (types : List DataType) (t c : ℕ) (o : Option ℕ) → type_of types c ≡ o → is_reached_in types t o ≡ true → ReachesFrom types t c
reached_in types t c None e h = absurd cc
reached_in types t c (Some last) e h = let p = and_split (is_heap_type types last) (leads_by types (length types) t last) h in
    record { last = last; leads = leads_by_sound types (length types) t last p.1; heap = p.0; owned = e }

reaches_in : (types : List DataType) (t c : ℕ) → ReachesFrom types t c → is_reached_in types t (type_of types c) ≡ true
reaches_in types t c r = ap (is_reached_in types t) r.owned ∙ and_both (is_heap_type types r.last) _ r.heap (leads_by_complete types t r.last r.leads)

-- The list has just the constructors that the kind reaches.
pub reached_is : (types : List DataType) (q : Kind) (c : ℕ) → IsTrue (is_among (reached types q) c) ↔ Reaches types q c
reached_is types q c = (to q, from q)
  where
    n : ℕ
    n = length (constructors types)

    to : (q : Kind) → is_among (reached types q) c ≡ true → Reaches types q c
    to (Of t) h = reached_in types t c (type_of types c) refl (passing_among (is_reached types (Of t)) 0 n c h)
    to Int h = let e : false ≡ true = passing_among (is_reached types Int) 0 n c h in absurd cc
    to Flag h = let e : false ≡ true = passing_among (is_reached types Flag) 0 n c h in absurd cc
    to Dia h = let e : false ≡ true = passing_among (is_reached types Dia) 0 n c h in absurd cc

    from : (q : Kind) → Reaches types q c → is_among (reached types q) c ≡ true
    from (Of t) r = among_passing (is_reached types (Of t)) 0 n c (omega arith) (omega (arith, owned_there 0 types c r.last r.owned)) (reaches_in types t c r)
    from Int r = absurd r
    from Flag r = absurd r
    from Dia r = absurd r

-- It ascends.
pub reached_ascends : (types : List DataType) (q : Kind) → Ascend (reached types q)
reached_ascends types q = passing_ascend (is_reached types q) 0 (length (constructors types))
