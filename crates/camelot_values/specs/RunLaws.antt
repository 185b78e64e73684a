-- Laws, for the proofs of this crate and of those above it.
-- Laws of whole runs: what two runs have in common that take the same steps with other fuel or another clock. A
-- relation between outcomes that holds of each basic step, and is kept by one run after another, holds of whole runs,
-- of the source language and of code alike: what the bodies of functions mean only has to respect such relations.
use Rattle.std.proofs.Common.{◌≡◌, ℕ, zero, suc, ◌+◌, ◌-◌, ◌<◌, ◌≤◌, Bool, true, false, List, Option, Some, None, refl, sym, ap, ◌∙◌, subst, arith, inl, inr}
use Rattle.std.specs.Prelude.{⊤, ◌⊎◌, ℤ, pos, cond, if◌then◌else◌}
use Rattle.std.specs.Ordering.{int_eq}
use Rattle.std.proofs.lemmas.Bool.{cases_lt}
use Rattle.camelot_values.specs.Value as value
use Rattle.camelot_values.specs.Value.{Value}
use Rattle.camelot_values.specs.Operator as operator
use Rattle.camelot_values.specs.Operator.{Operator, dividing_by, on_ints, operate}
use Rattle.camelot_values.specs.Outcome.{Outcome, Done, Fuel, Deep, Trap, Stuck, after, first_then, known, given, entered}
use Rattle.camelot_values.specs.Runs.{Enter, Bodies, chosen, on_diamond, is_too_deep, calls, entering, run_from}
use Rattle.camelot_values.specs.Fuel.{StopsOnFuel}

-- between two outcomes with these amounts of fuel
abbrev pub Relation : Type 1
Relation = (A : Type 0) → ℕ → ℕ → Outcome A → Outcome A → Type 0

-- Fine j k says which amounts of fuel are compared.
pub record Closed (Fine : ℕ → ℕ → Type 0) (R : Relation) : Type 1 where
  pub less : (j k c : ℕ) → Fine j k → Fine (j - c) (k - c)
  pub free : (A : Type 0) (j k : ℕ) (v : A) (p l : ℕ) → R A j k (Done v 0 p l) (Done v 0 p l)
  pub trapped : (A : Type 0) (j k : ℕ) → R A j k (Trap 0) (Trap 0)
  pub stuck : (A : Type 0) (j k : ℕ) → R A j k Stuck Stuck
  pub sequence : (A B : Type 0) (j k : ℕ) (o o' : Outcome A) (next next' : ℕ → A → Outcome B) → Fine j k → R A j k o o'
      → ((c : ℕ) (v : A) → R B (j - c) (k - c) (next (j - c) v) (next' (k - c) v)) → R B j k (first_then j o next) (first_then k o' next')
  pub moved : (A : Type 0) (j k p l : ℕ) (o o' : Outcome A) → R A j k o o' → R A j k (after 0 p l o) (after 0 p l o')

-- two meanings of calls are related
abbrev pub Related : (ℕ → ℕ → Type 0) → Relation → Enter → Enter → Type 0
Related Fine R enter enter' = (j k w : ℕ) (t : Bool) (f : ℕ) (vs : List Value) → Fine j k → R Value j k (enter j w t f vs) (enter' k w t f vs)

-- what bodies mean with related meanings of calls is related, for every such relation
abbrev pub Respect : Bodies → Type 1
Respect bodies = (Fine : ℕ → ℕ → Type 0) (R : Relation) → Closed Fine R → (enter enter' : Enter) → Related Fine R enter enter'
    → (f j k w : ℕ) (args : List Value) → Fine j k → R Value j k (bodies enter f j w args) (bodies enter' f k w args)

-- ---- steps

pub given_related : {A B : Type 0} (Fine : ℕ → ℕ → Type 0) (R : Relation) → Closed Fine R → (o : Option A) (j k : ℕ) (next next' : A → Outcome B)
    → ((x : A) → R B j k (next x) (next' x)) → R B j k (given o next) (given o next')
given_related {A} {B} Fine R closed None j k next next' h = closed.stuck B j k
given_related Fine R closed (Some x) j k next next' h = h x

pub known_related : {A : Type 0} (Fine : ℕ → ℕ → Type 0) (R : Relation) → Closed Fine R → (o : Option A) (j k : ℕ) → R A j k (known o) (known o)
known_related {A} Fine R closed None j k = closed.stuck A j k
known_related {A} Fine R closed (Some v) j k = closed.free A j k v 0 0

pub diamond_related : (Fine : ℕ → ℕ → Type 0) (R : Relation) → Closed Fine R → (u v : Value) (j k : ℕ)
    → R Value j k (on_diamond u (Done v 0 0 0)) (on_diamond u (Done v 0 0 0))
diamond_related Fine R closed value.Dia v j k = closed.free Value j k v 0 0
diamond_related Fine R closed (value.Int z) v j k = closed.stuck Value j k
diamond_related Fine R closed (value.Flag b) v j k = closed.stuck Value j k
diamond_related Fine R closed (value.Con c vs) v j k = closed.stuck Value j k

pub chosen_related : (Fine : ℕ → ℕ → Type 0) (R : Relation) → Closed Fine R → (v : Value) (j k : ℕ) (a b a' b' : Outcome Value)
    → R Value j k a a' → R Value j k b b' → R Value j k (chosen v a b) (chosen v a' b')
chosen_related Fine R closed (value.Flag true) j k a b a' b' h g = h
chosen_related Fine R closed (value.Flag false) j k a b a' b' h g = g
chosen_related Fine R closed (value.Int z) j k a b a' b' h g = closed.stuck Value j k
chosen_related Fine R closed value.Dia j k a b a' b' h g = closed.stuck Value j k
chosen_related Fine R closed (value.Con c vs) j k a b a' b' h g = closed.stuck Value j k

dividing_related : (Fine : ℕ → ℕ → Type 0) (R : Relation) → Closed Fine R → (y z : ℤ) (j k : ℕ) → R Value j k (dividing_by y z) (dividing_by y z)
dividing_related Fine R closed y z j k = by_test (int_eq y (pos 0))
  where
    by_test : (b : Bool) → R Value j k (if b then Trap 0 else Done (value.Int z) 0 0 0) (if b then Trap 0 else Done (value.Int z) 0 0 0)
    by_test true = closed.trapped Value j k
    by_test false = closed.free Value j k (value.Int z) 0 0

on_ints_related : (Fine : ℕ → ℕ → Type 0) (R : Relation) → Closed Fine R → (op : Operator) (x y : ℤ) (j k : ℕ) → R Value j k (on_ints op x y) (on_ints op x y)
on_ints_related Fine R closed operator.Add x y j k = closed.free Value j k _ 0 0
on_ints_related Fine R closed operator.Sub x y j k = closed.free Value j k _ 0 0
on_ints_related Fine R closed operator.Mul x y j k = closed.free Value j k _ 0 0
on_ints_related Fine R closed operator.Div x y j k = dividing_related Fine R closed y _ j k
on_ints_related Fine R closed operator.Mod x y j k = dividing_related Fine R closed y _ j k
on_ints_related Fine R closed operator.Eq x y j k = closed.free Value j k _ 0 0
on_ints_related Fine R closed operator.Ne x y j k = closed.free Value j k _ 0 0
on_ints_related Fine R closed operator.Lt x y j k = closed.free Value j k _ 0 0
on_ints_related Fine R closed operator.Le x y j k = closed.free Value j k _ 0 0
on_ints_related Fine R closed operator.Gt x y j k = closed.free Value j k _ 0 0
on_ints_related Fine R closed operator.Ge x y j k = closed.free Value j k _ 0 0

pub operate_related : (Fine : ℕ → ℕ → Type 0) (R : Relation) → Closed Fine R → (op : Operator) (u v : Value) (j k : ℕ)
    → R Value j k (operate op u v) (operate op u v)
operate_related Fine R closed op (value.Int x) (value.Int y) j k = on_ints_related Fine R closed op x y j k
operate_related Fine R closed op (value.Int x) (value.Flag b) j k = closed.stuck Value j k
operate_related Fine R closed op (value.Int x) value.Dia j k = closed.stuck Value j k
operate_related Fine R closed op (value.Int x) (value.Con c vs) j k = closed.stuck Value j k
operate_related Fine R closed op (value.Flag b) v j k = closed.stuck Value j k
operate_related Fine R closed op value.Dia v j k = closed.stuck Value j k
operate_related Fine R closed op (value.Con c vs) v j k = closed.stuck Value j k

-- ---- the same run

abbrev pub Same : Relation
Same A j k o o' = o ≡ o'

-- ---- more fuel

-- a run with more fuel goes at least as far as one that entered k functions and had peak p when no fuel was left
abbrev pub Exceeds : {A : Type 0} → ℕ → ℕ → Outcome A → Type 0
Exceeds k p (Done v c q l) = (k < c) × (p ≤ q)
Exceeds k p (Fuel c q) = (k ≤ c) × (p ≤ q)
Exceeds k p (Deep q) = p ≤ q
Exceeds k p (Trap q) = p ≤ q
Exceeds k p Stuck = ⊤

-- what a run with fuel j says of the same run with fuel k, at least j
abbrev pub Goes : {A : Type 0} → ℕ → Outcome A → Outcome A → Type 0
Goes j (Done v c p l) o' = (c ≤ j) × (o' ≡ Done v c p l)
Goes j (Fuel c p) o' = (c ≡ j) × Exceeds j p o'
Goes j (Deep p) o' = o' ≡ Deep p
Goes j (Trap p) o' = o' ≡ Trap p
Goes j Stuck o' = o' ≡ Stuck

abbrev pub More : Relation
More A j k o o' = Goes j o o'

exceeds_after : {A : Type 0} (j c p l q : ℕ) (o : Outcome A) → c ≤ j → Exceeds (j - c) q o → Exceeds j (p + (q - l)) (after c p l o)
exceeds_after j c p l q (Done v d r m) h e = (omega (arith, e.0), grind (arith, e.1))
exceeds_after j c p l q (Fuel d r) h e = (omega (arith, e.0), grind (arith, e.1))
exceeds_after j c p l q (Deep r) h e = grind (arith, e)
exceeds_after j c p l q (Trap r) h e = grind (arith, e)
exceeds_after j c p l q Stuck h e = tt

more_after : {A : Type 0} (j c p l : ℕ) (o o' : Outcome A) → c ≤ j → Goes (j - c) o o' → Goes j (after c p l o) (after c p l o')
more_after j c p l (Done v d q m) o' h g = (omega (arith, g.0), ap (after c p l) g.1)
more_after j c p l (Fuel d q) o' h g = (omega (arith, g.0), exceeds_after j c p l q o' h g.1)
more_after j c p l (Deep q) o' h g = ap (after c p l) g
more_after j c p l (Trap q) o' h g = ap (after c p l) g
more_after j c p l Stuck o' h g = ap (after c p l) g

-- what comes behind can only add calls and raise the peak
exceeds_done : {A : Type 0} (j p c q l : ℕ) (o : Outcome A) → j < c → p ≤ q → Exceeds j p (after c q l o)
exceeds_done j p c q l (Done v d r m) h e = (omega arith, omega arith)
exceeds_done j p c q l (Fuel d r) h e = (omega arith, omega arith)
exceeds_done j p c q l (Deep r) h e = omega arith
exceeds_done j p c q l (Trap r) h e = omega arith
exceeds_done j p c q l Stuck h e = tt

exceeds_then : {A B : Type 0} (j p k : ℕ) (o : Outcome A) (next : ℕ → A → Outcome B) → Exceeds j p o → Exceeds j p (first_then k o next)
exceeds_then j p k (Done v c q l) next e = exceeds_done j p c q l (next (k - c) v) e.0 e.1
exceeds_then j p k (Fuel c q) next e = e
exceeds_then j p k (Deep q) next e = e
exceeds_then j p k (Trap q) next e = e
exceeds_then j p k Stuck next e = tt

more_then : {A B : Type 0} (j k : ℕ) (o o' : Outcome A) (next next' : ℕ → A → Outcome B) → Goes j o o'
    → ((c : ℕ) (v : A) → Goes (j - c) (next (j - c) v) (next' (k - c) v)) → Goes j (first_then j o next) (first_then k o' next')
more_then j k (Done v c p l) o' next next' g h =
    subst (λ x. Goes j (after c p l (next (j - c) v)) (first_then k x next')) (sym g.1) (more_after j c p l (next (j - c) v) (next' (k - c) v) g.0 (h c v))
more_then j k (Fuel c p) o' next next' g h = (g.0, exceeds_then j p k o' next' g.1)
more_then j k (Deep p) o' next next' g h = ap (λ x. first_then k x next') g
more_then j k (Trap p) o' next next' g h = ap (λ x. first_then k x next') g
more_then j k Stuck o' next next' g h = ap (λ x. first_then k x next') g

more_entered : (j : ℕ) (o o' : Outcome Value) → Goes j o o' → Goes (suc j) (entered o) (entered o')
more_entered j o o' g = more_after (suc j) 1 0 0 o o' (omega arith) (subst (λ n. Goes n o o') (omega arith) g)

exceeds_entered : (o : Outcome Value) → Exceeds 0 0 (entered o)
exceeds_entered (Done v c p l) = (omega arith, omega arith)
exceeds_entered (Fuel c p) = (omega arith, omega arith)
exceeds_entered (Deep p) = omega arith
exceeds_entered (Trap p) = omega arith
exceeds_entered Stuck = tt

-- equal amounts of at most n
abbrev pub Equal : ℕ → ℕ → ℕ → Type 0
Equal n j k = (j ≡ k) × (j ≤ n)

-- at most n, and at least that and at most m
abbrev pub Within : ℕ → ℕ → ℕ → ℕ → Type 0
Within n m j k = (j ≤ k) × (j ≤ n) × (k ≤ m)

same_then : {A B : Type 0} (j k : ℕ) (o o' : Outcome A) (next next' : ℕ → A → Outcome B) → j ≡ k → o ≡ o' → ((c : ℕ) (v : A) → next (j - c) v ≡ next' (k - c) v)
    → first_then j o next ≡ first_then k o' next'
same_then j k (Done v c p l) o' next next' e g h = ap (after c p l) (h c v) ∙ ap (λ x. first_then k x next') g
same_then j k (Fuel c p) o' next next' e g h = ap (λ x. first_then k x next') g
same_then j k (Deep p) o' next next' e g h = ap (λ x. first_then k x next') g
same_then j k (Trap p) o' next next' e g h = ap (λ x. first_then k x next') g
same_then j k Stuck o' next next' e g h = ap (λ x. first_then k x next') g

pub same_is_closed : (n : ℕ) → Closed (Equal n) Same
same_is_closed n = record {
  less = λ j k c f. (ap (λ x. x - c) f.0, omega (arith, f.1));
  free = λ A j k v p l. refl;
  trapped = λ A j k. refl;
  stuck = λ A j k. refl;
  sequence = λ A B j k o o' next next' f g h. same_then j k o o' next next' f.0 g h;
  moved = λ A j k p l o o' g. ap (after 0 p l) g;
}

pub more_is_closed : (n m : ℕ) → Closed (Within n m) More
more_is_closed n m = record {
  less = λ j k c f. (omega (arith, f.0), omega (arith, f.1), omega (arith, f.2));
  free = λ A j k v p l. (omega arith, refl);
  trapped = λ A j k. refl;
  stuck = λ A j k. refl;
  sequence = λ A B j k o o' next next' f g h. more_then j k o o' next next' g h;
  moved = λ A j k p l o o' g. more_after j 0 p l o o' (omega arith) (subst (λ x. Goes x o o') (omega arith) g);
}

-- ---- the clock

-- any two clocks of at least n give the same where there is no more fuel than n
same_calls : (bodies : Bodies) → Respect bodies → (limit n c c' : ℕ) → n ≤ c → n ≤ c' → Related (Equal n) Same (calls bodies limit c) (calls bodies limit c')
same_calls bodies r limit n c c' h h' zero zero w t g vs f = refl
same_calls bodies r limit n c c' h h' zero (suc k) w t g vs f = absurd (omega (arith, f.0))
same_calls bodies r limit n c c' h h' (suc j) zero w t g vs f = absurd (omega (arith, f.0))
same_calls bodies r limit zero c c' h h' (suc j) (suc k) w t g vs f = absurd (omega (arith, f.1))
same_calls bodies r limit (suc n) zero c' h h' (suc j) (suc k) w t g vs f = absurd (omega (arith, h))
same_calls bodies r limit (suc n) (suc c) zero h h' (suc j) (suc k) w t g vs f = absurd (omega (arith, h'))
same_calls bodies r limit (suc n) (suc c) (suc c') h h' (suc j) (suc k) w t g vs f =
    ap (λ o. if is_too_deep limit w t then Deep 0 else entered o)
    (r (Equal n) Same (same_is_closed n) (calls bodies limit c) (calls bodies limit c') (same_calls bodies r limit n c c' (omega (arith, h)) (omega (arith, h'))) g j k (cond t w (suc w)) vs
    (omega (arith, f.0), omega (arith, f.1)))

-- A clock beyond the fuel changes nothing.
pub clock_is : (bodies : Bodies) → Respect bodies → (limit clock fuel waits : ℕ) (tail : Bool) (f : ℕ) (args : List Value) → fuel ≤ clock
    → calls bodies limit clock fuel waits tail f args ≡ entering bodies limit fuel waits tail f args
clock_is bodies r limit clock fuel waits tail f args h = same_calls bodies r limit fuel clock fuel h (omega arith) fuel fuel waits tail f args (refl, omega arith)

-- One step of a call: without a clock, the calls in the body mean what calls mean.
pub unfolds : (bodies : Bodies) → Respect bodies → (limit fuel waits : ℕ) (tail : Bool) (f : ℕ) (args : List Value)
    → entering bodies limit (suc fuel) waits tail f args
    ≡ (if is_too_deep limit waits tail then Deep 0 else entered (bodies (entering bodies limit) f fuel (cond tail waits (suc waits)) args))
unfolds bodies r limit k w t f args =
    ap (λ o. if is_too_deep limit w t then Deep 0 else entered o) (r (Equal k) Same (same_is_closed k) (calls bodies limit k) (entering bodies limit) own f k k (cond t w (suc w)) args (refl, omega arith))
  where
    own : Related (Equal k) Same (calls bodies limit k) (entering bodies limit)
    own i j u s g vs e = clock_is bodies r limit k i u s g vs e.1 ∙ ap (λ n. calls bodies limit n n u s g vs) e.0

-- ---- more fuel

starts : (bodies : Bodies) (limit m k w : ℕ) (t : Bool) (g : ℕ) (vs : List Value) → k ≤ m → Exceeds 0 0 (calls bodies limit m k w t g vs)
starts bodies limit m zero w t g vs h = (omega arith, omega arith)
starts bodies limit zero (suc k) w t g vs h = absurd (omega arith)
starts bodies limit (suc m) (suc k) w t g vs h = by_depth (is_too_deep limit w t)
  where
    by_depth : (b : Bool) → Exceeds 0 0 (if b then Deep 0 else entered (bodies (calls bodies limit m) g k (cond t w (suc w)) vs))
    by_depth true = omega arith
    by_depth false = exceeds_entered (bodies (calls bodies limit m) g k (cond t w (suc w)) vs)

more_calls : (bodies : Bodies) → Respect bodies → (limit n m : ℕ) → Related (Within n m) More (calls bodies limit n) (calls bodies limit m)
more_calls bodies r limit n m zero k w t g vs f = (refl, starts bodies limit m k w t g vs f.2)
more_calls bodies r limit n m (suc j) zero w t g vs f = absurd (omega (arith, f.0))
more_calls bodies r limit zero m (suc j) (suc k) w t g vs f = absurd (omega (arith, f.1))
more_calls bodies r limit (suc n) zero (suc j) (suc k) w t g vs f = absurd (omega (arith, f.2))
more_calls bodies r limit (suc n) (suc m) (suc j) (suc k) w t g vs f =
    by_depth (is_too_deep limit w t) (bodies (calls bodies limit n) g j (cond t w (suc w)) vs) (bodies (calls bodies limit m) g k (cond t w (suc w)) vs)
    (r (Within n m) More (more_is_closed n m) (calls bodies limit n) (calls bodies limit m) (more_calls bodies r limit n m) g j k (cond t w (suc w)) vs
    (omega (arith, f.0), omega (arith, f.1), omega (arith, f.2)))
  where
    by_depth : (b : Bool) (o o' : Outcome Value) → Goes j o o' → Goes (suc j) (if b then Deep 0 else entered o) (if b then Deep 0 else entered o')
    by_depth true o o' h = refl
    by_depth false o o' h = more_entered j o o' h

-- What a run says of the same run with more fuel.
pub more_fuel : (bodies : Bodies) → Respect bodies → (limit f j k : ℕ) (args : List Value) → j ≤ k
    → Goes j (run_from bodies limit f j args) (run_from bodies limit f k args)
more_fuel bodies r limit f j k args h = more_calls bodies r limit j k j k 0 true f args (h, omega arith, omega arith)

-- ---- what the laws of fuel say of one run

-- A run that stops on fuel has entered as many functions as it had fuel.
pub used_is : (bodies : Bodies) → Respect bodies → (limit f k c q : ℕ) (args : List Value) → run_from bodies limit f k args ≡ Fuel c q → c ≡ k
used_is bodies r limit f k c q args e = let g : Goes {A = Value} k (Fuel c q) (Fuel c q) = subst (λ o. Goes k o o) e (more_fuel bodies r limit f k k args (omega arith)) in g.0

-- One that comes to a value has entered at most as many.
pub within_is : (bodies : Bodies) → Respect bodies → (limit f k : ℕ) (args : List Value) (v : Value) (c q l : ℕ)
    → run_from bodies limit f k args ≡ Done v c q l → c ≤ k
within_is bodies r limit f k args v c q l e = let g : Goes k (Done v c q l) (Done v c q l) = subst (λ o. Goes k o o) e (more_fuel bodies r limit f k k args (omega arith)) in g.0

-- the same run with less fuel, j, that still covers its calls
enough_below : (j c q l : ℕ) (v : Value) (o : Outcome Value) → Goes j o (Done v c q l) → c ≤ j → o ≡ Done v c q l
enough_below j c q l v (Done u d r m) g h = sym g.1
enough_below j c q l v (Fuel d r) g h = absurd (omega (arith, g.1.0))
enough_below j c q l v (Deep r) g h = sym g
enough_below j c q l v (Trap r) g h = sym g
enough_below j c q l v Stuck g h = sym g

-- It comes to the same value with every fuel from its calls on.
pub enough_is : (bodies : Bodies) → Respect bodies → (limit f k j : ℕ) (args : List Value) (v : Value) (c q l : ℕ)
    → run_from bodies limit f k args ≡ Done v c q l → c ≤ j
    → run_from bodies limit f j args ≡ Done v c q l
enough_is bodies r limit f k j args v c q l e h = by_order (cases_lt j k)
  where
    by_order : (j < k) ⊎ (k ≤ j) → run_from bodies limit f j args ≡ Done v c q l
    by_order (inl below) = enough_below j c q l v (run_from bodies limit f j args) (subst (λ o. Goes j (run_from bodies limit f j args) o) e (more_fuel bodies r limit f j k args (omega (arith, below)))) h
    by_order (inr above) = let g : Goes k (Done v c q l) (run_from bodies limit f j args) = subst (λ o. Goes k o (run_from bodies limit f j args)) e (more_fuel bodies r limit f k j args above) in g.1

-- with less fuel than calls
short_below : (j c q l : ℕ) (v : Value) (o : Outcome Value) → Goes j o (Done v c q l) → j < c → StopsOnFuel j q o
short_below j c q l v (Done u d r m) g h = let e : Done v c q l ≡ Done u d r m = g.1 in let same : c ≡ d = cc in absurd (omega (arith, g.0))
short_below j c q l v (Fuel d r) g h = (g.0, g.1.1)
short_below j c q l v (Deep r) g h = let e : Done v c q l ≡ Deep r = g in absurd cc
short_below j c q l v (Trap r) g h = let e : Done v c q l ≡ Trap r = g in absurd cc
short_below j c q l v Stuck g h = let e : Done v c q l ≡ Stuck = g in absurd cc

-- With less it stops on fuel, at no higher a peak.
pub short_is : (bodies : Bodies) → Respect bodies → (limit f k j : ℕ) (args : List Value) (v : Value) (c q l : ℕ)
    → run_from bodies limit f k args ≡ Done v c q l → j < c
    → StopsOnFuel j q (run_from bodies limit f j args)
short_is bodies r limit f k j args v c q l e h =
    short_below j c q l v (run_from bodies limit f j args) (subst (λ o. Goes j (run_from bodies limit f j args) o) e (more_fuel bodies r limit f j k args (omega (arith, within_is bodies r limit f k args v c q l e)))) h

-- More fuel doesn't help a run that went too deep.
pub deep_is : (bodies : Bodies) → Respect bodies → (limit f k j : ℕ) (args : List Value) (q : ℕ) → run_from bodies limit f k args ≡ Deep q → k ≤ j
    → run_from bodies limit f j args ≡ Deep q
deep_is bodies r limit f k j args q e h = let g : Goes k (Deep q) (run_from bodies limit f j args) = subst (λ o. Goes k o (run_from bodies limit f j args)) e (more_fuel bodies r limit f k j args h) in g

-- Nor does it help a run that trapped.
pub trap_is : (bodies : Bodies) → Respect bodies → (limit f k j : ℕ) (args : List Value) (q : ℕ) → run_from bodies limit f k args ≡ Trap q → k ≤ j
    → run_from bodies limit f j args ≡ Trap q
trap_is bodies r limit f k j args q e h = let g : Goes k (Trap q) (run_from bodies limit f j args) = subst (λ o. Goes k o (run_from bodies limit f j args)) e (more_fuel bodies r limit f k j args h) in g

-- ---- one run

-- What holds where a call finds no fuel and where it is too deep, and of each body whose calls have it, holds of all
-- calls. Q says it of the function's number, the arguments and the outcome.
pub kept_by_calls : (bodies : Bodies) (limit : ℕ) (Q : ℕ → List Value → Outcome Value → Type 0) → ((f : ℕ) (args : List Value) → Q f args (Fuel 0 0))
    → ((f : ℕ) (args : List Value) → Q f args (Deep 0))
    → ((enter : Enter) → ((k w : ℕ) (t : Bool) (f : ℕ) (args : List Value) → Q f args (enter k w t f args)) → (f k w : ℕ) (args : List Value) → Q f args (entered (bodies enter f k w args)))
    → (clock k w : ℕ) (t : Bool) (f : ℕ) (args : List Value) → Q f args (calls bodies limit clock k w t f args)
kept_by_calls bodies limit Q fuel deep step clock zero w t f args = fuel f args
kept_by_calls bodies limit Q fuel deep step zero (suc k) w t f args = fuel f args
kept_by_calls bodies limit Q fuel deep step (suc clock) (suc k) w t f args =
    by_depth (is_too_deep limit w t) (step (calls bodies limit clock) (kept_by_calls bodies limit Q fuel deep step clock) f k (cond t w (suc w)) args)
  where
    by_depth : (b : Bool) → Q f args (entered (bodies (calls bodies limit clock) f k (cond t w (suc w)) args))
        → Q f args (if b then Deep 0 else entered (bodies (calls bodies limit clock) f k (cond t w (suc w)) args))
    by_depth true h = deep f args
    by_depth false h = h
