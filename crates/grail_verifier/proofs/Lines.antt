-- Where lines of a certificate stand: those of builds in front of what is left of them, and those of blocks one place
-- before their numbers.
use Rattle.std.proofs.Common.{◌≡◌, ◌⊎◌, ℕ, zero, suc, ◌-◌, ◌<◌, ◌≤◌, Bool, true, false, List, [], ◌∷◌, length, map, replicate, Some, None, refl, sym, ap, ◌∙◌, subst, arith, inl, inr}
use Rattle.std.specs.Prelude.{◌==◌, ◌||◌, ◌&&◌, nat_lt, nat_le, if◌then◌else◌, slice_get, slice_set}
use Rattle.std.specs.List.{AllByRecursion}
use Rattle.std.proofs.lemmas.Bool.Decides.{nat_tests}
use Rattle.camelot_values.specs.Lists.{is_among, Ascend}
use Rattle.annotations.specs.Vectors.{Vector, at}
use Rattle.certificate.specs.Certificates.{VarCert, BlockCert, MakeCert, MakesAscend, VectorIsWithin, VarIsWithin, MakeIsWithin}
use Rattle.licence.specs.Books.{vector_of, block_of, make_of}
use Rattle.grail_verifier.specs.Walk.{line_at, makes_from, in_front, put_all}
use Rattle.grail_verifier.proofs.Reached.{above}
use Rattle.grail_verifier.proofs.Carrying.{LinesAscend}

-- ---- lines of builds

-- the line stands behind this place
abbrev IsBehind : ℕ → ℕ → MakeCert → Type 0
IsBehind block place m = (block < m.block) ⊎ ((block ≡ m.block) × (place < m.place))

makes_others : (m : MakeCert) (ms : List MakeCert) → MakesAscend (m ∷ ms) → MakesAscend ms
makes_others m [] h = tt
makes_others m (n ∷ ms) h = h.2

next_behind : (b p : ℕ) (m n : MakeCert) → IsBehind b p m → m.block ≤ n.block → (m.block ≡ n.block → m.place < n.place) → IsBehind b p n
next_behind b p m n (inl l) h k = inl (omega (arith, l, h))
next_behind b p m n (inr e) h k = by_case (m.block == n.block) refl
  where
    by_case : (t : Bool) → (m.block == n.block) ≡ t → IsBehind b p n
    by_case true d = let same : m.block ≡ n.block = grind (arith, nat_tests, d) in inr (e.0 ∙ same, omega (arith, e.1, k same))
    by_case false d = inl (grind (arith, nat_tests, d, h, e.0))

all_behind : (b p : ℕ) (m : MakeCert) (ms : List MakeCert) → IsBehind b p m → MakesAscend (m ∷ ms) → AllByRecursion (IsBehind b p) ms
all_behind b p m [] h a = tt
all_behind b p m (n ∷ ms) h a = let k : IsBehind b p n = next_behind b p m n h a.0 a.1 in (k, all_behind b p n ms k a.2)

none_behind : (b p : ℕ) (ms : List MakeCert) → AllByRecursion (IsBehind b p) ms → make_of ms b p ≡ []
none_behind b p [] h = refl
none_behind b p (m ∷ ms) h = by_test (none_behind b p ms h.1) h.0
  where
    other : IsBehind b p m → ((m.block == b) && (m.place == p)) ≡ false
    other (inl l) = grind (arith, nat_tests, l)
    other (inr e) = grind (arith, nat_tests, e.0, e.1)

    by_test : make_of ms b p ≡ [] → IsBehind b p m → (if (m.block == b) && (m.place == p) then m.vector else make_of ms b p) ≡ []
    by_test rec k = ap (λ t. if t then m.vector else make_of ms b p) (other k) ∙ rec

-- the line of this place is the one in front of what is left from it on
pub front_is : (b p : ℕ) (ms : List MakeCert) → MakesAscend ms → in_front [] b p (makes_from b p ms) ≡ make_of ms b p
front_is b p [] a = refl
front_is b p (m ∷ ms) a = by_test (front_is b p ms (makes_others m ms a)) (nat_lt m.block b || ((m.block == b) && nat_lt m.place p)) refl
  where
    by_same : (t : Bool) → ((m.block == b) && (m.place == p)) ≡ t → (nat_lt m.block b || ((m.block == b) && nat_lt m.place p)) ≡ false
        → (if t then m.vector else []) ≡ (if t then m.vector else make_of ms b p)
    by_same true d e = refl
    by_same false d e = sym (none_behind b p ms (all_behind b p m ms (behind (nat_lt b m.block) refl) a))
      where
        behind : (u : Bool) → nat_lt b m.block ≡ u → IsBehind b p m
        behind true k = inl (grind (arith, nat_tests, k))
        behind false k = let same : b ≡ m.block = grind (arith, nat_tests, d, e, k) in let more : p < m.place = grind (arith, nat_tests, d, e, same) in inr (same, more)

    by_test : in_front [] b p (makes_from b p ms) ≡ make_of ms b p → (t : Bool) → (nat_lt m.block b || ((m.block == b) && nat_lt m.place p)) ≡ t
        → in_front [] b p (if t then makes_from b p ms else m ∷ ms) ≡ make_of (m ∷ ms) b p
    by_test rec true e = rec ∙ sym (ap (λ t. if t then m.vector else make_of ms b p) other)
      where
        other : ((m.block == b) && (m.place == p)) ≡ false
        other = grind (arith, nat_tests, e)
    by_test rec false e = by_same ((m.block == b) && (m.place == p)) refl e

pub from_ascends : (b p : ℕ) (ms : List MakeCert) → MakesAscend ms → MakesAscend (makes_from b p ms)
from_ascends b p [] a = tt
from_ascends b p (m ∷ ms) a = by_test (from_ascends b p ms (makes_others m ms a)) (nat_lt m.block b || ((m.block == b) && nat_lt m.place p))
  where
    by_test : MakesAscend (makes_from b p ms) → (t : Bool) → MakesAscend (if t then makes_from b p ms else m ∷ ms)
    by_test rec true = rec
    by_test rec false = a

-- lines of places from this one on are kept
abbrev pub IsFrom : (block place block' place' : ℕ) → Type 0
IsFrom b p b' p' = (b < b') ⊎ ((b ≡ b') × (p ≤ p'))

pub from_keeps : (b p b' p' : ℕ) (ms : List MakeCert) → IsFrom b p b' p' → make_of (makes_from b p ms) b' p' ≡ make_of ms b' p'
from_keeps b p b' p' [] h = refl
from_keeps b p b' p' (m ∷ ms) h = by_test (from_keeps b p b' p' ms h) (nat_lt m.block b || ((m.block == b) && nat_lt m.place p)) refl h
  where
    by_test : make_of (makes_from b p ms) b' p' ≡ make_of ms b' p' → (t : Bool) → (nat_lt m.block b || ((m.block == b) && nat_lt m.place p)) ≡ t
        → IsFrom b p b' p'
        → make_of (if t then makes_from b p ms else m ∷ ms) b' p' ≡ (if (m.block == b') && (m.place == p') then m.vector else make_of ms b' p')
    by_test rec true e (inl l) = let other : ((m.block == b') && (m.place == p')) ≡ false = grind (arith, nat_tests, e, l) in rec ∙ sym (ap (λ t. if t then m.vector else make_of ms b' p') other)
    by_test rec true e (inr k) = let other : ((m.block == b') && (m.place == p')) ≡ false = grind (arith, nat_tests, e, k.0, k.1) in rec ∙ sym (ap (λ t. if t then m.vector else make_of ms b' p') other)
    by_test rec false e k = refl

-- ---- lines of blocks

pub record IsLine (bs : List BlockCert) (k n : ℕ) : Type 0 where
  pub line : BlockCert
  pub found : block_of bs n ≡ Some line
  pub stands : slice_get bs (n - k) ≡ Some line
  pub number : line.block ≡ n

-- lines of just these numbers, ascending, stand one behind the other
pub counted : (bs : List BlockCert) (k m n : ℕ) → Ascend (map (λ b. b.block) bs)
    → ((i : ℕ) → is_among (map (λ b. b.block) bs) i ≡ (nat_le k i && nat_lt i m)) → k ≤ n → n < m → IsLine bs k n
counted [] k m n a h l r = let e : false ≡ (nat_le k n && nat_lt n m) = h n in absurd (grind (arith, nat_tests, e, l, r))
counted (b ∷ bs) k m n a h l r = by_order (λ j g. counted bs (suc k) m n (rest_ascends bs a) j g r) (n == k) refl
  where
    rest_ascends : (cs : List BlockCert) → Ascend (b.block ∷ map (λ b. b.block) cs) → Ascend (map (λ b. b.block) cs)
    rest_ascends [] a = tt
    rest_ascends (c ∷ cs) a = a.1

    least : k ≤ b.block
    least = let e : ((b.block == b.block) || is_among (map (λ b. b.block) bs) b.block) ≡ (nat_le k b.block && nat_lt b.block m) = h b.block in grind (arith, nat_tests, e)

    later : (i : ℕ) → is_among (map (λ b. b.block) bs) i ≡ true → b.block < i
    later i e = above b.block i (map (λ b. b.block) bs) a e

    first : b.block ≡ k
    first = by_case (is_among (map (λ b. b.block) bs) k) refl
      where
        by_case : (t : Bool) → is_among (map (λ b. b.block) bs) k ≡ t → b.block ≡ k
        by_case true e = let j : b.block < k = later k e in absurd (omega (arith, j, least))
        by_case false e = let d : ((b.block == k) || is_among (map (λ b. b.block) bs) k) ≡ (nat_le k k && nat_lt k m) = h k in grind (arith, nat_tests, d, e, l, r)

    others : (i : ℕ) → is_among (map (λ b. b.block) bs) i ≡ (nat_le (suc k) i && nat_lt i m)
    others i = by_case (is_among (map (λ b. b.block) bs) i) refl
      where
        by_case : (t : Bool) → is_among (map (λ b. b.block) bs) i ≡ t → is_among (map (λ b. b.block) bs) i ≡ (nat_le (suc k) i && nat_lt i m)
        by_case true e = let j : b.block < i = later i e in let d : ((b.block == i) || is_among (map (λ b. b.block) bs) i) ≡ (nat_le k i && nat_lt i m) = h i in grind (arith, nat_tests, d, e, j, first)
        by_case false e = let d : ((b.block == i) || is_among (map (λ b. b.block) bs) i) ≡ (nat_le k i && nat_lt i m) = h i in grind (arith, nat_tests, d, e, first)

    by_order : (((i : ℕ) → is_among (map (λ b. b.block) bs) i ≡ (nat_le (suc k) i && nat_lt i m)) → suc k ≤ n → IsLine bs (suc k) n) → (t : Bool)
        → (n == k) ≡ t → IsLine (b ∷ bs) k n
    by_order rec true e =
        let same : b.block ≡ n = grind (arith, nat_tests, e, first) in
        let test : (b.block == n) ≡ true = grind (arith, nat_tests, same) in
        let none : 0 ≡ n - k = grind (arith, nat_tests, e) in
        record {
          line = b;
          found = ap (λ t. if t then Some b else block_of bs n) test;
          stands = ap (slice_get (b ∷ bs)) (sym none);
          number = same;
        }
    by_order rec false e =
        let more : suc k ≤ n = grind (arith, nat_tests, e, l) in
        let test : (b.block == n) ≡ false = grind (arith, nat_tests, first, e) in
        let there : IsLine bs (suc k) n = rec others more in
        let one : suc (n - suc k) ≡ n - k = omega (arith, more) in
        record {
          line = there.line;
          found = ap (λ t. if t then Some b else block_of bs n) test ∙ there.found;
          stands = ap (slice_get (b ∷ bs)) (sym one) ∙ there.stands;
          number = there.number;
        }

-- the line of a block after the first
pub line_is : (bs : List BlockCert) (n : ℕ) → 1 ≤ n → line_at bs n ≡ slice_get bs (n - 1)
line_is bs n h = let e : (n == 0) ≡ false = grind (arith, nat_tests, h) in ap (λ t. if t then None else slice_get bs (n - 1)) e

-- ---- lists by places

pub set_here : (vs : List Vector) (x : ℕ) (v : Vector) → x < length vs → slice_get (slice_set vs x v) x ≡ Some v
set_here [] x v h = absurd (omega (arith, h))
set_here (w ∷ vs) zero v h = refl
set_here (w ∷ vs) (suc x) v h = set_here vs x v (omega (arith, h))

pub set_other : (vs : List Vector) (x y : ℕ) (v : Vector) → (x ≡ y → ⊥) → slice_get (slice_set vs x v) y ≡ slice_get vs y
set_other [] x y v h = refl
set_other (w ∷ vs) zero zero v h = absurd (h refl)
set_other (w ∷ vs) zero (suc y) v h = refl
set_other (w ∷ vs) (suc x) zero v h = refl
set_other (w ∷ vs) (suc x) (suc y) v h = set_other vs x y v (λ e. h (ap suc e))

pub set_length : (vs : List Vector) (x : ℕ) (v : Vector) → length (slice_set vs x v) ≡ length vs
set_length [] x v = refl
set_length (w ∷ vs) zero v = refl
set_length (w ∷ vs) (suc x) v = ap suc (set_length vs x v)

pub all_length : (slots : List Vector) (vars : List VarCert) → length (put_all slots vars) ≡ length slots
all_length slots [] = refl
all_length slots (v ∷ vs) = all_length (slice_set slots v.var v.vector) vs ∙ set_length slots v.var v.vector

others_kept : (slots : List Vector) (vars : List VarCert) (x : ℕ) → AllByRecursion (λ w. x < w.var) vars → slice_get (put_all slots vars) x ≡ slice_get slots x
others_kept slots [] x h = refl
others_kept slots (v ∷ vs) x h = others_kept (slice_set slots v.var v.vector) vs x h.1 ∙ set_other slots v.var x v.vector (λ e. omega (arith, e, h.0))

var_others : (v : VarCert) (vs : List VarCert) → LinesAscend (v ∷ vs) → LinesAscend vs
var_others v [] h = tt
var_others v (w ∷ vs) h = h.1

vars_above : (n : ℕ) (v : VarCert) (vs : List VarCert) → n ≤ v.var → LinesAscend (v ∷ vs) → AllByRecursion (λ w. n < w.var) vs
vars_above n v [] h a = tt
vars_above n v (w ∷ vs) h a = (omega (arith, h, a.0), vars_above n w vs (omega (arith, h, a.0)) a.1)

-- each local carries what its line says
pub put_is : (slots : List Vector) (vars : List VarCert) (x : ℕ) → LinesAscend vars → x < length slots → slice_get slots x ≡ Some []
    → slice_get (put_all slots vars) x ≡ Some (vector_of vars x)
put_is slots [] x a h e = e
put_is slots (v ∷ vs) x a h e = by_test (λ k. put_is (slice_set slots v.var v.vector) vs x (var_others v vs a) (subst (λ n. x < n) (sym (set_length slots v.var v.vector)) h) k) (v.var == x) refl
  where
    by_test : (slice_get (slice_set slots v.var v.vector) x ≡ Some [] → slice_get (put_all (slice_set slots v.var v.vector) vs) x ≡ Some (vector_of vs x)) → (t : Bool) → (v.var == x) ≡ t
        → slice_get (put_all (slice_set slots v.var v.vector) vs) x ≡ Some (if t then v.vector else vector_of vs x)
    by_test rec true d =
        let same : v.var ≡ x = grind (arith, nat_tests, d) in
        others_kept (slice_set slots v.var v.vector) vs x (vars_above x v vs (omega (arith, same)) a) ∙ subst (λ y. slice_get (slice_set slots v.var v.vector) y ≡ Some v.vector) same (set_here slots v.var v.vector (omega (arith, same, h)))
    by_test rec false d = rec (set_other slots v.var x v.vector (λ same. grind (arith, nat_tests, d, same)) ∙ e)

pub none_at : (n x : ℕ) (v : Vector) → x < n → slice_get (replicate n v) x ≡ Some v
none_at zero x v h = absurd (omega (arith, h))
none_at (suc n) zero v h = refl
none_at (suc n) (suc x) v h = none_at n x v (omega (arith, h))

-- ---- limits

pub at_few : (v : Vector) → VectorIsWithin v → (c : ℕ) → at v c ≤ 2147483648
at_few [] h c = omega arith
at_few (p ∷ ps) h c = by_test (at_few ps h.1 c) (p.0 == c)
  where
    by_test : at ps c ≤ 2147483648 → (t : Bool) → (if t then p.1 else at ps c) ≤ 2147483648
    by_test rec true = h.0.1
    by_test rec false = rec

pub make_few : (ms : List MakeCert) (b p : ℕ) → AllByRecursion MakeIsWithin ms → (c : ℕ) → at (make_of ms b p) c ≤ 2147483648
make_few [] b p h c = omega arith
make_few (m ∷ ms) b p h c = by_test (make_few ms b p h.1 c) ((m.block == b) && (m.place == p))
  where
    by_test : at (make_of ms b p) c ≤ 2147483648 → (t : Bool) → at (if t then m.vector else make_of ms b p) c ≤ 2147483648
    by_test rec true = at_few m.vector h.0.vector c
    by_test rec false = rec

pub var_few : (vars : List VarCert) (x : ℕ) → AllByRecursion VarIsWithin vars → (c : ℕ) → at (vector_of vars x) c ≤ 2147483648
var_few [] x h c = omega arith
var_few (v ∷ vs) x h c = by_test (var_few vs x h.1 c) (v.var == x)
  where
    by_test : at (vector_of vs x) c ≤ 2147483648 → (t : Bool) → at (if t then v.vector else vector_of vs x) c ≤ 2147483648
    by_test rec true = at_few v.vector h.0.vector c
    by_test rec false = rec
