-- Where lines of a certificate stand: those of blocks behind as many others, and those of builds in front of what is
-- left of them.
use Rattle.std.proofs.Common.{◌≡◌, ◌⊎◌, ℕ, zero, suc, ◌+◌, ◌<◌, ◌≤◌, Bool, true, false, List, [], ◌∷◌, length, map, drop, Option, Some, None, refl, sym, ap, ◌∙◌, subst, arith, inl, inr}
use Rattle.std.specs.Prelude.{◌==◌, ◌||◌, ◌&&◌, nat_lt, cond, if◌then◌else◌, slice_get}
use Rattle.std.specs.List.{AllByRecursion}
use Rattle.std.specs.Option.{option_map_or}
use Rattle.std.proofs.lemmas.Bool.Decides.{nat_tests}
use Rattle.camelot_values.specs.Lists.{Ascend}
use Rattle.certificate.specs.Certificates.{VarCert, BlockCert, MakeCert, FuncCert, MakesAscend, BlockIsWithin, FuncIsWithin}
use Rattle.certificate.specs.Words.{var_of}
use Rattle.certificate.specs.declared.types.VarCert.{VarCert as DeclaredVar}
use Rattle.licence.specs.Books.{vector_of, block_of, make_of}
use Rattle.frame_accounts.specs.Tables.{lines_before, makes_before}
use Rattle.frame_accounts.specs.Walk.{AreLeft, first_need, makes_from, in_front}

-- ---- lines of blocks

none_above : (k n : ℕ) (bs : List BlockCert) → Ascend (k ∷ map (λ b. b.block) bs) → n < k → block_of bs n ≡ None
none_above k n [] a less = refl
none_above k n (b ∷ bs) a less = by_test (none_above b.block n bs a.1 (omega (arith, less, a.0))) (b.block == n) refl
  where
    by_test : block_of bs n ≡ None → (t : Bool) → (b.block == n) ≡ t → (if t then Some b else block_of bs n) ≡ None
    by_test rec true e = let same : b.block ≡ n = grind (arith, nat_tests, e) in let above : k < b.block = a.0 in absurd (omega (arith, less, above, same))
    by_test rec false e = rec

others : (k : ℕ) (ks : List ℕ) → Ascend (k ∷ ks) → Ascend ks
others k [] a = tt
others k (j ∷ ks) a = a.1

-- the line in front, where it is of this block
abbrev only_of : ℕ → Option BlockCert → Option BlockCert
only_of n None = None
only_of n (Some b) = if b.block == n then Some b else None

found_at : (n : ℕ) (bs : List BlockCert) → Ascend (map (λ b. b.block) bs) → block_of bs n ≡ only_of n (slice_get bs (lines_before bs n))
found_at n [] a = refl
found_at n (b ∷ bs) a = by_order (found_at n bs (others b.block (map (λ b. b.block) bs) a)) (nat_lt b.block n) refl
  where
    by_test : nat_lt b.block n ≡ false → (t : Bool) → (b.block == n) ≡ t → (if t then Some b else block_of bs n) ≡ (if t then Some b else None)
    by_test e true d = refl
    by_test e false d = none_above b.block n bs a (grind (arith, nat_tests, e, d))

    by_order : block_of bs n ≡ only_of n (slice_get bs (lines_before bs n)) → (t : Bool) → nat_lt b.block n ≡ t
        → (if b.block == n then Some b else block_of bs n) ≡ only_of n (slice_get (b ∷ bs) (cond t (1 + lines_before bs n) 0))
    by_order rec true e =
        let other : (b.block == n) ≡ false = grind (arith, nat_tests, e) in
        let more : 1 + lines_before bs n ≡ suc (lines_before bs n) = omega arith in
        ap (λ t. if t then Some b else block_of bs n) other ∙ rec ∙ ap (λ k. only_of n (slice_get (b ∷ bs) k)) (sym more)
    by_order rec false e = by_test e (b.block == n) refl

pub line_told : (n place : ℕ) (bs : List BlockCert) (o : Option BlockCert) → place ≡ lines_before bs n → Ascend (map (λ b. b.block) bs) → slice_get bs place ≡ o
    → block_of bs n ≡ only_of n o
line_told n place bs o at a e = found_at n bs a ∙ ap (λ k. only_of n (slice_get bs k)) (sym at) ∙ ap (only_of n) e

pub line_there : (n place : ℕ) (bs : List BlockCert) (b : BlockCert) → place ≡ lines_before bs n → Ascend (map (λ b. b.block) bs) → slice_get bs place ≡ Some b → b.block ≡ n
    → Some b ≡ block_of bs n
line_there n place bs b at a e same =
    let test : (b.block == n) ≡ true = grind (arith, nat_tests, same) in
    sym (line_told n place bs (Some b) at a e ∙ ap (λ t. if t then Some b else None) test)

pub line_of_later : (n place : ℕ) (bs : List BlockCert) (b : BlockCert) → place ≡ lines_before bs n → Ascend (map (λ b. b.block) bs) → slice_get bs place ≡ Some b → (b.block ≡ n → ⊥)
    → None ≡ block_of bs n
line_of_later n place bs b at a e differs = sym (line_told n place bs (Some b) at a e ∙ by_test (b.block == n) refl)
  where
    by_test : (t : Bool) → (b.block == n) ≡ t → (if t then Some b else None) ≡ None
    by_test true d = absurd (differs (grind (arith, nat_tests, d)))
    by_test false d = refl

pub no_line_there : (n place : ℕ) (bs : List BlockCert) → place ≡ lines_before bs n → Ascend (map (λ b. b.block) bs) → slice_get bs place ≡ None → None ≡ block_of bs n
no_line_there n place bs at a e = sym (line_told n place bs None at a e)

-- what a block needs is within the limits
need_within : (n : ℕ) (bs : List BlockCert) → AllByRecursion BlockIsWithin bs → option_map_or (λ (b : BlockCert). b.need) (block_of bs n) 0 ≤ 1099511627776
need_within n [] h = omega arith
need_within n (b ∷ bs) h = by_test (need_within n bs h.1) (b.block == n)
  where
    few : b.need ≤ 1099511627776
    few = h.0.need

    by_test : option_map_or (λ (b : BlockCert). b.need) (block_of bs n) 0 ≤ 1099511627776 → (t : Bool)
        → option_map_or (λ (b : BlockCert). b.need) (if t then Some b else block_of bs n) 0 ≤ 1099511627776
    by_test rec true = few
    by_test rec false = rec

pub few_need : (own : FuncCert) (n : ℕ) → FuncIsWithin own → first_need own n ≤ 1099511627776
few_need own n within = by_test (n == 0)
  where
    by_test : (t : Bool) → (if t then own.need else option_map_or (λ (b : BlockCert). b.need) (block_of own.blocks n) 0) ≤ 1099511627776
    by_test true = within.need
    by_test false = need_within n own.blocks within.blocks

-- ---- lines of locals

var_here : (v : VarCert) (vs : List VarCert) (x : ℕ) → v.var ≡ x → v.vector ≡ vector_of (v ∷ vs) x
var_here v vs x e = let t : (v.var == x) ≡ true = grind (arith, nat_tests, e) in sym (ap (λ b. if b then v.vector else vector_of vs x) t)

var_later : (v : VarCert) (vs : List VarCert) (x : ℕ) → (v.var ≡ x → ⊥) → vector_of vs x ≡ vector_of (v ∷ vs) x
var_later v vs x n = by_test (v.var == x) refl
  where
    by_test : (b : Bool) → (v.var == x) ≡ b → vector_of vs x ≡ (if b then v.vector else vector_of vs x)
    by_test true e = absurd (n (grind (arith, nat_tests, e)))
    by_test false e = refl

-- the line at this place, and those behind it
record Split (vars : List DeclaredVar) (i : ℕ) (v : DeclaredVar) : Type 0 where
  is : drop i vars ≡ v ∷ drop (suc i) vars

split : (vars : List DeclaredVar) (i : ℕ) (v : DeclaredVar) → slice_get vars i ≡ Some v → Split vars i v
split [] i v e = let c : None ≡ Some v = e in absurd cc
split (w ∷ vars) zero v e = let same : w ≡ v = cc in record { is = ap (λ u. u ∷ vars) same }
split (w ∷ vars) (suc i) v e = record { is = (split vars i v e).is }

pub here : (vars : List DeclaredVar) (i x : ℕ) (v : DeclaredVar) → slice_get vars i ≡ Some v
    → vector_of (map var_of (drop i vars)) x ≡ vector_of (map var_of vars) x → v.var ≡ x → v.vector ≡ vector_of (map var_of vars) x
here vars i x v at known e =
    let s = split vars i v at in
    var_here (var_of v) (map var_of (drop (suc i) vars)) x e ∙ sym (ap (λ vs. vector_of (map var_of vs) x) s.is) ∙ known

pub later : (vars : List DeclaredVar) (i x : ℕ) (v : DeclaredVar) → slice_get vars i ≡ Some v
    → vector_of (map var_of (drop i vars)) x ≡ vector_of (map var_of vars) x → (v.var ≡ x → ⊥)
    → vector_of (map var_of (drop (i + 1) vars)) x ≡ vector_of (map var_of vars) x
later vars i x v at known n =
    let s = split vars i v at in
    let next : i + 1 ≡ suc i = omega arith in
    ap (λ j. vector_of (map var_of (drop j vars)) x) next ∙ var_later (var_of v) (map var_of (drop (suc i) vars)) x n ∙ sym (ap (λ vs. vector_of (map var_of vs) x) s.is) ∙ known

drop_nothing : {A : Type 0} (i : ℕ) → ◌≡◌ {A = List A} (drop i []) []
drop_nothing zero = refl
drop_nothing (suc i) = refl

drop_all : {A : Type 0} (xs : List A) (i : ℕ) → length xs ≤ i → drop i xs ≡ []
drop_all [] i h = drop_nothing i
drop_all (x ∷ xs) zero h = absurd (omega (arith, h))
drop_all (x ∷ xs) (suc i) h = drop_all xs i (omega (arith, h))

pub nowhere : (vars : List DeclaredVar) (i x : ℕ) → length vars ≤ i → vector_of (map var_of (drop i vars)) x ≡ vector_of (map var_of vars) x
    → [] ≡ vector_of (map var_of vars) x
nowhere vars i x h known = sym (ap (λ vs. vector_of (map var_of vs) x) (drop_all vars i h)) ∙ known

-- ---- lines of builds

-- the line stands behind this place
abbrev IsBehind : ℕ → ℕ → MakeCert → Type 0
IsBehind block place m = (block < m.block) ⊎ ((block ≡ m.block) × (place < m.place))

makes_others : (m : MakeCert) (ms : List MakeCert) → MakesAscend (m ∷ ms) → MakesAscend ms
makes_others m [] h = tt
makes_others m (n ∷ ms) h = h.2

next_behind : (b p : ℕ) (m n : MakeCert) → IsBehind b p m → m.block ≤ n.block → (m.block ≡ n.block → m.place < n.place) → IsBehind b p n
next_behind b p m n (inl l) h k = inl (omega (arith, l, h))
next_behind b p m n (inr e) h k = by_case (m.block == n.block) refl
  where
    by_case : (t : Bool) → (m.block == n.block) ≡ t → IsBehind b p n
    by_case true d = let same : m.block ≡ n.block = grind (arith, nat_tests, d) in inr (e.0 ∙ same, omega (arith, e.1, k same))
    by_case false d = inl (grind (arith, nat_tests, d, h, e.0))

all_behind : (b p : ℕ) (m : MakeCert) (ms : List MakeCert) → IsBehind b p m → MakesAscend (m ∷ ms) → AllByRecursion (IsBehind b p) ms
all_behind b p m [] h a = tt
all_behind b p m (n ∷ ms) h a = let k : IsBehind b p n = next_behind b p m n h a.0 a.1 in (k, all_behind b p n ms k a.2)

none_behind : (b p : ℕ) (ms : List MakeCert) → AllByRecursion (IsBehind b p) ms → make_of ms b p ≡ []
none_behind b p [] h = refl
none_behind b p (m ∷ ms) h = by_test (none_behind b p ms h.1) h.0
  where
    other : IsBehind b p m → ((m.block == b) && (m.place == p)) ≡ false
    other (inl l) = grind (arith, nat_tests, l)
    other (inr e) = grind (arith, nat_tests, e.0, e.1)

    by_test : make_of ms b p ≡ [] → IsBehind b p m → (if (m.block == b) && (m.place == p) then m.vector else make_of ms b p) ≡ []
    by_test rec k = ap (λ t. if t then m.vector else make_of ms b p) (other k) ∙ rec

-- the line of this place is the one in front of what is left from it on
pub front_is : (b p : ℕ) (ms : List MakeCert) → MakesAscend ms → in_front b p (makes_from b p ms) ≡ make_of ms b p
front_is b p [] a = refl
front_is b p (m ∷ ms) a = by_test (front_is b p ms (makes_others m ms a)) (nat_lt m.block b || ((m.block == b) && nat_lt m.place p)) refl
  where
    by_same : (t : Bool) → ((m.block == b) && (m.place == p)) ≡ t → (nat_lt m.block b || ((m.block == b) && nat_lt m.place p)) ≡ false
        → (if t then m.vector else []) ≡ (if t then m.vector else make_of ms b p)
    by_same true d e = refl
    by_same false d e = sym (none_behind b p ms (all_behind b p m ms (behind (nat_lt b m.block) refl) a))
      where
        behind : (u : Bool) → nat_lt b m.block ≡ u → IsBehind b p m
        behind true k = inl (grind (arith, nat_tests, k))
        behind false k = let same : b ≡ m.block = grind (arith, nat_tests, d, e, k) in let more : p < m.place = grind (arith, nat_tests, d, e, same) in inr (same, more)

    by_test : in_front b p (makes_from b p ms) ≡ make_of ms b p → (t : Bool) → (nat_lt m.block b || ((m.block == b) && nat_lt m.place p)) ≡ t
        → in_front b p (if t then makes_from b p ms else m ∷ ms) ≡ make_of (m ∷ ms) b p
    by_test rec true e = rec ∙ sym (ap (λ t. if t then m.vector else make_of ms b p) other)
      where
        other : ((m.block == b) && (m.place == p)) ≡ false
        other = grind (arith, nat_tests, e)
    by_test rec false e = by_same ((m.block == b) && (m.place == p)) refl e

from_ascends : (b p : ℕ) (ms : List MakeCert) → MakesAscend ms → MakesAscend (makes_from b p ms)
from_ascends b p [] a = tt
from_ascends b p (m ∷ ms) a = by_test (from_ascends b p ms (makes_others m ms a)) (nat_lt m.block b || ((m.block == b) && nat_lt m.place p))
  where
    by_test : MakesAscend (makes_from b p ms) → (t : Bool) → MakesAscend (if t then makes_from b p ms else m ∷ ms)
    by_test rec true = rec
    by_test rec false = a

-- lines of places from this one on are kept
from_keeps : (b p q : ℕ) (ms : List MakeCert) → p ≤ q → make_of (makes_from b p ms) b q ≡ make_of ms b q
from_keeps b p q [] h = refl
from_keeps b p q (m ∷ ms) h = by_test (from_keeps b p q ms h) (nat_lt m.block b || ((m.block == b) && nat_lt m.place p)) refl
  where
    by_test : make_of (makes_from b p ms) b q ≡ make_of ms b q → (t : Bool) → (nat_lt m.block b || ((m.block == b) && nat_lt m.place p)) ≡ t
        → make_of (if t then makes_from b p ms else m ∷ ms) b q ≡ (if (m.block == b) && (m.place == q) then m.vector else make_of ms b q)
    by_test rec true e = let other : ((m.block == b) && (m.place == q)) ≡ false = grind (arith, nat_tests, e, h) in rec ∙ sym (ap (λ t. if t then m.vector else make_of ms b q) other)
    by_test rec false e = refl

-- the line in front is that of the next let
pub made_next : (own : FuncCert) (b n k : ℕ) (ms rest : List MakeCert) → AreLeft own b (suc n) ms → rest ≡ makes_from b (n + 1) ms → k ≡ n
    → in_front b (n + 1) rest ≡ make_of own.makes b (suc k)
made_next own b n k ms rest a e same =
    ap (in_front b (n + 1)) e ∙ front_is b (n + 1) ms a.ascending ∙ a.same (n + 1) (omega arith)
    ∙ ap (make_of own.makes b) (let p : n + 1 ≡ suc k = omega (arith, same) in p)

-- and behind it the lines that are left say the same
pub left_next : (own : FuncCert) (b n : ℕ) (ms rest : List MakeCert) → AreLeft own b (suc n) ms → rest ≡ makes_from b (n + 1) ms → AreLeft own b (suc (n + 1)) rest
left_next own b n ms rest a e = record {
  ascending = subst MakesAscend (sym e) (from_ascends b (n + 1) ms a.ascending);
  same = λ further h. ap (λ l. make_of l b further) e ∙ from_keeps b (n + 1) further ms (omega (arith, h)) ∙ a.same further (omega (arith, h));
}

-- Lines in front of a block are of other blocks.
drop_ascends : (n : ℕ) (ms : List MakeCert) → MakesAscend ms → MakesAscend (drop n ms)
drop_ascends zero ms a = a
drop_ascends (suc n) [] a = tt
drop_ascends (suc n) (m ∷ ms) a = drop_ascends n ms (makes_others m ms a)

drop_keeps : (b p : ℕ) (ms : List MakeCert) → make_of (drop (makes_before ms b) ms) b p ≡ make_of ms b p
drop_keeps b p [] = refl
drop_keeps b p (m ∷ ms) = by_order (drop_keeps b p ms) (nat_lt m.block b) refl
  where
    by_order : make_of (drop (makes_before ms b) ms) b p ≡ make_of ms b p → (t : Bool) → nat_lt m.block b ≡ t
        → make_of (drop (cond t (1 + makes_before ms b) 0) (m ∷ ms)) b p ≡ (if (m.block == b) && (m.place == p) then m.vector else make_of ms b p)
    by_order rec true e =
        let other : ((m.block == b) && (m.place == p)) ≡ false = grind (arith, nat_tests, e) in
        let more : 1 + makes_before ms b ≡ suc (makes_before ms b) = omega arith in
        ap (λ k. make_of (drop k (m ∷ ms)) b p) more ∙ rec ∙ sym (ap (λ t. if t then m.vector else make_of ms b p) other)
    by_order rec false e = refl

pub left_at_first : (own : FuncCert) (b n : ℕ) (rest : List MakeCert) → MakesAscend own.makes → n ≡ makes_before own.makes b → rest ≡ drop n own.makes → AreLeft own b 1 rest
left_at_first own b n rest a at e =
    let same : rest ≡ drop (makes_before own.makes b) own.makes = e ∙ ap (λ k. drop k own.makes) at in
    record {
      ascending = subst MakesAscend (sym same) (drop_ascends (makes_before own.makes b) own.makes a);
      same = λ further h. ap (λ l. make_of l b further) same ∙ drop_keeps b further own.makes;
    }
