-- Two vectors walked side by side.
use Rattle.std.proofs.Common.{◌≡◌, ◌⊎◌, ◌↔◌, ℕ, suc, length, get_or, drop, drop-cons, drop_of_length-le, add-one, ◌+◌, ◌<◌, ◌≤◌, Bool, true, false, List, [], ◌∷◌, Option, Some, None, MatchOption, IsTrue, refl, sym, ap, ◌∙◌, subst, inl, inr, arith}
use Rattle.std.specs.Prelude.{nat_lt, ◌==◌, ◌&&◌, if◌then◌else◌}
use Rattle.std.proofs.lemmas.Bool.Decides.{nat_tests}
use Rattle.std.proofs.lemmas.Bool.{cases_lt}
use Rattle.camelot_values.specs.Kinds.{DataType}
use Rattle.camelot_values.specs.Heap.{Reaches}
use Rattle.camelot_values.specs.ReachLaws.{reached_is}
use Rattle.camelot_values.specs.declared.kinds.Kind.{Kind}
use Rattle.annotations.specs.Vectors.{Vector, IsVector, at, AtLeast, IsFirstBelow}
use Rattle.annotations.specs.Steps.{pairs_from, in_front, first_below, wants}
use Rattle.annotations.specs.Tables.{Table, table_of, is_in}
use Rattle.annotations.proofs.Lookups.{Ascending, others_ascend}
use Rattle.annotations.proofs.Rows.{table_says}

-- the test that the code asks is the one of the walk
same_test : (a b : Bool) → (a ≡ true → b ≡ true) → (b ≡ true → a ≡ true) → a ≡ b
same_test true b h k = sym (h refl)
same_test false true h k = k refl
same_test false false h k = refl

pub is_wanted : (types : List DataType) (q : Kind) (con have need : ℕ) (b : Bool) → have < need → IsTrue b ↔ Reaches types q con
    → b ≡ (nat_lt have need && wants types q con)
is_wanted types q con have need b less h =
    let r = reached_is types q con in
    let e : nat_lt have need ≡ true = grind (arith, nat_tests, less) in
    same_test b (wants types q con) (λ k. r.1 (h.0 k)) (λ k. h.1 (r.0 k)) ∙ ap (λ x. x && wants types q con) (sym e)

-- ---- units of constructors in order

-- nothing stands behind that isn't above
below_others : (p : ℕ × ℕ) (ps : Vector) (con : ℕ) → Ascending (p ∷ ps) → con ≤ p.0 → at ps con ≡ 0
below_others p [] con h k = refl
below_others p (q ∷ qs) con h k = grind (arith, nat_tests, h.0, below_others q qs con h.1 (omega (arith, h.0, k)))

-- what is left out is below
from_keeps : (con : ℕ) (ps : Vector) (k : ℕ) → con ≤ k → at (pairs_from con ps) k ≡ at ps k
from_keeps con [] k h = refl
from_keeps con (p ∷ ps) k h = grind (arith, nat_tests, from_keeps con ps k h)

from_ascends : (con : ℕ) (ps : Vector) → Ascending ps → Ascending (pairs_from con ps)
from_ascends con [] h = tt
from_ascends con (p ∷ ps) h = by_test (nat_lt p.0 con) (from_ascends con ps (others_ascend p ps h))
  where
    by_test : (b : Bool) → Ascending (pairs_from con ps) → Ascending (if b then pairs_from con ps else p ∷ ps)
    by_test true f = f
    by_test false f = h

front_is : (con : ℕ) (ps : Vector) → Ascending ps → in_front con (pairs_from con ps) ≡ at ps con
front_is con [] h = refl
front_is con (p ∷ ps) h = by_test (nat_lt p.0 con) refl (front_is con ps (others_ascend p ps h))
  where
    by_test : (b : Bool) → nat_lt p.0 con ≡ b → in_front con (pairs_from con ps) ≡ at ps con
        → in_front con (if b then pairs_from con ps else p ∷ ps) ≡ at (p ∷ ps) con
    by_test true e f = grind (arith, nat_tests, e, f)
    by_test false e f = grind (arith, nat_tests, e, below_others p ps con h)

-- ---- what the walk comes to

abbrev pub IsWalked : (ℕ → Bool) → (left right : ℕ → ℕ) → Option ℕ → Type 0
IsWalked wanted left right None = (k : ℕ) → wanted k ≡ true → right k ≤ left k
IsWalked wanted left right (Some con) = (wanted con ≡ true) × (left con < right con) × ((k : ℕ) → k < con → wanted k ≡ true → right k ≤ left k)

module _ (wanted : ℕ → Bool) (left : Vector) (p : ℕ × ℕ) (ps : Vector) (ordered : Ascending (p ∷ ps)) where
  -- of one constructor, by what is left of both
  point : (k : ℕ) → wanted k ≡ true → (wanted p.0 ≡ true → p.1 ≤ at left p.0) → at ps k ≤ at (pairs_from p.0 left) k → at (p ∷ ps) k ≤ at left k
  point k w here rest = by_order (cases_lt k p.0)
    where
      by_order : (k < p.0) ⊎ (p.0 ≤ k) → at (p ∷ ps) k ≤ at left k
      by_order (inl less) = grind (arith, nat_tests, below_others p ps k ordered (omega (arith, less)))
      by_order (inr more) = by_test (p.0 == k) refl
        where
          by_test : (b : Bool) → (p.0 == k) ≡ b → (if b then p.1 else at ps k) ≤ at left k
          by_test true e = let same : p.0 ≡ k = grind (arith, nat_tests, e) in subst (λ x. p.1 ≤ at left x) same (here (ap wanted same ∙ w))
          by_test false e = omega (arith, rest, from_keeps p.0 left k more)

  there : (k : ℕ) → at (pairs_from p.0 left) k < at ps k → (at left k < at (p ∷ ps) k)
  there k h = by_order (cases_lt p.0 k)
    where
      by_order : (p.0 < k) ⊎ (k ≤ p.0) → at left k < at (p ∷ ps) k
      by_order (inl less) = grind (arith, nat_tests, from_keeps p.0 left k (omega (arith, less)), h)
      by_order (inr more) = absurd (omega (arith, h, below_others p ps k ordered more))

  past : (o : Option ℕ) → (wanted p.0 ≡ true → p.1 ≤ at left p.0) → IsWalked wanted (at (pairs_from p.0 left)) (at ps) o
      → IsWalked wanted (at left) (at (p ∷ ps)) o
  past None here h = λ k w. point k w here (h k w)
  past (Some con) here h = (h.0, there con h.1, λ k l w. point k w here (h.2 k l w))

  stop : wanted p.0 ≡ true → at left p.0 < p.1 → IsWalked wanted (at left) (at (p ∷ ps)) (Some p.0)
  stop w h = (w, grind (arith, nat_tests, h), λ k l u. grind (arith, nat_tests, l, below_others p ps k ordered (omega (arith, l))))

walked : (wanted : ℕ → Bool) (left right : Vector) → Ascending left → Ascending right → IsWalked wanted (at left) (at right) (first_below wanted left right)
unfolding first_below
walked wanted left [] h k = λ con w. omega arith
walked wanted left (p ∷ ps) h k = by_tests (nat_lt (in_front p.0 (pairs_from p.0 left)) p.1) refl (wanted p.0) refl (walked wanted (pairs_from p.0 left) ps (from_ascends p.0 left h) (others_ascend p ps k))
  where
    by_tests : (a : Bool) → nat_lt (in_front p.0 (pairs_from p.0 left)) p.1 ≡ a → (b : Bool) → wanted p.0 ≡ b
        → IsWalked wanted (at (pairs_from p.0 left)) (at ps) (first_below wanted (pairs_from p.0 left) ps)
        → IsWalked wanted (at left) (at (p ∷ ps)) (if a && b then Some p.0 else first_below wanted (pairs_from p.0 left) ps)
    by_tests true e true w f = stop wanted left p ps k w (grind (arith, nat_tests, e, front_is p.0 left h))
    by_tests true e false w f = past wanted left p ps k _ (λ u. let x : true ≡ false = sym u ∙ w in absurd cc) f
    by_tests false e b w f = past wanted left p ps k _ (λ u. grind (arith, nat_tests, e, front_is p.0 left h)) f

-- ---- in the words of the contract

abbrev pub IsCompared : List DataType → Kind → (left right : ℕ → ℕ) → Option ℕ → Type 0
IsCompared types q left right o = MatchOption o (AtLeast types q left right) (λ con. IsFirstBelow types q left right con)

compared : (types : List DataType) (q : Kind) (left right : ℕ → ℕ) (o : Option ℕ) → IsWalked (wants types q) left right o → IsCompared types q left right o
unfolding AtLeast
compared types q left right None h = λ k r. h k ((reached_is types q k).1 r)
compared types q left right (Some con) h = record {
  reached = (reached_is types q con).0 h.0;
  below = h.1;
  before = λ k l r. h.2 k l ((reached_is types q k).1 r);
}

pub answer : (types : List DataType) (q : Kind) (left right : Vector) (o : Option ℕ) → IsVector left → IsVector right
    → o ≡ first_below (wants types q) left right
    → MatchOption o (AtLeast types q (at left) (at right)) (λ con. IsFirstBelow types q (at left) (at right) con)
answer types q left right o h k e = subst (IsCompared types q (at left) (at right)) (sym e) (compared types q (at left) (at right) _ (walked (wants types q) left right h.ascending k.ascending))

none_where : (types : List DataType) (q : Kind) (left right : ℕ → ℕ) (o : Option ℕ) → IsCompared types q left right o → (o ≡ None) ↔ AtLeast types q left right
unfolding AtLeast
none_where types q left right None h = (λ e. h, λ k. refl)
none_where types q left right (Some con) h = (λ e. absurd cc, λ k. absurd (omega (arith, h.below, k con h.reached)))

pub none_exactly : (types : List DataType) (q : Kind) (left right : Vector) (o : Option ℕ) → IsVector left → IsVector right
    → o ≡ first_below (wants types q) left right → (o ≡ None) ↔ AtLeast types q (at left) (at right)
none_exactly types q left right o h k e = none_where types q (at left) (at right) o (answer types q left right o h k e)

-- ---- one entry on

-- the right's pair is gone through
abbrev pub turn : (ℕ → Bool) → Vector → ℕ × ℕ → Vector → Option ℕ
turn wanted left p ps = if nat_lt (in_front p.0 (pairs_from p.0 left)) p.1 && wanted p.0 then Some p.0 else first_below wanted (pairs_from p.0 left) ps

one_turn : (wanted : ℕ → Bool) (left : Vector) (p : ℕ × ℕ) (ps : Vector) → first_below wanted left (p ∷ ps) ≡ turn wanted left p ps
unfolding first_below
one_turn wanted left p ps = refl

entry_more : (wanted : ℕ → Bool) (left right : Vector) (i : ℕ) → i < length right
    → first_below wanted left (drop i right) ≡ turn wanted left (get_or right i (0, 0)) (drop (i + 1) right)
entry_more wanted left right i h = ap (first_below wanted left) (drop-cons right i (0, 0) h) ∙ one_turn wanted left (get_or right i (0, 0)) (drop (suc i) right) ∙ ap (λ n. turn wanted left (get_or right i (0, 0)) (drop n right)) (sym (add-one i))

no_entry : (wanted : ℕ → Bool) (left : Vector) → first_below wanted left [] ≡ None
unfolding first_below
no_entry wanted left = refl

-- what one entry showed
pub record Looked (wanted : ℕ → Bool) (left : Vector) (p : ℕ × ℕ) (rest : Vector) (have : ℕ) (b : Bool) : Type 0 where
  pub rest_is : rest ≡ pairs_from p.0 left
  pub have_is : have ≡ in_front p.0 rest
  pub test : b ≡ (nat_lt have p.1 && wanted p.0)

looked : (wanted : ℕ → Bool) (left : Vector) (p : ℕ × ℕ) (ps rest : Vector) (have : ℕ) (b : Bool) → Looked wanted left p rest have b
    → turn wanted left p ps ≡ (if b then Some p.0 else first_below wanted rest ps)
looked wanted left p ps rest have b l =
    let e : have ≡ in_front p.0 (pairs_from p.0 left) = l.have_is ∙ ap (in_front p.0) l.rest_is in
    let t : (nat_lt (in_front p.0 (pairs_from p.0 left)) p.1 && wanted p.0) ≡ b = ap (λ n. nat_lt n p.1 && wanted p.0) (sym e) ∙ sym l.test in
    ap (λ x. if x then Some p.0 else first_below wanted (pairs_from p.0 left) ps) t ∙ ap (λ r. if b then Some p.0 else first_below wanted r ps) (sym l.rest_is)

pub stops : (wanted : ℕ → Bool) (left right rest : Vector) (i have : ℕ) (b : Bool) (whole : Option ℕ) → i < length right
    → Looked wanted left (get_or right i (0, 0)) rest have b → first_below wanted left (drop i right) ≡ whole → b ≡ true → Some (get_or right i (0, 0)).0 ≡ whole
stops wanted left right rest i have b whole h l k e =
    sym (ap (λ x. if x then Some (get_or right i (0, 0)).0 else first_below wanted rest (drop (i + 1) right)) e) ∙ sym (looked wanted left (get_or right i (0, 0)) (drop (i + 1) right) rest have b l) ∙ sym (entry_more wanted left right i h) ∙ k

pub goes_on : (wanted : ℕ → Bool) (left right rest : Vector) (i have : ℕ) (b : Bool) (whole : Option ℕ) → i < length right
    → Looked wanted left (get_or right i (0, 0)) rest have b → first_below wanted left (drop i right) ≡ whole → b ≡ false → first_below wanted rest (drop (i + 1) right) ≡ whole
goes_on wanted left right rest i have b whole h l k e =
    sym (ap (λ x. if x then Some (get_or right i (0, 0)).0 else first_below wanted rest (drop (i + 1) right)) e) ∙ sym (looked wanted left (get_or right i (0, 0)) (drop (i + 1) right) rest have b l) ∙ sym (entry_more wanted left right i h) ∙ k

pub ends : (wanted : ℕ → Bool) (left right : Vector) (i : ℕ) (whole : Option ℕ) → length right ≤ i → first_below wanted left (drop i right) ≡ whole
    → None ≡ whole
ends wanted left right i whole h k = sym (ap (first_below wanted left) (drop_of_length-le right {i = i} h) ∙ no_entry wanted left) ∙ k

-- ---- by a table

same_walk : (types : List DataType) (table : Table) (q : Kind) (left right : Vector) (o : Option ℕ) → o ≡ first_below (is_in table q) left right
    → table ≡ table_of types → o ≡ first_below (wants types q) left right
same_walk types table q left right o e same = e ∙ ap (λ t. first_below (is_in t q) left right) same ∙ ap (λ w. first_below w left right) (λ i con. table_says types q con i)

pub table_answer : (types : List DataType) (table : Table) (q : Kind) (left right : Vector) (o : Option ℕ) → IsVector left → IsVector right
    → o ≡ first_below (is_in table q) left right → table ≡ table_of types
    → MatchOption o (AtLeast types q (at left) (at right)) (λ con. IsFirstBelow types q (at left) (at right) con)
table_answer types table q left right o h k e same = answer types q left right o h k (same_walk types table q left right o e same)

pub table_none : (types : List DataType) (table : Table) (q : Kind) (left right : Vector) (o : Option ℕ) → IsVector left → IsVector right
    → o ≡ first_below (is_in table q) left right → table ≡ table_of types → (o ≡ None) ↔ AtLeast types q (at left) (at right)
table_none types table q left right o h k e same = none_exactly types q left right o h k (same_walk types table q left right o e same)
