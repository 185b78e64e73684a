-- What a binary search finds among constructors that ascend.
use Rattle.std.proofs.Common.{◌≡◌, ◌≢◌, ◌⊎◌, ℕ, zero, suc, ◌<◌, ◌≤◌, length, map, [], ◌∷◌, get_or, Result, Ok, Err, inl, inr, refl, sym, ap, arith}
use Rattle.std.proofs.lemmas.Bool.{cases_lt}
use Rattle.std.specs.List.Sorted.{IsSearchInRange, IsBinarySearchResult, IsNonDecreasingBy}
use Rattle.std.specs.Ordering.{nat_cmp, ordering_index}
use Rattle.std.proofs.lemmas.Cmp.{ranked}
use Rattle.std.proofs.lemmas.List.Sorted.{IsNonDecreasingBy-from_default}
use Rattle.std.proofs.lemmas.Bool.Decides.{nat_tests}
use Rattle.camelot_values.specs.Lists.{Ascend}
use Rattle.annotations.specs.Vectors.{Vector, at}
use Rattle.annotations.specs.Steps.{IsFound}

-- the constructor at place i
abbrev pub con_at : Vector → ℕ → ℕ
con_at ps i = let p = get_or ps i (0, 0) in p.0

abbrev pub Ascending : Vector → Type 0
Ascending ps = Ascend (map (λ p. p.0) ps)

pub others_ascend : (p : ℕ × ℕ) (ps : Vector) → Ascending (p ∷ ps) → Ascending ps
others_ascend p [] h = tt
others_ascend p (q ∷ qs) h = h.1

above : (p : ℕ × ℕ) (ps : Vector) → Ascending (p ∷ ps) → (j : ℕ) → j < length ps → p.0 < con_at ps j
above p [] h j l = absurd (omega (arith, l))
above p (q ∷ qs) h zero l = h.0
above p (q ∷ qs) h (suc j) l = omega (arith, h.0, above q qs h.1 j (omega (arith, l)))

rises : (ps : Vector) → Ascending ps → (i j : ℕ) → i < j → j < length ps → con_at ps i < con_at ps j
rises [] h i j k l = absurd (omega (arith, l))
rises (p ∷ ps) h i zero k l = absurd (omega (arith, k))
rises (p ∷ ps) h zero (suc j) k l = above p ps h j (omega (arith, l))
rises (p ∷ ps) h (suc i) (suc j) k l = rises ps (others_ascend p ps h) i j (omega (arith, k)) (omega (arith, l))

absent : (ps : Vector) (con : ℕ) → ((j : ℕ) → j < length ps → con_at ps j ≢ con) → at ps con ≡ 0
absent [] con h = refl
absent (p ∷ ps) con h = grind (arith, nat_tests, h 0 (omega arith), absent ps con (λ j l. h (suc j) (omega (arith, l))))

present : (ps : Vector) (con i : ℕ) → i < length ps → con_at ps i ≡ con → ((j : ℕ) → j < i → con_at ps j ≢ con) → at ps con ≡ (get_or ps i (0, 0)).1
present [] con i l e h = absurd (omega (arith, l))
present (p ∷ ps) con zero l e h = grind (arith, nat_tests, e)
present (p ∷ ps) con (suc i) l e h = grind (arith, nat_tests, h 0 (omega arith), present ps con i (omega (arith, l)) e (λ j k. h (suc j) (omega (arith, k))))

module _ (ps : Vector) (ascending : Ascending ps) (con : ℕ) where
  comparisons_rise : IsNonDecreasingBy (λ p. ordering_index (nat_cmp p.0 con)) ps
  comparisons_rise = IsNonDecreasingBy-from_default (λ p. ordering_index (nat_cmp p.0 con)) ps (0, 0) (λ i j le l.
      let cons_rise : con_at ps i ≤ con_at ps j = grind (arith, rises ps ascending i j, λ (same : i ≡ j). ap (con_at ps) same) in
      grind (arith, nat_tests))

  pub found : (r : Result ℕ ℕ) → IsSearchInRange r (length ps) → IsBinarySearchResult (λ p. nat_cmp p.0 con) ps r → IsFound ps con r
  found (Ok i) l equal =
      let here : con_at ps i ≡ con = ranked _ con _ (sym (equal (0, 0))) in
      (l, present ps con i l here (λ j k same. omega (arith, rises ps ascending j i k l, here)))
  found (Err i) l parted = absent ps con (λ j k same. by_order j k same (cases_lt j i))
    where
      by_order : (j : ℕ) → j < length ps → con_at ps j ≡ con → (j < i) ⊎ (i ≤ j) → ⊥
      by_order j k same (inl less) = let e : con_at ps j < con = ranked _ con _ (sym ((parted comparisons_rise).0 j (0, 0) (omega arith) less)) in omega (arith, e)
      by_order j k same (inr more) = let e : con < con_at ps j = ranked _ con _ (sym ((parted comparisons_rise).1 j (0, 0) more k)) in omega (arith, e)
