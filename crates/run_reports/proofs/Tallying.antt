-- What was counted of jobs one by one.
use Rattle.std.proofs.Common.{◌≡◌, ℕ, suc, ◌+◌, ◌*◌, ◌^◌, ◌<◌, ◌≤◌, List, [], ◌∷◌, length, map, drop, get_or, sym, ap, ◌∙◌, subst, arith, drop-cons, drop_of_length-le, add-one}
use Rattle.run_reports.specs.declared.summing.Tally.{Tally}
use Rattle.run_reports.specs.Summary.{added, none, sum}
use Rattle.run_reports.specs.Summing.{IsUnder}

-- ---- sums

add_assoc : (a b c : ℕ) → (a + b) + c ≡ a + (b + c)
add_assoc a b c = omega arith

-- a record of seven equal numbers
same : (t u : Tally) → t.done ≡ u.done → t.fuel ≡ u.fuel → t.deep ≡ u.deep → t.too_large ≡ u.too_large → t.refused ≡ u.refused → t.calls ≡ u.calls
    → t.peaks ≡ u.peaks → t ≡ u
same t u a b c d e f g = λ i. record { done = a i; fuel = b i; deep = c i; too_large = d i; refused = e i; calls = f i; peaks = g i }

assoc : (t u v : Tally) → added (added t u) v ≡ added t (added u v)
assoc t u v =
    same (added (added t u) v) (added t (added u v)) (add_assoc t.done u.done v.done) (add_assoc t.fuel u.fuel v.fuel) (add_assoc t.deep u.deep v.deep)
    (add_assoc t.too_large u.too_large v.too_large) (add_assoc t.refused u.refused v.refused) (add_assoc t.calls u.calls v.calls) (add_assoc t.peaks u.peaks v.peaks)

plus_none : (t : Tally) → added t none ≡ t
plus_none t =
    same (added t none) t (omega arith) (omega arith) (omega arith) (omega arith) (omega arith) (omega arith) (omega arith)

-- ---- jobs, by what each of them counts for

module _ {A : Type 0} (tally : A → Tally) where
  -- what was counted and what is left make the whole
  pub record Counts (all : List A) (t : Tally) (rest : List A) : Type 0 where
    pub is : added t (sum (map tally rest)) ≡ sum (map tally all)
    pub count : ℕ
    pub jobs : count + length rest ≡ length all
    pub small : IsUnder (count * 2 ^ 64) t

  pub counted_none : (all : List A) → Counts all none all
  counted_none all = record {
    is = same (added none (sum (map tally all))) (sum (map tally all)) (omega arith) (omega arith) (omega arith) (omega arith) (omega arith) (omega arith) (omega arith);
    count = 0;
    jobs = omega arith;
    small = record { done = omega arith; fuel = omega arith; deep = omega arith; too_large = omega arith; refused = omega arith; calls = omega arith; peaks = omega arith };
  }

  one_more : (all : List A) (t u v : Tally) (job : A) (rest : List A) → Counts all t (job ∷ rest)
      → u ≡ tally job → IsUnder (2 ^ 64) u → v ≡ added t u
      → Counts all v rest
  one_more all t u v job rest c is small e = record {
    is =
        let later = sum (map tally rest) in
        ap (λ x. added x later) (e ∙ ap (added t) is) ∙ assoc t (tally job) later ∙ c.is;
    count = suc c.count;
    jobs = omega (arith, c.jobs);
    small = subst (IsUnder (suc c.count * 2 ^ 64)) (sym e) (record {
      done = omega (arith, c.small.done, small.done);
      fuel = omega (arith, c.small.fuel, small.fuel);
      deep = omega (arith, c.small.deep, small.deep);
      too_large = omega (arith, c.small.too_large, small.too_large);
      refused = omega (arith, c.small.refused, small.refused);
      calls = omega (arith, c.small.calls, small.calls);
      peaks = omega (arith, c.small.peaks, small.peaks);
    });
  }

  none_left : (all rest : List A) (t : Tally) → Counts all t rest → rest ≡ [] → t ≡ sum (map tally all)
  none_left all rest t c e = sym (plus_none t) ∙ ap (λ (l : List A). added t (sum (map tally l))) (sym e) ∙ c.is

  -- there are fewer jobs than 2^63, so that no sum is too large
  pub still_small : (all rest : List A) (t : Tally) → length all < 2 ^ 63 → Counts all t rest → IsUnder (2 ^ 127) t
  still_small all rest t few c =
      let n : c.count * 2 ^ 64 ≤ 2 ^ 127 = omega (arith, c.jobs, few) in
      record {
        done = omega (arith, c.small.done, n);
        fuel = omega (arith, c.small.fuel, n);
        deep = omega (arith, c.small.deep, n);
        too_large = omega (arith, c.small.too_large, n);
        refused = omega (arith, c.small.refused, n);
        calls = omega (arith, c.small.calls, n);
        peaks = omega (arith, c.small.peaks, n);
      }

  -- ---- along a list

  pub one_behind : (xs : List A) (i : ℕ) (d : A) (t u v : Tally) → i < length xs → Counts xs t (drop i xs)
      → u ≡ tally (get_or xs i d) → IsUnder (2 ^ 64) u → v ≡ added t u
      → Counts xs v (drop (i + 1) xs)
  one_behind xs i d t u v h c each small e =
      let here : drop i xs ≡ get_or xs i d ∷ drop (i + 1) xs = drop-cons xs i d h ∙ ap (λ n. get_or xs i d ∷ drop n xs) (sym (add-one i)) in
      one_more xs t u v (get_or xs i d) (drop (i + 1) xs) (subst (Counts xs t) here c) each small e

  pub none_behind : (xs : List A) (i : ℕ) (t : Tally) → length xs ≤ i → Counts xs t (drop i xs) → t ≡ sum (map tally xs)
  none_behind xs i t h c = none_left xs (drop i xs) t c (drop_of_length-le xs {i = i} h)
