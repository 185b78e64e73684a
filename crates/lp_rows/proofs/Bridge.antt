-- Forms in 64 bits: sums and differences go with wrapping, and nothing of a code's checks is cut.
use Rattle.std.proofs.Common.{◌≡◌, ℕ, zero, suc, ◌≤◌, Bool, true, false, ℤ, pos, negsuc, ◌+ℤ◌, List, [], ◌∷◌, ◌++◌, map, refl, sym, ap, ◌∙◌, arith}
use Rattle.std.specs.Prelude.{◌-ℤ◌, neg_ℤ, if◌then◌else◌, cond, unsigned_abs}
use Rattle.std.specs.List.{filter, AllByRecursion}
use Rattle.std.specs.Int.{w64, int_wrap, int_wrapping_add, int_wrapping_sub}
use Rattle.std.proofs.lemmas.Int.{ints, SFits-int_wrap, int_wrap_fits, wrapping_add_is, wrapping_sub_is, int_wrap-add_left, int_wrap-add_right, int_wrap-sub_right, fits_signed_from_abs}
use Rattle.dual_simplex.specs.Systems.{Inequality}
use Rattle.grail_code.specs.Code.{Code}
use Rattle.grail_code.specs.Limits.{IsWithinLimits}
use Rattle.licence.specs.Checks.{Check, checks_of}
use Rattle.lp_system.specs.Unknowns.{Unknown, Need, Back, Param, Result, BlockNeed, BlockVar, Made, same, unknowns_of}
use Rattle.lp_system.specs.Forms.{Form, forms, once, unknown_book, is_zero, terms_from, row_of, asks, rows_of}
use Rattle.lp_system.specs.theory.Natural.{checks_map, mapped_check, mapped_book}
use Rattle.lp_rows.specs.Dense.{Dense, more, less, sums, differences, plus, minus, dense, ticks, once_with, nothings, terms_less, row}
use Rattle.lp_rows.specs.Walk.{funcs_rows}
use Rattle.lp_rows.proofs.Walking.{asked, book, walked}
use Rattle.lp_system.specs.theory.Small.{Sized, SmallCheck, all_small}

-- ---- numbers

abbrev wrap : ℤ → ℤ
wrap z = int_wrap w64 z

zero_is : (z : ℤ) → is_zero z ≡ true → z ≡ pos 0
zero_is (pos zero) e = refl
zero_is (pos (suc n)) e = absurd cc
zero_is (negsuc n) e = absurd cc

-- a sum with a number that wraps to nothing
no_change : (a b : ℤ) → wrap b ≡ pos 0 → wrap (a +ℤ b) ≡ wrap a
no_change a b e = sym (int_wrap-add_right w64 a b) ∙ ap (λ z. wrap (a +ℤ z)) e ∙ ap wrap (let n : a +ℤ pos 0 ≡ a = omega (arith, ints) in n)

no_change_back : (a b : ℤ) → wrap b ≡ pos 0 → wrap (a -ℤ b) ≡ wrap a
no_change_back a b e = sym (int_wrap-sub_right w64 a b) ∙ ap (λ z. wrap (a -ℤ z)) e ∙ ap wrap (let n : a -ℤ pos 0 ≡ a = omega (arith, ints) in n)

more_is : (a b : ℤ) → wrap (a +ℤ b) ≡ more (wrap a) (wrap b)
more_is a b = by_zero (is_zero (wrap b)) refl
  where
    by_zero : (t : Bool) → is_zero (wrap b) ≡ t → wrap (a +ℤ b) ≡ cond t (wrap a) (int_wrapping_add w64 (wrap a) (wrap b))
    by_zero true e = no_change a b (zero_is (wrap b) e)
    by_zero false e = sym (wrapping_add_is w64 (wrap a) (wrap b) (SFits-int_wrap w64 a) (SFits-int_wrap w64 b) ∙ int_wrap-add_left w64 a (wrap b) ∙ int_wrap-add_right w64 a b)

less_left : (a b : ℤ) → wrap (wrap a -ℤ b) ≡ wrap (a -ℤ b)
less_left a b =
    let e : wrap a -ℤ b ≡ wrap a +ℤ neg_ℤ b = omega (arith, ints) in
    let d : a +ℤ neg_ℤ b ≡ a -ℤ b = omega (arith, ints) in
    ap wrap e ∙ int_wrap-add_left w64 a (neg_ℤ b) ∙ ap wrap d

less_is : (a b : ℤ) → wrap (a -ℤ b) ≡ less (wrap a) (wrap b)
less_is a b = by_zero (is_zero (wrap b)) refl
  where
    by_zero : (t : Bool) → is_zero (wrap b) ≡ t → wrap (a -ℤ b) ≡ cond t (wrap a) (int_wrapping_sub w64 (wrap a) (wrap b))
    by_zero true e = no_change_back a b (zero_is (wrap b) e)
    by_zero false e = sym (wrapping_sub_is w64 (wrap a) (wrap b) (SFits-int_wrap w64 a) (SFits-int_wrap w64 b) ∙ less_left a (wrap b) ∙ int_wrap-sub_right w64 a b)

-- the difference of two small numbers
small_fits : (z : ℤ) → unsigned_abs z ≤ 1030 → wrap z ≡ z
small_fits z h = int_wrap_fits w64 z (fits_signed_from_abs w64 z (omega (arith, h)))

small_less : (a b : ℤ) → unsigned_abs a ≤ 515 → unsigned_abs b ≤ 515 → less (wrap a) (wrap b) ≡ a -ℤ b
small_less a b h k = sym (less_is a b) ∙ small_fits (a -ℤ b) (omega (arith, ints, h, k))

small_sub : (a b : ℤ) → unsigned_abs a ≤ 515 → unsigned_abs b ≤ 515 → int_wrapping_sub w64 (wrap a) (wrap b) ≡ a -ℤ b
small_sub a b h k = wrapping_sub_is w64 (wrap a) (wrap b) (SFits-int_wrap w64 a) (SFits-int_wrap w64 b) ∙ less_left a (wrap b) ∙ int_wrap-sub_right w64 a b ∙ small_fits (a -ℤ b) (omega (arith, ints, h, k))

-- ---- forms

module _ (us : List Unknown) where
  abbrev in_bits : Form → Dense
  in_bits form = record { constant = wrap form.constant; factors = map (λ u. wrap (form.factor u)) us }

  sums_are : (vs : List Unknown) (f g : Unknown → ℤ) → map (λ u. wrap (f u +ℤ g u)) vs ≡ sums (map (λ u. wrap (f u)) vs) (map (λ u. wrap (g u)) vs)
  sums_are [] f g = refl
  sums_are (v ∷ vs) f g = λ i. more_is (f v) (g v) i ∷ sums_are vs f g i

  differences_are : (vs : List Unknown) (f g : Unknown → ℤ)
      → map (λ u. wrap (f u -ℤ g u)) vs ≡ differences (map (λ u. wrap (f u)) vs) (map (λ u. wrap (g u)) vs)
  differences_are [] f g = refl
  differences_are (v ∷ vs) f g = λ i. less_is (f v) (g v) i ∷ differences_are vs f g i

  plus_is : (a b : Form) → in_bits (forms.plus a b) ≡ plus (in_bits a) (in_bits b)
  plus_is a b = λ i. record { constant = more_is a.constant b.constant i; factors = sums_are us a.factor b.factor i }

  minus_is : (a b : Form) → in_bits (forms.minus a b) ≡ minus (in_bits a) (in_bits b)
  minus_is a b = λ i. record { constant = less_is a.constant b.constant i; factors = differences_are us a.factor b.factor i }

  wrap_zero : wrap (pos 0) ≡ pos 0
  wrap_zero = small_fits (pos 0) (omega arith)

  wrap_one : wrap (pos 1) ≡ pos 1
  wrap_one = small_fits (pos 1) (omega arith)

  ticks_are : (vs : List Unknown) (u : Unknown) → map (λ v. wrap (if same u v then pos 1 else pos 0)) vs ≡ ticks vs u
  ticks_are [] u = refl
  ticks_are (v ∷ vs) u = λ i. by_test (same u v) i ∷ ticks_are vs u i
    where
      by_test : (t : Bool) → wrap (if t then pos 1 else pos 0) ≡ (if t then pos 1 else pos 0)
      by_test true = wrap_one
      by_test false = wrap_zero

  nothings_are : (vs : List Unknown) → map (λ v. wrap (pos 0)) vs ≡ nothings vs
  nothings_are [] = refl
  nothings_are (v ∷ vs) = λ i. wrap_zero i ∷ nothings_are vs i

  once_is : (u : Unknown) → in_bits (once u) ≡ once_with us (pos 0) u
  once_is u = λ i. record { constant = wrap_zero i; factors = ticks_are us u i }

  book_is : mapped_book in_bits unknown_book ≡ book us
  book_is = λ i. record {
    unit = record { constant = wrap_one i; factors = nothings_are us i };
    need = λ func. once_is (Need func) i;
    back = λ func. once_is (Back func) i;
    param = λ func x con. once_is (Param func x con) i;
    result = λ func con. once_is (Result func con) i;
    block_need = λ func block. once_is (BlockNeed func block) i;
    block_var = λ func block x con. once_is (BlockVar func block x con) i;
    make = λ func block place con. once_is (Made func block place con) i;
  }

  -- ---- rows

  terms_are : (number : ℕ) (vs : List Unknown) (a b : Form) → Sized 515 a → Sized 515 b
      → terms_less number (map (λ u. wrap (a.factor u)) vs) (map (λ u. wrap (b.factor u)) vs) ≡ terms_from number vs (λ u. a.factor u -ℤ b.factor u)
  terms_are number [] a b h k = refl
  terms_are number (v ∷ vs) a b h k = λ i. cond (is_zero (here i)) (terms_are (suc number) vs a b h k i) (record { unknown = number; factor = here i } ∷ terms_are (suc number) vs a b h k i)
    where
      here : less (wrap (a.factor v)) (wrap (b.factor v)) ≡ a.factor v -ℤ b.factor v
      here = small_less (a.factor v) (b.factor v) (h.factor v) (k.factor v)

  row_is : (c : Check Form) → SmallCheck 515 c → row (in_bits c.have) (in_bits c.need) ≡ row_of us c
  row_is c h = λ i. record { terms = terms_are 0 us c.have c.need h.have h.need i; least = small_sub c.need.constant c.have.constant h.need.constant h.have.constant i }

  one_asked : (r : Inequality) (rs : List Inequality) → filter asks (r ∷ []) ++ rs ≡ cond (asks r) (r ∷ rs) rs
  one_asked r rs = by_test (asks r)
    where
      by_test : (t : Bool) → cond t (r ∷ []) [] ++ rs ≡ cond t (r ∷ rs) rs
      by_test true = refl
      by_test false = refl

  asked_is : (cs : List (Check Form)) → AllByRecursion (SmallCheck 515) cs → asked (map (mapped_check in_bits) cs) ≡ filter asks (map (row_of us) cs)
  asked_is [] h = refl
  asked_is (c ∷ cs) h = ap (λ r. filter asks (r ∷ []) ++ asked (map (mapped_check in_bits) cs)) (row_is c h.0)
      ∙ one_asked (row_of us c) (asked (map (mapped_check in_bits) cs)) ∙ ap (λ rs. cond (asks (row_of us c)) (row_of us c ∷ rs) rs) (asked_is cs h.1)

  bits_asked : (p : Code) → asked (checks_of dense p (book us)) ≡ asked (map (mapped_check in_bits) (checks_of forms p unknown_book))
  bits_asked p = ap (λ b. asked (checks_of dense p b)) (sym book_is) ∙ ap asked (sym (checks_map in_bits forms dense plus_is minus_is p unknown_book))

-- The rows of the walk are those of the system.
pub rows_are : (p : Code) → IsWithinLimits p → funcs_rows p (unknowns_of p) 0 p.funcs ≡ rows_of p
unfolding rows_of
rows_are p within = walked (unknowns_of p) p within.types ∙ bits_asked (unknowns_of p) p ∙ asked_is (unknowns_of p) (checks_of forms p unknown_book) (all_small p within)
