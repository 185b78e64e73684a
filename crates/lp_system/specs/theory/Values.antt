-- Laws, for the proofs of this crate and of those above it.
-- What unknowns are worth, and what a form is worth at an assignment.
use Rattle.std.proofs.Common.{◌≡◌, ℕ, zero, suc, Bool, true, false, ℤ, pos, ◌+ℤ◌, ◌*ℤ◌, List, [], ◌∷◌, length, map, get_or, refl, sym, ap, ◌∙◌, arith}
use Rattle.std.specs.Prelude.{◌-ℤ◌, ◌||◌, if◌then◌else◌}
use Rattle.std.proofs.lemmas.Slice.Eq.{bytes_eq-Decides}
use Rattle.lp_system.specs.Unknowns.{Unknown, Need, Back, Param, Result, BlockNeed, BlockVar, Made, numbers_of, same, is_listed, NoRepeats}
use Rattle.lp_system.specs.Forms.{Form, forms, once, one_cell}
use Rattle.lp_system.specs.Found.{Assignment, value_in, IsZeroOff}
use Rattle.lp_system.specs.theory.Ring.{sums, sum_times, minus_times, zero_times, one_times}

-- ---- two unknowns are told apart by their numbers

-- the unknown of a sort with these numbers
abbrev of_sort : (sort a b c d : ℕ) → Unknown
of_sort zero a b c d = Need a
of_sort (suc zero) a b c d = Back a
of_sort (suc (suc zero)) a b c d = Param a b c
of_sort (suc (suc (suc zero))) a b c d = Result a b
of_sort (suc (suc (suc (suc zero)))) a b c d = BlockNeed a b
of_sort (suc (suc (suc (suc (suc zero))))) a b c d = BlockVar a b c d
of_sort (suc (suc (suc (suc (suc (suc n)))))) a b c d = Made a b c d

of_numbers : List ℕ → Unknown
of_numbers ns = of_sort (get_or ns 0 0) (get_or ns 1 0) (get_or ns 2 0) (get_or ns 3 0) (get_or ns 4 0)

again : (u : Unknown) → of_numbers (numbers_of u) ≡ u
unfolding of_numbers
again (Need f) = refl
again (Back f) = refl
again (Param f x c) = refl
again (Result f c) = refl
again (BlockNeed f b) = refl
again (BlockVar f b x c) = refl
again (Made f b n c) = refl

pub same_is : (u v : Unknown) → same u v ≡ true → u ≡ v
same_is u v e = sym (again u) ∙ ap of_numbers ((bytes_eq-Decides (numbers_of u) (numbers_of v)).0 e) ∙ again v

pub is_same : (u v : Unknown) → u ≡ v → same u v ≡ true
is_same u v e = (bytes_eq-Decides (numbers_of u) (numbers_of v)).1 (ap numbers_of e)

true_is_not_false : true ≡ false → ⊥
true_is_not_false e = absurd cc

pub apart : (u v : Unknown) → same u v ≡ false → u ≡ v → ⊥
apart u v e d = true_is_not_false (sym (is_same u v d) ∙ e)

pub same_back : (u v : Unknown) → same u v ≡ same v u
same_back u v = by_tests (same u v) (same v u) refl refl
  where
    by_tests : (b c : Bool) → same u v ≡ b → same v u ≡ c → b ≡ c
    by_tests true true e d = refl
    by_tests false false e d = refl
    by_tests true false e d = absurd (apart v u d (sym (same_is u v e)))
    by_tests false true e d = absurd (apart u v e (sym (same_is v u d)))

-- ---- what is listed

pub not_first : (u w : Unknown) (ws : List Unknown) → is_listed (w ∷ ws) u ≡ false → same u w ≡ false
not_first u w ws h = by_test (same u w) h
  where
    by_test : (b : Bool) → (b || is_listed ws u) ≡ false → b ≡ false
    by_test true e = e
    by_test false e = refl

pub not_later : (u w : Unknown) (ws : List Unknown) → is_listed (w ∷ ws) u ≡ false → is_listed ws u ≡ false
not_later u w ws h = by_test (same u w) h
  where
    by_test : (b : Bool) → (b || is_listed ws u) ≡ false → is_listed ws u ≡ false
    by_test true e = absurd (true_is_not_false e)
    by_test false e = e

-- ---- values of a list of unknowns

-- another unknown's value is that in the rest
other_value : (u w : Unknown) (us : List Unknown) (v : ℕ) (vs : List ℕ) → same u w ≡ false → value_in (u ∷ us) (v ∷ vs) w ≡ value_in us vs w
other_value u w us v vs e = ap (λ b. if b then v else value_in us vs w) e

others_values : (u : Unknown) (us : List Unknown) (v : ℕ) (vs : List ℕ) (ws : List Unknown) → is_listed ws u ≡ false
    → map (value_in (u ∷ us) (v ∷ vs)) ws ≡ map (value_in us vs) ws
others_values u us v vs [] h = refl
others_values u us v vs (w ∷ ws) h =
    ap (λ x. x ∷ map (value_in (u ∷ us) (v ∷ vs)) ws) (other_value u w us v vs (not_first u w ws h))
    ∙ ap (λ xs. value_in us vs w ∷ xs) (others_values u us v vs ws (not_later u w ws h))

-- Each unknown has its value.
pub values_in : (us : List Unknown) (vs : List ℕ) → NoRepeats us → length us ≡ length vs → map (value_in us vs) us ≡ vs
values_in [] [] h e = refl
values_in [] (v ∷ vs) h e = absurd (omega (arith, e))
values_in (u ∷ us) [] h e = absurd (omega (arith, e))
values_in (u ∷ us) (v ∷ vs) h e =
    ap (λ b. (if b then v else value_in us vs u) ∷ map (value_in (u ∷ us) (v ∷ vs)) us) (is_same u u refl)
    ∙ ap (λ xs. v ∷ xs) (others_values u us v vs us h.0 ∙ values_in us vs h.1 (omega (arith, e)))

-- An unknown that isn't listed is nothing.
pub value_off : (us : List Unknown) (vs : List ℕ) → IsZeroOff us (value_in us vs)
value_off [] vs u h = refl
value_off (w ∷ us) [] u h = refl
value_off (w ∷ us) (v ∷ vs) u h = other_value w u us v vs (same_back w u ∙ not_first u w us h) ∙ value_off us vs u (not_later u w us h)

-- ---- what a form is worth

-- each listed unknown's factor times its value, added up
abbrev pub sum_over : List Unknown → Assignment → (Unknown → ℤ) → ℤ
sum_over [] value factor = pos 0
sum_over (u ∷ us) value factor = (factor u *ℤ pos (value u)) +ℤ sum_over us value factor

pub sum_plus : (us : List Unknown) (value : Assignment) (f g : Unknown → ℤ) → sum_over us value (λ u. f u +ℤ g u) ≡ sum_over us value f +ℤ sum_over us value g
sum_plus [] value f g = refl
sum_plus (u ∷ us) value f g =
    let e = sum_times (f u) (g u) (pos (value u)) in
    let d = sum_plus us value f g in
    omega (arith, sums)

pub sum_minus : (us : List Unknown) (value : Assignment) (f g : Unknown → ℤ) → sum_over us value (λ u. f u -ℤ g u) ≡ sum_over us value f -ℤ sum_over us value g
sum_minus [] value f g = refl
sum_minus (u ∷ us) value f g =
    let e = minus_times (f u) (g u) (pos (value u)) in
    let d = sum_minus us value f g in
    omega (arith, sums)

pub sum_nothing : (us : List Unknown) (value : Assignment) → sum_over us value (λ u. pos 0) ≡ pos 0
sum_nothing [] value = refl
sum_nothing (u ∷ us) value =
    let e = zero_times (pos (value u)) in
    let d = sum_nothing us value in
    omega (arith, sums)

-- of an unknown that isn't listed
once_off : (us : List Unknown) (value : Assignment) (u : Unknown) → is_listed us u ≡ false → sum_over us value (once u).factor ≡ pos 0
once_off [] value u h = refl
once_off (w ∷ us) value u h =
    let e : (if same u w then pos 1 else pos 0) *ℤ pos (value w) ≡ pos 0 = ap (λ b. (if b then pos 1 else pos 0) *ℤ pos (value w)) (not_first u w us h) ∙ zero_times (pos (value w)) in
    let d = once_off us value u (not_later u w us h) in
    omega (arith, sums)

-- The sum of one unknown is its value.
pub sum_once : (us : List Unknown) (value : Assignment) (u : Unknown) → NoRepeats us → IsZeroOff us value → sum_over us value (once u).factor ≡ pos (value u)
sum_once us value u h off = by_test (is_listed us u) refl
  where
    there : (ws : List Unknown) → NoRepeats ws → is_listed ws u ≡ true → sum_over ws value (once u).factor ≡ pos (value u)
    there [] h e = absurd (true_is_not_false (sym e))
    there (w ∷ ws) h e = at_first (there ws h.1) (same u w) refl e
      where
        at_first : (is_listed ws u ≡ true → sum_over ws value (once u).factor ≡ pos (value u)) → (b : Bool) → same u w ≡ b → (b || is_listed ws u) ≡ true
            → ((if b then pos 1 else pos 0) *ℤ pos (value w)) +ℤ sum_over ws value (once u).factor ≡ pos (value u)
        at_first rec false e d =
            let z = zero_times (pos (value w)) in
            let r = rec d in
            omega (arith, sums)
        at_first rec true e d =
            let q : w ≡ u = sym (same_is u w e) in
            let off : is_listed ws u ≡ false = ap (λ x. is_listed ws x) (sym q) ∙ h.0 in
            let o = one_times (pos (value w)) in
            let z = once_off ws value u off in
            let v : pos (value w) ≡ pos (value u) = ap (λ x. pos (value x)) q in
            omega (arith, sums)

    by_test : (b : Bool) → is_listed us u ≡ b → sum_over us value (once u).factor ≡ pos (value u)
    by_test true e = there us h e
    by_test false e = once_off us value u e ∙ ap pos (sym (off u e))

-- where so many units are a cell
abbrev pub worth_of : List Unknown → ℕ → Assignment → Form → ℤ
worth_of us unit value form = (form.constant *ℤ pos unit) +ℤ sum_over us value form.factor

pub worth_plus : (us : List Unknown) (unit : ℕ) (value : Assignment) (a b : Form)
    → worth_of us unit value (forms.plus a b) ≡ worth_of us unit value a +ℤ worth_of us unit value b
worth_plus us unit value a b =
    let e = sum_times a.constant b.constant (pos unit) in
    let d = sum_plus us value a.factor b.factor in
    omega (arith, sums)

pub worth_minus : (us : List Unknown) (unit : ℕ) (value : Assignment) (a b : Form)
    → worth_of us unit value (forms.minus a b) ≡ worth_of us unit value a -ℤ worth_of us unit value b
worth_minus us unit value a b =
    let e = minus_times a.constant b.constant (pos unit) in
    let d = sum_minus us value a.factor b.factor in
    omega (arith, sums)

pub worth_once : (us : List Unknown) (unit : ℕ) (value : Assignment) (u : Unknown) → NoRepeats us → IsZeroOff us value
    → worth_of us unit value (once u) ≡ pos (value u)
worth_once us unit value u h off =
    let e = zero_times (pos unit) in
    let d = sum_once us value u h off in
    omega (arith, sums)

pub worth_cell : (us : List Unknown) (unit : ℕ) (value : Assignment) → worth_of us unit value one_cell ≡ pos unit
worth_cell us unit value =
    let e = one_times (pos unit) in
    let d = sum_nothing us value in
    omega (arith, sums)
