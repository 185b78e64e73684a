-- Numbers above all limits are read as one of them.
use Rattle.std.proofs.Common.{◌≡◌, ℕ, suc, ◌+◌, ◌^◌, ◌<◌, ◌≤◌, Bool, true, false, List, [], ◌∷◌, length, drop, get_or, refl, sym, ap, ◌∙◌, arith, drop-cons, drop_of_length-le, add-one, inl, inr}
use Rattle.std.specs.Prelude.{◌⊎◌, ◌==◌, ◌&&◌, nat_lt, if◌then◌else◌}
use Rattle.std.specs.List.{list_all}
use Rattle.std.proofs.lemmas.Bool.{cases_lt}
use Rattle.std.proofs.lemmas.Bool.Decides.{nat_tests}
use Rattle.camelot_values.specs.Names.{is_lower, is_tail, has_form}
use Rattle.certificate.specs.Reading.{digits_below}
use Rattle.text_lines.specs.Cuts.{behind, capped}

-- ---- the order of digits

pub below_same : (xs ys : List ℕ) (at : ℕ) (all : Bool) → at < length xs → at < length ys → get_or xs at 0 ≡ get_or ys at 0
    → digits_below (drop at xs) (drop at ys) ≡ all → digits_below (drop (at + 1) xs) (drop (at + 1) ys) ≡ all
below_same xs ys at all h k e g =
    let t : true ≡ (get_or xs at 0 == get_or ys at 0) = grind (arith, nat_tests, e) in
    ap (λ n. digits_below (drop n xs) (drop n ys)) (add-one at) ∙ ap (λ t. if t then digits_below (drop (suc at) xs) (drop (suc at) ys) else nat_lt (get_or xs at 0) (get_or ys at 0)) t
    ∙ ap (λ l. digits_below l (get_or ys at 0 ∷ drop (suc at) ys)) (sym (drop-cons xs at 0 h)) ∙ ap (digits_below (drop at xs)) (sym (drop-cons ys at 0 k)) ∙ g

pub below_differ : (xs ys : List ℕ) (at : ℕ) (all : Bool) → at < length xs → at < length ys → (get_or xs at 0 ≡ get_or ys at 0 → ⊥)
    → digits_below (drop at xs) (drop at ys) ≡ all → nat_lt (get_or xs at 0) (get_or ys at 0) ≡ all
below_differ xs ys at all h k e g =
    let t : false ≡ (get_or xs at 0 == get_or ys at 0) = grind (arith, nat_tests, e) in
    ap (λ t. if t then digits_below (drop (suc at) xs) (drop (suc at) ys) else nat_lt (get_or xs at 0) (get_or ys at 0)) t
    ∙ ap (λ l. digits_below l (get_or ys at 0 ∷ drop (suc at) ys)) (sym (drop-cons xs at 0 h)) ∙ ap (digits_below (drop at xs)) (sym (drop-cons ys at 0 k)) ∙ g

below_none : (xs : List ℕ) → digits_below xs [] ≡ false
below_none [] = refl
below_none (x ∷ xs) = refl

pub below_end : (xs ys : List ℕ) (at : ℕ) (all : Bool) → (length xs ≤ at) ⊎ (length ys ≤ at) → digits_below (drop at xs) (drop at ys) ≡ all → false ≡ all
below_end xs ys at all (inl h) g = sym (ap (λ l. digits_below l (drop at ys)) (drop_of_length-le xs {i = at} h)) ∙ g
below_end xs ys at all (inr h) g = sym (ap (digits_below (drop at xs)) (drop_of_length-le ys {i = at} h) ∙ below_none (drop at xs)) ∙ g

-- ---- the order of capped numbers

pub after_capped : (last number n : ℕ) → last < 2 ^ 32 → number ≡ capped n → nat_lt last number ≡ nat_lt last n
after_capped last number n h e = by_size (cases_lt last n)
  where
    by_size : (last < n) ⊎ (n ≤ last) → nat_lt last number ≡ nat_lt last n
    by_size (inl k) = let g : last < number = omega (arith, e, k, h) in grind (arith, nat_tests, g, k)
    by_size (inr k) = let g : number ≤ last = omega (arith, e, k) in grind (arith, nat_tests, g, k)

-- ---- names

pub form_none : (word : List ℕ) → (length word == 0) ≡ true → false ≡ has_form is_lower word
form_none [] h = refl
form_none (b ∷ word) h = absurd (let t : (suc (length word) == 0) ≡ false = grind (arith, nat_tests) in let e : true ≡ false = sym h ∙ t in cc)

pub form_first : (word : List ℕ) → (length word == 0) ≡ false → is_lower (get_or word 0 0) ≡ false → false ≡ has_form is_lower word
form_first [] h k = absurd cc
form_first (b ∷ word) h k = ap (λ t. t && list_all is_tail word) (sym k)

pub form_rest : (word rest : List ℕ) → (length word == 0) ≡ false → is_lower (get_or word 0 0) ≡ true → rest ≡ behind word
    → list_all is_tail rest ≡ has_form is_lower word
form_rest [] rest h k e = absurd cc
form_rest (b ∷ word) rest h k e = ap (list_all is_tail) e ∙ ap (λ t. t && list_all is_tail word) (sym k)
