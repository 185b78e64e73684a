-- Steps of the reader of the second line.
use Rattle.std.proofs.Common.{◌≡◌, ℕ, zero, suc, ◌<◌, ◌≤◌, true, false, List, [], ◌∷◌, length, Option, Some, None, refl, sym, ap, ◌∙◌, subst, arith}
use Rattle.std.specs.Prelude.{◌==◌, ◌&&◌, not, codes}
use Rattle.std.specs.Option.{option_map}
use Rattle.std.specs.Str.{bytes_eq}
use Rattle.std.proofs.lemmas.Bool.Decides.{nat_tests}
use Rattle.certificate.specs.Text.{IsLineFault, IsNumberFault}
use Rattle.certificate.specs.Reading.{unit_of}
use Rattle.text_lines.specs.Cuts.{and_then, only_if, upto, from, words, further, capped, number_of}
use Rattle.certificate.specs.Steps.{HasFirst, Reading}
use Rattle.text_lines.specs.Lines.{HasLine}
use Rattle.text_lines.specs.OptionLaws.{then_is, only_is, and_both}
use Rattle.text_lines.specs.CutLaws.{words_cut, no_words}
use Rattle.certificate.proofs.Pairs.{there, not_there, then_none, only_none, and_left, and_right}
use Rattle.certificate.proofs.ItemSteps.{exact}
use Rattle.certificate.proofs.Stopping.{unit_wrong, unit_wide, unit_begins}

pub no_second : (line tag rest : List ℕ) → words line ≡ tag ∷ further rest → further rest ≡ [] → None ≡ option_map capped (unit_of (words line))
unfolding unit_of
no_second line tag rest e f = ap (λ l. option_map capped (unit_of l)) (sym (e ∙ ap (λ l. tag ∷ l) f))

pub more_words : (line tag rest word after : List ℕ) → words line ≡ tag ∷ further rest → further rest ≡ word ∷ further after
    → (length after == 0) ≡ false → None ≡ option_map capped (unit_of (words line))
unfolding unit_of
more_words line tag rest word after e f h = sym (some_words after h) ∙ ap (λ l. option_map capped (unit_of l)) (sym (e ∙ ap (λ l. tag ∷ l) f))
  where
    three : (t : List ℕ) (ws : List (List ℕ)) → words t ≡ ws → option_map capped (unit_of (tag ∷ word ∷ ws)) ≡ None
    three t [] e = let f : upto 32 t ∷ further (from 32 t) ≡ [] = sym (words_cut t) ∙ e in absurd cc
    three t (w ∷ ws) e = refl

    some_words : (t : List ℕ) → (length t == 0) ≡ false → option_map capped (unit_of (tag ∷ word ∷ further t)) ≡ None
    some_words [] h = absurd cc
    some_words (x ∷ t) h = three t (words t) refl

two_words : (line tag rest word after : List ℕ) → words line ≡ tag ∷ further rest → further rest ≡ word ∷ further after → (length after == 0) ≡ true
    → words line ≡ tag ∷ word ∷ []
two_words line tag rest word after e f h = e ∙ ap (λ l. tag ∷ l) (f ∙ ap (λ l. word ∷ l) (no_words after h))

unit_by : (line tag word : List ℕ) → words line ≡ tag ∷ word ∷ []
    → unit_of (words line) ≡ and_then (number_of word) (λ n. only_if (bytes_eq tag (codes "unit") && not (n == 0)) (Some n))
unfolding unit_of
unit_by line tag word e = ap unit_of e

pub no_unit : (line tag rest word after : List ℕ) → words line ≡ tag ∷ further rest → further rest ≡ word ∷ further after
    → (length after == 0) ≡ true → None ≡ option_map capped (number_of word) → None ≡ option_map capped (unit_of (words line))
no_unit line tag rest word after e f h g =
    ap (option_map capped) (sym (unit_by line tag word (two_words line tag rest word after e f h) ∙ then_none (number_of word) (λ n. only_if (bytes_eq tag (codes "unit") && not (n == 0)) (Some n)) (not_there (number_of word) g)))

unit_is : (line tag rest word after : List ℕ) (n : ℕ) → words line ≡ tag ∷ further rest → further rest ≡ word ∷ further after
    → (length after == 0) ≡ true → number_of word ≡ Some n → unit_of (words line) ≡ only_if (bytes_eq tag (codes "unit") && not (n == 0)) (Some n)
unit_is line tag rest word after n e f h g =
    unit_by line tag word (two_words line tag rest word after e f h) ∙ then_is (number_of word) (λ n. only_if (bytes_eq tag (codes "unit") && not (n == 0)) (Some n)) n (only_if (bytes_eq tag (codes "unit") && not (n == 0)) (Some n)) g refl

pub zero_unit : (line tag rest word after : List ℕ) (c : ℕ) → words line ≡ tag ∷ further rest → further rest ≡ word ∷ further after
    → (length after == 0) ≡ true → Some c ≡ option_map capped (number_of word) → c ≡ 0 → None ≡ option_map capped (unit_of (words line))
zero_unit line tag rest word after c e f h g z =
    let (n, n_is, c_is) = there (number_of word) c g in
    let zero_is : n ≡ 0 = omega (arith, c_is, z) in
    let t : not (n == 0) ≡ false = grind (arith, nat_tests, zero_is) in
    ap (option_map capped) (sym (unit_is line tag rest word after n e f h n_is ∙ only_none (bytes_eq tag (codes "unit") && not (n == 0)) (Some n) (and_right (bytes_eq tag (codes "unit")) (not (n == 0)) t)))

pub other_tag : (line tag rest word after : List ℕ) → words line ≡ tag ∷ further rest → further rest ≡ word ∷ further after
    → (length after == 0) ≡ true → bytes_eq tag (codes "unit") ≡ false → None ≡ option_map capped (unit_of (words line))
other_tag line tag rest word after e f h t = by_number (number_of word) refl
  where
    by_number : (o : Option ℕ) → number_of word ≡ o → None ≡ option_map capped (unit_of (words line))
    by_number None g = ap (option_map capped) (sym (unit_by line tag word (two_words line tag rest word after e f h) ∙ then_none (number_of word) (λ n. only_if (bytes_eq tag (codes "unit") && not (n == 0)) (Some n)) g))
    by_number (Some n) g = ap (option_map capped) (sym (unit_is line tag rest word after n e f h g ∙ only_none (bytes_eq tag (codes "unit") && not (n == 0)) (Some n) (and_left (bytes_eq tag (codes "unit")) (not (n == 0)) t)))

pub unit_there : (line tag rest word after : List ℕ) (c : ℕ) → words line ≡ tag ∷ further rest → further rest ≡ word ∷ further after
    → (length after == 0) ≡ true → bytes_eq tag (codes "unit") ≡ true → Some c ≡ option_map capped (number_of word) → (c ≡ 0 → ⊥)
    → Some c ≡ option_map capped (unit_of (words line))
unit_there line tag rest word after c e f h t g z =
    let (n, n_is, c_is) = there (number_of word) c g in
    ap Some c_is ∙ ap (option_map capped) (sym (unit_is line tag rest word after n e f h n_is ∙ only_is (bytes_eq tag (codes "unit") && not (n == 0)) (Some n) (Some n) (and_both (bytes_eq tag (codes "unit")) (not (n == 0)) t (some n c_is)) refl))
  where
    some : (n : ℕ) → c ≡ capped n → not (n == 0) ≡ true
    some zero k = absurd (z (omega (arith, k)))
    some (suc n) k = grind (arith, nat_tests)

-- ---- the second line

pub second_wrong : (text rest line after : List ℕ) → HasFirst text rest → HasLine rest line after → None ≡ option_map capped (unit_of (words line))
    → IsLineFault text 2
second_wrong text rest line after f h e = unit_wrong text rest line after f h (not_there (unit_of (words line)) e)

pub second_wide : (text rest line after : List ℕ) (c : ℕ) → HasFirst text rest → HasLine rest line after
    → Some c ≡ option_map capped (unit_of (words line)) → 2147483648 < c → IsNumberFault text 2
second_wide text rest line after c f h e wide =
    let (n, n_is, c_is) = there (unit_of (words line)) c e in
    unit_wide text rest line after n f h n_is (omega (arith, c_is, wide))

pub second_read : (text rest line after : List ℕ) (c : ℕ) → HasFirst text rest → HasLine rest line after
    → Some c ≡ option_map capped (unit_of (words line)) → c ≤ 2147483648 → Reading text c [] after 3
second_read text rest line after c f h e low =
    let (n, n_is, c_is) = there (unit_of (words line)) c e in
    let same : n ≡ c = exact n c 2147483648 c_is low (omega arith) in
    subst (λ u. Reading text u [] after 3) same (unit_begins text rest line after n f h n_is (omega (arith, same, low)))
