-- Numbers within limits, from capped ones.
use Rattle.std.proofs.Common.{◌≡◌, ℕ, zero, suc, ◌-◌, ◌<◌, ◌≤◌, true, false, List, [], ◌∷◌, length, take, drop, get_or, to_z, of_z, w64, Option, Some, None, refl, sym, ap, ◌∙◌, arith}
use Rattle.std.specs.Prelude.{ℤ, pos, neg_ℤ, ◌==◌, nat_le, if◌then◌else◌}
use Rattle.std.specs.Option.{option_map}
use Rattle.std.proofs.lemmas.Bool.Decides.{nat_tests}
use Rattle.std.proofs.lemmas.Int.{to_z_pos}
use Rattle.std.proofs.lemmas.List.{take_all}
use Rattle.text_lines.specs.Cuts.{and_then, only_if, capped, number_of}
use Rattle.text_lines.specs.OptionLaws.{some_same, only_is}
use Rattle.machine_image.specs.Reading.{within, word_number, below_zero, net_of}

within_none : (most n : ℕ) → most < n → within most n ≡ None
within_none most n h = ap (λ b. only_if b (Some n)) (let t : nat_le n most ≡ false = grind (arith, nat_tests, h) in t)

within_some : (most n : ℕ) → n ≤ most → within most n ≡ Some n
within_some most n h = only_is (nat_le n most) (Some n) (Some n) (grind (arith, nat_tests, h)) refl

-- ---- capped

none_capped : (o : Option ℕ) (most : ℕ) → None ≡ option_map capped o → None ≡ and_then o (within most)
none_capped None most e = refl
none_capped (Some n) most e = absurd cc

large_capped : (o : Option ℕ) (most v : ℕ) → most ≤ 1099511627776 → Some v ≡ option_map capped o → most < v → None ≡ and_then o (within most)
large_capped None most v h e k = absurd cc
large_capped (Some n) most v h e k = let q : v ≡ capped n = some_same v (capped n) e in sym (within_none most n (omega (arith, h, k, q)))

small_capped : (o : Option ℕ) (most v : ℕ) → most ≤ 1099511627776 → Some v ≡ option_map capped o → v ≤ most → Some v ≡ and_then o (within most)
small_capped None most v h e k = absurd cc
small_capped (Some n) most v h e k =
    let q : v ≡ capped n = some_same v (capped n) e in
    let s : v ≡ n = omega (arith, h, k, q) in
    ap Some s ∙ sym (within_some most n (omega (arith, k, s)))

pub no_number : (w : List ℕ) (most : ℕ) → None ≡ option_map capped (number_of w) → None ≡ and_then (number_of w) (within most)
no_number w most e = none_capped (number_of w) most e

pub too_large : (w : List ℕ) (most v : ℕ) → most ≤ 1099511627776 → Some v ≡ option_map capped (number_of w) → most < v → None ≡ and_then (number_of w) (within most)
too_large w most v h e k = large_capped (number_of w) most v h e k

pub in_limits : (w : List ℕ) (most v : ℕ) → most ≤ 1099511627776 → Some v ≡ option_map capped (number_of w) → v ≤ most → Some v ≡ and_then (number_of w) (within most)
in_limits w most v h e k = small_capped (number_of w) most v h e k

-- ---- a sign

pub no_net : (w : List ℕ) → (length w == 0) ≡ true → None ≡ net_of w
unfolding net_of
no_net [] h = refl
no_net (b ∷ bs) h = absurd (let t : (suc (length bs) == 0) ≡ false = grind (arith, nat_tests) in let e : true ≡ false = sym h ∙ t in cc)

-- the digits behind a sign
minus : (w rest : List ℕ) → (length w == 0) ≡ false → get_or w 0 0 ≡ 45 → rest ≡ take (length w - 1) (drop 1 w) → net_of w ≡ and_then (word_number rest) below_zero
unfolding net_of
minus [] rest h e r = absurd cc
minus (b ∷ bs) rest h e r =
    let t : (b == 45) ≡ true = grind (arith, nat_tests, e) in
    ap (λ t. if t then and_then (word_number bs) below_zero else option_map pos (word_number (b ∷ bs))) t
    ∙ ap (λ l. and_then (word_number l) below_zero) (sym (r ∙ take_all (length (b ∷ bs) - 1) bs (omega arith)))

plus : (w : List ℕ) → (length w == 0) ≡ false → (get_or w 0 0 ≡ 45 → ⊥) → net_of w ≡ option_map pos (word_number w)
unfolding net_of
plus [] h e = absurd cc
plus (b ∷ bs) h e =
    let t : (b == 45) ≡ false = grind (arith, nat_tests, e) in
    ap (λ t. if t then and_then (word_number bs) below_zero else option_map pos (word_number (b ∷ bs))) t

pub minus_none : (w rest : List ℕ) → (length w == 0) ≡ false → get_or w 0 0 ≡ 45 → rest ≡ take (length w - 1) (drop 1 w) → None ≡ word_number rest → None ≡ net_of w
minus_none w rest h e r n = sym (minus w rest h e r ∙ ap (λ o. and_then o below_zero) (sym n))

pub minus_zero : (w rest : List ℕ) (v : ℕ) → (length w == 0) ≡ false → get_or w 0 0 ≡ 45 → rest ≡ take (length w - 1) (drop 1 w) → Some v ≡ word_number rest → v ≡ 0 → None ≡ net_of w
minus_zero w rest v h e r n z = sym (minus w rest h e r ∙ ap (λ o. and_then o below_zero) (sym n) ∙ ap below_zero z)

below : (v : ℕ) → (v ≡ 0 → ⊥) → Some (neg_ℤ (pos v)) ≡ below_zero v
below zero h = absurd (h refl)
below (suc v) h = refl

pub minus_net : (w rest : List ℕ) (v : ℕ) (z : ℤ) → (length w == 0) ≡ false → get_or w 0 0 ≡ 45 → rest ≡ take (length w - 1) (drop 1 w) → Some v ≡ word_number rest → (v ≡ 0 → ⊥) → z ≡ neg_ℤ (pos v)
    → Some z ≡ net_of w
minus_net w rest v z h e r n k q = sym (minus w rest h e r ∙ ap (λ o. and_then o below_zero) (sym n) ∙ sym (below v k) ∙ ap Some (sym q))

pub plus_none : (w : List ℕ) → (length w == 0) ≡ false → (get_or w 0 0 ≡ 45 → ⊥) → None ≡ word_number w → None ≡ net_of w
plus_none w h e n = sym (plus w h e ∙ ap (option_map pos) (sym n))

pub plus_net : (w : List ℕ) (v : ℕ) (z : ℤ) → (length w == 0) ≡ false → (get_or w 0 0 ≡ 45 → ⊥) → Some v ≡ word_number w → z ≡ pos v → Some z ≡ net_of w
plus_net w v z h e n q = sym (plus w h e ∙ ap (option_map pos) (sym n) ∙ ap Some (sym q))

-- as the code has it
pub plus_cast : (w : List ℕ) (v : ℕ) (z : ℤ) → (length w == 0) ≡ false → (get_or w 0 0 ≡ 45 → ⊥) → Some v ≡ word_number w → v < 4294967296 → z ≡ pos v → Some (to_z w64 (of_z w64 z)) ≡ net_of w
plus_cast w v z h e n k q = ap (λ z. Some (to_z w64 (of_z w64 z))) q ∙ ap Some (to_z_pos w64 v (omega (arith, k))) ∙ plus_net w v (pos v) h e n refl
