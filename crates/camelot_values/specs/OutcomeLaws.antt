-- Laws, for the proofs of this crate and of those above it.
-- The laws of outcomes: what comes after what.
use Rattle.std.proofs.Common.{◌≡◌, ℕ, ◌+◌, ◌-◌, refl, sym, ap, ◌∙◌, arith}
use Rattle.std.specs.Prelude.{pos, ◌+ℤ◌}
use Rattle.std.specs.Int.{int_max}
use Rattle.std.proofs.lemmas.Int.{ints}
use Rattle.camelot_values.specs.Outcome.{Outcome, Done, Fuel, Deep, Trap, Stuck, net, peak_of, after, first_then, at_once}

pub peak_of_two : (p g q : ℕ) → pos (p + (q - g)) ≡ int_max (pos p) (net p g +ℤ pos q)
peak_of_two p g q = sym (grind (arith, ints))

pub peak_of_any : {A : Type 0} (c p g : ℕ) (o : Outcome A) → (o ≡ Stuck → ⊥) → pos (peak_of (after c p g o)) ≡ int_max (pos p) (net p g +ℤ pos (peak_of o))
peak_of_any c p g (Done v d q h) some = peak_of_two p g q
peak_of_any c p g (Fuel d q) some = peak_of_two p g q
peak_of_any c p g (Deep q) some = peak_of_two p g q
peak_of_any c p g (Trap q) some = peak_of_two p g q
peak_of_any c p g Stuck some = absurd (some refl)

pub net_of_two : (p g q h : ℕ) → net (p + (q - g)) (h + (g - q)) ≡ (net p g +ℤ net q h)
net_of_two p g q h = sym (omega (arith, ints))

pub done_is : {A : Type 0} (v : A) (c p g c' p' g' : ℕ) → c ≡ c' → p ≡ p' → g ≡ g' → Done v c p g ≡ Done v c' p' g'
done_is v c p g c' p' g' ec ep eg = ap (λ x. Done v x p g) ec ∙ ap (λ x. Done v c' x g) ep ∙ ap (λ x. Done v c' p' x) eg

fuel_is : {A : Type 0} (c p c' p' : ℕ) → c ≡ c' → p ≡ p' → ◌≡◌ {A = Outcome A} (Fuel c p) (Fuel c' p')
fuel_is c p c' p' ec ep = ap (λ x. Fuel x p) ec ∙ ap (λ x. Fuel c' x) ep

-- nothing before an outcome
pub after_nothing : {A : Type 0} (o : Outcome A) → after 0 0 0 o ≡ o
after_nothing (Done v c p g) = done_is v _ _ _ c p g (omega arith) (omega arith) (omega arith)
after_nothing (Fuel c p) = fuel_is _ _ c p (omega arith) (omega arith)
after_nothing (Deep p) = ap Deep (omega arith)
after_nothing (Trap p) = ap Trap (omega arith)
after_nothing Stuck = refl

-- after one and then another
pub after_both : {A : Type 0} (c p g d q h : ℕ) (o : Outcome A) → after c p g (after d q h o) ≡ after (c + d) (p + (q - g)) (h + (g - q)) o
after_both c p g d q h (Done v e r i) = done_is v _ _ _ _ _ _ (omega arith) (omega arith) (omega arith)
after_both c p g d q h (Fuel e r) = fuel_is _ _ _ _ (omega arith) (omega arith)
after_both c p g d q h (Deep r) = ap Deep (omega arith)
after_both c p g d q h (Trap r) = ap Trap (omega arith)
after_both c p g d q h Stuck = refl

-- a value at no cost goes straight on
pub at_once_then : {A B : Type 0} (k : ℕ) (v : A) (next : ℕ → A → Outcome B) → first_then k (at_once v) next ≡ next k v
at_once_then k v next = after_nothing (next (k - 0) v) ∙ ap (λ j. next j v) (omega arith)

-- after comes out of what is done first
pub after_first : {A B : Type 0} (c p g k j : ℕ) (o : Outcome A) (next : ℕ → A → Outcome B) → j ≡ k - c
    → first_then k (after c p g o) next ≡ after c p g (first_then j o next)
after_first c p g k j (Done v d q h) next e = ap (λ i. after (c + d) (p + (q - g)) (h + (g - q)) (next i v)) (omega arith) ∙ sym (after_both c p g d q h (next (j - d) v))
after_first c p g k j (Fuel d q) next e = refl
after_first c p g k j (Deep q) next e = refl
after_first c p g k j (Trap q) next e = refl
after_first c p g k j Stuck next e = refl

-- three in a row group either way
pub then_then : {A B C : Type 0} (k : ℕ) (o : Outcome A) (next : ℕ → A → Outcome B) (last : ℕ → B → Outcome C)
    → first_then k (first_then k o next) last ≡ first_then k o (λ j v. first_then j (next j v) last)
then_then k (Done v c p g) next last = after_first c p g k (k - c) (next (k - c) v) last refl
then_then k (Fuel c p) next last = refl
then_then k (Deep p) next last = refl
then_then k (Trap p) next last = refl
then_then k Stuck next last = refl

-- the same goes on at each value
pub then_same : {A B : Type 0} (k : ℕ) (o : Outcome A) (next last : ℕ → A → Outcome B) → ((j : ℕ) (v : A) → next j v ≡ last j v)
    → first_then k o next ≡ first_then k o last
then_same k (Done v c p g) next last h = ap (after c p g) (h (k - c) v)
then_same k (Fuel c p) next last h = refl
then_same k (Deep p) next last h = refl
then_same k (Trap p) next last h = refl
then_same k Stuck next last h = refl

-- a last step that only hands the value on
pub then_value : {A : Type 0} (k : ℕ) (o : Outcome A) → first_then k o (λ j v. at_once v) ≡ o
then_value k (Done v c p g) = done_is v _ _ _ c p g (omega arith) (omega arith) (omega arith)
then_value k (Fuel c p) = refl
then_value k (Deep p) = refl
then_value k (Trap p) = refl
then_value k Stuck = refl
