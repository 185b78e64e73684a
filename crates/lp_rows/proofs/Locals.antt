-- Lists of locals that were bound anew.
use Rattle.std.proofs.Common.{◌≡◌, ℕ, zero, suc, ◌<◌, Bool, true, false, List, [], ◌∷◌, ◌++◌, length, refl, ap, ◌∙◌, subst, arith}
use Rattle.std.specs.Prelude.{◌==◌, if◌then◌else◌, slice_get, slice_set}
use Rattle.std.specs.Option.{option_map_or}
use Rattle.std.proofs.lemmas.Bool.Decides.{nat_tests}
use Rattle.licence.specs.Books.{Units, Carried}
use Rattle.licence.specs.Rules.{carrying}
use Rattle.lp_system.specs.Unknowns.{Unknown}
use Rattle.lp_rows.specs.Plain.{units_of, own, names}
use Rattle.lp_rows.specs.Walk.{bound}
use Rattle.lp_rows.specs.declared.unknown.Origin.{Origin}

-- a local's units, by the list and by what they are without it
abbrev looked : List Origin → Carried Unknown → Carried Unknown
looked slots start x = option_map_or units_of (slice_get slots x) (start x)

pushed_at : (slots : List Origin) (o : Origin) (own : Carried Unknown) (x : ℕ) → units_of o ≡ own (length slots)
    → looked (slots ++ o ∷ []) own x ≡ looked slots own x
pushed_at [] o own zero e = e
pushed_at [] o own (suc x) e = refl
pushed_at (s ∷ slots) o own zero e = refl
pushed_at (s ∷ slots) o own (suc x) e = pushed_at slots o (λ y. own (suc y)) x e

pub pushed : (func block : ℕ) (slots more : List Origin) (o : Origin) → more ≡ slots ++ o ∷ [] → units_of o ≡ own func block (length slots)
    → names func block more ≡ names func block slots
pushed func block slots more o e h = ap (names func block) e ∙ (λ i x. pushed_at slots o (own func block) x h i)

set_here : (slots : List Origin) (o : Origin) (x : ℕ) (start : Carried Unknown) → x < length slots → looked (slice_set slots x o) start x ≡ units_of o
set_here [] o x start h = absurd (omega (arith, h))
set_here (s ∷ slots) o zero start h = refl
set_here (s ∷ slots) o (suc x) start h = set_here slots o x (λ z. start (suc z)) (omega (arith, h))

set_other : (slots : List Origin) (o : Origin) (x y : ℕ) (start : Carried Unknown) → (x ≡ y → ⊥) → looked (slice_set slots x o) start y ≡ looked slots start y
set_other [] o x y start h = refl
set_other (s ∷ slots) o zero zero start h = absurd (h refl)
set_other (s ∷ slots) o zero (suc y) start h = refl
set_other (s ∷ slots) o (suc x) zero start h = refl
set_other (s ∷ slots) o (suc x) (suc y) start h = set_other slots o x y (λ z. start (suc z)) (λ e. h (ap suc e))

set_at : (slots : List Origin) (o : Origin) (x y : ℕ) (start : Carried Unknown) → x < length slots
    → looked (slice_set slots x o) start y ≡ (if x == y then units_of o else looked slots start y)
set_at slots o x y start h = by_test (x == y) refl
  where
    by_test : (b : Bool) → (x == y) ≡ b → looked (slice_set slots x o) start y ≡ (if b then units_of o else looked slots start y)
    by_test true e = let s : x ≡ y = grind (arith, nat_tests, e) in subst (λ z. looked (slice_set slots x o) start z ≡ units_of o) s (set_here slots o x start h)
    by_test false e = set_other slots o x y start (λ s. grind (arith, nat_tests, e, s))

pub set_is : (func block : ℕ) (slots more : List Origin) (o : Origin) (x : ℕ) (carried : Carried Unknown) → more ≡ slice_set slots x o
    → x < length slots → names func block slots ≡ carried → names func block more ≡ carrying carried x (units_of o)
set_is func block slots more o x carried e h n = ap (names func block) e ∙ (λ i y. set_at slots o x y (own func block) h i) ∙ ap (λ c. carrying c x (units_of o)) n

pub no_fields : (carried : Carried Unknown) (matched : Units Unknown) → bound carried [] matched ≡ carried
unfolding bound
no_fields carried matched = refl

pub pushed_on : (func block n : ℕ) (slots more : List Origin) (o : Origin) (carried : Carried Unknown) → more ≡ slots ++ o ∷ []
    → units_of o ≡ own func block n → n ≡ length slots → names func block slots ≡ carried → names func block more ≡ carried
pushed_on func block n slots more o carried e h k c = pushed func block slots more o e (h ∙ ap (own func block) k) ∙ c
