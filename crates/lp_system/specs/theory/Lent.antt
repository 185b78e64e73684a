-- Laws, for the proofs of this crate and of those above it.
-- What is lent has no unknowns, and every other local has those of its kind.
use Rattle.std.proofs.Common.{◌≡◌, ℕ, Bool, true, false, List, [], Option, Some, None, IsTrue, refl, sym, ap, subst}
use Rattle.std.specs.Prelude.{cond}
use Rattle.camelot_values.specs.Kinds.{DataType}
use Rattle.camelot_values.specs.Lists.{Ascend, is_among}
use Rattle.camelot_values.specs.ReachLaws.{reached_ascends}
use Rattle.camelot_values.specs.declared.kinds.Kind.{Kind}
use Rattle.grail_code.specs.Code.{Func}
use Rattle.grail_code.specs.WellFormed.{kind_of, is_lent}
use Rattle.lp_system.specs.Unknowns.{carriers, local_carriers}

pub lent_none : (types : List DataType) (f : Func) (x : ℕ) → is_lent types f x ≡ true → local_carriers types f x ≡ []
unfolding local_carriers
lent_none types f x e = ap (λ b. cond b [] (carriers types (kind_of f x))) e

pub owned_all : (types : List DataType) (f : Func) (x : ℕ) → is_lent types f x ≡ false → local_carriers types f x ≡ carriers types (kind_of f x)
unfolding local_carriers
owned_all types f x e = ap (λ b. cond b [] (carriers types (kind_of f x))) e

-- a local with an unknown isn't lent
pub some_owned : (types : List DataType) (f : Func) (x con : ℕ) → IsTrue (is_among (local_carriers types f x) con) → is_lent types f x ≡ false
some_owned types f x con m = by_test (is_lent types f x) refl
  where
    by_test : (b : Bool) → is_lent types f x ≡ b → b ≡ false
    by_test true e = let none : IsTrue (is_among [] con) = subst (λ cs. IsTrue (is_among cs con)) (lent_none types f x e) m in absurd cc
    by_test false e = refl

-- it reaches the constructor, and isn't lent
pub as_owned : (types : List DataType) (f : Func) (x con : ℕ) → is_lent types f x ≡ false → IsTrue (is_among (carriers types (kind_of f x)) con)
    → IsTrue (is_among (local_carriers types f x) con)
as_owned types f x con e m = subst (λ cs. IsTrue (is_among cs con)) (sym (owned_all types f x e)) m

-- what holds of no constructors, and of those of a kind, holds of a local's
pub either : (types : List DataType) (f : Func) (P : List ℕ → Type 0) → P [] → ((o : Option Kind) → P (carriers types o)) → (x : ℕ) → P (local_carriers types f x)
either types f P none some x = by_test (is_lent types f x) refl
  where
    by_test : (b : Bool) → is_lent types f x ≡ b → P (local_carriers types f x)
    by_test true e = subst P (sym (lent_none types f x e)) none
    by_test false e = subst P (sym (owned_all types f x e)) (some (kind_of f x))

carriers_ascend : (types : List DataType) (o : Option Kind) → Ascend (carriers types o)
carriers_ascend types None = tt
carriers_ascend types (Some q) = reached_ascends types q

pub local_ascends : (types : List DataType) (f : Func) (x : ℕ) → Ascend (local_carriers types f x)
local_ascends types f x = either types f Ascend tt (carriers_ascend types) x
