-- One mark among others.
use Rattle.std.proofs.Common.{◌≡◌, ℕ, zero, suc, ◌<◌, List, [], ◌∷◌, length, Some, refl, ap, arith, inl, inr, ◌⊎◌}
use Rattle.std.specs.Prelude.{slice_get, slice_set}
use Rattle.grail_check.specs.declared.locals.Mark.{Mark}
use Rattle.grail_check.specs.declared.locals.Mark.TheVariants as mark
use Rattle.grail_check.specs.Faulting.{bind}

abbrev pub IsReady : List Mark → ℕ → Type 0
IsReady marks x = slice_get marks x ≡ Some mark.Ready

pub set_same : (marks : List Mark) (x : ℕ) (m : Mark) → x < length marks → slice_get (slice_set marks x m) x ≡ Some m
set_same [] x m h = absurd (omega arith)
set_same (n ∷ marks) zero m h = refl
set_same (n ∷ marks) (suc x) m h = set_same marks x m (omega arith)

-- a local that was ready is ready now
pub ready_after_spend : (marks : List Mark) (x y : ℕ) → IsReady marks y → IsReady (slice_set marks x mark.Spent) y ⊎ (x ≡ y)
ready_after_spend [] x y h = inl h
ready_after_spend (m ∷ marks) zero zero h = inr refl
ready_after_spend (m ∷ marks) zero (suc y) h = inl h
ready_after_spend (m ∷ marks) (suc x) zero h = inl h
ready_after_spend (m ∷ marks) (suc x) (suc y) h =
    elim (ready_after_spend marks x y h) as (λ c. IsReady (slice_set marks x mark.Spent) y ⊎ (suc x ≡ suc y)) [ inl r ↦ inl r | inr e ↦ inr (ap suc e) ]

pub ready_after_bind : (marks : List Mark) (x y : ℕ) → IsReady marks y → IsReady (bind marks x) y
ready_after_bind [] x y h = h
ready_after_bind (m ∷ marks) zero zero h = refl
ready_after_bind (m ∷ marks) zero (suc y) h = h
ready_after_bind (m ∷ marks) (suc x) zero h = h
ready_after_bind (m ∷ marks) (suc x) (suc y) h = ready_after_bind marks x y h
