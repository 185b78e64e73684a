-- Laws, for the proofs of this crate and of those above it.
-- A certificate fits, or it has one misfit.
use Rattle.std.proofs.Common.{◌≡◌, ◌⊎◌, ℕ, ◌<◌, ◌≤◌, subst, sym, inl, inr, arith}
use Rattle.std.proofs.lemmas.Bool.{cases_lt}
use Rattle.grail_code.specs.Code.{Code}
use Rattle.certificate.specs.Certificates.{Cert}
use Rattle.licence.specs.Fitting.{Fits, IsMisfit}

pub not_both : (p : Code) (c : Cert) (func block : ℕ) → Fits p c → IsMisfit p c func block → ⊥
not_both p c func block fits misfit = misfit.wrong (fits func block)

-- one is not before the other
not_before : (p : Code) (c : Cert) (f b g d : ℕ) → IsMisfit p c f b → IsMisfit p c g d → g ≤ f
not_before p c f b g d h k = by_order (cases_lt f g)
  where
    by_order : (f < g) ⊎ (g ≤ f) → g ≤ f
    by_order (inl less) = absurd (h.wrong (k.earlier f b less))
    by_order (inr le) = le

pub same_func : (p : Code) (c : Cert) (f b g d : ℕ) → IsMisfit p c f b → IsMisfit p c g d → f ≡ g
same_func p c f b g d h k = omega (arith, not_before p c f b g d h k, not_before p c g d f b k h)

not_less : (p : Code) (c : Cert) (f b d : ℕ) → IsMisfit p c f b → IsMisfit p c f d → d ≤ b
not_less p c f b d h k = by_order (cases_lt b d)
  where
    by_order : (b < d) ⊎ (d ≤ b) → d ≤ b
    by_order (inl less) = absurd (h.wrong (k.before b less))
    by_order (inr le) = le

pub same_block : (p : Code) (c : Cert) (f b g d : ℕ) → IsMisfit p c f b → IsMisfit p c g d → b ≡ d
same_block p c f b g d h k =
    let l : IsMisfit p c f d = subst (λ n. IsMisfit p c n d) (sym (same_func p c f b g d h k)) k in
    omega (arith, not_less p c f b d h l, not_less p c f d b l h)
