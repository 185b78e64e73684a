-- Inference has one answer, where the system of a small code has one run.
use Rattle.std.proofs.Common.{◌≡◌, ◌⊎◌, ℕ, ◌<◌, length, refl, sym, ap, ◌∙◌, subst, arith, inl, inr}
use Rattle.dual_simplex.specs.Run as run
use Rattle.dual_simplex.specs.Run.{Outcome, IsOutcome, HasOneRun}
use Rattle.grail_code.specs.Code.{Code}
use Rattle.certificate.specs.Certificates.{IsWithin}
use Rattle.lp_system.specs.Unknowns.{unknowns_of}
use Rattle.lp_system.specs.Forms.{rows_of, system_of}
use Rattle.lp_system.specs.Found.{certificate_of}
use Rattle.lp_constraints.specs.Inference.{IsSmall, Inferred, Found, TooMany, NoBound, Wide, Spent, Infers}

-- what a run that ends so makes the answer
abbrev Comes : Code → Outcome → Inferred → Type 0
Comes p (run.Least unit values price_unit prices) (Found c) = (c ≡ certificate_of p unit values) × IsWithin c
Comes p (run.Least unit values price_unit prices) Wide = IsWithin (certificate_of p unit values) → ⊥
Comes p (run.Nothing variable) NoBound = Unit {0}
Comes p (run.Wide pivot) Wide = Unit {0}
Comes p run.Spent Spent = Unit {0}
Comes p o a = ⊥

-- one outcome makes one answer
one_coming : (p : Code) (o : Outcome) (a b : Inferred) → Comes p o a → Comes p o b → a ≡ b
one_coming p (run.Least u v q r) (Found c) (Found d) h k = ap Found (h.0 ∙ sym k.0)
one_coming p (run.Least u v q r) (Found c) Wide h k = absurd (k (subst IsWithin h.0 h.1))
one_coming p (run.Least u v q r) Wide (Found d) h k = absurd (h (subst IsWithin k.0 k.1))
one_coming p (run.Least u v q r) Wide Wide h k = refl
one_coming p (run.Least u v q r) (Found c) b h k = absurd k
one_coming p (run.Least u v q r) Wide b h k = absurd k
one_coming p (run.Least u v q r) a b h k = absurd h
one_coming p (run.Nothing v) NoBound NoBound h k = refl
one_coming p (run.Nothing v) NoBound b h k = absurd k
one_coming p (run.Nothing v) a b h k = absurd h
one_coming p (run.Wide n) Wide Wide h k = refl
one_coming p (run.Wide n) Wide b h k = absurd k
one_coming p (run.Wide n) a b h k = absurd h
one_coming p run.Spent Spent Spent h k = refl
one_coming p run.Spent Spent b h k = absurd k
one_coming p run.Spent a b h k = absurd h

-- the system is small, and its run comes to the answer
record OfRun (p : Code) (a : Inferred) : Type 0 where
  pub small : IsSmall p
  pub outcome : Outcome
  pub ends : IsOutcome (system_of p) outcome
  pub comes : Comes p outcome a

-- the system is too large
record OfSize (p : Code) (a : Inferred) : Type 0 where
  pub large : IsSmall p → ⊥
  pub is : a ≡ TooMany (length (unknowns_of p)) (length (rows_of p))

not_small : (p : Code) (unknowns rows : ℕ) → unknowns ≡ length (unknowns_of p) → rows ≡ length (rows_of p) → (512 < unknowns) ⊎ (1536 < rows) → IsSmall p → ⊥
not_small p unknowns rows u r (inl h) small = omega (arith, small.unknowns, u, h)
not_small p unknowns rows u r (inr h) small = omega (arith, small.rows, r, h)

cause_of : (p : Code) (a : Inferred) → Infers p a → OfRun p a ⊎ OfSize p a
cause_of p (Found c) h =
    inl (record { small = h.0; outcome = run.Least h.1.unit h.1.values h.1.price_unit h.1.prices; ends = h.1.outcome; comes = (h.1.is, h.2) })
cause_of p (TooMany unknowns rows) h =
    inr (record { large = not_small p unknowns rows h.0 h.1 h.2; is = ap (λ n. TooMany n rows) h.0 ∙ ap (TooMany (length (unknowns_of p))) h.1 })
cause_of p NoBound h = inl (record { small = h.0; outcome = run.Nothing h.1.0; ends = h.1.1; comes = tt })
cause_of p Wide (small, inl (pivot, ends)) = inl (record { small = small; outcome = run.Wide pivot; ends = ends; comes = tt })
cause_of p Wide (small, inr (c, s, never)) =
    inl (record { small = small; outcome = run.Least s.unit s.values s.price_unit s.prices; ends = s.outcome; comes = λ within. never (subst IsWithin (sym s.is) within) })
cause_of p Spent h = inl (record { small = h.0; outcome = run.Spent; ends = h.1; comes = tt })

same_of_run : (p : Code) → (IsSmall p → HasOneRun (system_of p)) → (a b : Inferred) → OfRun p a → OfRun p b → a ≡ b
same_of_run p once a b h k =
    let r = once h.small in
    let same : h.outcome ≡ k.outcome = (r.only h.ends.pivots h.outcome h.ends.run).1 ∙ sym (r.only k.ends.pivots k.outcome k.ends.run).1 in
    one_coming p k.outcome a b (subst (λ o. Comes p o a) same h.comes) k.comes

by_causes : (p : Code) → (IsSmall p → HasOneRun (system_of p)) → (a b : Inferred) → OfRun p a ⊎ OfSize p a → OfRun p b ⊎ OfSize p b → a ≡ b
by_causes p once a b (inl h) (inl k) = same_of_run p once a b h k
by_causes p once a b (inl h) (inr k) = absurd (k.large h.small)
by_causes p once a b (inr h) (inl k) = absurd (h.large k.small)
by_causes p once a b (inr h) (inr k) = h.is ∙ sym k.is

pub one_inferred : (p : Code) → (IsSmall p → HasOneRun (system_of p)) → (a b : Inferred) → Infers p a → Infers p b → a ≡ b
one_inferred p once a b h k = by_causes p once a b (cause_of p a h) (cause_of p b k)
