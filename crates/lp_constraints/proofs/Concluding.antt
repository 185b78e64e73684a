-- The answers of inference, each by what the solver's run came to.
use Rattle.std.specs.Prelude.{Option, Some, None, MatchOption}
use Rattle.std.proofs.Common.{◌≡◌, ℕ, ◌<◌, List, length, refl, sym, subst, inl, inr}
use Rattle.dual_simplex.specs.Run as run
use Rattle.dual_simplex.specs.Run.{IsOutcome}
use Rattle.dual_simplex.specs.Feasible.{IsFeasible, IsLeast}
use Rattle.dual_simplex.specs.Promises.{SaysNothing}
use Rattle.grail_code.specs.Limits.{IsWithinLimits}
use Rattle.grail_code.specs.WellFormed.{IsWellFormed}
use Rattle.licence.specs.Fitting.{Grants}
use Rattle.grail_code.specs.Code.{Code}
use Rattle.certificate.specs.Certificates.{Cert, IsWithin, IsCert}
use Rattle.lp_system.specs.Unknowns.{unknowns_of}
use Rattle.lp_system.specs.Forms.{rows_of, system_of}
use Rattle.lp_system.specs.Found.{certificate_of, IsLeastCertificate}
use Rattle.lp_constraints.specs.Inference.{IsSmall, Found, TooMany, NoBound, Wide, Spent, Infers}

pub found : (p : Code) (unit price_unit : ℕ) (values prices : List ℕ) (c : Cert) → IsSmall p
    → IsOutcome (system_of p) (run.Least unit values price_unit prices) → c ≡ certificate_of p unit values → IsCert c → Infers p (Found c)
found p unit price_unit values prices c small outcome is cert = (small, record { unit = unit; values = values; price_unit = price_unit; prices = prices; outcome = outcome; is = is }, cert.within)

pub wide : (p : Code) (unit price_unit : ℕ) (values prices : List ℕ) → IsSmall p → IsOutcome (system_of p) (run.Least unit values price_unit prices)
    → (IsWithin (certificate_of p unit values) → ⊥) → Infers p Wide
wide p unit price_unit values prices small outcome never =
    (small, inr (certificate_of p unit values, record { unit = unit; values = values; price_unit = price_unit; prices = prices; outcome = outcome; is = refl }, never))

pub all_values : (p : Code) (unit : ℕ) (values : List ℕ) → IsLeast (system_of p) unit values → length values ≡ length (unknowns_of p)
unfolding system_of
all_values p unit values h = h.feasible.numbers

pub no_bound : (p : Code) (variable : ℕ) → IsSmall p → IsOutcome (system_of p) (run.Nothing variable) → Infers p NoBound
no_bound p variable small outcome = (small, (variable, outcome))

pub wide_run : (p : Code) (pivot : ℕ) → IsSmall p → IsOutcome (system_of p) (run.Wide pivot) → Infers p Wide
wide_run p pivot small outcome = (small, inl (pivot, outcome))

pub spent : (p : Code) → IsSmall p → IsOutcome (system_of p) run.Spent → Infers p Spent
spent p small outcome = (small, outcome)

pub of_none : {A : Type 0} (o : Option A) (P : Type 0) (Q : A → Type 0) → o ≡ None → MatchOption o P Q → P
of_none None P Q e h = h
of_none (Some x) P Q e h = absurd cc

-- the solution of least cost is the least certificate
pub least : (p : Code) (unit : ℕ) (values : List ℕ) (c : Cert)
    → ((p : Code) (unit : ℕ) (values : List ℕ) → IsWellFormed p → IsWithinLimits p → IsLeast (system_of p) unit values → IsLeastCertificate p (certificate_of p unit values))
    → IsWellFormed p → IsWithinLimits p → IsLeast (system_of p) unit values → c ≡ certificate_of p unit values → IsLeastCertificate p c
least p unit values c law well limits h is = subst (IsLeastCertificate p) (sym is) (law p unit values well limits h)

pub nothing_grants : (p : Code) (variable : ℕ)
    → ((p : Code) → IsWellFormed p → IsWithinLimits p → ((unit : ℕ) (values : List ℕ) → IsFeasible (system_of p) unit values → ⊥) → (c : Cert) → Grants p c → ⊥)
    → IsWellFormed p → IsWithinLimits p → SaysNothing (system_of p) (run.Nothing variable) → (c : Cert) → Grants p c → ⊥
nothing_grants p variable law well limits h c g = law p well limits h c g

-- more unknowns or rows than are solved
pub too_many_unknowns : (p : Code) (unknowns rows : ℕ) → unknowns ≡ length (unknowns_of p) → rows ≡ length (rows_of p) → 512 < unknowns
    → Infers p (TooMany unknowns rows)
too_many_unknowns p unknowns rows u r h = (u, r, inl h)

pub too_many_rows : (p : Code) (unknowns rows : ℕ) → unknowns ≡ length (unknowns_of p) → rows ≡ length (rows_of p) → 1536 < rows
    → Infers p (TooMany unknowns rows)
too_many_rows p unknowns rows u r h = (u, r, inr h)
