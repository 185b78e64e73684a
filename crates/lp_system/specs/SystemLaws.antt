-- Laws, for the proofs of this crate and of those above it.
-- The solutions of a code's system are the certificates that grant the code, and the system is one that the solver
-- takes.
use Rattle.std.specs.Prelude.{◌≤◌, ℕ, List, length}
use Rattle.dual_simplex.specs.Feasible.{IsFeasible, IsLeast}
use Rattle.dual_simplex.specs.Systems.{IsProper}
use Rattle.grail_code.specs.Code.{Code}
use Rattle.grail_code.specs.WellFormed.{IsWellFormed}
use Rattle.grail_code.specs.Limits.{IsNamed, IsWithinLimits}
use Rattle.certificate.specs.Certificates.{Cert, IsFormed}
use Rattle.licence.specs.Fitting.{Grants}
use Rattle.lp_system.specs.Unknowns.{unknowns_of}
use Rattle.lp_system.specs.Forms.{rows_of, system_of}
use Rattle.lp_system.specs.Found.{certificate_of, values_of, value_in, IsLeastCertificate}
use Rattle.lp_system.specs.theory.Solutions as solutions
use Rattle.lp_system.specs.theory.Small as small
use Rattle.lp_system.specs.theory.Certified.{certificate_says}
use Rattle.lp_system.specs.theory.Fitted.{certificate_fits}
use Rattle.lp_system.specs.theory.Off.{nothing_off}
use Rattle.lp_system.specs.theory.Formed.{certificate_formed}

pub solution_grants : (p : Code) (unit : ℕ) (values : List ℕ) → IsWellFormed p → IsWithinLimits p → IsFeasible (system_of p) unit values
    → Grants p (certificate_of p unit values)
solution_grants p unit values w l h = solutions.solution_grants p w (certificate_says p) (λ u v. certificate_fits p u v l.types) (nothing_off p) unit values h

pub certificate_solves : (p : Code) (c : Cert) → IsWellFormed p → IsWithinLimits p → Grants p c → IsFeasible (system_of p) c.unit (values_of p c)
certificate_solves p c w l g = solutions.certificate_solves p w (certificate_says p) (λ u v. certificate_fits p u v l.types) (nothing_off p) c g

pub least_is_least : (p : Code) (unit : ℕ) (values : List ℕ) → IsWellFormed p → IsWithinLimits p → IsLeast (system_of p) unit values
    → IsLeastCertificate p (certificate_of p unit values)
least_is_least p unit values w l h = solutions.least_is_least p w (certificate_says p) (λ u v. certificate_fits p u v l.types) (nothing_off p) unit values h

pub none_grants : (p : Code) → IsWellFormed p → IsWithinLimits p → ((unit : ℕ) (values : List ℕ) → IsFeasible (system_of p) unit values → ⊥)
    → (c : Cert) → Grants p c → ⊥
none_grants p w l h c g = solutions.none_grants p w (certificate_says p) (λ u v. certificate_fits p u v l.types) (nothing_off p) h c g

pub solution_formed : (p : Code) (unit : ℕ) (values : List ℕ) → IsWellFormed p → IsWithinLimits p → IsNamed p → 1 ≤ unit
    → IsFormed (certificate_of p unit values)
solution_formed p unit values w l n h = certificate_formed p unit (value_in (unknowns_of p) values) w n h

pub system_proper : (p : Code) → IsWellFormed p → IsWithinLimits p → length (unknowns_of p) ≤ 512 → length (rows_of p) ≤ 1536 → IsProper (system_of p)
system_proper p w l h k = small.proper p l h k
