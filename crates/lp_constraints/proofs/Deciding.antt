-- Inference has one answer.
use Rattle.std.proofs.Common.{◌≡◌, ◌⊎◌, ℕ, ◌<◌, ◌≤◌, length, Option, Some, None, refl, sym, ap, ◌∙◌, subst, arith, inl, inr}
use Rattle.dual_simplex.specs.Run as run
use Rattle.dual_simplex.specs.Run.{Outcome, IsOutcome, HasOneRun}
use Rattle.dual_simplex.specs.Systems.{Inequalities, IsProper}
use Rattle.grail_code.specs.Code.{Code}
use Rattle.certificate.specs.Certificates.{Cert, IsWithin}
use Rattle.lp_system.specs.Unknowns.{unknowns_of}
use Rattle.lp_system.specs.Forms.{rows_of, system_of}
use Rattle.lp_system.specs.Found.{certificate_of}
use Rattle.lp_constraints.specs.Inference.{IsSmall, IsSolution, Inferred, Found, TooMany, NoBound, Wide, Spent, Infers, IsSo, Answers}

-- the system of a small code has one run
abbrev pub RunsOnce : Code → Type 0
RunsOnce p = IsSmall p → HasOneRun (system_of p)

pub runs_once : (p : Code) → (length (unknowns_of p) ≤ 512 → length (rows_of p) ≤ 1536 → IsProper (system_of p))
    → ((system : Inequalities) → IsProper system → HasOneRun system) → RunsOnce p
runs_once p proper once small = once (system_of p) (proper small.unknowns small.rows)

one_outcome : (p : Code) (a b : Outcome) → RunsOnce p → IsSmall p → IsOutcome (system_of p) a → IsOutcome (system_of p) b → a ≡ b
one_outcome p a b once small h k =
    let r = once small in
    (r.only h.pivots a h.run).1 ∙ sym (r.only k.pivots b k.run).1

same_solution : (p : Code) (c d : Cert) → RunsOnce p → IsSmall p → IsSolution p c → IsSolution p d → c ≡ d
same_solution p c d once small h k =
    let same : run.Least h.unit h.values h.price_unit h.prices ≡ run.Least k.unit k.values k.price_unit k.prices = one_outcome p (run.Least h.unit h.values h.price_unit h.prices) (run.Least k.unit k.values k.price_unit k.prices) once small h.outcome k.outcome in
    let unit : h.unit ≡ k.unit = cc in
    let values : h.values ≡ k.values = cc in
    h.is ∙ ap (λ u. certificate_of p u h.values) unit ∙ ap (certificate_of p k.unit) values ∙ sym k.is

-- a solution ends the run otherwise than with no solution, too wide or spent
not_nothing : (p : Code) (c : Cert) (variable : ℕ) → RunsOnce p → IsSmall p → IsSolution p c → IsOutcome (system_of p) (run.Nothing variable) → ⊥
not_nothing p c variable once small h k = let same : run.Least h.unit h.values h.price_unit h.prices ≡ run.Nothing variable = one_outcome p (run.Least h.unit h.values h.price_unit h.prices) (run.Nothing variable) once small h.outcome k in absurd cc

not_wide : (p : Code) (c : Cert) (pivot : ℕ) → RunsOnce p → IsSmall p → IsSolution p c → IsOutcome (system_of p) (run.Wide pivot) → ⊥
not_wide p c pivot once small h k = let same : run.Least h.unit h.values h.price_unit h.prices ≡ run.Wide pivot = one_outcome p (run.Least h.unit h.values h.price_unit h.prices) (run.Wide pivot) once small h.outcome k in absurd cc

not_spent : (p : Code) (c : Cert) → RunsOnce p → IsSmall p → IsSolution p c → IsOutcome (system_of p) run.Spent → ⊥
not_spent p c once small h k = let same : run.Least h.unit h.values h.price_unit h.prices ≡ run.Spent = one_outcome p (run.Least h.unit h.values h.price_unit h.prices) run.Spent once small h.outcome k in absurd cc

-- wide in one of two ways
abbrev IsWideIn : Code → Type 0
IsWideIn p = ((pivot : ℕ) × IsOutcome (system_of p) (run.Wide pivot)) ⊎ ((c : Cert) × IsSolution p c × (IsWithin c → ⊥))

found_not_wide : (p : Code) (c : Cert) → RunsOnce p → IsSmall p → IsSolution p c → IsWithin c → IsWideIn p → ⊥
found_not_wide p c once small h within (inl (pivot, k)) = not_wide p c pivot once small h k
found_not_wide p c once small h within (inr (d, k, never)) = never (subst IsWithin (same_solution p c d once small h k) within)

wide_not_nothing : (p : Code) (variable : ℕ) → RunsOnce p → IsSmall p → IsWideIn p → IsOutcome (system_of p) (run.Nothing variable) → ⊥
wide_not_nothing p variable once small (inl (pivot, k)) h = let same : run.Wide pivot ≡ run.Nothing variable = one_outcome p (run.Wide pivot) (run.Nothing variable) once small k h in absurd cc
wide_not_nothing p variable once small (inr (d, k, never)) h = not_nothing p d variable once small k h

wide_not_spent : (p : Code) → RunsOnce p → IsSmall p → IsWideIn p → IsOutcome (system_of p) run.Spent → ⊥
wide_not_spent p once small (inl (pivot, k)) h = let same : run.Wide pivot ≡ run.Spent = one_outcome p (run.Wide pivot) run.Spent once small k h in absurd cc
wide_not_spent p once small (inr (d, k, never)) h = not_spent p d once small k h

nothing_not_spent : (p : Code) (variable : ℕ) → RunsOnce p → IsSmall p → IsOutcome (system_of p) (run.Nothing variable) → IsOutcome (system_of p) run.Spent → ⊥
nothing_not_spent p variable once small h k = let same : run.Nothing variable ≡ run.Spent = one_outcome p (run.Nothing variable) run.Spent once small h k in absurd cc

-- small and too many
not_many : (p : Code) (unknowns rows : ℕ) → IsSmall p → unknowns ≡ length (unknowns_of p) → rows ≡ length (rows_of p) → (512 < unknowns) ⊎ (1536 < rows) → ⊥
not_many p unknowns rows small u r (inl h) = omega (arith, small.unknowns, u, h)
not_many p unknowns rows small u r (inr h) = omega (arith, small.rows, r, h)

-- Two answers are the same.
pub one_answer : (p : Code) (a b : Inferred) → RunsOnce p → Infers p a → Infers p b → a ≡ b
one_answer p (Found c) (Found d) once h k = ap Found (same_solution p c d once h.0 h.1 k.1)
one_answer p (Found c) (TooMany u r) once h k = absurd (not_many p u r h.0 k.0 k.1 k.2)
one_answer p (Found c) NoBound once h k = absurd (not_nothing p c k.1.0 once h.0 h.1 k.1.1)
one_answer p (Found c) Wide once h k = absurd (found_not_wide p c once h.0 h.1 h.2 k.1)
one_answer p (Found c) Spent once h k = absurd (not_spent p c once h.0 h.1 k.1)
one_answer p (TooMany u r) (Found d) once h k = absurd (not_many p u r k.0 h.0 h.1 h.2)
one_answer p (TooMany u r) (TooMany v s) once h k = ap (λ n. TooMany n r) (h.0 ∙ sym k.0) ∙ ap (TooMany v) (h.1 ∙ sym k.1)
one_answer p (TooMany u r) NoBound once h k = absurd (not_many p u r k.0 h.0 h.1 h.2)
one_answer p (TooMany u r) Wide once h k = absurd (not_many p u r k.0 h.0 h.1 h.2)
one_answer p (TooMany u r) Spent once h k = absurd (not_many p u r k.0 h.0 h.1 h.2)
one_answer p NoBound (Found d) once h k = absurd (not_nothing p d h.1.0 once h.0 k.1 h.1.1)
one_answer p NoBound (TooMany u r) once h k = absurd (not_many p u r h.0 k.0 k.1 k.2)
one_answer p NoBound NoBound once h k = refl
one_answer p NoBound Wide once h k = absurd (wide_not_nothing p h.1.0 once h.0 k.1 h.1.1)
one_answer p NoBound Spent once h k = absurd (nothing_not_spent p h.1.0 once h.0 h.1.1 k.1)
one_answer p Wide (Found d) once h k = absurd (found_not_wide p d once h.0 k.1 k.2 h.1)
one_answer p Wide (TooMany u r) once h k = absurd (not_many p u r h.0 k.0 k.1 k.2)
one_answer p Wide NoBound once h k = absurd (wide_not_nothing p k.1.0 once h.0 h.1 k.1.1)
one_answer p Wide Wide once h k = refl
one_answer p Wide Spent once h k = absurd (wide_not_spent p once h.0 h.1 k.1)
one_answer p Spent (Found d) once h k = absurd (not_spent p d once h.0 k.1 h.1)
one_answer p Spent (TooMany u r) once h k = absurd (not_many p u r h.0 k.0 k.1 k.2)
one_answer p Spent NoBound once h k = absurd (nothing_not_spent p k.1.0 once h.0 k.1.1 h.1)
one_answer p Spent Wide once h k = absurd (wide_not_spent p once h.0 k.1 h.1)
one_answer p Spent Spent once h k = refl

pub exactly : (p : Code) (o : Option Inferred) (answer : Inferred) → RunsOnce p → IsSo p o → Infers p answer → Answers o answer
exactly p None answer once h k = tt
exactly p (Some found) answer once h k = one_answer p found answer once h k
