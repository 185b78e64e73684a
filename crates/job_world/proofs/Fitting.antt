-- Plans that are there fit their licences.
use Rattle.std.proofs.Common.{◌≡◌, ℕ, zero, suc, ◌<◌, List, [], ◌∷◌, length, Some, None, refl, sym, subst}
use Rattle.std.specs.Prelude.{slice_get, IsSomeAnd, Option}
use Rattle.std.specs.List.{AllByRecursion}
use Rattle.std.proofs.lemmas.Option.{slice_get_within}
use Rattle.licence.specs.Licensed.{Licensed}
use Rattle.cell_machine.specs.Plans.{IsPlan}
use Rattle.job_world.specs.Plans.{Plan, Planned, IsFit, AreFit}

fit_at : (licences : List Licensed) (plans : List Plan) (job : ℕ) (p : Plan) → AllByRecursion (IsFit licences) plans → slice_get plans job ≡ Some p
    → IsFit licences p
fit_at licences [] job p h e = let c : None ≡ Some p = e in absurd cc
fit_at licences (q ∷ plans) zero p h e = let same : q ≡ p = cc in subst (IsFit licences) same h.0
fit_at licences (q ∷ plans) (suc job) p h e = fit_at licences plans job p h.1 e

there : (licences : List Licensed) (p : Plan) → IsFit licences p → p.licence < length licences
there licences p fit = by_case (slice_get licences p.licence) refl fit.plan
  where
    by_case : (o : Option Licensed) → slice_get licences p.licence ≡ o → IsSomeAnd o (λ l. IsPlan l p.entry p.args p.fuel p.lease) → p.licence < length licences
    by_case None e h = absurd h
    by_case (Some l) e h = slice_get_within licences p.licence l e

pub licence_there : (ps : Planned) (job : ℕ) (p : Plan) → AreFit ps → slice_get ps.plans job ≡ Some p → p.licence < length ps.licences
licence_there ps job p fit e = there ps.licences p (fit_at ps.licences ps.plans job p fit e)

pub licence_is : (licences : List Licensed) (plans : List Plan) (job : ℕ) (p : Plan) (l : Licensed) → slice_get plans job ≡ Some p
    → slice_get licences p.licence ≡ Some l
    → IsSomeAnd (slice_get plans job) (λ p. slice_get licences p.licence ≡ Some l)
licence_is licences plans job p l e f = subst (λ (o : Option Plan). IsSomeAnd o (λ p. slice_get licences p.licence ≡ Some l)) (sym e) f
