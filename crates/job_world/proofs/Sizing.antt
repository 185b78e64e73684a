-- The leases of plans, one by one.
use Rattle.std.proofs.Common.{◌≡◌, ℕ, zero, suc, ◌+◌, ◌≤◌, List, [], ◌∷◌, ◌++◌, length, map, drop, Some, None, refl, sym, ap, ◌∙◌, append_assoc, append-nil, arith}
use Rattle.std.specs.Prelude.{slice_get}
use Rattle.job_world.specs.Plans.{leases_of}
use Rattle.job_world.specs.Words.{plan_of}
use Rattle.job_world.specs.declared.plan.Plan.{Plan as DeclaredPlan}

record Split (plans : List DeclaredPlan) (i : ℕ) (p : DeclaredPlan) : Type 0 where
  is : drop i plans ≡ p ∷ drop (suc i) plans

split : (plans : List DeclaredPlan) (i : ℕ) (p : DeclaredPlan) → slice_get plans i ≡ Some p → Split plans i p
split [] i p e = let c : None ≡ Some p = e in absurd cc
split (q ∷ plans) zero p e = let same : q ≡ p = cc in record { is = ap (λ u. u ∷ plans) same }
split (q ∷ plans) (suc i) p e = record { is = (split plans i p e).is }

pub size_more : (plans : List DeclaredPlan) (i : ℕ) (p : DeclaredPlan) (sizes more whole : List ℕ) → slice_get plans i ≡ Some p
    → sizes ++ leases_of (map plan_of (drop i plans)) ≡ whole → more ≡ sizes ++ p.lease ∷ []
    → more ++ leases_of (map plan_of (drop (i + 1) plans)) ≡ whole
size_more plans i p sizes more whole at known e =
    let s = split plans i p at in
    let next : i + 1 ≡ suc i = omega arith in
    ap (λ j. more ++ leases_of (map plan_of (drop j plans))) next
    ∙ ap (λ l. l ++ leases_of (map plan_of (drop (suc i) plans))) e
    ∙ append_assoc sizes (p.lease ∷ []) (leases_of (map plan_of (drop (suc i) plans)))
    ∙ sym (ap (λ l. sizes ++ leases_of (map plan_of l)) s.is)
    ∙ known

drop_nothing : {A : Type 0} (i : ℕ) → ◌≡◌ {A = List A} (drop i []) []
drop_nothing zero = refl
drop_nothing (suc i) = refl

drop_all : {A : Type 0} (xs : List A) (i : ℕ) → length xs ≤ i → drop i xs ≡ []
drop_all [] i h = drop_nothing i
drop_all (x ∷ xs) zero h = absurd (omega (arith, h))
drop_all (x ∷ xs) (suc i) h = drop_all xs i (omega (arith, h))

pub all_sizes : (plans : List DeclaredPlan) (i : ℕ) (sizes whole : List ℕ) → length plans ≤ i
    → sizes ++ leases_of (map plan_of (drop i plans)) ≡ whole → sizes ≡ whole
all_sizes plans i sizes whole h known = sym (append-nil sizes) ∙ sym (ap (λ l. sizes ++ leases_of (map plan_of l)) (drop_all plans i h)) ∙ known
