-- Kits that are taken and put back.
use Rattle.std.proofs.Common.{◌≡◌, ℕ, zero, suc, ◌<◌, List, [], ◌∷◌, length, Option, Some, None, refl, sym, ap, ◌∙◌, subst, arith, inl, inr}
use Rattle.std.specs.Prelude.{◌⊎◌, slice_get, slice_set, IsSomeAnd}
use Rattle.std.proofs.lemmas.Option.{slice_get_within}
use Rattle.licence.specs.Licensed.{Licensed}
use Rattle.cell_machine.specs.Laid.{SameRange}
use Rattle.cell_span.specs.Range.{Range}
use Rattle.job_world.specs.Plans.{Plan, Planned}
use Rattle.sliced_jobs.specs.Kits.{IsKitFor, AreKits}
use Rattle.sliced_jobs.specs.Parts.{IsBefore, IsBehind, ArePartsOf}
use Rattle.sliced_jobs.specs.declared.kit.Kit.{Kit}

-- what stands in a list with one place written
pub written : {X : Type 0} (xs : List X) (n m : ℕ) (v w : X) → slice_get (slice_set xs n v) m ≡ Some w → ((m ≡ n) × (w ≡ v)) ⊎ (slice_get xs m ≡ Some w)
written [] n m v w e = inr e
written (x ∷ xs) zero zero v w e = let same : v ≡ w = cc in inl (refl, sym same)
written (x ∷ xs) zero (suc m) v w e = inr e
written (x ∷ xs) (suc n) zero v w e = inr e
written (x ∷ xs) (suc n) (suc m) v w e = by_place (written xs n m v w e)
  where
    by_place : ((m ≡ n) × (w ≡ v)) ⊎ (slice_get xs m ≡ Some w) → ((suc m ≡ suc n) × (w ≡ v)) ⊎ (slice_get xs m ≡ Some w)
    by_place (inl h) = inl (ap suc h.0, h.1)
    by_place (inr h) = inr h

pub written_there : {X : Type 0} (xs : List X) (n : ℕ) (v : X) → n < length xs → slice_get (slice_set xs n v) n ≡ Some v
written_there [] n v h = absurd (omega (arith, h))
written_there (x ∷ xs) zero v h = refl
written_there (x ∷ xs) (suc n) v h = written_there xs n v (omega (arith, h))

pub written_else : {X : Type 0} (xs : List X) (n m : ℕ) (v : X) → (m ≡ n → ⊥) → slice_get (slice_set xs n v) m ≡ slice_get xs m
written_else [] n m v h = refl
written_else (x ∷ xs) zero zero v h = absurd (h refl)
written_else (x ∷ xs) zero (suc m) v h = refl
written_else (x ∷ xs) (suc n) zero v h = refl
written_else (x ∷ xs) (suc n) (suc m) v h = written_else xs n m v (λ e. h (ap suc e))

pub length_written : {X : Type 0} (xs : List X) (n : ℕ) (v : X) → length (slice_set xs n v) ≡ length xs
length_written [] n v = refl
length_written (x ∷ xs) zero v = refl
length_written (x ∷ xs) (suc n) v = ap suc (length_written xs n v)

-- ---- kits

pub licence_at : (ps : Planned) (job : ℕ) (p : Plan) (l : Licensed) → slice_get ps.plans job ≡ Some p
    → IsSomeAnd (slice_get ps.plans job) (λ p. slice_get ps.licences p.licence ≡ Some l) → slice_get ps.licences p.licence ≡ Some l
licence_at ps job p l e h = subst (λ (o : Option Plan). IsSomeAnd o (λ p. slice_get ps.licences p.licence ≡ Some l)) e h

pub kits_without : (licences : List Licensed) (kits new : List (Option Kit)) (n : ℕ) → AreKits licences kits → new ≡ slice_set kits n None → AreKits licences new
kits_without licences kits new n h is number l k a b = by_place (written kits n number None (Some k) (ap (λ ks. slice_get ks number) (sym is) ∙ b))
  where
    by_place : ((number ≡ n) × (Some k ≡ None)) ⊎ (slice_get kits number ≡ Some (Some k)) → IsKitFor l k
    by_place (inl g) = absurd (let e : Some k ≡ None = g.1 in cc)
    by_place (inr g) = h number l k a g

pub kits_with : (licences : List Licensed) (kits new : List (Option Kit)) (n : ℕ) (li : Licensed) (kit : Kit) → AreKits licences kits → new ≡ slice_set kits n (Some kit)
    → slice_get licences n ≡ Some li → IsKitFor li kit → AreKits licences new
kits_with licences kits new n li kit h is there own number l k a b = by_place (written kits n number (Some kit) (Some k) (ap (λ ks. slice_get ks number) (sym is) ∙ b))
  where
    by_place : ((number ≡ n) × (Some k ≡ Some kit)) ⊎ (slice_get kits number ≡ Some (Some k)) → IsKitFor l k
    by_place (inl g) =
        let e : Some k ≡ Some kit = g.1 in
        let same : k ≡ kit = cc in
        let at : Some l ≡ Some li = sym a ∙ ap (slice_get licences) g.0 ∙ there in
        let one : l ≡ li = cc in
        subst (IsKitFor l) (sym same) (subst (λ x. IsKitFor x kit) (sym one) own)
    by_place (inr g) = h number l k a g

pub kit_within : (licences : List Licensed) (kits new : List (Option Kit)) (n : ℕ) (l : Licensed) (v : Option Kit) → slice_get licences n ≡ Some l → length kits ≡ length licences
    → new ≡ slice_set kits n v → n < length new
kit_within licences kits new n l v e many is = omega (arith, slice_get_within licences n l e, many, ap length is, length_written kits n v)

-- ---- parts

pub parts_same : (w p q : Range) (b n : Option Range) → ArePartsOf w b p n → SameRange p q → ArePartsOf w b q n
parts_same w p q b n h s = record { arena = s.arena ∙ h.arena; before = by_before b h.before; behind = by_behind n h.behind }
  where
    by_before : (b : Option Range) → IsBefore w p b → IsBefore w q b
    by_before None g = s.first ∙ g
    by_before (Some x) g = (g.0, g.1, g.2 ∙ sym s.first)

    by_behind : (n : Option Range) → IsBehind w p n → IsBehind w q n
    by_behind None g = omega (arith, g, s.first, s.cells)
    by_behind (Some x) g = (g.0, omega (arith, g.1, s.first, s.cells), g.2)
