-- Leases that are granted are held until they are given back.
use Rattle.std.proofs.Common.{◌≡◌, ◌≢◌, ◌⊎◌, inl, inr, ℕ, zero, suc, ◌<◌, ◌≤◌, List, [], ◌∷◌, Some, refl, sym, ap, ◌∙◌, subst, arith}
use Rattle.std.specs.Prelude.{slice_get, slice_set}
use Rattle.std.proofs.lemmas.Bool.{cases_order}
use Rattle.std.proofs.lemmas.Option.{same_Some}
use Rattle.hole_list.specs.Placing.{IsOut}
use Rattle.hole_list.specs.Holes.{Holed, AreHoles, run_of, taken_cells, with_given}
use Rattle.hole_list.specs.KeptLaws.{range_taken}
use Rattle.hole_list.specs.OutLaws.{with_this, with_others, without_others}
use Rattle.tenant_desk.specs.Leases.{LeaseView}
use Rattle.tenant_desk.specs.Desk.{Tenants, with_piece, IsGranted, IsHeld, IsGiven}
use Rattle.tenant_desk.specs.Kept.{AreTenants}
use Rattle.tenant_desk.proofs.Shifting.{set_other}
use Rattle.tenant_desk.proofs.Asking.{piece_at, holes_at}

set_here : {A : Type 0} (xs : List A) (i : ℕ) (x y : A) → slice_get xs i ≡ Some x → slice_get (slice_set xs i y) i ≡ Some y
set_here [] i x y e = absurd (grind (arith, e))
set_here (z ∷ xs) zero x y e = refl
set_here (z ∷ xs) (suc i) x y e = set_here xs i x y e

-- the piece of a tenant that was set
here : (old new : Tenants) (tenant : ℕ) (h g : Holed) → slice_get old.pieces tenant ≡ Some h → new ≡ with_piece old tenant g → slice_get new.pieces tenant ≡ Some g
here old new tenant h g e is = ap (λ (d : Tenants). slice_get d.pieces tenant) is ∙ set_here old.pieces tenant h g e

-- and of another one
there : (old new : Tenants) (tenant other : ℕ) (g : Holed) → other ≢ tenant → new ≡ with_piece old tenant g → slice_get new.pieces other ≡ slice_get old.pieces other
there old new tenant other g n is = ap (λ (d : Tenants). slice_get d.pieces other) is ∙ set_other old.pieces tenant other g n

same_or_not : (m n : ℕ) → (m ≡ n) ⊎ (m ≢ n)
same_or_not m n = by_order (cases_order m n)
  where
    by_order : (m ≡ n) ⊎ ((m < n) ⊎ (n < m)) → (m ≡ n) ⊎ (m ≢ n)
    by_order (inl e) = inl e
    by_order (inr (inl k)) = inr (λ e. omega (arith, e, k))
    by_order (inr (inr k)) = inr (λ e. omega (arith, e, k))

pub granted_held : (old new : Tenants) (tenant size : ℕ) (l : LeaseView) → AreTenants old → 1 ≤ size → IsGranted old new tenant size l → IsHeld new l
granted_held old new tenant size l t some k =
    let of : l.tenant ≡ tenant = ap (λ (x : LeaseView). x.tenant) k.leased in
    let holes : AreHoles k.piece = holes_at old.arena old.most 0 old.pieces old.rest tenant k.piece t.line k.there in
    record {
      piece = k.after;
      there = subst (λ n. slice_get new.pieces n ≡ Some k.after) (sym of) (here old new tenant k.piece k.after k.there k.becomes);
      out = subst (λ rs. IsOut rs (run_of l.range)) (sym (ap (λ (h : Holed). h.out) k.took.1)) (with_this k.piece.out (run_of l.range));
      arena = (range_taken k.piece size (taken_cells l.range k.after.holes) holes some k.took.0).arena ∙ (piece_at old tenant k.piece t k.there).0
          ∙ sym (ap (λ (d : Tenants). d.arena) k.becomes);
    }

pub beside_held : (old new : Tenants) (tenant size : ℕ) (l m : LeaseView) → IsGranted old new tenant size l → IsHeld old m → IsHeld new m
beside_held old new tenant size l m k q = by_tenant (same_or_not m.tenant tenant)
  where
    by_tenant : (m.tenant ≡ tenant) ⊎ (m.tenant ≢ tenant) → IsHeld new m
    by_tenant (inl e) =
        let same : q.piece ≡ k.piece = same_Some q.piece k.piece (sym q.there ∙ ap (slice_get old.pieces) e ∙ k.there) in
        let out : IsOut k.piece.out (run_of m.range) = subst (λ (h : Holed). IsOut h.out (run_of m.range)) same q.out in
        record {
          piece = k.after;
          there = subst (λ n. slice_get new.pieces n ≡ Some k.after) (sym e) (here old new tenant k.piece k.after k.there k.becomes);
          out = subst (λ rs. IsOut rs (run_of m.range)) (sym (ap (λ (h : Holed). h.out) k.took.1)) (with_others k.piece.out (run_of l.range) (run_of m.range) out);
          arena = q.arena ∙ sym (ap (λ (d : Tenants). d.arena) k.becomes);
        }
    by_tenant (inr n) = record {
      piece = q.piece;
      there = there old new tenant m.tenant k.after n k.becomes ∙ q.there;
      out = q.out;
      arena = q.arena ∙ sym (ap (λ (d : Tenants). d.arena) k.becomes);
    }

pub given_held : (old new : Tenants) (l m : LeaseView) → IsGiven old new l → IsHeld old m → (m.tenant ≢ l.tenant) ⊎ (m.range.first ≢ l.range.first) → IsHeld new m
given_held old new l m k q o = by_tenant (same_or_not m.tenant l.tenant) o
  where
    by_tenant : (m.tenant ≡ l.tenant) ⊎ (m.tenant ≢ l.tenant) → (m.tenant ≢ l.tenant) ⊎ (m.range.first ≢ l.range.first) → IsHeld new m
    by_tenant (inl e) (inl n) = absurd (n e)
    by_tenant (inl e) (inr n) =
        let same : q.piece ≡ k.piece = same_Some q.piece k.piece (sym q.there ∙ ap (slice_get old.pieces) e ∙ k.there) in
        let out : IsOut k.piece.out (run_of m.range) = subst (λ (h : Holed). IsOut h.out (run_of m.range)) same q.out in
        record {
          piece = with_given k.piece l.range;
          there = subst (λ i. slice_get new.pieces i ≡ Some (with_given k.piece l.range)) (sym e) (here old new l.tenant k.piece (with_given k.piece l.range) k.there k.becomes);
          out = without_others k.piece.out l.range.first (run_of m.range) out n;
          arena = q.arena ∙ sym (ap (λ (d : Tenants). d.arena) k.becomes);
        }
    by_tenant (inr n) p = record {
      piece = q.piece;
      there = there old new l.tenant m.tenant (with_given k.piece l.range) n k.becomes ∙ q.there;
      out = q.out;
      arena = q.arena ∙ sym (ap (λ (d : Tenants). d.arena) k.becomes);
    }
