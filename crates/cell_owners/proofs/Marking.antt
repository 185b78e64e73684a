-- Marks.
use Rattle.std.proofs.Common.{◌≡◌, ℕ, zero, suc, ◌+◌, ◌<◌, ◌≤◌, Bool, true, false, List, [], ◌∷◌, length, refl, sym, ap, ◌∙◌, arith}
use Rattle.std.specs.Prelude.{◌==◌, if◌then◌else◌, slice_set}
use Rattle.std.proofs.lemmas.Bool.Decides.{nat_tests}
use Rattle.cell_owners.specs.Marks.{is_marked, owners, open_in}

pub inside : (marks : List Bool) (at : ℕ) → is_marked marks at ≡ false → at < length marks
inside [] at e = absurd cc
inside (m ∷ marks) zero e = omega arith
inside (m ∷ marks) (suc at) e = omega (arith, inside marks at e)

pub one_less : (marks : List Bool) (at : ℕ) → is_marked marks at ≡ false → suc (open_in (slice_set marks at true)) ≡ open_in marks
one_less [] at e = absurd cc
one_less (true ∷ ms) zero e = absurd cc
one_less (false ∷ ms) zero e = refl
one_less (true ∷ ms) (suc at) e = one_less ms at e
one_less (false ∷ ms) (suc at) e = ap suc (one_less ms at e)

pub as_many : (marks : List Bool) (at : ℕ) → length (slice_set marks at true) ≡ length marks
as_many [] at = refl
as_many (m ∷ ms) zero = refl
as_many (m ∷ ms) (suc at) = ap suc (as_many ms at)

pub few_open : (marks : List Bool) → open_in marks ≤ length marks
few_open [] = omega arith
few_open (true ∷ ms) = omega (arith, few_open ms)
few_open (false ∷ ms) = omega (arith, few_open ms)

-- the cell gets an owner, and no other
pub one_more : (marks : List Bool) (at : ℕ) → is_marked marks at ≡ false → (x : ℕ) → owners (slice_set marks at true) x ≡ owners marks x + (if x == at then 1 else 0)
one_more [] at e x = absurd cc
one_more (m ∷ ms) zero e zero = let k : ◌≡◌ {A = ℕ} (if m then 1 else 0) 0 = ap (λ b. if b then 1 else 0) e in omega (arith, k)
one_more (m ∷ ms) zero e (suc x) = let t : (suc x == 0) ≡ false = grind (arith, nat_tests) in let k : ◌≡◌ {A = ℕ} (if suc x == 0 then 1 else 0) 0 = ap (λ b. if b then 1 else 0) t in omega (arith, k)
one_more (m ∷ ms) (suc at) e zero = let t : (0 == suc at) ≡ false = grind (arith, nat_tests) in let k : ◌≡◌ {A = ℕ} (if 0 == suc at then 1 else 0) 0 = ap (λ b. if b then 1 else 0) t in omega (arith, k)
one_more (m ∷ ms) (suc at) e (suc x) = let t : (suc x == suc at) ≡ (x == at) = grind (arith, nat_tests) in one_more ms at e x ∙ ap (λ b. owners ms x + (if b then 1 else 0)) (sym t)

pub none_at : (marks : List Bool) (at : ℕ) → is_marked marks at ≡ false → owners marks at ≡ 0
none_at marks at e = ap (λ b. if b then 1 else 0) e

pub one_at : (marks : List Bool) (at : ℕ) → is_marked marks at ≡ true → owners marks at ≡ 1
one_at marks at e = ap (λ b. if b then 1 else 0) e

pub smaller : (marks now : List Bool) (at : ℕ) → is_marked marks at ≡ false → now ≡ slice_set marks at true → open_in now < open_in marks
smaller marks now at e is = omega (arith, ap open_in is, one_less marks at e)
