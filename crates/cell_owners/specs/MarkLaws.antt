-- Laws, for the proofs of this crate and of those above it.
-- Marks that are set one after the other.
use Rattle.std.proofs.Common.{◌≡◌, ℕ, zero, suc, ◌<◌, ◌≤◌, Bool, true, false, List, ◌++◌, replicate, refl, arith}
use Rattle.std.specs.Prelude.{if◌then◌else◌}
use Rattle.cell_machine.specs.Stands.{RepeatsNone}
use Rattle.cell_machine.specs.theory.Counting.{times_append}
use Rattle.cell_owners.specs.Marks.{is_marked, owners, AreFresh, AreMarkedBy}

-- a cell has one owner at most
pub at_most_one : (marks : List Bool) (at : ℕ) → owners marks at ≤ 1
at_most_one marks at = by_mark (is_marked marks at)
  where
    by_mark : (b : Bool) → ◌≤◌ (if b then 1 else 0) 1
    by_mark true = omega arith
    by_mark false = omega arith

pub none_at_first : (count at : ℕ) → at < count → owners (replicate count false) at ≡ 0
none_at_first zero at h = absurd (omega (arith, h))
none_at_first (suc count) zero h = refl
none_at_first (suc count) (suc at) h = none_at_first count at (omega (arith, h))

pub marked_both : (before between behind : List Bool) (xs ys : List ℕ) → AreMarkedBy before xs between
    → AreMarkedBy between ys behind → AreMarkedBy before (xs ++ ys) behind
marked_both before between behind xs ys h k at = omega (arith, h at, k at, times_append at xs ys)

pub fresh_before : (before behind : List Bool) (xs : List ℕ) → AreMarkedBy before xs behind → AreFresh before xs
fresh_before before behind xs h at = omega (arith, h at, at_most_one behind at)

pub fresh_once : (marks : List Bool) (xs : List ℕ) → AreFresh marks xs → RepeatsNone xs
fresh_once marks xs h at = omega (arith, h at)

pub fresh_behind : (before between : List Bool) (xs ys : List ℕ) → AreMarkedBy before xs between → AreFresh before (xs ++ ys) → AreFresh between ys
fresh_behind before between xs ys h k at = omega (arith, h at, k at, times_append at xs ys)
