-- Private: words for functions of this crate.
-- How large what was counted may be.
use Rattle.std.specs.Prelude.{ℕ, ◌≤◌}
use Rattle.run_reports.specs.declared.summing.Tally.{Tally}

-- each number is at most so large
pub record IsUnder (most : ℕ) (t : Tally) : Type 0 where
  pub done : t.done ≤ most
  pub fuel : t.fuel ≤ most
  pub deep : t.deep ≤ most
  pub too_large : t.too_large ≤ most
  pub refused : t.refused ≤ most
  pub calls : t.calls ≤ most
  pub peaks : t.peaks ≤ most
