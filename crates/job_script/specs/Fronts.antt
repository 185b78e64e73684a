-- Private: words for functions of this crate.
-- The fronts of so many items, and where each number of them ends; and the parts of all lists of the drill.
use Rattle.std.specs.Prelude.{◌≡◌, ℕ, suc, ◌<◌, List, length, get_or, replicate}
use Rattle.job_script.specs.Made.{heads}
use Rattle.job_script.specs.declared.making.Parts.{Parts}

pub record AreFronts (count : ℕ) (text ends : List ℕ) : Type 0 where
  pub whole : text ≡ heads count 1
  pub size : length ends ≡ suc count
  pub each : (k : ℕ) → k < length ends → get_or ends k 0 ≡ length (heads k 1)

-- the fronts of up to 999 items, and as many ends
pub record AreParts (p : Parts) : Type 0 where
  pub fronts : AreFronts 999 p.fronts.text.items p.fronts.ends.items
  pub closing : p.closing.items ≡ replicate 999 41
