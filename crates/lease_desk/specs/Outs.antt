-- Private: words for functions of this crate.
-- Two lists of the same runs.
use Rattle.std.specs.Prelude.{◌≡◌, ℕ, ◌+◌, ◌==◌, ◌&&◌, List, [], ◌∷◌, length}
use Rattle.hole_list.specs.declared.run.Run.{Run}
use Rattle.lease_desk.specs.Progress.{one_if}

abbrev pub one_same : Run → Run → ℕ
one_same q r = one_if ((q.first == r.first) && (q.size == r.size))

-- how often the run is in the list
abbrev pub copies : Run → List Run → ℕ
copies q [] = 0
copies q (r ∷ rs) = one_same q r + copies q rs

-- the same runs, each as often
pub record AreReordered (out leases : List Run) : Type 0 where
  pub copied : (q : Run) → copies q out ≡ copies q leases
  pub many : length out ≡ length leases
