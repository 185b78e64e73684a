-- Cited by contracts.
-- Names by which the desk's jobs are known in the lines of events.
use Rattle.std.specs.Prelude.{◌≡◌, ℕ, ◌<◌, ◌==◌, List, IsFalse}
use Rattle.std.specs.List.{list_any}

abbrev pub HasNoSpace : List ℕ → Type 0
HasNoSpace bytes = IsFalse (list_any (λ b. b == 32) bytes)

-- the names of so many jobs: none has a space, and no two are the same
pub record AreNames (name : ℕ → List ℕ) (jobs : ℕ) : Type 0 where
  pub free : (job : ℕ) → job < jobs → HasNoSpace (name job)
  pub one : (i j : ℕ) → i < jobs → j < jobs → name i ≡ name j → i ≡ j
