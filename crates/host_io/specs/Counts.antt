-- Cited by contracts.
-- Counts of bytes and of faults. A count has 64 bits and stands still at its last value.
use Rattle.std.specs.Prelude.{◌≡◌, ℕ, ◌+◌, ◌-◌, ◌^◌, ◌≤◌, min, max}

-- the last value of a count
abbrev pub last_count : ℕ
last_count = 2 ^ 64 - 1

-- a count after n more: it rises by n, or to its last value and no further
abbrev pub risen : ℕ → ℕ → ℕ
risen old n = max old (min (old + n) last_count)

-- the count rose by one, or stands at its last value
abbrev pub Rose : ℕ → ℕ → Type 0
Rose old new = new ≡ risen old 1
