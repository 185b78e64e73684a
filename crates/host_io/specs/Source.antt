-- Cited by contracts.
-- What a source of bytes gives, where it tells which bytes it has left.
use Rattle.std.specs.Prelude.{◌≡◌, ℕ, ◌+◌, ◌≤◌, ◌↔◌, List, [], length, Option, Some, None, ⊤}
use Rattle.std.specs.Io.KnownBytes.{Consumes}
use Rattle.host_io.specs.Counts.{risen, Rose}
use Rattle.host_io.specs.declared.source.ReadStop.{ReadStop}
use Rattle.host_io.specs.declared.source.ReadStop.TheVariants.{Fault, TooLong, Memory}

-- Where the source tells its bytes, an answer of 0 comes exactly where none is left.
abbrev pub EndsExactly : Option (List ℕ) → ℕ → Type 0
EndsExactly None count = ⊤
EndsExactly (Some left) count = (count ≡ 0) ↔ (left ≡ [])

-- These bytes, and no others, were taken: where the source tells its bytes they are gone from the front
-- of what was left, and all others are left; the count of bytes taken rose by their number.
pub record Took (left left' : Option (List ℕ)) (taken taken' : ℕ) (bytes : List ℕ) : Type 0 where
  pub gone : Consumes left left' bytes
  pub counted : taken' ≡ risen taken (length bytes)

-- Some bytes, at most so many, were taken and no others.
pub record TookAtMost (most : ℕ) (left left' : Option (List ℕ)) (taken taken' : ℕ) : Type 0 where
  pub bytes : List ℕ
  pub within : length bytes ≤ most
  pub took : Took left left' taken taken' bytes

-- Just so many bytes were taken.
pub record TookExactly (count : ℕ) (left left' : Option (List ℕ)) (taken taken' : ℕ) : Type 0 where
  pub bytes : List ℕ
  pub number : length bytes ≡ count
  pub took : Took left left' taken taken' bytes

-- What a reading took before it stopped: one byte more than its limit where the input is too long, and for
-- any other cause at most the limit.
abbrev pub StopTook : ReadStop → ℕ → Option (List ℕ) → Option (List ℕ) → ℕ → ℕ → Type 0
StopTook Fault limit left left' taken taken' = TookAtMost limit left left' taken taken'
StopTook TooLong limit left left' taken taken' = TookExactly (limit + 1) left left' taken taken'
StopTook Memory limit left left' taken taken' = TookAtMost limit left left' taken taken'

-- A reading stops for a fault only where the count of faults rose; for any other cause the count is as it was.
abbrev pub StopCause : ReadStop → ℕ → ℕ → Type 0
StopCause Fault old new = Rose old new
StopCause TooLong old new = new ≡ old
StopCause Memory old new = new ≡ old
