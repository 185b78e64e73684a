-- Private: words for functions of this crate.
-- The reader of a script between two entries, and what each entry keeps.
use Rattle.std.specs.Prelude.{◌≡◌, ℕ, ◌<◌, List, length, map}
use Rattle.job_script.specs.Words.{entry_of}
use Rattle.job_script.specs.Steps.{Going}
use Rattle.job_script.specs.declared.reading.Reader.{Reader}

-- it reads this text
pub record IsGoing (bytes : List ℕ) (r : Reader) : Type 0 where
  pub text : r.text.now ≡ bytes
  pub short : length bytes < 4294967296
  pub going : Going bytes r.arena r.workers (map entry_of r.items.items) r.programs r.jobs r.rest.now r.number

-- it has read more of the same text
pub record IsFurther (old new : Reader) : Type 0 where
  pub text : new.text.now ≡ old.text.now
  pub going : IsGoing old.text.now new
  pub shorter : length new.rest.now < length old.rest.now
