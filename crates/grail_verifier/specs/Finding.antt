-- Private: words for functions of this crate.
-- The first check of a list that fails, and how an answer of the code tells it.
use Rattle.std.specs.Prelude.{◌≡◌, ℕ, ℤ, List, Option, Some, None, Result, Ok, Err}
use Rattle.licence.specs.Checks.{Check, AllHold, FirstFails}
pub use Rattle.grail_verifier.specs.Verdicts.{in_numbers}
use Rattle.grail_verifier.specs.declared.refusal.Refusal.{Refusal}
use Rattle.grail_verifier.specs.declared.refusal.Refusal.TheVariants as refusal
use Rattle.grail_verifier.specs.declared.short.Short.{Short}

-- the plain data of the code's types
abbrev pub short_of : Short → Check ℕ
short_of s = record { func = s.func; block = s.block; place = s.place; con = s.con; have = s.have; need = s.need }

-- Ok where nothing is short, and else the first that is
abbrev pub Finds : {A : Type 0} → Result A Short → Option (Check ℕ) → Type 0
Finds (Ok x) found = found ≡ None
Finds (Err short) found = found ≡ Some (short_of short)

-- Every check of the list holds, or this is the first that fails.
unfoldable pub Found : List (Check ℤ) → Option (Check ℕ) → Type 0
Found checks None = AllHold checks
Found checks (Some c) = FirstFails checks (in_numbers c)

-- the refusal of a check that fails: of what is left, or of a constructor
abbrev pub refused : Option ℕ → (func block place have need : ℕ) → Refusal
refused None func block place have need = refusal.Need func block place have need
refused (Some con) func block place have need = refusal.Weak func block place con have need

abbrev pub refusal_of : Check ℕ → Refusal
refusal_of c = refused c.con c.func c.block c.place c.have c.need
