-- Laws, for the proofs of this crate and of those above it.
-- The rules and the list of checks say the same.
use Rattle.std.specs.Prelude.{◌≤◌, ℕ, ℤ, ◌↔◌}
use Rattle.grail_code.specs.Code.{Code}
use Rattle.licence.specs.Books.{Book}
use Rattle.licence.specs.Rules.{LentAreFree, Pays}
use Rattle.licence.specs.Checks.{Check, checks_of, integers, in_integers, AllHold, FirstFails}
use Rattle.licence.specs.Failing.{RuleFails}
use Rattle.licence.specs.theory.Walks as walks
use Rattle.licence.specs.theory.Failing as failing

-- A book pays for the code exactly where a cell costs something, what is lent carries nothing, and every check holds.
pub pays_by_checks : (p : Code) (book : Book ℕ) → Pays p book ↔ ((1 ≤ book.unit) × LentAreFree p book × AllHold (checks_of integers p (in_integers book)))
pays_by_checks = walks.pays_by_checks

-- At the place of the first check that fails, the rule of that let or end fails.
pub rule_fails : (p : Code) (book : Book ℕ) (c : Check ℤ) → FirstFails (checks_of integers p (in_integers book)) c → RuleFails p book c.func c.block c.place
rule_fails = failing.rule_fails
