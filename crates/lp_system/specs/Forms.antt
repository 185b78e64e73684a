-- Cited by contracts.
-- The system of a code: the checks of its certificate, written as inequalities over the unknowns.
use Rattle.std.specs.Prelude.{ℕ, zero, suc, ℤ, pos, ◌+ℤ◌, ◌-ℤ◌, ◌||◌, Bool, true, false, List, [], ◌∷◌, map, length, if◌then◌else◌, cond}
use Rattle.std.specs.List.{filter}
use Rattle.dual_simplex.specs.declared.system.Summand.{Summand}
use Rattle.dual_simplex.specs.Systems.{Inequality, Inequalities}
use Rattle.grail_code.specs.Code.{Code}
use Rattle.licence.specs.Books.{Book}
use Rattle.licence.specs.Rules.{Amounts}
use Rattle.licence.specs.Checks.{Check, checks_of}
use Rattle.lp_system.specs.Unknowns.{Unknown, Need, Back, Param, Result, BlockNeed, BlockVar, Made, same, unknowns_of}

-- ---- amounts with unknowns

-- a number of cells, and so many times each unknown
pub record Form : Type 0 where
  pub constant : ℤ
  pub factor : Unknown → ℤ

abbrev pub forms : Amounts Form
forms = record {
  plus = λ a b. record { constant = a.constant +ℤ b.constant; factor = λ u. a.factor u +ℤ b.factor u };
  minus = λ a b. record { constant = a.constant -ℤ b.constant; factor = λ u. a.factor u -ℤ b.factor u };
}

-- the unknown itself
abbrev pub once : Unknown → Form
once u = record { constant = pos 0; factor = λ v. if same u v then pos 1 else pos 0 }

-- one cell
abbrev pub one_cell : Form
one_cell = record { constant = pos 1; factor = λ v. pos 0 }

-- what a certificate says, unknown by unknown; one unit is one cell
abbrev pub unknown_book : Book Form
unknown_book = record {
  unit = one_cell;
  need = λ func. once (Need func);
  back = λ func. once (Back func);
  param = λ func x con. once (Param func x con);
  result = λ func con. once (Result func con);
  block_need = λ func block. once (BlockNeed func block);
  block_var = λ func block x con. once (BlockVar func block x con);
  make = λ func block place con. once (Made func block place con);
}

-- ---- inequalities

abbrev pub is_zero : ℤ → Bool
is_zero (pos zero) = true
is_zero z = false

-- a term for each of these unknowns that has a factor other than 0; the first of them has this number
abbrev pub terms_from : ℕ → List Unknown → (Unknown → ℤ) → List Summand
terms_from number [] factor = []
terms_from number (u ∷ us) factor = cond (is_zero (factor u)) (terms_from (suc number) us factor) (record { unknown = number; factor = factor u } ∷ terms_from (suc number) us factor)

-- At least as much is there as is asked: the unknowns on the left, and numbers on the right. Units that aren't among
-- the unknowns, as those of what is lent, are none, and leave no term.
abbrev pub row_of : List Unknown → Check Form → Inequality
row_of us check = record {
  terms = terms_from 0 us (λ u. check.have.factor u -ℤ check.need.factor u);
  least = check.need.constant -ℤ check.have.constant;
}

abbrev pub has_terms : List Summand → Bool
has_terms [] = false
has_terms (t ∷ ts) = true

abbrev pub is_positive : ℤ → Bool
is_positive (pos (suc n)) = true
is_positive z = false

-- a row without unknowns that holds asks nothing
abbrev pub asks : Inequality → Bool
asks row = has_terms row.terms || is_positive row.least

-- one for each check, in order
unfoldable pub rows_of : Code → List Inequality
rows_of p = filter asks (map (row_of (unknowns_of p)) (checks_of forms p unknown_book))

-- ---- costs

-- what is to be least: the needs of functions, and what their parameters are to carry
abbrev pub cost_of : Unknown → ℤ
cost_of (Need func) = pos 1
cost_of (Param func x con) = pos 1
cost_of u = pos 0

-- the whole system
unfoldable pub system_of : Code → Inequalities
system_of p = record { unknowns = length (unknowns_of p); costs = map cost_of (unknowns_of p); rows = rows_of p }
