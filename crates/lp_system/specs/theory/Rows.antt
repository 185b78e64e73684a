-- Laws, for the proofs of this crate and of those above it.
-- A point meets the rows exactly where every check holds.
use Rattle.std.proofs.Common.{◌≡◌, ℕ, zero, suc, Bool, true, false, ℤ, pos, negsuc, ◌+ℤ◌, ◌*ℤ◌, List, [], ◌∷◌, map, cond, refl, sym, ap, ◌∙◌, subst, arith}
use Rattle.std.specs.Prelude.{◌-ℤ◌, ◌≤ℤ◌, ◌||◌, ◌↔◌, All, slice_index}
use Rattle.std.specs.List.{filter, AllByRecursion}
use Rattle.std.proofs.lemmas.Int.{ints}
use Rattle.dual_simplex.specs.declared.system.Summand.{Summand}
use Rattle.dual_simplex.specs.Systems.{Inequality}
use Rattle.dual_simplex.specs.Feasible.{sum_at, IsMet}
use Rattle.grail_code.specs.Code.{Code}
use Rattle.licence.specs.Checks.{Check, checks_of, integers, in_integers, Holds, AllHold}
use Rattle.lp_system.specs.Unknowns.{Unknown, Need, Back, Param, Result, BlockNeed, BlockVar, Made, NoRepeats, unknowns_of}
use Rattle.lp_system.specs.Forms.{Form, forms, unknown_book, is_zero, terms_from, row_of, has_terms, is_positive, asks, rows_of}
use Rattle.lp_system.specs.Found.{Assignment, IsZeroOff, book_by}
use Rattle.lp_system.specs.theory.Ring.{sums, minus_times, zero_times}
use Rattle.lp_system.specs.theory.Natural.{Keeps, Related, RelatedCheck, AllRelated, checks_related}
use Rattle.lp_system.specs.theory.Values.{sum_over, sum_minus, worth_of, worth_plus, worth_minus, worth_once, worth_cell}

-- ---- lists

pub by_recursion : {X : Type 0} (P : X → Type 0) (xs : List X) → All P xs → AllByRecursion P xs
by_recursion P [] h = tt
by_recursion P (x ∷ xs) h = (h 0 x (omega arith), by_recursion P xs (λ k d q. h (suc k) d (omega (arith, q))))

pub by_place : {X : Type 0} (P : X → Type 0) (xs : List X) → AllByRecursion P xs → All P xs
by_place P [] h k d q = absurd (omega (arith, q))
by_place P (x ∷ xs) h zero d q = h.0
by_place P (x ∷ xs) h (suc k) d q = by_place P xs h.1 k d (omega (arith, q))

-- ---- the sum of a row's terms

-- from this place on, the point has the values of these unknowns
abbrev HasValues : List ℕ → Assignment → ℕ → List Unknown → Type 0
HasValues point value number [] = Unit {0}
HasValues point value number (u ∷ us) = (slice_index point number ≡ value u) × HasValues point value (suc number) us

one_further : (x : ℕ) (point : List ℕ) (value : Assignment) (number : ℕ) (us : List Unknown) → HasValues point value number us
    → HasValues (x ∷ point) value (suc number) us
one_further x point value number [] h = tt
one_further x point value number (u ∷ us) h = (h.0, one_further x point value (suc number) us h.1)

has_values : (value : Assignment) (us : List Unknown) → HasValues (map value us) value 0 us
has_values value [] = tt
has_values value (u ∷ us) = (refl, one_further (value u) (map value us) value 0 us (has_values value us))

is_zero_is : (z : ℤ) → is_zero z ≡ true → z ≡ pos 0
is_zero_is (pos zero) e = refl
is_zero_is (pos (suc n)) e = absurd cc
is_zero_is (negsuc n) e = absurd cc

sum_of_terms : (point : List ℕ) (value : Assignment) (number : ℕ) (us : List Unknown) (factor : Unknown → ℤ) → HasValues point value number us
    → sum_at point (terms_from number us factor) ≡ sum_over us value factor
sum_of_terms point value number [] factor h = refl
sum_of_terms point value number (u ∷ us) factor h = by_test (sum_of_terms point value (suc number) us factor h.1) (is_zero (factor u)) refl
  where
    by_test : sum_at point (terms_from (suc number) us factor) ≡ sum_over us value factor → (b : Bool) → is_zero (factor u) ≡ b
        → sum_at point (cond b (terms_from (suc number) us factor) (record { unknown = number; factor = factor u } ∷ terms_from (suc number) us factor)) ≡ (factor u *ℤ pos (value u)) +ℤ sum_over us value factor
    by_test rec true e =
        let z : factor u *ℤ pos (value u) ≡ pos 0 = ap (λ f. f *ℤ pos (value u)) (is_zero_is (factor u) e) ∙ zero_times (pos (value u)) in
        omega (arith, sums)
    by_test rec false e = ap (λ n. (factor u *ℤ pos n) +ℤ sum_at point (terms_from (suc number) us factor)) h.0 ∙ ap (λ s. (factor u *ℤ pos (value u)) +ℤ s) rec

-- ---- rows

module _ (us : List Unknown) (unit : ℕ) (value : Assignment) where
  -- the form is worth this number
  abbrev IsWorth : Form → ℤ → Type 0
  IsWorth form z = worth_of us unit value form ≡ z

  -- a row's two sides, with the unknowns moved to one
  sides : (have need : Form) → sum_at (map value us) (terms_from 0 us (λ u. have.factor u -ℤ need.factor u)) ≡ sum_over us value have.factor -ℤ sum_over us value need.factor
  sides have need = sum_of_terms (map value us) value 0 us (λ u. have.factor u -ℤ need.factor u) (has_values value us) ∙ sum_minus us value have.factor need.factor

  check_row : (c : Check Form) → IsMet unit (map value us) (row_of us c) ↔ (worth_of us unit value c.need ≤ℤ worth_of us unit value c.have)
  check_row c = (λ h. to h.met, λ h. record { met = from h })
    where
      to : (((c.need.constant -ℤ c.have.constant) *ℤ pos unit) ≤ℤ sum_at (map value us) (terms_from 0 us (λ u. c.have.factor u -ℤ c.need.factor u)))
          → worth_of us unit value c.need ≤ℤ worth_of us unit value c.have
      to h =
          let e = minus_times c.need.constant c.have.constant (pos unit) in
          let d = sides c.have c.need in
          omega (arith, sums)

      from : (worth_of us unit value c.need ≤ℤ worth_of us unit value c.have)
          → ((c.need.constant -ℤ c.have.constant) *ℤ pos unit) ≤ℤ sum_at (map value us) (terms_from 0 us (λ u. c.have.factor u -ℤ c.need.factor u))
      from h =
          let e = minus_times c.need.constant c.have.constant (pos unit) in
          let d = sides c.have c.need in
          omega (arith, sums)

  row_met : (c : Check Form) (d : Check ℤ) → RelatedCheck IsWorth c d → IsMet unit (map value us) (row_of us c) ↔ Holds d
  row_met c d e = (
    λ h. subst (λ n. n ≤ℤ d.have) e.need (subst (λ m. worth_of us unit value c.need ≤ℤ m) e.have ((check_row c).0 h)),
    λ h. (check_row c).1 (subst (λ m. worth_of us unit value c.need ≤ℤ m) (sym e.have) (subst (λ n. n ≤ℤ d.have) (sym e.need) h)),
  )

  all_met : (cs : List (Check Form)) (ds : List (Check ℤ)) → AllRelated IsWorth cs ds
      → AllByRecursion (IsMet unit (map value us)) (map (row_of us) cs) ↔ AllHold ds
  all_met [] [] e = (λ h. tt, λ h. tt)
  all_met [] (d ∷ ds) e = absurd e
  all_met (c ∷ cs) [] e = absurd e
  all_met (c ∷ cs) (d ∷ ds) e = join (all_met cs ds e.1)
    where
      join : (AllByRecursion (IsMet unit (map value us)) (map (row_of us) cs) ↔ AllHold ds)
          → AllByRecursion (IsMet unit (map value us)) (map (row_of us) (c ∷ cs)) ↔ AllHold (d ∷ ds)
      join rec = (λ h. ((row_met c d e.0).0 h.0, rec.0 h.1), λ h. ((row_met c d e.0).1 h.0, rec.1 h.1))

-- ---- rows that ask nothing

not_positive : (z : ℤ) (unit : ℕ) → is_positive z ≡ false → (z *ℤ pos unit) ≤ℤ pos 0
not_positive (pos zero) unit e = omega (arith, ints)
not_positive (pos (suc n)) unit e = absurd cc
not_positive (negsuc n) unit e = omega (arith, ints)

asks_nothing : (unit : ℕ) (point : List ℕ) (row : Inequality) → asks row ≡ false → IsMet unit point row
asks_nothing unit point row e = record { met = by_terms row.terms e }
  where
    by_terms : (ts : List Summand) → (has_terms ts || is_positive row.least) ≡ false → (row.least *ℤ pos unit) ≤ℤ sum_at point ts
    by_terms [] e = not_positive row.least unit e
    by_terms (t ∷ ts) e = absurd cc

asked : (unit : ℕ) (point : List ℕ) (rows : List Inequality) → AllByRecursion (IsMet unit point) rows ↔ AllByRecursion (IsMet unit point) (filter asks rows)
asked unit point [] = (λ h. tt, λ h. tt)
asked unit point (row ∷ rows) = join (asked unit point rows) (asks row) refl
  where
    join : (AllByRecursion (IsMet unit point) rows ↔ AllByRecursion (IsMet unit point) (filter asks rows)) → (b : Bool) → asks row ≡ b
        → (IsMet unit point row × AllByRecursion (IsMet unit point) rows) ↔ AllByRecursion (IsMet unit point) (cond b (row ∷ filter asks rows) (filter asks rows))
    join rec true e = (λ h. (h.0, rec.0 h.1), λ h. (h.0, rec.1 h.1))
    join rec false e = (λ h. rec.0 h.1, λ h. (asks_nothing unit point row e, rec.1 h))

-- ---- the system of a code

module _ (us : List Unknown) (unit : ℕ) (value : Assignment) (distinct : NoRepeats us) (off : IsZeroOff us value) where
  forms_keep : Keeps (IsWorth us unit value) forms integers
  forms_keep = record {
    plus = λ a b u v e d. worth_plus us unit value a b ∙ (λ i. e i +ℤ d i);
    minus = λ a b u v e d. worth_minus us unit value a b ∙ (λ i. e i -ℤ d i);
  }

  book_worth : Related (IsWorth us unit value) unknown_book (in_integers (book_by unit value))
  book_worth = record {
    unit = worth_cell us unit value;
    need = λ func. worth_once us unit value (Need func) distinct off;
    back = λ func. worth_once us unit value (Back func) distinct off;
    param = λ func x con. worth_once us unit value (Param func x con) distinct off;
    result = λ func con. worth_once us unit value (Result func con) distinct off;
    block_need = λ func block. worth_once us unit value (BlockNeed func block) distinct off;
    block_var = λ func block x con. worth_once us unit value (BlockVar func block x con) distinct off;
    make = λ func block place con. worth_once us unit value (Made func block place con) distinct off;
  }

  checks_worth : (p : Code) → AllRelated (IsWorth us unit value) (checks_of forms p unknown_book) (checks_of integers p (in_integers (book_by unit value)))
  checks_worth p = checks_related (IsWorth us unit value) forms integers forms_keep p unknown_book (in_integers (book_by unit value)) book_worth

-- The values of the unknowns meet the rows exactly where every check holds of them.
pub rows_met : (p : Code) (unit : ℕ) (value : Assignment) → NoRepeats (unknowns_of p) → IsZeroOff (unknowns_of p) value
    → All (IsMet unit (map value (unknowns_of p))) (rows_of p) ↔ AllHold (checks_of integers p (in_integers (book_by unit value)))
unfolding rows_of
rows_met p unit value distinct off = (
  λ h. held.0 (every.1 (by_recursion (IsMet unit point) (filter asks rows) h)),
  λ h. by_place (IsMet unit point) (filter asks rows) (every.0 (held.1 h)),
)
  where
    point : List ℕ
    point = map value (unknowns_of p)

    rows : List Inequality
    rows = map (row_of (unknowns_of p)) (checks_of forms p unknown_book)

    every : AllByRecursion (IsMet unit point) rows ↔ AllByRecursion (IsMet unit point) (filter asks rows)
    every = asked unit point rows

    held : AllByRecursion (IsMet unit point) rows ↔ AllHold (checks_of integers p (in_integers (book_by unit value)))
    held = all_met (unknowns_of p) unit value (checks_of forms p unknown_book) (checks_of integers p (in_integers (book_by unit value))) (checks_worth (unknowns_of p) unit value distinct off p)
