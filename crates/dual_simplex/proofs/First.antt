-- The first tableau, row by row.
use Rattle.std.proofs.Common.{◌≡◌, ℕ, suc, zero, ◌+◌, ◌<◌, ◌≤◌, ◌^◌, ℤ, pos, List, [], ◌∷◌, ◌++◌, map, length, drop, set, get_or, replicate, Bool, true, false, ◌&&◌, arith, ap, sym, ◌∙◌, refl, subst, unsigned_abs, add-one, append_assoc}
use Rattle.std.proofs.lemmas.List.{length-map, get_or-map, map-append}
use Rattle.std.proofs.lemmas.List.Recursion.{and_set}
use Rattle.std.proofs.lemmas.List.FromFn.{length-range_with_len}
use Rattle.std.specs.Prelude.{All, ◌≤ℤ◌}
use Rattle.std.specs.List.{list_all}
use Rattle.std.proofs.lemmas.Int.{ints}
use Rattle.dual_simplex.specs.declared.system.Summand.{Summand}
use Rattle.dual_simplex.specs.declared.system.Row.{Row}
use Rattle.dual_simplex.specs.declared.line.Line.{Line}
use Rattle.dual_simplex.specs.declared.tableau.Tableau.{Tableau}
use Rattle.dual_simplex.specs.Equation.{Equation, is_small}
use Rattle.dual_simplex.specs.Lines.{plain_line, plain_tableau, IsSoundLine}
use Rattle.dual_simplex.specs.Systems.{Inequality, Inequalities, IsAscending, IsProper, IsProperRow, plain_row, spread, slack_line, slack_lines, first_tableau}
use Rattle.dual_simplex.proofs.Loops.{drop_next}

pub ascending_at : (n low : ℕ) (ts : List Summand) (i : ℕ) (d : Summand) → IsAscending n low ts → i < length ts
    → ((get_or ts i d).unknown < n) × (unsigned_abs (get_or ts i d).factor ≤ 2 ^ 31)
ascending_at n low [] i d h p = absurd (omega arith)
ascending_at n low (t ∷ ts) zero d h p = (h.1, h.2)
ascending_at n low (t ∷ ts) (suc i) d h p = ascending_at n (suc t.unknown) ts i d h.3 (omega arith)

pub small_31 : (x : ℤ) → unsigned_abs x ≤ 2 ^ 31 → is_small x ≡ true
small_31 x h = let k : unsigned_abs x ≤ 2 ^ 62 = omega arith in grind arith

pub zeros_small : (n : ℕ) → list_all is_small (replicate n (pos 0)) ≡ true
zeros_small zero = refl
zeros_small (suc n) = zeros_small n

pub small_set : (xs : List ℤ) (i : ℕ) (x : ℤ) → is_small x ≡ true → list_all is_small xs ≡ true → list_all is_small (set xs i x) ≡ true
small_set xs i x p h = and_set (list_all is_small) is_small refl (λ y ys. refl) xs i x p h

pub spread_turn : (factors all : List ℤ) (ts : List Summand) (i : ℕ) (d : Summand) → i < length ts → spread factors (drop i ts) ≡ all
    → spread (set factors (get_or ts i d).unknown (get_or ts i d).factor) (drop (i + 1) ts) ≡ all
spread_turn factors all ts i d p before = sym (ap (spread factors) (drop_next ts i d p)) ∙ before

pub slack_turn : (n variable i : ℕ) (rows : List Row) (d : Row) (made next : List Line) (line : Line) (all : List Equation) → i < length rows
    → next ≡ made ++ line ∷ [] → plain_line line ≡ slack_line n variable (plain_row (get_or rows i d))
    → map plain_line made ++ slack_lines n variable (map plain_row (drop i rows)) ≡ all
    → map plain_line next ++ slack_lines n (variable + 1) (map plain_row (drop (i + 1) rows)) ≡ all
slack_turn n variable i rows d made next line all p e q before =
    ap (λ xs. map plain_line xs ++ slack_lines n (variable + 1) (map plain_row (drop (i + 1) rows))) e
    ∙ ap (λ xs. xs ++ slack_lines n (variable + 1) (map plain_row (drop (i + 1) rows))) (map-append plain_line made (line ∷ []))
    ∙ append_assoc (map plain_line made) (plain_line line ∷ []) (slack_lines n (variable + 1) (map plain_row (drop (i + 1) rows)))
    ∙ ap (λ x. map plain_line made ++ x ∷ slack_lines n (variable + 1) (map plain_row (drop (i + 1) rows))) q
    ∙ ap (λ k. map plain_line made ++ slack_line n variable (plain_row (get_or rows i d)) ∷ slack_lines n k (map plain_row (drop (i + 1) rows))) (add-one variable)
    ∙ sym (ap (λ xs. map plain_line made ++ slack_lines n variable (map plain_row xs)) (drop_next rows i d p))
    ∙ before

pub row_at : (n : ℕ) (rows : List Row) (i : ℕ) (d : Row) → i < length rows → All (IsProperRow n) (map plain_row rows)
    → IsProperRow n (plain_row (get_or rows i d))
row_at n rows i d p h =
    subst (IsProperRow n) (get_or-map plain_row rows i d (plain_row d) p) (h i (plain_row d) (rw (length-map rows plain_row) p))

pub length-slack_lines : (n variable : ℕ) (rows : List Inequality) → length (slack_lines n variable rows) ≡ length rows
length-slack_lines n variable [] = refl
length-slack_lines n variable (row ∷ rows) = ap suc (length-slack_lines n (suc variable) rows)

-- a cost is small
pub costs_small : (costs : List ℤ) → All (λ cost. (pos 0 ≤ℤ cost) × (unsigned_abs cost ≤ 2 ^ 31)) costs → list_all is_small costs ≡ true
costs_small [] h = refl
costs_small (c ∷ cs) h = both (is_small c) (list_all is_small cs) (small_31 c (h 0 c (omega arith)).1) (costs_small cs (λ k d p. h (suc k) d (omega arith)))
  where
    both : (a b : Bool) → a ≡ true → b ≡ true → (a && b) ≡ true
    both true true p q = refl
    both true false p q = q
    both false b p q = p

pub cost_sound : (system : Inequalities) → IsProper system → IsSoundLine system.unknowns (first_tableau system).cost
cost_sound system h = record {
  columns = h.costs;
  positive = omega (arith, ints);
  small = costs_small system.costs h.not_negative;
}

pub few_columns : (system : Inequalities) (t : Tableau) → IsProper system → plain_tableau t ≡ first_tableau system
    → length t.columns.items + length t.lines.items < 2 ^ 32
few_columns system t h e =
    let c : length t.columns.items ≡ system.unknowns = ap (λ x. length x.columns) e ∙ length-range_with_len 0 system.unknowns in
    let l : length t.lines.items ≡ length system.rows = sym (length-map t.lines.items plain_line) ∙ ap (λ x. length x.lines) e ∙ length-slack_lines system.unknowns system.unknowns system.rows in
    omega (arith, h.few)

-- one more term put at its place
pub term_turn : (n low : ℕ) (factors all : List ℤ) (ts : List Summand) (i : ℕ) (t : Summand) (x : ℤ) → i < length ts → t ≡ get_or ts i t → x ≡ t.factor
    → IsAscending n low ts → list_all is_small factors ≡ true → spread factors (drop i ts) ≡ all
    → (list_all is_small (set factors t.unknown x) ≡ true) × (spread (set factors t.unknown x) (drop (i + 1) ts) ≡ all)
term_turn n low factors all ts i t x p is e h small before =
    let own = ascending_at n low ts i t h p in
    let size : unsigned_abs t.factor ≤ 2 ^ 31 = subst (λ u. unsigned_abs u.factor ≤ 2 ^ 31) (sym is) own.1 in
    let x_small = ap is_small e ∙ small_31 t.factor size in
    let next = spread_turn factors all ts i t p before in (
      small_set factors t.unknown x x_small small,
      ap (λ y. spread (set factors t.unknown y) (drop (i + 1) ts)) e ∙ ap (λ u. spread (set factors u.unknown u.factor) (drop (i + 1) ts)) is ∙ next,
    )

pub row_item : (n : ℕ) (rows : List Row) (i : ℕ) (row : Row) → i < length rows → row ≡ get_or rows i row → All (IsProperRow n) (map plain_row rows)
    → IsProperRow n (plain_row row)
row_item n rows i row p is h = subst (λ r. IsProperRow n (plain_row r)) (sym is) (row_at n rows i row p h)

pub rows_from : (n : ℕ) (rows : List Row) → All (λ row. IsProperRow n (plain_row row)) rows → All (IsProperRow n) (map plain_row rows)
rows_from n [] h k d p = absurd (omega arith)
rows_from n (row ∷ rows) h zero d p = h 0 row (omega arith)
rows_from n (row ∷ rows) h (suc k) d p = rows_from n rows (λ j e q. h (suc j) e (omega arith)) k d (omega arith)
