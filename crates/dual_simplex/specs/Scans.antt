-- Private: words for functions of this crate. The scans that find the variables of a pivot, and the run by them.
use Rattle.std.specs.Prelude.{◌≡◌, ℕ, zero, suc, ℤ, pos, ◌*ℤ◌, int_lt, int_le, List, [], ◌∷◌, length, Bool, ◌&&◌, ◌||◌, nat_lt, if◌then◌else◌, Option, Some, None, MatchOption}
use Rattle.dual_simplex.specs.Equation.{Equation}
use Rattle.dual_simplex.specs.Tableau.{Tableau, all_fit, line_at, pivoted}
use Rattle.dual_simplex.specs.Choices.{IsLeaving, NoLeaving, IsEntering, NoEntering}
use Rattle.dual_simplex.specs.Run.{Outcome, Nothing, Wide, Spent, ended}
use Rattle.dual_simplex.specs.Systems.{Inequalities, first_tableau}
use Rattle.dual_simplex.specs.declared.tableau.Choice.{Choice}
use Rattle.dual_simplex.specs.declared.tableau.Candidate.{Candidate}

-- the candidate to leave after one more line: of those with a negative constant, the one of least variable (Bland 1977)
abbrev pub earlier : Option Candidate → Candidate → ℤ → Option Candidate
earlier None next constant = if int_lt constant (pos 0) then Some next else None
earlier (Some best) next constant =
    if int_lt constant (pos 0) && nat_lt next.variable best.variable then Some next else Some best

-- the same over all lines, the first of which is at `place`
abbrev pub leaving_from : Option Candidate → ℕ → List Equation → Option Candidate
leaving_from best place [] = best
leaving_from best place (e ∷ es) = leaving_from (earlier best (record { place = place; variable = e.variable }) e.constant) (suc place) es

-- the line that leaves the basis
abbrev pub leaving : Tableau → Option Candidate
leaving t = leaving_from None 0 t.lines

-- One choice of a column is better than another: its cost factor divided by its factor in the leaving line is less,
-- or is the same and its variable is less. Both factors in the leaving line are positive.
abbrev pub beats : Choice → Choice → Bool
beats next best =
    int_lt (next.cost *ℤ best.factor) (best.cost *ℤ next.factor)
    || (int_le (next.cost *ℤ best.factor) (best.cost *ℤ next.factor) && nat_lt next.variable best.variable)

-- the best choice after one more column (Lemke 1954, ties by Bland 1977)
abbrev pub better : Option Choice → Choice → Option Choice
better None next = if int_lt (pos 0) next.factor then Some next else None
better (Some best) next = if int_lt (pos 0) next.factor && beats next best then Some next else Some best

-- the same over all columns, the first of which is at `place`
abbrev pub entering_from : Option Choice → ℕ → List ℕ → List ℤ → List ℤ → Option Choice
entering_from best place (v ∷ vs) (c ∷ cs) (f ∷ fs) =
    entering_from (better best (record { place = place; variable = v; cost = c; factor = f })) (suc place) vs cs fs
entering_from best place vs cs fs = best

-- the column that enters the basis, for a line that leaves it
abbrev pub entering : Tableau → Equation → Option Choice
entering t line = entering_from None 0 t.columns t.cost.factors line.factors

-- the scan finds the line that leaves
abbrev pub LeavesRightly : Tableau → Type 0
LeavesRightly t = MatchOption (leaving t) (NoLeaving t) (λ c. IsLeaving t c.place)

-- the scan finds the column that enters
abbrev pub EntersRightly : Tableau → Equation → Type 0
EntersRightly t line =
    length t.cost.factors ≡ length t.columns → length line.factors ≡ length t.columns
    → MatchOption (entering t line) (NoEntering t line) (λ c. IsEntering t line c.place)

-- a line leaves: no column may enter, and there is no solution, or one does, and `next` goes on with the pivoted
-- tableau
abbrev pub after_entering : Tableau → Equation → (Tableau → Outcome) → Option Choice → Outcome
after_entering t line next None = Nothing line.variable
after_entering t line next (Some choice) = next (pivoted t line choice.place)

-- no line leaves, and the run ends, or one does
abbrev pub after_leaving : ℕ → Tableau → (Tableau → Outcome) → Option Candidate → Outcome
after_leaving pivot t next None = ended pivot t
after_leaving pivot t next (Some line) = after_entering t (line_at t line.place) next (entering t (line_at t line.place))

-- what is tried after `pivot` pivots, in order
abbrev pub turn : ℕ → Tableau → (Tableau → Outcome) → Outcome
turn pivot t next = if all_fit t then after_leaving pivot t next (leaving t) else Wide pivot

-- the run from a tableau after `pivot` pivots, with `left` pivots to go
unfoldable pub run_from : ℕ → ℕ → Tableau → Outcome
run_from zero pivot t = turn pivot t (λ _. Spent)
run_from (suc left) pivot t = turn pivot t (run_from left (suc pivot))

-- the outcome of the run of a system: a function, so there is exactly one
abbrev pub outcome_of : Inequalities → Outcome
outcome_of system = run_from 4096 0 (first_tableau system)

-- How many pivots a run makes: none where it ends before its next one, by the same tests in the same order, and
-- else that one and those from the pivoted tableau.
abbrev pub count_entering : Tableau → Equation → (Tableau → ℕ) → Option Choice → ℕ
count_entering t line count None = 0
count_entering t line count (Some choice) = suc (count (pivoted t line choice.place))

abbrev pub count_leaving : Tableau → (Tableau → ℕ) → Option Candidate → ℕ
count_leaving t count None = 0
count_leaving t count (Some line) = count_entering t (line_at t line.place) count (entering t (line_at t line.place))

-- the same from a tableau, with `left` pivots to go
unfoldable pub pivots_from : ℕ → Tableau → ℕ
pivots_from zero t = 0
pivots_from (suc left) t = if all_fit t then count_leaving t (pivots_from left) (leaving t) else 0

-- the pivots of the run of a system
abbrev pub pivots_of : Inequalities → ℕ
pivots_of system = pivots_from 4096 (first_tableau system)
