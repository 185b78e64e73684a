-- The run, turn by turn.
use Rattle.std.proofs.Common.{◌≡◌, ℕ, suc, zero, ◌+◌, arith, ap, ◌∙◌, refl, true, false, cond, None, Some}
use Rattle.std.specs.Prelude.{Result, IfOk, OnOk, OnErr, is_err, Ok, Err}
use Rattle.dual_simplex.specs.declared.tableau.Candidate.{Candidate}
use Rattle.dual_simplex.specs.declared.tableau.Choice.{Choice}
use Rattle.dual_simplex.specs.Tableau.{Tableau, all_fit, pivoted, line_at}
use Rattle.dual_simplex.specs.Run.{Outcome, Nothing, Wide, Spent, ended}
use Rattle.dual_simplex.specs.Scans.{leaving, entering, after_entering, after_leaving, turn, run_from, outcome_of, count_entering, count_leaving, pivots_from, pivots_of}
use Rattle.dual_simplex.specs.Systems.{Inequalities, first_tableau}

-- how a run goes on after its next pivot
next_of : ℕ → ℕ → Tableau → Outcome
unfolding run_from
next_of zero pivot = λ _. Spent
next_of (suc left) pivot = run_from left (suc pivot)

run_is_turn : (left pivot : ℕ) (t : Tableau) → run_from left pivot t ≡ turn pivot t (next_of left pivot)
unfolding run_from next_of
run_is_turn zero pivot t = refl
run_is_turn (suc left) pivot t = refl

run_is : (left pivot : ℕ) (t : Tableau) → all_fit t ≡ true → run_from left pivot t ≡ after_leaving pivot t (next_of left pivot) (leaving t)
run_is left pivot t fit = run_is_turn left pivot t ∙ ap (λ b. cond b (after_leaving pivot t (next_of left pivot) (leaving t)) (Wide pivot)) fit

pub run_wide : (left pivot : ℕ) (t : Tableau) → all_fit t ≡ false → run_from left pivot t ≡ Wide pivot
run_wide left pivot t fit = run_is_turn left pivot t ∙ ap (λ b. cond b (after_leaving pivot t (next_of left pivot) (leaving t)) (Wide pivot)) fit

pub run_ends : (left pivot : ℕ) (t : Tableau) → all_fit t ≡ true → leaving t ≡ None → run_from left pivot t ≡ ended pivot t
run_ends left pivot t fit none = run_is left pivot t fit ∙ ap (after_leaving pivot t (next_of left pivot)) none

pub run_nothing : (left pivot : ℕ) (t : Tableau) (line : Candidate) → all_fit t ≡ true → leaving t ≡ Some line → entering t (line_at t line.place) ≡ None
    → run_from left pivot t ≡ Nothing (line_at t line.place).variable
run_nothing left pivot t line fit some none =
    run_is left pivot t fit ∙ ap (after_leaving pivot t (next_of left pivot)) some ∙ ap (after_entering t (line_at t line.place) (next_of left pivot)) none

run_next : (left pivot : ℕ) (t : Tableau) (line : Candidate) (choice : Choice) → all_fit t ≡ true → leaving t ≡ Some line
    → entering t (line_at t line.place) ≡ Some choice → run_from left pivot t ≡ next_of left pivot (pivoted t (line_at t line.place) choice.place)
run_next left pivot t line choice fit some one =
    run_is left pivot t fit ∙ ap (after_leaving pivot t (next_of left pivot)) some ∙ ap (after_entering t (line_at t line.place) (next_of left pivot)) one

pub run_spent : (pivot : ℕ) (t : Tableau) (line : Candidate) (choice : Choice) → all_fit t ≡ true → leaving t ≡ Some line
    → entering t (line_at t line.place) ≡ Some choice → run_from zero pivot t ≡ Spent
unfolding next_of
run_spent pivot t line choice fit some one = run_next zero pivot t line choice fit some one

pub run_goes : (left pivot : ℕ) (t : Tableau) (line : Candidate) (choice : Choice) → all_fit t ≡ true → leaving t ≡ Some line
    → entering t (line_at t line.place) ≡ Some choice → run_from (suc left) pivot t ≡ run_from left (suc pivot) (pivoted t (line_at t line.place) choice.place)
unfolding next_of
run_goes left pivot t line choice fit some one = run_next (suc left) pivot t line choice fit some one

-- ---- the count of its pivots
pub pivots_wide : (left : ℕ) (t : Tableau) → all_fit t ≡ false → pivots_from left t ≡ 0
unfolding pivots_from
pivots_wide zero t fit = refl
pivots_wide (suc left) t fit = ap (λ b. cond b (count_leaving t (pivots_from left) (leaving t)) 0) fit

pub pivots_ends : (left : ℕ) (t : Tableau) → all_fit t ≡ true → leaving t ≡ None → pivots_from left t ≡ 0
unfolding pivots_from
pivots_ends zero t fit none = refl
pivots_ends (suc left) t fit none = ap (λ b. cond b (count_leaving t (pivots_from left) (leaving t)) 0) fit ∙ ap (count_leaving t (pivots_from left)) none

pub pivots_nothing : (left : ℕ) (t : Tableau) (line : Candidate) → all_fit t ≡ true → leaving t ≡ Some line → entering t (line_at t line.place) ≡ None
    → pivots_from left t ≡ 0
unfolding pivots_from
pivots_nothing zero t line fit some none = refl
pivots_nothing (suc left) t line fit some none =
    ap (λ b. cond b (count_leaving t (pivots_from left) (leaving t)) 0) fit
    ∙ ap (count_leaving t (pivots_from left)) some ∙ ap (count_entering t (line_at t line.place) (pivots_from left)) none

pub pivots_spent : (t : Tableau) → pivots_from zero t ≡ 0
unfolding pivots_from
pivots_spent t = refl

pub pivots_goes : (left : ℕ) (t : Tableau) (line : Candidate) (choice : Choice) → all_fit t ≡ true → leaving t ≡ Some line
    → entering t (line_at t line.place) ≡ Some choice → pivots_from (suc left) t ≡ suc (pivots_from left (pivoted t (line_at t line.place) choice.place))
unfolding pivots_from
pivots_goes left t line choice fit some one =
    ap (λ b. cond b (count_leaving t (pivots_from left) (leaving t)) 0) fit
    ∙ ap (count_leaving t (pivots_from left)) some ∙ ap (count_entering t (line_at t line.place) (pivots_from left)) one

pub count_ends : (p k all : ℕ) → k ≡ 0 → p + k ≡ all → p ≡ all
count_ends p k all e f = omega arith

pub count_goes : (p k m all : ℕ) → k ≡ suc m → p + k ≡ all → p + 1 + m ≡ all
count_goes p k m all e f = omega arith

pub if_both : {A B : Type 0} (P Q R : A → Type 0) (r : Result A B) → ((x : A) → P x → Q x → R x) → IfOk r P → IfOk r Q → IfOk r R
if_both P Q R (Ok x) f h k = f x h k
if_both P Q R (Err x) f h k = tt

pub at_err : {A B : Type 0} {P : Type 0} (r : Result A B) → is_err r ≡ true → OnErr r P → P
at_err (Ok x) e h = absurd cc
at_err (Err x) e h = h

pub at_ok : {A B : Type 0} {P : Type 0} (r : Result A B) → is_err r ≡ false → OnOk r P → P
at_ok (Ok x) e h = h
at_ok (Err x) e h = absurd cc

pub run_same : (o : Outcome) (system : Inequalities) (t : Tableau) → o ≡ run_from 4096 0 t → t ≡ first_tableau system → o ≡ outcome_of system
run_same o system t e f = e ∙ ap (run_from 4096 0) f

pub pivots_same : (n : ℕ) (system : Inequalities) (t : Tableau) → n ≡ pivots_from 4096 t → t ≡ first_tableau system → n ≡ pivots_of system
pivots_same n system t e f = e ∙ ap (pivots_from 4096) f
