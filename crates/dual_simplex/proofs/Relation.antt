-- The run as a relation is the run by the scans, and each of its choices is the only one.
use Rattle.std.proofs.Common.{◌≡◌, ℕ, suc, zero, ◌+◌, ◌<◌, ◌≤◌, ℤ, pos, List, [], ◌∷◌, length, get_or, Bool, true, false, arith, ap, sym, ◌∙◌, refl, subst, inl, inr, None, Some}
use Rattle.std.specs.Prelude.{◌<ℤ◌, ◌≤ℤ◌, Option, MatchOption}
use Rattle.std.proofs.lemmas.Int.{ints}
use Rattle.std.proofs.lemmas.List.{get_or-map, length-map}
use Rattle.dual_simplex.specs.declared.tableau.Choice.{Choice}
use Rattle.dual_simplex.specs.declared.tableau.Candidate.{Candidate}
use Rattle.dual_simplex.specs.Equation.{Equation, factor_at}
use Rattle.dual_simplex.specs.Tableau.{Tableau, all_fit, no_line, line_at, pivoted}
use Rattle.dual_simplex.specs.Choices.{IsLeaving, NoLeaving, IsEntering, NoEntering, PicksLine, PicksColumn}
use Rattle.dual_simplex.specs.Run.{Outcome, Nothing, Spent, ended, Turn, too_wide, ends, unmet, goes, IsRunFrom, IsRun, IsOutcome, HasOneRun, IsTableauOf}
use Rattle.dual_simplex.specs.Scans.{leaving, entering, run_from, outcome_of, pivots_from, pivots_of}
use Rattle.dual_simplex.specs.Shape.{IsWellShaped}
use Rattle.dual_simplex.specs.Reduced.{AllReduced}
use Rattle.dual_simplex.specs.Systems.{Inequalities, IsProper, first_tableau}
use Rattle.dual_simplex.specs.Promises.{SaysLeast, SaysNothing}
use Rattle.dual_simplex.proofs.Names.{one_if, one_if-same, uses, uses_at, variables}
use Rattle.dual_simplex.proofs.Pivots.{wide_at}
use Rattle.dual_simplex.proofs.Truth.{answer_least, answer_nothing}
use Rattle.dual_simplex.proofs.Good.{Good, good_first, good_turn, not_negative_at}
use Rattle.dual_simplex.proofs.Chosen.{leaves_rightly, enters_rightly}
use Rattle.dual_simplex.proofs.LowestTerms.{first_reduced, stays_reduced}
use Rattle.dual_simplex.proofs.Runs.{run_wide, run_ends, run_nothing, run_spent, run_goes, pivots_wide, pivots_ends, pivots_nothing, pivots_spent, pivots_goes}

-- ---- places
uses_there : (xs : List ℕ) (i v : ℕ) → i < length xs → get_or xs i 0 ≡ v → 1 ≤ uses v xs
uses_there xs i v p e = subst (λ w. 1 ≤ uses w xs) e (uses_at xs i p)

same_place : (xs : List ℕ) (i k v : ℕ) → i < length xs → k < length xs → get_or xs i 0 ≡ v → get_or xs k 0 ≡ v → uses v xs ≤ 1 → i ≡ k
same_place [] i k v p q a b h = absurd (omega arith)
same_place (x ∷ xs) zero zero v p q a b h = refl
same_place (x ∷ xs) zero (suc k) v p q a b h =
    let there = uses_there xs k v (omega arith) b in let one = ap (λ y. one_if y v) a ∙ one_if-same v in absurd (omega (arith, there, one, h))
same_place (x ∷ xs) (suc i) zero v p q a b h =
    let there = uses_there xs i v (omega arith) a in let one = ap (λ y. one_if y v) b ∙ one_if-same v in absurd (omega (arith, there, one, h))
same_place (x ∷ xs) (suc i) (suc k) v p q a b h = ap suc (same_place xs i k v (omega arith) (omega arith) a b (omega arith))

-- the variable of a line among all of them
variable_at : (t : Tableau) (i : ℕ) → i < length t.lines → get_or (variables t.lines) i 0 ≡ (line_at t i).variable
variable_at t i p = get_or-map (λ e. e.variable) t.lines i no_line 0 p

among : (t : Tableau) (i : ℕ) → i < length t.lines → i < length (variables t.lines)
among t i p = rw (length-map t.lines (λ e. e.variable)) p

not_both : (x : ℤ) → x <ℤ pos 0 → pos 0 ≤ℤ x → ⊥
not_both x p q = omega (arith, ints)

not_both_signs : (x : ℤ) → pos 0 <ℤ x → x ≤ℤ pos 0 → ⊥
not_both_signs x p q = omega (arith, ints)

both : (a b : ℕ) → a ≤ b → b ≤ a → a ≡ b
both a b p q = omega arith

module _ (system : Inequalities) (t : Tableau) (good : Good system t) where
  pub lines_apart : (i k : ℕ) → i < length t.lines → k < length t.lines → (line_at t i).variable ≡ (line_at t k).variable → i ≡ k
  lines_apart i k p q e =
      same_place (variables t.lines) i k (line_at t k).variable (among t i p) (among t k q) (variable_at t i p ∙ e) (variable_at t k q)
      (let once = good.once (line_at t k).variable in omega (arith, once))

  pub columns_apart : (j k : ℕ) → j < length t.columns → k < length t.columns → get_or t.columns j 0 ≡ get_or t.columns k 0 → j ≡ k
  columns_apart j k p q e =
      same_place t.columns j k (get_or t.columns k 0) p q e refl (let once = good.once (get_or t.columns k 0) in omega (arith, once))

  apart : (i j : ℕ) → i < length t.lines → j < length t.columns → (line_at t i).variable ≡ get_or t.columns j 0 → ⊥
  apart i j p q e =
      let v = get_or t.columns j 0 in
      let once = good.once v in
      let a = uses_there (variables t.lines) i v (among t i p) (variable_at t i p ∙ e) in
      let b = uses_at t.columns j q in
      omega (arith, once, a, b)

  pub well_shaped : IsWellShaped system t
  well_shaped = record {
    columns = good.columns;
    lines = good.lines;
    line_factors = λ i p. wide_at (length t.columns) t.lines i p good.wide;
    cost_factors = good.cost_wide;
    lines_apart = lines_apart;
    columns_apart = columns_apart;
    apart = apart;
    costs = λ j p. not_negative_at t.cost.factors j good.costs;
  }

  one_leaving : (i k : ℕ) → IsLeaving t i → IsLeaving t k → i ≡ k
  one_leaving i k a b =
      lines_apart i k a.inside b.inside (both (line_at t i).variable (line_at t k).variable (a.least k b.inside b.negative) (b.least i a.inside a.negative))

  one_entering : (line : Equation) (j k : ℕ) → IsEntering t line j → IsEntering t line k → j ≡ k
  one_entering line j k a b =
      columns_apart j k a.inside b.inside (both (get_or t.columns j 0) (get_or t.columns k 0)
      (a.ties k b.inside b.positive (b.least j a.inside a.positive)) (b.ties j a.inside a.positive (a.least k b.inside b.positive)))

  -- ---- what the scans find
  leaves_of : (c : Candidate) → leaving t ≡ Some c → IsLeaving t c.place
  leaves_of c e = subst (λ o. MatchOption o (NoLeaving t) (λ x. IsLeaving t x.place)) e (leaves_rightly t)

  none_of : leaving t ≡ None → NoLeaving t
  none_of e = subst (λ o. MatchOption o (NoLeaving t) (λ x. IsLeaving t x.place)) e (leaves_rightly t)

  column_of : (i : ℕ) → i < length t.lines → (o : Option Choice) → entering t (line_at t i) ≡ o
      → MatchOption o (NoEntering t (line_at t i)) (λ x. IsEntering t (line_at t i) x.place)
  column_of i p o e =
      subst (λ o. MatchOption o (NoEntering t (line_at t i)) (λ x. IsEntering t (line_at t i) x.place)) e
      (enters_rightly t (line_at t i) good.cost_wide (wide_at (length t.columns) t.lines i p good.wide))

  pub picks_line : PicksLine t
  picks_line = by (leaving t) refl
    where
      by : (o : Option Candidate) → leaving t ≡ o → PicksLine t
      by None e = inl (none_of e)
      by (Some c) e = inr (record { place = c.place; picked = leaves_of c e; only = λ k h. one_leaving k c.place h (leaves_of c e) })

  pub picks_column : (i : ℕ) → i < length t.lines → PicksColumn t (line_at t i)
  picks_column i p = by (entering t (line_at t i)) refl
    where
      by : (o : Option Choice) → entering t (line_at t i) ≡ o → PicksColumn t (line_at t i)
      by None e = inl (column_of i p None e)
      by (Some c) e =
          let here = column_of i p (Some c) e in
          inr (record { place = c.place; picked = here; only = λ k h. one_entering (line_at t i) k c.place h here })

  -- a line that leaves, and a column that enters, are those that the scans find
  module _ (i : ℕ) (l : IsLeaving t i) where
    found_line : (P : Type 0) → ((c : Candidate) → leaving t ≡ Some c → c.place ≡ i → P) → P
    found_line P f = by (leaving t) refl
      where
        by : (o : Option Candidate) → leaving t ≡ o → P
        by None e = absurd (not_both (line_at t i).constant l.negative (none_of e i l.inside))
        by (Some c) e = f c e (one_leaving c.place i (leaves_of c e) l)

    found_column : (j : ℕ) → IsEntering t (line_at t i) j → (P : Type 0) → ((c : Choice) → entering t (line_at t i) ≡ Some c → c.place ≡ j → P) → P
    found_column j h P f = by (entering t (line_at t i)) refl
      where
        by : (o : Option Choice) → entering t (line_at t i) ≡ o → P
        by None e = absurd (not_both_signs (factor_at j (line_at t i)) h.positive (column_of i l.inside None e j h.inside))
        by (Some c) e = f c e (one_entering (line_at t i) c.place j (column_of i l.inside (Some c) e) h)

    found_none : NoEntering t (line_at t i) → entering t (line_at t i) ≡ None
    found_none h = by (entering t (line_at t i)) refl
      where
        by : (o : Option Choice) → entering t (line_at t i) ≡ o → entering t (line_at t i) ≡ None
        by None e = e
        by (Some c) e =
            let here = column_of i l.inside (Some c) e in
            absurd (not_both_signs (factor_at c.place (line_at t i)) here.positive (h c.place here.inside))

  good_step : (i j : ℕ) → IsLeaving t i → IsEntering t (line_at t i) j → Good system (pivoted t (line_at t i) j)
  good_step i j l h =
      found_line i l (Good system (pivoted t (line_at t i) j)) (λ c e same.
      found_column i l j h (Good system (pivoted t (line_at t i) j)) (λ d f same_column.
      subst (λ k. Good system (pivoted t (line_at t i) k)) same_column
      (subst (λ k. entering t (line_at t k) ≡ Some d → Good system (pivoted t (line_at t k) d.place)) same (good_turn system t c d good e) f)))

-- ---- the run
next_of : ℕ → ℕ → Tableau → ℕ → Outcome → Type 0
next_of zero pivot = λ _ made e. (made ≡ pivot) × (e ≡ Spent)
next_of (suc left) pivot = IsRunFrom left (suc pivot)

to_turn : (left pivot : ℕ) (t : Tableau) (n : ℕ) (o : Outcome) → IsRunFrom left pivot t n o → Turn pivot t (next_of left pivot) n o
unfolding IsRunFrom next_of
to_turn zero pivot t n o h = h
to_turn (suc left) pivot t n o h = h

of_turn : (left pivot : ℕ) (t : Tableau) (n : ℕ) (o : Outcome) → Turn pivot t (next_of left pivot) n o → IsRunFrom left pivot t n o
unfolding IsRunFrom next_of
of_turn zero pivot t n o h = h
of_turn (suc left) pivot t n o h = h

-- what a turn by the scans comes to
module _ (system : Inequalities) (left pivot : ℕ) (t : Tableau) (good : Good system t) where
  abbrev Goes : Type 0
  Goes = (c : Candidate) (d : Choice) → all_fit t ≡ true → leaving t ≡ Some c → entering t (line_at t c.place) ≡ Some d
      → next_of left pivot (pivoted t (line_at t c.place) d.place) (pivot + pivots_from left t) (run_from left pivot t)

  some_column : Goes → (c : Candidate) → all_fit t ≡ true → leaving t ≡ Some c → (o : Option Choice) → entering t (line_at t c.place) ≡ o
      → Turn pivot t (next_of left pivot) (pivot + pivots_from left t) (run_from left pivot t)
  some_column f c fit e None none =
      let l = leaves_of system t good c e in
      let k = pivots_nothing left t c fit e none in
      unmet c.place fit l (column_of system t good c.place l.inside None none) (omega (arith, k)) (run_nothing left pivot t c fit e none)
  some_column f c fit e (Some d) some =
      let l = leaves_of system t good c e in
      goes c.place d.place fit l (column_of system t good c.place l.inside (Some d) some) (f c d fit e some)

  some_line : Goes → all_fit t ≡ true → (o : Option Candidate) → leaving t ≡ o
      → Turn pivot t (next_of left pivot) (pivot + pivots_from left t) (run_from left pivot t)
  some_line f fit None e =
      let k = pivots_ends left t fit e in
      ends fit (none_of system t good e) (omega (arith, k)) (run_ends left pivot t fit e)
  some_line f fit (Some c) e = some_column f c fit e (entering t (line_at t c.place)) refl

  some_turn_by : Goes → (b : Bool) → all_fit t ≡ b → Turn pivot t (next_of left pivot) (pivot + pivots_from left t) (run_from left pivot t)
  some_turn_by f false e = let k = pivots_wide left t e in too_wide e (omega (arith, k)) (run_wide left pivot t e)
  some_turn_by f true e = some_line f e (leaving t) refl

  some_turn : Goes → Turn pivot t (next_of left pivot) (pivot + pivots_from left t) (run_from left pivot t)
  some_turn f = some_turn_by f (all_fit t) refl

sum_goes : (p k m : ℕ) → k ≡ suc m → suc p + m ≡ p + k
sum_goes p k m e = omega (arith, e)

some_run : (system : Inequalities) (left pivot : ℕ) (t : Tableau) → Good system t → IsRunFrom left pivot t (pivot + pivots_from left t) (run_from left pivot t)
unfolding next_of
some_run system zero pivot t g =
    of_turn zero pivot t (pivot + pivots_from zero t) (run_from zero pivot t) (some_turn system zero pivot t g (λ c d fit e f.
    ((let k = pivots_spent t in omega (arith, k)), run_spent pivot t c d fit e f)))
some_run system (suc left) pivot t g =
    of_turn (suc left) pivot t (pivot + pivots_from (suc left) t) (run_from (suc left) pivot t) (some_turn system (suc left) pivot t g (λ c d fit e f.
    let u = pivoted t (line_at t c.place) d.place in
    let so = some_run system left (suc pivot) u (good_turn system t c d g e f) in
    subst (λ n. IsRunFrom left (suc pivot) u n (run_from (suc left) pivot t)) (sum_goes pivot (pivots_from (suc left) t) (pivots_from left u) (pivots_goes left t c d fit e f))
    (subst (λ o. IsRunFrom left (suc pivot) u (suc pivot + pivots_from left u) o) (sym (run_goes left pivot t c d fit e f)) so)))

abbrev Same : ℕ → ℕ → Tableau → ℕ → Outcome → Type 0
Same left pivot t n o = (n ≡ pivot + pivots_from left t) × (o ≡ run_from left pivot t)

module _ (system : Inequalities) (left pivot : ℕ) (t : Tableau) (good : Good system t) (n : ℕ) (o : Outcome) where
  only_ends : all_fit t ≡ true → NoLeaving t → n ≡ pivot → o ≡ ended pivot t → Same left pivot t n o
  only_ends fit none a b = by (leaving t) refl
    where
      by : (x : Option Candidate) → leaving t ≡ x → Same left pivot t n o
      by None e = let k = pivots_ends left t fit e in (omega (arith, a, k), b ∙ sym (run_ends left pivot t fit e))
      by (Some c) e = let l = leaves_of system t good c e in absurd (not_both (line_at t c.place).constant l.negative (none c.place l.inside))

  only_unmet : (i : ℕ) → all_fit t ≡ true → IsLeaving t i → NoEntering t (line_at t i) → n ≡ pivot → o ≡ Nothing (line_at t i).variable → Same left pivot t n o
  only_unmet i fit l none a b =
      found_line system t good i l (Same left pivot t n o) (λ c e same.
      let f = subst (λ k. entering t (line_at t k) ≡ None) (sym same) (found_none system t good i l none) in
      let k = pivots_nothing left t c fit e f in
      (omega (arith, a, k), b ∙ ap (λ x. Nothing (line_at t x).variable) (sym same) ∙ sym (run_nothing left pivot t c fit e f)))

  only_goes : ((c : Candidate) (d : Choice) → all_fit t ≡ true → leaving t ≡ Some c → entering t (line_at t c.place) ≡ Some d
      → next_of left pivot (pivoted t (line_at t c.place) d.place) n o → Same left pivot t n o)
      → (i j : ℕ) → all_fit t ≡ true → IsLeaving t i → IsEntering t (line_at t i) j → next_of left pivot (pivoted t (line_at t i) j) n o → Same left pivot t n o
  only_goes f i j fit l h rest =
      found_line system t good i l (Same left pivot t n o) (λ c e same.
      found_column system t good i l j h (Same left pivot t n o) (λ d g same_column.
      let here = subst (λ k. next_of left pivot (pivoted t (line_at t i) k) n o) (sym same_column) rest in
      f c d fit e (subst (λ k. entering t (line_at t k) ≡ Some d) (sym same) g)
      (subst (λ k. next_of left pivot (pivoted t (line_at t k) d.place) n o) (sym same) here)))

  only_turn : ((c : Candidate) (d : Choice) → all_fit t ≡ true → leaving t ≡ Some c → entering t (line_at t c.place) ≡ Some d
      → next_of left pivot (pivoted t (line_at t c.place) d.place) n o → Same left pivot t n o)
      → Turn pivot t (next_of left pivot) n o → Same left pivot t n o
  only_turn f (too_wide wide a b) = let k = pivots_wide left t wide in (omega (arith, a, k), b ∙ sym (run_wide left pivot t wide))
  only_turn f (ends fit none a b) = only_ends fit none a b
  only_turn f (unmet i fit l none a b) = only_unmet i fit l none a b
  only_turn f (goes i j fit l h rest) = only_goes f i j fit l h rest

only_run : (system : Inequalities) (left pivot : ℕ) (t : Tableau) (n : ℕ) (o : Outcome) → Good system t → IsRunFrom left pivot t n o → Same left pivot t n o
unfolding next_of
only_run system zero pivot t n o g h =
    only_turn system zero pivot t g n o (λ c d fit e f rest.
    let k = pivots_spent t in (omega (arith, rest.0, k), rest.1 ∙ sym (run_spent pivot t c d fit e f))) (to_turn zero pivot t n o h)
only_run system (suc left) pivot t n o g h =
    only_turn system (suc left) pivot t g n o (λ c d fit e f rest.
    let u = pivoted t (line_at t c.place) d.place in
    let so = only_run system left (suc pivot) u n o (good_turn system t c d g e f) rest in
    (so.0 ∙ sum_goes pivot (pivots_from (suc left) t) (pivots_from left u) (pivots_goes left t c d fit e f), so.1 ∙ sym (run_goes left pivot t c d fit e f)))
    (to_turn (suc left) pivot t n o h)

-- ---- for the contracts
zero_plus : (n : ℕ) → 0 + n ≡ n
zero_plus n = omega arith

pub is_run : (system : Inequalities) (n : ℕ) (o : Outcome) → IsProper system → n ≡ pivots_of system → o ≡ outcome_of system → IsRun system n o
is_run system n o proper a b =
    subst (λ x. IsRun system n x) (sym b)
    (subst (λ x. IsRun system x (outcome_of system)) (zero_plus (pivots_of system) ∙ sym a) (some_run system 4096 0 (first_tableau system) (good_first system proper)))

pub is_outcome : (system : Inequalities) (n : ℕ) (o : Outcome) → IsProper system → n ≡ pivots_of system → o ≡ outcome_of system → IsOutcome system o
is_outcome system n o proper a b = record { pivots = n; run = is_run system n o proper a b }

pub one_run : (system : Inequalities) → IsProper system → HasOneRun system
one_run system proper = record {
  pivots = pivots_of system;
  outcome = outcome_of system;
  run = is_run system (pivots_of system) (outcome_of system) proper refl refl;
  only = λ n o h. let so = only_run system 4096 0 (first_tableau system) n o (good_first system proper) h in (so.0 ∙ zero_plus (pivots_of system), so.1);
}

-- the outcome of the run is true of the system, whoever ran it
only_outcome : (system : Inequalities) (o : Outcome) → IsProper system → IsOutcome system o → o ≡ outcome_of system
only_outcome system o proper h = (only_run system 4096 0 (first_tableau system) h.pivots o (good_first system proper) h.run).1

pub says_least : (system : Inequalities) (o : Outcome) → IsProper system → IsOutcome system o → SaysLeast system o
says_least system o proper h = answer_least system o proper (only_outcome system o proper h)

pub says_nothing : (system : Inequalities) (o : Outcome) → IsProper system → IsOutcome system o → SaysNothing system o
says_nothing system o proper h = answer_nothing system o proper (only_outcome system o proper h)

record Fine (system : Inequalities) (t : Tableau) : Type 0 where
  good : Good system t
  reduced : AllReduced t

all_fine : (system : Inequalities) (n : ℕ) (t : Tableau) → IsProper system → IsTableauOf system n t → Fine system t
all_fine system zero t proper e = subst (Fine system) (sym e) (record { good = good_first system proper; reduced = first_reduced system })
all_fine system (suc n) t proper p =
    let f = all_fine system n p.before proper p.holds in
    let w = wide_at (length p.before.columns) p.before.lines p.line p.leaving.inside f.good.wide in
    subst (Fine system) (sym p.pivots) (record {
      good = good_step system p.before f.good p.line p.column p.leaving p.entering;
      reduced = stays_reduced p.before p.line p.column f.reduced p.leaving.inside (subst (λ k. p.column < k) (sym w) p.entering.inside) p.entering.positive;
    })

pub tableau_shaped : (system : Inequalities) (n : ℕ) (t : Tableau) → IsProper system → IsTableauOf system n t → IsWellShaped system t
tableau_shaped system n t proper h = well_shaped system t (all_fine system n t proper h).good

pub tableau_reduced : (system : Inequalities) (n : ℕ) (t : Tableau) → IsProper system → IsTableauOf system n t → AllReduced t
tableau_reduced system n t proper h = (all_fine system n t proper h).reduced

pub tableau_line : (system : Inequalities) (n : ℕ) (t : Tableau) → IsProper system → IsTableauOf system n t → PicksLine t
tableau_line system n t proper h = picks_line system t (all_fine system n t proper h).good

pub tableau_column : (system : Inequalities) (n : ℕ) (t : Tableau) (i : ℕ) → IsProper system → IsTableauOf system n t → i < length t.lines
    → PicksColumn t (line_at t i)
tableau_column system n t i proper h p = picks_column system t (all_fine system n t proper h).good i p
