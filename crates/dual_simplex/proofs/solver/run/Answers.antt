use Rattle.std.proofs.Common.{◌≡◌, ◌-◌, ◌+◌, suc, arith, ap, sym, ◌∙◌, length, true, false, rules}
use Rattle.std.specs.Prelude.{is_err}
use Rattle.std.proofs.lemmas.List.{get_or-map, length-map, length-set}
use Rattle.dual_simplex.specs.Lines.{plain_line, plain_tableau}
use Rattle.dual_simplex.specs.Tableau.{pivoted, line_at, no_line}
use Rattle.dual_simplex.specs.Run.{Nothing, Wide}
use Rattle.dual_simplex.specs.Scans.{run_from, pivots_from}
use Rattle.dual_simplex.proofs.Sound.{tableau_fits}
use Rattle.dual_simplex.proofs.Runs.{run_ends, run_nothing, run_spent, run_goes, run_wide, pivots_wide, pivots_ends, pivots_nothing, pivots_spent, pivots_goes, count_ends, count_goes, at_err, at_ok}
use Rattle.dual_simplex.proofs.solver.run.Goals as goal

pub returns-in_default-clause-exact : goal.returns-in_default-clause-exact
returns-in_default-clause-exact c =
    let t = plain_tableau c.loop-line.tableau in
    let p = c.loop-line.pivots in
    let fit = tableau_fits c.loop-line.tableau c.loop-line.invariant.sound in
    c.in_ok-solved.ensures ∙ sym (run_ends (4096 - p) p t fit (sym c.in_default.ensures.value)) ∙ c.loop-line.invariant.value

pub returns-in_default-clause-pivots : goal.returns-in_default-clause-pivots
returns-in_default-clause-pivots c =
    let t = plain_tableau c.loop-line.tableau in
    let p = c.loop-line.pivots in
    let fit = tableau_fits c.loop-line.tableau c.loop-line.invariant.sound in
    count_ends p (pivots_from (4096 - p) t) _ (pivots_ends (4096 - p) t fit (sym c.in_default.ensures.value)) c.loop-line.invariant.count

pub returns-in_default-entering-clause-exact : goal.returns-in_default-entering-clause-exact
returns-in_default-entering-clause-exact c =
    let t = plain_tableau c.loop-line.tableau in
    let p = c.loop-line.pivots in
    let i = c.in-Some.line.place in
    let lines = c.loop-line.tableau.lines.items in
    let fit = tableau_fits c.loop-line.tableau c.loop-line.invariant.sound in
    let e = run_nothing (4096 - p) p t c.in-Some.line fit (sym c.in-Some.ensures.value) (sym c.in_default-entering.ensures.value) in
    let is = get_or-map plain_line lines i c.index.result.now no_line c.in-Some.ensures.place in
    ap (λ l. Nothing l.variable) c.index.ensures ∙ ap (λ x. Nothing x.variable) (sym is) ∙ sym e ∙ c.loop-line.invariant.value

pub returns-in_default-entering-clause-pivots : goal.returns-in_default-entering-clause-pivots
returns-in_default-entering-clause-pivots c =
    let t = plain_tableau c.loop-line.tableau in
    let p = c.loop-line.pivots in
    let fit = tableau_fits c.loop-line.tableau c.loop-line.invariant.sound in
    let e = pivots_nothing (4096 - p) t c.in-Some.line fit (sym c.in-Some.ensures.value) (sym c.in_default-entering.ensures.value) in
    count_ends p (pivots_from (4096 - p) t) _ e c.loop-line.invariant.count

pub returns-then-pivots-eq-MOST_PIVOTS-clause-exact : goal.returns-then-pivots-eq-MOST_PIVOTS-clause-exact
returns-then-pivots-eq-MOST_PIVOTS-clause-exact c =
    let t = plain_tableau c.loop-line.tableau in
    let p = c.loop-line.pivots in
    let fit = tableau_fits c.loop-line.tableau c.loop-line.invariant.sound in
    let e = run_spent p t c.in-Some.line c.in-Some-entering.column fit (sym c.in-Some.ensures.value) (sym c.in-Some-entering.ensures.value) in
    let none : 4096 - p ≡ 0 = omega arith in
    sym e ∙ ap (λ k. run_from k p t) (sym none) ∙ c.loop-line.invariant.value

pub returns-then-pivots-eq-MOST_PIVOTS-clause-pivots : goal.returns-then-pivots-eq-MOST_PIVOTS-clause-pivots
returns-then-pivots-eq-MOST_PIVOTS-clause-pivots c =
    let t = plain_tableau c.loop-line.tableau in
    let p = c.loop-line.pivots in
    let none : 4096 - p ≡ 0 = omega arith in
    count_ends p (pivots_from (4096 - p) t) _ (ap (λ k. pivots_from k t) none ∙ pivots_spent t) c.loop-line.invariant.count

pub returns-then-is_err-clause-exact : goal.returns-then-is_err-clause-exact
returns-then-is_err-clause-exact c =
    let t = plain_tableau c.loop-line.tableau in
    let p = c.loop-line.pivots in
    let fit = tableau_fits c.loop-line.tableau c.loop-line.invariant.sound in
    let next = pivoted t (line_at t c.in-Some.line.place) c.in-Some-entering.column.place in
    let goes = run_goes (4096 - (p + 1)) p t c.in-Some.line c.in-Some-entering.column fit (sym c.in-Some.ensures.value) (sym c.in-Some-entering.ensures.value) in
    let bad : is_err c.pivot.result ≡ true = search rules in
    let wide = run_wide (4096 - (p + 1)) (suc p) next (at_err c.pivot.result bad c.pivot.ensures.wide) in
    let one : p + 1 ≡ suc p = omega arith in
    let left : 4096 - p ≡ suc (4096 - (p + 1)) = omega arith in
    ap Wide one ∙ sym wide ∙ sym goes ∙ ap (λ k. run_from k p t) (sym left) ∙ c.loop-line.invariant.value

pub returns-then-is_err-clause-pivots : goal.returns-then-is_err-clause-pivots
returns-then-is_err-clause-pivots c =
    let t = plain_tableau c.loop-line.tableau in
    let p = c.loop-line.pivots in
    let fit = tableau_fits c.loop-line.tableau c.loop-line.invariant.sound in
    let next = pivoted t (line_at t c.in-Some.line.place) c.in-Some-entering.column.place in
    let rest = pivots_from (4096 - (p + 1)) next in
    let goes = pivots_goes (4096 - (p + 1)) t c.in-Some.line c.in-Some-entering.column fit (sym c.in-Some.ensures.value) (sym c.in-Some-entering.ensures.value) in
    let bad : is_err c.pivot.result ≡ true = search rules in
    let wide = pivots_wide (4096 - (p + 1)) next (at_err c.pivot.result bad c.pivot.ensures.wide) in
    let left : 4096 - p ≡ suc (4096 - (p + 1)) = omega arith in
    let more = count_goes p (pivots_from (4096 - p) t) rest _ (ap (λ k. pivots_from k t) left ∙ goes) c.loop-line.invariant.count in
    count_ends (p + 1) rest _ wide more

pub loop-line-preserved : goal.loop-line-preserved
loop-line-preserved c =
    let old = c.loop-line.tableau in
    let t = plain_tableau old in
    let p = c.loop-line.pivots in
    let fit = tableau_fits old c.loop-line.invariant.sound in
    let line = line_at t c.in-Some.line.place in
    let next = pivoted t line c.in-Some-entering.column.place in
    let goes = run_goes (4096 - (p + 1)) p t c.in-Some.line c.in-Some-entering.column fit (sym c.in-Some.ensures.value) (sym c.in-Some-entering.ensures.value) in
    let counts = pivots_goes (4096 - (p + 1)) t c.in-Some.line c.in-Some-entering.column fit (sym c.in-Some.ensures.value) (sym c.in-Some-entering.ensures.value) in
    let good : is_err c.pivot.result ≡ false = search rules in
    let value = at_ok c.pivot.result good c.pivot.ensures.value in
    let sound = at_ok c.pivot.result good c.pivot.ensures.sound in
    let one : p + 1 ≡ suc p = omega arith in
    let left : 4096 - p ≡ suc (4096 - (p + 1)) = omega arith in
    let columns : length c.pivot.new.self.columns.items ≡ length old.columns.items = ap (λ x. length x.columns) value ∙ length-set old.columns.items c.in-Some-entering.column.place line.variable in
    let lines : length c.pivot.new.self.lines.items ≡ length old.lines.items =
    sym (length-map c.pivot.new.self.lines.items plain_line) ∙ ap (λ x. length x.lines) value ∙ length-map _ _ ∙ length-map old.lines.items plain_line in
    record {
      small = omega arith;
      sound = sound;
      few = omega (arith, c.loop-line.invariant.few);
      value = ap (λ x. run_from (4096 - (p + 1)) (p + 1) x) value ∙ ap (λ k. run_from (4096 - (p + 1)) k next) one ∙ sym goes ∙ ap (λ k. run_from k p t) (sym left) ∙ c.loop-line.invariant.value;
      count = ap (λ x. p + 1 + pivots_from (4096 - (p + 1)) x) value
          ∙ count_goes p (pivots_from (4096 - p) t) (pivots_from (4096 - (p + 1)) next) _ (ap (λ k. pivots_from k t) left ∙ counts) c.loop-line.invariant.count;
    }
