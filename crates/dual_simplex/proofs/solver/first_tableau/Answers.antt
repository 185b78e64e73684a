use Rattle.std.proofs.Common.{◌≡◌, ap, sym, ◌∙◌, subst, rules, pos, length, replicate}
use Rattle.std.specs.Prelude.{All}
use Rattle.std.proofs.lemmas.List.{length-replicate}
use Rattle.std.proofs.lemmas.List.FromFn.{length-range_with_len}
use Rattle.std.specs.List.{list_all}
use Rattle.dual_simplex.specs.Equation.{is_small}
use Rattle.dual_simplex.specs.Lines.{plain_line, IsSoundLine}
use Rattle.dual_simplex.specs.Systems.{plain_system}
use Rattle.dual_simplex.proofs.First.{cost_sound}
use Rattle.dual_simplex.proofs.solver.first_tableau.Goals as goal

pub returns-clause-sound : goal.returns-clause-sound
returns-clause-sound c =
    let n = c.args.system.now.unknowns in
    let width : length c.in_ok-columns.columns.items ≡ n = ap length c.in_ok-columns.ensures ∙ length-range_with_len 0 n in
    let spare : c.in_ok-vec.field-0.items ≡ replicate n (pos 0) = search rules in
    let costs : c.in_ok-to_vec.field-0.items ≡ c.args.system.now.costs.items = search rules in
    let cost = cost_sound (plain_system c.args.system.now) c.requires in
    record {
      lines = subst (λ w. All (λ line. IsSoundLine w (plain_line line)) c.in_ok-lines.lines.items) (sym width) c.in_ok-lines.ensures.sound;
      cost = record {
        columns = ap length costs ∙ cost.columns ∙ sym width;
        positive = cost.positive;
        small = ap (list_all is_small) costs ∙ cost.small;
      };
      spare = ap length spare ∙ length-replicate n (pos 0) ∙ sym width;
    }
