use Rattle.std.proofs.Common.{◌≡◌, ◌++◌, length, set, take, drop, subst, sym, ◌∙◌, arith}
use Rattle.std.proofs.lemmas.List.{length-set}
use Rattle.std.specs.Prelude.{All}
use Rattle.dual_simplex.specs.Lines.{plain_line, IsSoundLine}
use Rattle.dual_simplex.proofs.Loops.{refilled}
use Rattle.dual_simplex.proofs.Sound.{leaving_sound, leaving_sound_own, others_sound, on_ok}
use Rattle.dual_simplex.proofs.tableau.Tableau.pivot.Goals as goal

pub put_in-requires-clause-other : goal.put_in-requires-clause-other
put_in-requires-clause-other c =
    leaving_sound_own (length c.args.self.now.columns.items) c.args.place _ c.args.line c.args.self.now.lines.items c.index-2.result.now (plain_line c.solve_for.new.into)
    c.requires.sound.lines c.requires.line c.index-2.ensures c.requires.factor c.solve_for.ensures

pub renew_all-requires-clause-own : goal.renew_all-requires-clause-own
renew_all-requires-clause-own c =
    subst (All (λ line. IsSoundLine (length c.solve_for.new.into.factors.items) (plain_line line))) (sym c.deref_mut.ensures.value)
    (others_sound (length c.args.self.now.columns.items) c.args.place _ c.args.line c.args.self.now.lines.items c.index-2.result.now (plain_line c.solve_for.new.into)
    c.requires.sound.lines c.requires.line c.index-2.ensures c.requires.factor c.solve_for.ensures)

pub renew_all-requires-clause-other : goal.renew_all-requires-clause-other
renew_all-requires-clause-other c =
    leaving_sound_own (length c.args.self.now.columns.items) c.args.place _ c.args.line c.args.self.now.lines.items c.index-2.result.now (plain_line c.solve_for.new.into)
    c.requires.sound.lines c.requires.line c.index-2.ensures c.requires.factor c.solve_for.ensures

pub returns-clause-sound : goal.returns-clause-sound
returns-clause-sound c =
    let columns = c.args.self.now.columns.items in
    let lines = c.args.self.now.lines in
    let new = c.renew_all.new.lines in
    let next = set columns c.args.place c.index.result.now.variable in
    let width = (leaving_sound (length columns) c.args.place _ c.args.line lines.items c.index-2.result.now (plain_line c.solve_for.new.into)
    c.requires.sound.lines c.requires.line c.index-2.ensures c.requires.factor c.solve_for.ensures).columns in
    let e : length c.solve_for.new.into.factors.items ≡ length next = width ∙ sym (length-set columns c.args.place c.index.result.now.variable) in
    let same : take lines.len (new ++ drop (length new) lines.items) ≡ new = refilled lines.len new lines.items lines.ok.0 (omega arith) in
    let cost : IsSoundLine (length c.solve_for.new.into.factors.items) (plain_line c.put_in.new.line) = c.in_ok-put_in.ensures.sound in
    on_ok c.renew_all.result
    (λ all. record {
      lines = subst (All (λ line. IsSoundLine (length next) (plain_line line))) (sym same) (subst (λ w. All (λ line. IsSoundLine w (plain_line line)) new) e all);
      cost = subst (λ w. IsSoundLine w (plain_line c.put_in.new.line)) e cost;
      spare = e;
    })
    c.renew_all.ensures.sound
