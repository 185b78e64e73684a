use Rattle.std.proofs.Common.{to_z-of_z, to_z, of_z, w64, FitsSigned, ◌≡◌, rules, arith, ap, ◌∙◌, sym, length}
use Rattle.std.specs.Prelude.{pos, neg_ℤ, ◌-ℤ◌, map}
use Rattle.std.proofs.lemmas.Int.{ints}
use Rattle.std.proofs.lemmas.List.{get_or_read, length-map}
use Rattle.dual_simplex.specs.Lines.{plain_line}
use Rattle.dual_simplex.proofs.Loops.{refilled}
use Rattle.dual_simplex.proofs.Sound.{solved_is}
use Rattle.dual_simplex.proofs.line.solve_for.Goals as goal

pub returns : goal.returns
returns c =
    let line = c.args.line.now in
    let into = c.args.into.now.factors in
    let new = c.negate_into.new.into in
    let fd : FitsSigned w64 line.divisor = search rules in
    let fk : FitsSigned w64 line.constant = search rules in
    let fi : FitsSigned w64 c.index.result.now = search rules in
    let fn : FitsSigned w64 (pos 0 -ℤ to_z w64 (of_z w64 line.constant)) = search rules in
    let x = to_z-of_z fi ∙ get_or_read line.factors.items c.args.place c.index.result.now c.requires.place c.index.ensures (pos 0) in
    let k : pos 0 -ℤ line.constant ≡ neg_ℤ line.constant = omega (arith, ints) in
    let n = to_z-of_z fn ∙ ap (λ z. pos 0 -ℤ z) (to_z-of_z fk) ∙ k in
    let xs = c.negate_into.ensures ∙ ap (map neg_ℤ) c.deref.ensures.value in
    let same = refilled into.len new into.items into.ok.0 (ap length xs ∙ length-map line.factors.items neg_ℤ ∙ sym c.requires.lengths) in
    solved_is c.args.place c.args.entering (plain_line line) _ _ _ _ x n (to_z-of_z fd) (same ∙ xs)
