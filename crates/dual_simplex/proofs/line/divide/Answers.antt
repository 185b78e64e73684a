use Rattle.std.proofs.Common.{to_z-of_z, w64, FitsSigned, ◌≡◌, rules, ap, ◌∙◌, sym, length}
use Rattle.std.specs.Prelude.{pos, int_div}
use Rattle.std.proofs.lemmas.List.{length-map}
use Rattle.dual_simplex.specs.Equation.{divided}
use Rattle.dual_simplex.specs.Lines.{plain_line}
use Rattle.dual_simplex.proofs.Loops.{refilled}
use Rattle.dual_simplex.proofs.Sound.{divided_is, divided_by_one}
use Rattle.dual_simplex.proofs.line.divide.Goals as goal

pub returns-then-shared-eq1 : goal.returns-then-shared-eq1
returns-then-shared-eq1 c = sym (ap (λ g. divided g (plain_line c.args.line.now)) c.if-shared-eq1.true ∙ divided_by_one (plain_line c.args.line.now))

pub returns : goal.returns
returns c =
    let line = c.args.line.now in
    let fd : FitsSigned w64 line.divisor = search rules in
    let fk : FitsSigned w64 line.constant = search rules in
    let fx : FitsSigned w64 c.quotient-line.result = record { sfits = c.quotient-line.type_inv } in
    let fy : FitsSigned w64 c.quotient-line-2.result = record { sfits = c.quotient-line-2.type_inv } in
    let x : c.quotient-line.result ≡ int_div line.divisor (pos c.args.shared) = simp to_z-of_z at c.quotient-line.ensures in
    let y : c.quotient-line-2.result ≡ int_div line.constant (pos c.args.shared) = simp to_z-of_z at c.quotient-line-2.ensures in
    let all = rw c.deref_mut.ensures.value at c.divide_all.ensures in
    let into = line.factors in
    let same = refilled into.len c.divide_all.new.numbers into.items into.ok.0 (ap length all ∙ length-map into.items (λ z. int_div z (pos c.args.shared))) in
    divided_is (plain_line line) c.args.shared _ _ _ (to_z-of_z fx ∙ x) (to_z-of_z fy ∙ y) (same ∙ all)
