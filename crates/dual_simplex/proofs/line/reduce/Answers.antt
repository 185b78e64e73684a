use Rattle.std.proofs.Common.{◌≡◌, true, sym, subst}
use Rattle.dual_simplex.specs.Equation.{fits}
use Rattle.dual_simplex.specs.Lines.{plain_line}
use Rattle.dual_simplex.proofs.Sound.{divided_fits}
use Rattle.dual_simplex.proofs.line.reduce.Goals as goal

pub returns-clause-small : goal.returns-clause-small
returns-clause-small c =
    subst (λ e. fits e ≡ true) (sym c.divide.ensures) (divided_fits c.divisor_of-shared.result (plain_line c.args.line.now) c.requires.small)
