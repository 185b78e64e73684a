use Rattle.hole_list.specs.PlacingLaws.{taken_of, taken_apart, none_taken, too_small_all}
use Rattle.hole_list.proofs.laws.law_of_taking.Goals as goal

pub returns-clause-size : goal.returns-clause-size
returns-clause-size c = λ hs size t e. (taken_of hs size t e).sized

pub returns-clause-cells : goal.returns-clause-cells
returns-clause-cells c = λ hs size t e. (taken_of hs size t e).times

pub returns-clause-sum : goal.returns-clause-sum
returns-clause-sum c = λ hs size t e. (taken_of hs size t e).sum

pub returns-clause-apart : goal.returns-clause-apart
returns-clause-apart c = λ hs size t e apart. (taken_apart hs size t e apart).0

pub returns-clause-none : goal.returns-clause-none
returns-clause-none c = λ hs size some. (none_taken hs size some, too_small_all hs size)
