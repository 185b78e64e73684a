use Rattle.std.proofs.Common.{◌≡◌, ◌-◌, drop, length}
use Rattle.certificate.specs.Reading.{digits_below}
use Rattle.certificate.proofs.numbers.digits_below.Given as goal

abbrev pub invariant-digits : goal.invariant-digits
invariant-digits l = digits_below (drop l.at l.left) (drop l.at l.right) ≡ digits_below l.left l.right

abbrev pub decreases-digits : goal.decreases-digits
decreases-digits l = length l.left - l.at
