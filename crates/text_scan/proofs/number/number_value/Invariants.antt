use Rattle.std.proofs.Common.{◌≤◌}
use Rattle.text_scan.specs.declared.number.TheConstants.{GREATEST_NUMBER}
use Rattle.text_scan.proofs.NumberLemmas.{NumberSoFar}
use Rattle.text_scan.proofs.number.number_value.Given as goal

abbrev pub invariant-loop-digit : goal.invariant-loop-digit
invariant-loop-digit l = record { far : NumberSoFar GREATEST_NUMBER l.digits l.digit-index l.value; small : l.value ≤ GREATEST_NUMBER }
