use Rattle.text_lines.specs.NumberLaws.{number-decimal}
use Rattle.certificate.proofs.laws.law_of_numbers.Goals as goal

pub returns : goal.returns
returns c = number-decimal
