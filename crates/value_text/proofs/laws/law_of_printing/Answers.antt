use Rattle.value_text.proofs.RoundTrip.{printed_text, printed_read}
use Rattle.value_text.proofs.laws.law_of_printing.Goals as goal

pub returns-clause-text : goal.returns-clause-text
returns-clause-text c = printed_text

pub returns-clause-read : goal.returns-clause-read
returns-clause-read c = printed_read
