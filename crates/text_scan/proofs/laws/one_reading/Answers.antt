-- A text has one reading.
use Rattle.text_scan.proofs.ReadingLemmas.{one_token_list, one_fault, tokens_or_fault}
use Rattle.text_scan.proofs.TotalLemmas.{every_text}
use Rattle.text_scan.proofs.laws.one_reading.Goals as goal

pub returns-clause-some : goal.returns-clause-some
returns-clause-some c = every_text

pub returns-clause-not_both : goal.returns-clause-not_both
returns-clause-not_both c = tokens_or_fault

pub returns-clause-tokens : goal.returns-clause-tokens
returns-clause-tokens c = one_token_list

pub returns-clause-fault : goal.returns-clause-fault
returns-clause-fault c = one_fault
