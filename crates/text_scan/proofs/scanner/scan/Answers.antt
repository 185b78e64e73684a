-- The answer is the one that the text has, and its tokens are slices in order.
use Rattle.text_scan.proofs.ReadingLemmas.{takes, refuses}
use Rattle.text_scan.proofs.SliceLemmas.{answered_slices, answered_order, answered_count}
use Rattle.text_scan.proofs.scanner.scan.Goals as goal

pub returns-clause-takes : goal.returns-clause-takes
returns-clause-takes c = takes (λ v. v.items) c.args.text.now c.scan_text.result c.scan_text.ensures.tokens c.scan_text.ensures.fault

pub returns-clause-refuses : goal.returns-clause-refuses
returns-clause-refuses c = refuses (λ v. v.items) c.args.text.now c.scan_text.result c.scan_text.ensures.tokens c.scan_text.ensures.fault

pub returns-clause-slices : goal.returns-clause-slices
returns-clause-slices c = answered_slices (λ v. v.items) c.args.text.now c.scan_text.result c.scan_text.ensures.tokens

pub returns-clause-in_order : goal.returns-clause-in_order
returns-clause-in_order c = answered_order (λ v. v.items) c.args.text.now c.scan_text.result c.scan_text.ensures.tokens

pub returns-clause-count : goal.returns-clause-count
returns-clause-count c = answered_count (λ v. v.items) c.args.text.now c.scan_text.result c.scan_text.ensures.tokens
