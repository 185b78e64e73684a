-- The lines of events tell the events.
use Rattle.run_reports.specs.TextLaws.{one_journal}
use Rattle.run_reports.proofs.laws.law_of_event_texts.Goals as goal

pub returns : goal.returns
returns c = λ name arena jobs first second few names. one_journal name arena jobs few names first second
