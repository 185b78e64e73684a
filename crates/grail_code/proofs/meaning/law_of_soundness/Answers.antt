use Rattle.grail_code.specs.SoundLaws.{never_stuck, entering_safe}
use Rattle.grail_code.proofs.meaning.law_of_soundness.Goals as goal

pub returns-clause-run : goal.returns-clause-run
returns-clause-run c = never_stuck

pub returns-clause-calls : goal.returns-clause-calls
returns-clause-calls c = λ p limit well some. entering_safe p well some limit
