use Rattle.grail_code.proofs.SpellingMeans.{spelled_only, spelled_within}
use Rattle.grail_code.proofs.laws.law_of_formats.Goals as goal

pub returns-clause-only : goal.returns-clause-only
returns-clause-only c = spelled_only

pub returns-clause-within : goal.returns-clause-within
returns-clause-within c = spelled_within
