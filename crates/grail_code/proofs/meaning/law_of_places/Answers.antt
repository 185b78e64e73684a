use Rattle.grail_code.specs.PlaceLaws.{step_safe, fit_behind}
use Rattle.grail_code.specs.SoundLaws.{safe_from_block}
use Rattle.grail_code.proofs.meaning.law_of_places.Goals as goal

pub returns-clause-step : goal.returns-clause-step
returns-clause-step c = step_safe

pub returns-clause-behind : goal.returns-clause-behind
returns-clause-behind c = fit_behind

pub returns-clause-from : goal.returns-clause-from
returns-clause-from c = λ p f enter number b k w env calls fits is fit. safe_from_block p f enter calls fits number b is k w env fit
