use Rattle.camelot_typing.specs.TypingLaws.{never_stuck}
use Rattle.camelot_typing.proofs.laws.law_of_typing.Goals as goal

pub returns : goal.returns
returns c = never_stuck
