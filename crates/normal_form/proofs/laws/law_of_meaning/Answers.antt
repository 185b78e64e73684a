use Rattle.normal_form.proofs.Programs.{runs_agree}
use Rattle.normal_form.proofs.laws.law_of_meaning.Goals as goal

pub returns : goal.returns
returns c = runs_agree
