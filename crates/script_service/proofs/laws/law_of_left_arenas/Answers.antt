use Rattle.script_service.proofs.OneWorld.{left_once}
use Rattle.script_service.proofs.laws.law_of_left_arenas.Goals as goal

pub returns : goal.returns
returns c = left_once c.law_of_calls.ensures.plans c.law_of_fates.ensures.programs c.law_of_fates.ensures.jobs
