use Rattle.camelot_host.proofs.OneServing.{answered_in, one_left}
use Rattle.camelot_host.proofs.laws.law_of_one_serving.Goals as goal

pub returns-clause-answered : goal.returns-clause-answered
returns-clause-answered c = answered_in

pub returns-clause-left : goal.returns-clause-left
returns-clause-left c = one_left c.law_of_left_arenas.ensures
