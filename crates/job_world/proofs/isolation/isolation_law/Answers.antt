use Rattle.job_world.specs.WorldLaws.{lie_apart, is_alone, step_apart, asks_at, goes_on_at, gives_back_at, none_asks, none_leased_at, over_stays_at, going_stays_at, filed_alone, are_equal}
use Rattle.job_world.specs.theory.Worlds.{world_more}
use Rattle.job_world.proofs.isolation.isolation_law.Goals as goal

-- src/isolation.rt:12:1
pub returns-clause-apart : goal.returns-clause-apart
returns-clause-apart c = lie_apart

-- src/isolation.rt:12:1
pub returns-clause-own : goal.returns-clause-own
returns-clause-own c = is_alone

-- src/isolation.rt:12:1
pub returns-clause-step : goal.returns-clause-step
returns-clause-step c = step_apart

-- src/isolation.rt:12:1
pub returns-clause-filed : goal.returns-clause-filed
returns-clause-filed c = filed_alone

-- src/isolation.rt:12:1
pub returns-clause-alike : goal.returns-clause-alike
returns-clause-alike c = are_equal

-- src/isolation.rt:12:1
pub returns-clause-goes : goal.returns-clause-goes
returns-clause-goes c = goes_on_at

-- src/isolation.rt:12:1
pub returns-clause-gives : goal.returns-clause-gives
returns-clause-gives c = gives_back_at

pub returns-clause-asks : goal.returns-clause-asks
returns-clause-asks c = asks_at

pub returns-clause-rests : goal.returns-clause-rests
returns-clause-rests c = none_asks

pub returns-clause-idle : goal.returns-clause-idle
returns-clause-idle c = none_leased_at

pub returns-clause-over : goal.returns-clause-over
returns-clause-over c = over_stays_at

pub returns-clause-going : goal.returns-clause-going
returns-clause-going c = going_stays_at

pub returns-clause-more : goal.returns-clause-more
returns-clause-more c = world_more
