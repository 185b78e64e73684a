-- Each journal of the desk is that of a world in which the jobs run.
use Rattle.job_world.specs.theory.Scheduling.{schedule, whole_schedule, world_cells, holds_filed}
use Rattle.job_world.proofs.laws.law_of_schedules.Goals as goal

pub returns-clause-fronts : goal.returns-clause-fronts
returns-clause-fronts c = schedule

pub returns-clause-legal : goal.returns-clause-legal
returns-clause-legal c = whole_schedule

pub returns-clause-one : goal.returns-clause-one
returns-clause-one c = world_cells

pub returns-clause-held : goal.returns-clause-held
returns-clause-held c = holds_filed
