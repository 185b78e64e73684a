use Rattle.hole_list.specs.CountLaws.{holes_few}
use Rattle.hole_list.specs.KeptLaws.{range_taken, kept_taken, kept_given, one_range}
use Rattle.hole_list.proofs.laws.law_of_holes.Goals as goal

pub returns-clause-range : goal.returns-clause-range
returns-clause-range c = range_taken

pub returns-clause-taken : goal.returns-clause-taken
returns-clause-taken c = kept_taken

pub returns-clause-given : goal.returns-clause-given
returns-clause-given c = kept_given

pub returns-clause-whole : goal.returns-clause-whole
returns-clause-whole c = one_range

pub returns-clause-count : goal.returns-clause-count
returns-clause-count c = holes_few
