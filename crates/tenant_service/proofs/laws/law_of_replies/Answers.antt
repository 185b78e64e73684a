use Rattle.tenant_service.specs.ReplyLaws.{told_own, room_own, told_alone}
use Rattle.tenant_service.proofs.laws.law_of_replies.Goals as goal

pub returns-clause-own : goal.returns-clause-own
returns-clause-own c = told_own

pub returns-clause-room : goal.returns-clause-room
returns-clause-room c = room_own

pub returns-clause-alone : goal.returns-clause-alone
returns-clause-alone c = told_alone
