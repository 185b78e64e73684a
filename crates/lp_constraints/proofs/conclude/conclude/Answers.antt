use Rattle.std.proofs.Common.{subst}
use Rattle.dual_simplex.specs.Promises.{SaysNothing}
use Rattle.dual_simplex.specs.Run.{plain_answer}
use Rattle.grail_code.specs.Code.{code_of}
use Rattle.lp_system.specs.Forms.{system_of}
use Rattle.lp_constraints.proofs.conclude.conclude.Goals as goal

pub returns-in-Nothing-clause-none : goal.returns-in-Nothing-clause-none
returns-in-Nothing-clause-none c = λ certificate e g. c.law_of_least.ensures.none (code_of c.args.code.now) c.requires.well c.limits.ensures.limits
    (subst (λ s. SaysNothing (system_of (code_of c.args.code.now)) (plain_answer s)) c.in-Nothing.is c.requires.nothing) certificate g
