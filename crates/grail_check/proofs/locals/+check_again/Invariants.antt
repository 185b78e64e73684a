use Rattle.std.proofs.Common.{length}
use Rattle.grail_check.proofs.locals.+check_again.Given as goal

abbrev pub decreases-check_again : goal.decreases-check_again
decreases-check_again l = length l.arguments.now
