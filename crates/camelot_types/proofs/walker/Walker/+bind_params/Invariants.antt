use Rattle.std.proofs.Common.{length}
use Rattle.camelot_types.proofs.walker.Walker.+bind_params.Given as goal

abbrev pub decreases-bind_params : goal.decreases-bind_params
decreases-bind_params l = length l.params.now
