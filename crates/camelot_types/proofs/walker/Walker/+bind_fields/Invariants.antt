use Rattle.std.proofs.Common.{length}
use Rattle.camelot_types.proofs.walker.Walker.+bind_fields.Given as goal

abbrev pub decreases-bind_fields : goal.decreases-bind_fields
decreases-bind_fields l = length l.fields.now
