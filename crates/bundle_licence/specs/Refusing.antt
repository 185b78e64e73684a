-- Private: words for functions of this crate.
-- A refusal of the verifier is a cause.
use Rattle.stops.specs.declared.stop.Stop.{Stop}
use Rattle.stops.specs.declared.stop.Stop.TheVariants.{Fault, Memory}
use Rattle.grail_verifier.specs.declared.refusal.Refusal.{Refusal}
use Rattle.cause_texts.specs.declared.cause.Cause.{Cause}
use Rattle.cause_texts.specs.declared.cause.Cause.TheVariants as cause

abbrev pub for_cause : Stop Refusal → Stop Cause
for_cause (Fault r) = Fault (cause.Verify r)
for_cause Memory = Memory
