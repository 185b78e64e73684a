-- Private: words for functions of this crate.
-- What is found of well-formed code and a certificate: no refusal, or the one that is due, or that memory ran out.
use Rattle.std.specs.Prelude.{Result, Ok, Err}
use Rattle.grail_code.specs.Code.{Code}
use Rattle.certificate.specs.Certificates.{Cert}
use Rattle.stops.specs.Stopping.{FaultIs}
use Rattle.stops.specs.declared.stop.Stop.{Stop}
use Rattle.licence.specs.Fitting.{Grants}
use Rattle.grail_verifier.specs.declared.refusal.Refusal.{Refusal}
use Rattle.grail_verifier.specs.Verdicts.{IsRefused}

abbrev pub Settles : {A : Type 0} → Code → Cert → Result A (Stop Refusal) → Type 0
Settles p c (Ok u) = Grants p c
Settles p c (Err stop) = FaultIs (IsRefused p c) stop
