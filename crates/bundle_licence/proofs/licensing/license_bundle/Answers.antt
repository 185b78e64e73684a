-- What is answered of a bundle that was read is what the verifier answers of its bytes.
use Rattle.std.proofs.Common.{◌≡◌, Err, sym, subst}
use Rattle.stops.specs.declared.stop.Stop.TheVariants.{Memory}
use Rattle.stops.specs.Stopping.{IsFault}
use Rattle.grail_bundle.specs.Bundles.{IsBundle}
use Rattle.bundle_licence.specs.Bundled.{IsLicensedOr}
use Rattle.bundle_licence.proofs.Answering.{code_short, cert_short, found_yes, found_no, yes_yes, yes_no, no_yes, no_no}
use Rattle.bundle_licence.proofs.licensing.license_bundle.Goals as goal

pub verify_bundle-requires-clause-code : goal.verify_bundle-requires-clause-code
verify_bundle-requires-clause-code c = code_short c.args.text.items c.in-Ok.bundle.code c.in-Ok.bundle.cert c.in-Ok.ensures.found c.requires

pub verify_bundle-requires-clause-cert : goal.verify_bundle-requires-clause-cert
verify_bundle-requires-clause-cert c = cert_short c.args.text.items c.in-Ok.bundle.code c.in-Ok.bundle.cert c.in-Ok.ensures.found c.requires

pub returns-in-Ok-verify_bundle-clause-found : goal.returns-in-Ok-verify_bundle-clause-found
returns-in-Ok-verify_bundle-clause-found c =
    let right : IsBundle c.in-Ok.bundle = record { parts = c.kept.ensures.parts; bytes = c.kept.ensures.bytes } in
    found_yes c.args.text.items c.in-Ok.bundle c.in-Ok-verify_bundle.licence right c.in-Ok.ensures.found c.in-Ok-verify_bundle.ensures.found

pub returns-in-Ok-verify_bundle-clause-accepts : goal.returns-in-Ok-verify_bundle-clause-accepts
returns-in-Ok-verify_bundle-clause-accepts c = λ l. yes_yes c.args.text.items c.in-Ok.bundle c.in-Ok-verify_bundle.licence l c.in-Ok.ensures.bundle c.in-Ok-verify_bundle.ensures.exact

pub returns-in-Ok-verify_bundle-clause-refuses : goal.returns-in-Ok-verify_bundle-clause-refuses
returns-in-Ok-verify_bundle-clause-refuses c =
    λ cause. no_yes c.args.text.items c.in-Ok.bundle c.in-Ok-verify_bundle.licence cause c.in-Ok.ensures.bundle c.in-Ok.ensures.fault c.in-Ok-verify_bundle.ensures.exact

pub returns-in-Err-clause-found : goal.returns-in-Err-clause-found
returns-in-Err-clause-found c =
    let right : IsBundle c.in-Ok.bundle = record { parts = c.kept.ensures.parts; bytes = c.kept.ensures.bytes } in
    subst (λ x. IsLicensedOr c.args.text.items (Err x)) (sym c.for_cause.ensures) (found_no c.args.text.items c.in-Ok.bundle c.in-Err.stop right c.in-Ok.ensures.found c.in-Err.ensures.found)

pub returns-in-Err-clause-accepts : goal.returns-in-Err-clause-accepts
returns-in-Err-clause-accepts c =
    λ l has. subst (λ x. x ≡ Memory) (sym c.for_cause.ensures) (yes_no c.args.text.items c.in-Ok.bundle c.in-Err.stop l c.in-Ok.ensures.bundle c.in-Err.ensures.exact has)

pub returns-in-Err-clause-refuses : goal.returns-in-Err-clause-refuses
returns-in-Err-clause-refuses c =
    λ cause so. subst (IsFault cause) (sym c.for_cause.ensures) (no_no c.args.text.items c.in-Ok.bundle c.in-Err.stop cause c.in-Ok.ensures.bundle c.in-Ok.ensures.fault c.in-Err.ensures.exact so)
