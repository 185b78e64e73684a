-- The verifier says yes of what the compiler makes.
use Rattle.std.proofs.Common.{◌≡◌, ℕ, List, Option, Some, None, Result, Ok, Err, refl, sym, ap, ◌∙◌, subst}
use Rattle.std.specs.Prelude.{IfOk, MatchResult}
use Rattle.stops.specs.declared.stop.Stop.{Stop}
use Rattle.stops.specs.declared.stop.Stop.TheVariants.{Fault, Memory}
use Rattle.stops.specs.Stopping.{IsFault}
use Rattle.camelot_grammar.specs.Parsing.{HasProgram}
use Rattle.camelot_typing.specs.Typed.{Typing, IsTyping}
use Rattle.camelot_typing.specs.Settled.{IsSettled}
use Rattle.code_gen.specs.Generated.{compiled}
use Rattle.grail_code.specs.Spelling.{Second, FitsCode, spelling}
use Rattle.certificate.specs.Text.{text_of}
use Rattle.licence.specs.Licensed.{Licensed}
use Rattle.grail_verifier.specs.declared.refusal.Refusal.{Refusal}
use Rattle.grail_verifier.specs.Verdicts.{IsVerdict, IsThisVerdict}
use Rattle.grail_verifier.specs.Accepted.{IsAccepted}
use Rattle.grail_verifier.specs.AcceptedLaws.{verdict_of}
use Rattle.lp_constraints.specs.Inference as inference
use Rattle.lp_constraints.specs.Inference.{Infers}
use Rattle.cause_texts.specs.declared.cause.Cause.{Cause}
use Rattle.grail_bundle.specs.Bundles.{Bundle}
use Rattle.camelot_compiler.specs.Compiled.{Compiled, Bundled, Refused, compiled_of, IsCompiled, IsSo, Answers, OfCode, HasCertificate}
use Rattle.camelot_compiler.specs.Licences.{HasLicence, IsLicence, IsLicensedOr}
use Rattle.camelot_compiler.specs.Accepted.{AreAccepted}

-- ---- the verifier's answers

abbrev Same : (v w : Result Licensed Refusal) → Type 0
Same v w = v ≡ w

pub is_memory : (code cert : List ℕ) (stop : Stop Refusal) → AreAccepted code cert
    → ((v : Result Licensed Refusal) → IsVerdict code cert v → IsThisVerdict v (Err stop)) → stop ≡ Memory
is_memory code cert (Fault r) verified exact =
    let e : Same (Err r) (Ok verified.licence) = exact (Ok verified.licence) (verdict_of code cert verified.licence verified.accepted) in
    cc
is_memory code cert Memory verified exact = refl

pub same_licence : (code cert : List ℕ) (m l : Licensed) → ((v : Result Licensed Refusal) → IsVerdict code cert v → IsThisVerdict v (Ok m))
    → IsAccepted code cert l → m ≡ l
same_licence code cert m l exact accepted = let e : Same (Ok m) (Ok l) = exact (Ok l) (verdict_of code cert l accepted) in cc

-- ---- a source's licence

-- the licence of the bundle that a text is compiled to
pub record OfBundle (text code cert : List ℕ) : Type 0 where
  pub licence : Licensed
  pub is : IsLicence text licence
  pub accepted : IsAccepted code cert licence

of_bundle : (text code cert : List ℕ) → IsCompiled text (Bundled code cert) → OfCode text (HasCertificate code cert) → OfBundle text code cert
of_bundle text code cert is certified =
    let t : Typing = is.says.typing in
    let has : HasProgram text t.source = subst (HasProgram text) (sym is.says.source) is.program in
    let of : HasCertificate code cert (compiled t) = certified t has is.says.typed is.says.settled in
    let l : Licensed = record { code = compiled t; cert = of.certificate } in
    let said : IsAccepted code cert l = of.is.accepted in
    let shown : IsAccepted (spelling Second (compiled t)) (text_of of.certificate) l = record { spelled = record { format = Second; fits = of.is.spelled.fits; is = refl }; well = said.well; formed = said.formed; text = refl; granted = said.granted } in
    record {
      licence = l;
      is = record { typing = t; accepted = shown; has = record { program = has; typed = is.says.typed; settled = is.says.settled; rule = is.says.says.0; fits = is.says.says.1.0; code = refl; spelled = of.is.spelled.fits; inferred = of.is.inferred } };
      accepted = said;
    }

pub accepted : (text : List ℕ) (b : Bundle) → IsCompiled text (Bundled b.code b.cert) → OfCode text (HasCertificate b.code b.cert) → AreAccepted b.code b.cert
accepted text b is certified = let of : OfBundle text b.code b.cert = of_bundle text b.code b.cert is certified in record { licence = of.licence; accepted = of.accepted }

-- what the verifier's answer says, where it is asked about a bundle
module _ (text : List ℕ) (b : Bundle) (is : IsCompiled text (Bundled b.code b.cert)) (certified : OfCode text (HasCertificate b.code b.cert)) where
  pub found_so : (r : Result Licensed (Stop Cause))
      → ((l : Licensed) → IsAccepted b.code b.cert l → MatchResult r (λ licence. licence ≡ l) (λ x. x ≡ Memory)) → IsLicensedOr text r
  found_so (Ok m) says = let of : OfBundle text b.code b.cert = of_bundle text b.code b.cert is certified in subst (IsLicence text) (sym (says of.licence of.accepted)) of.is
  found_so (Err (Fault x)) says = let of : OfBundle text b.code b.cert = of_bundle text b.code b.cert is certified in let e : Fault x ≡ Memory = says of.licence of.accepted in cc
  found_so (Err Memory) says = tt

  pub found_accepts : (r : Result Licensed (Stop Cause))
      → ((l : Licensed) → IsAccepted b.code b.cert l → MatchResult r (λ licence. licence ≡ l) (λ x. x ≡ Memory))
      → MatchResult r (λ licence. Unit {0}) (λ x. x ≡ Memory)
  found_accepts (Ok m) says = tt
  found_accepts (Err x) says = let of : OfBundle text b.code b.cert = of_bundle text b.code b.cert is certified in says of.licence of.accepted

-- a text that is compiled isn't refused
pub found_refuses : (text code cert : List ℕ) (cause : Cause) (A : Type 0)
    → ((answer : Compiled) → IsCompiled text answer → Bundled code cert ≡ answer) → IsCompiled text (Refused cause) → A
found_refuses text code cert cause A exact h = let e : Bundled code cert ≡ Refused cause = exact (Refused cause) h in cc

-- ---- a source without a licence

compiled_from : (text : List ℕ) (t : Typing) (l : Licensed) → HasLicence text t l → IsCompiled text (Bundled (spelling Second l.code) (text_of l.cert))
compiled_from text t l has = record {
  source = t.source;
  program = has.program;
  says = record {
    typing = t;
    source = refl;
    typed = has.typed;
    settled = has.settled;
    says = (
      has.rule,
      (
        has.fits,
        record {
          spelled = record { fits = subst (FitsCode Second) has.code has.spelled; is = ap (spelling Second) has.code };
          certificate = l.cert;
          inferred = subst (λ p. Infers p (inference.Found l.cert)) has.code has.inferred;
          text = refl;
        },
      ),
    );
  };
}

pub refused_accepts : (text : List ℕ) (x : Stop Cause) → ((answer : Compiled) → IsCompiled text answer → Answers (compiled_of (Err x)) answer)
    → (t : Typing) (l : Licensed) → HasLicence text t l → x ≡ Memory
refused_accepts text (Fault x) exact t l has = let e : Refused x ≡ Bundled (spelling Second l.code) (text_of l.cert) = exact (Bundled (spelling Second l.code) (text_of l.cert)) (compiled_from text t l has) in cc
refused_accepts text Memory exact t l has = refl

pub refused_refuses : (text : List ℕ) (x : Stop Cause) (cause : Cause)
    → ((answer : Compiled) → IsCompiled text answer → Answers (compiled_of (Err x)) answer) → IsCompiled text (Refused cause) → IsFault cause x
refused_refuses text (Fault x) cause exact h = let e : Refused x ≡ Refused cause = exact (Refused cause) h in cc
refused_refuses text Memory cause exact h = tt

pub refused_so : (text : List ℕ) (x : Stop Cause) → IsSo (IsCompiled text) (compiled_of (Err x)) → IsLicensedOr text (Err x)
refused_so text (Fault x) h = h
refused_so text Memory h = tt
