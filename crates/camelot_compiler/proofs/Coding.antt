-- What each stage answers, from what the crates below say: what is answered is so, what is so is answered, and what
-- stands behind it.
use Rattle.std.proofs.Common.{◌≡◌, Option, Some, None, Result, Ok, Err, true, false, refl, sym, ap, ◌∙◌, subst}
use Rattle.std.specs.Prelude.{IfOk, IfErr}
use Rattle.stops.specs.declared.stop.Stop.TheVariants.{Fault, Memory}
use Rattle.cause_texts.specs.declared.cause.Cause.{Cause}
use Rattle.stops.specs.declared.stop.Stop.{Stop}
use Rattle.stops.specs.Stopping.{FaultIs}
use Rattle.camelot_typing.specs.Typed.{Typing, IsTyping}
use Rattle.linear_use.specs.declared.fault.UseFault.{UseFault}
use Rattle.linear_use.specs.Answers as use_answers
use Rattle.linear_use.specs.Answers.{KeepsRule, faults_of, first, IsFirst}
use Rattle.normal_form.specs.declared.fault.NormalFault.{NormalFault}
use Rattle.normal_form.specs.Answers as normal_answers
use Rattle.normal_form.specs.Answers.{program_fault}
use Rattle.code_gen.specs.Generated.{compiled}
use Rattle.grail_code.specs.Code.{Code}
use Rattle.grail_code.specs.Spelling.{Second, FitsCode, spelling}
use Rattle.grail_code.specs.WellFormed.{IsWellFormed}
use Rattle.certificate.specs.Certificates.{Cert, IsCert}
use Rattle.certificate.specs.Text.{text_of}
use Rattle.lp_system.specs.Found.{IsLeastCertificate}
use Rattle.lp_constraints.specs.declared.fault.NoCert.{NoCert}
use Rattle.lp_constraints.specs.declared.fault.NoCert.TheVariants as no_cert
use Rattle.lp_constraints.specs.Inference as inference
use Rattle.lp_constraints.specs.Inference.{Inferred, Infers, inferred_of}
use Rattle.cause_texts.specs.declared.cause.Cause.TheVariants as cause
use Rattle.grail_bundle.specs.Bundles.{Bundle}
use Rattle.camelot_compiler.specs.Compiled.{Compiled, Bundled, Refused, compiled_of, IsNoCert, IsCertified, IsGenerated, IsLinear, IsSo, Answers, NoneGrants}
use Rattle.camelot_compiler.specs.Stages.{use_fault, normal_fault, inference_fault, Stands}

-- ---- certificates

-- what a bundle is made of, unless memory ran out
module _ (p : Code) (c : Cert) (r : Result Bundle (Stop Cause)) (code : IfOk r (λ b. b.code ≡ spelling Second p)) (cert : IfOk r (λ b. b.cert ≡ text_of c)) (memory : IfErr r (λ fault. fault ≡ Memory)) where
  pub certified_found : FitsCode Second p → Infers p (inference.Found c) → IsSo (IsCertified p) (compiled_of r)
  certified_found fits inferred = by_result r code cert memory
    where
      by_result : (r : Result Bundle (Stop Cause)) → IfOk r (λ b. b.code ≡ spelling Second p) → IfOk r (λ b. b.cert ≡ text_of c)
          → IfErr r (λ fault. fault ≡ Memory) → IsSo (IsCertified p) (compiled_of r)
      by_result (Ok b) e f m = record { spelled = record { fits = fits; is = e }; certificate = c; inferred = inferred; text = sym f }
      by_result (Err (Fault x)) e f m = cc
      by_result (Err Memory) e f m = tt

  pub certified_stands : IsWellFormed p → FitsCode Second p → IsCert c → IsLeastCertificate p c → Infers p (inference.Found c) → Stands (compiled_of r) p
  certified_stands well fits right least inferred = by_result r code cert memory
    where
      by_result : (r : Result Bundle (Stop Cause)) → IfOk r (λ b. b.code ≡ spelling Second p) → IfOk r (λ b. b.cert ≡ text_of c)
          → IfErr r (λ fault. fault ≡ Memory) → Stands (compiled_of r) p
      by_result (Ok b) e f m = record {
        certificate = c;
        is = record {
          spelled = record { fits = fits; is = e };
          text = sym f;
          inferred = inferred;
          accepted = record { spelled = record { format = Second; fits = fits; is = e }; well = well; formed = right; text = sym f; granted = least.grants };
          least = least;
        };
      }
      by_result (Err (Fault x)) e f m = cc
      by_result (Err Memory) e f m = tt

  pub certified_exact : ((answer : Inferred) → Infers p answer → inference.Found c ≡ answer) → (answer : Compiled) → IsCertified p answer
      → Answers (compiled_of r) answer
  certified_exact exact answer h = by_result r code cert memory answer h
    where
      never : {A : Type 0} (fault : NoCert) → IsNoCert p fault → A
      never (no_cert.TooMany u n) h = let e : inference.Found c ≡ inference.TooMany u n = exact (inference.TooMany u n) h in cc
      never no_cert.NoBound h = let e : inference.Found c ≡ inference.NoBound = exact inference.NoBound h in cc
      never no_cert.Wide h = let e : inference.Found c ≡ inference.Wide = exact inference.Wide h in cc
      never no_cert.Spent h = let e : inference.Found c ≡ inference.Spent = exact inference.Spent h in cc

      by_answer : (b : Bundle) → b.code ≡ spelling Second p → b.cert ≡ text_of c → (answer : Compiled) → IsCertified p answer → Bundled b.code b.cert ≡ answer
      by_answer b e f (Bundled code cert) h =
          let is : inference.Found c ≡ inference.Found h.certificate = exact (inference.Found h.certificate) h.inferred in
          let same : c ≡ h.certificate = cc in
          let first : b.code ≡ code = e ∙ sym h.spelled.is in
          let second : b.cert ≡ cert = f ∙ ap text_of same ∙ h.text in
          λ i. Bundled (first i) (second i)
      by_answer b e f (Refused (cause.Parse x)) h = absurd h
      by_answer b e f (Refused (cause.Types x)) h = absurd h
      by_answer b e f (Refused (cause.Uses x)) h = absurd h
      by_answer b e f (Refused (cause.Normal x)) h = absurd h
      by_answer b e f (Refused (cause.NoCert fault)) h = never fault h
      by_answer b e f (Refused (cause.Bundle x)) h = absurd h
      by_answer b e f (Refused (cause.Verify x)) h = absurd h

      by_result : (r : Result Bundle (Stop Cause)) → IfOk r (λ b. b.code ≡ spelling Second p) → IfOk r (λ b. b.cert ≡ text_of c)
          → IfErr r (λ fault. fault ≡ Memory) → (answer : Compiled) → IsCertified p answer → Answers (compiled_of r) answer
      by_result (Ok b) e f m answer h = by_answer b e f answer h
      by_result (Err (Fault x)) e f m answer h = cc
      by_result (Err Memory) e f m answer h = tt

-- the answer that an outcome of inference without a certificate is
cause_of : Inferred → Option Compiled
cause_of (inference.Found c) = None
cause_of (inference.TooMany u n) = Some (Refused (cause.NoCert (no_cert.TooMany u n)))
cause_of inference.NoBound = Some (Refused (cause.NoCert no_cert.NoBound))
cause_of inference.Wide = Some (Refused (cause.NoCert no_cert.Wide))
cause_of inference.Spent = Some (Refused (cause.NoCert no_cert.Spent))

has_cause : (p : Code) (o : Inferred) → ((answer : Inferred) → Infers p answer → o ≡ answer) → (answer : Compiled) → IsCertified p answer
    → (found : Compiled) → cause_of o ≡ Some found → cause_of o ≡ Some answer
unfolding cause_of
has_cause p o exact (Bundled code cert) h found is = let e : cause_of o ≡ None = ap cause_of (exact (inference.Found h.certificate) h.inferred) in cc
has_cause p o exact (Refused (cause.NoCert (no_cert.TooMany u n))) h found is = ap cause_of (exact (inference.TooMany u n) h)
has_cause p o exact (Refused (cause.NoCert no_cert.NoBound)) h found is = ap cause_of (exact inference.NoBound h)
has_cause p o exact (Refused (cause.NoCert no_cert.Wide)) h found is = ap cause_of (exact inference.Wide h)
has_cause p o exact (Refused (cause.NoCert no_cert.Spent)) h found is = ap cause_of (exact inference.Spent h)
has_cause p o exact (Refused (cause.Parse x)) h found is = absurd h
has_cause p o exact (Refused (cause.Types x)) h found is = absurd h
has_cause p o exact (Refused (cause.Uses x)) h found is = absurd h
has_cause p o exact (Refused (cause.Normal x)) h found is = absurd h
has_cause p o exact (Refused (cause.Bundle x)) h found is = absurd h
has_cause p o exact (Refused (cause.Verify x)) h found is = absurd h

one_cause : (p : Code) (o : Inferred) (found : Compiled) → cause_of o ≡ Some found → ((answer : Inferred) → Infers p answer → o ≡ answer)
    → (answer : Compiled) → IsCertified p answer → found ≡ answer
one_cause p o found is exact answer h = let e : cause_of o ≡ Some answer = has_cause p o exact answer h found is in cc

pub uncertified_found : (p : Code) (stop : Stop NoCert) (x : Stop Cause) → x ≡ inference_fault stop → inference.IsSo p (inferred_of (Err stop))
    → IsSo (IsCertified p) (compiled_of (Err x))
uncertified_found p stop x e h = subst (λ y. IsSo (IsCertified p) (compiled_of (Err y))) (sym e) (by_stop stop h)
  where
    by_stop : (stop : Stop NoCert) → inference.IsSo p (inferred_of (Err stop)) → IsSo (IsCertified p) (compiled_of (Err (inference_fault stop)))
    by_stop (Fault (no_cert.TooMany u n)) h = h
    by_stop (Fault no_cert.NoBound) h = h
    by_stop (Fault no_cert.Wide) h = h
    by_stop (Fault no_cert.Spent) h = h
    by_stop Memory h = tt

pub uncertified_exact : (p : Code) (stop : Stop NoCert) (x : Stop Cause) → x ≡ inference_fault stop
    → ((answer : Inferred) → Infers p answer → inference.Answers (inferred_of (Err stop)) answer)
    → (answer : Compiled) → IsCertified p answer → Answers (compiled_of (Err x)) answer
unfolding cause_of
uncertified_exact p stop x e exact answer h = subst (λ y. Answers (compiled_of (Err y)) answer) (sym e) (by_stop stop exact)
  where
    by_stop : (stop : Stop NoCert) → ((answer : Inferred) → Infers p answer → inference.Answers (inferred_of (Err stop)) answer)
        → Answers (compiled_of (Err (inference_fault stop))) answer
    by_stop (Fault (no_cert.TooMany u n)) exact = one_cause p (inference.TooMany u n) (Refused (cause.NoCert (no_cert.TooMany u n))) refl exact answer h
    by_stop (Fault no_cert.NoBound) exact = one_cause p inference.NoBound (Refused (cause.NoCert no_cert.NoBound)) refl exact answer h
    by_stop (Fault no_cert.Wide) exact = one_cause p inference.Wide (Refused (cause.NoCert no_cert.Wide)) refl exact answer h
    by_stop (Fault no_cert.Spent) exact = one_cause p inference.Spent (Refused (cause.NoCert no_cert.Spent)) refl exact answer h
    by_stop Memory exact = tt

pub uncertified_stands : (p : Code) (stop : Stop NoCert) (x : Stop Cause) → x ≡ inference_fault stop → (stop ≡ Fault no_cert.NoBound → NoneGrants p)
    → Stands (compiled_of (Err x)) p
uncertified_stands p stop x e none = subst (λ y. Stands (compiled_of (Err y)) p) (sym e) (by_stop stop none)
  where
    by_stop : (stop : Stop NoCert) → (stop ≡ Fault no_cert.NoBound → NoneGrants p) → Stands (compiled_of (Err (inference_fault stop))) p
    by_stop (Fault (no_cert.TooMany u n)) none = tt
    by_stop (Fault no_cert.NoBound) none = none refl
    by_stop (Fault no_cert.Wide) none = tt
    by_stop (Fault no_cert.Spent) none = tt
    by_stop Memory none = tt

-- ---- code

generated_so : (t : Typing) → program_fault t ≡ None → (o : Option Compiled) → IsSo (IsCertified (compiled t)) o → IsSo (IsGenerated t) o
generated_so t none None h = tt
generated_so t none (Some (Bundled code cert)) h = (none, h)
generated_so t none (Some (Refused (cause.Parse x))) h = (none, h)
generated_so t none (Some (Refused (cause.Types x))) h = (none, h)
generated_so t none (Some (Refused (cause.Uses x))) h = (none, h)
generated_so t none (Some (Refused (cause.Normal x))) h = absurd h
generated_so t none (Some (Refused (cause.NoCert x))) h = (none, h)
generated_so t none (Some (Refused (cause.Bundle x))) h = (none, h)
generated_so t none (Some (Refused (cause.Verify x))) h = (none, h)

pub generated_found : (t : Typing) (p : Code) (o : Option Compiled) → p ≡ compiled t → program_fault t ≡ None → IsSo (IsCertified p) o → IsSo (IsGenerated t) o
generated_found t p o e none h = generated_so t none o (subst (λ q. IsSo (IsCertified q) o) e h)

generated_only : (t : Typing) (o : Option Compiled) → program_fault t ≡ None
    → ((answer : Compiled) → IsCertified (compiled t) answer → Answers o answer) → (answer : Compiled) → IsGenerated t answer → Answers o answer
generated_only t o none exact (Bundled code cert) h = exact (Bundled code cert) h.1
generated_only t o none exact (Refused (cause.Parse x)) h = exact (Refused (cause.Parse x)) h.1
generated_only t o none exact (Refused (cause.Types x)) h = exact (Refused (cause.Types x)) h.1
generated_only t o none exact (Refused (cause.Uses x)) h = exact (Refused (cause.Uses x)) h.1
generated_only t o none exact (Refused (cause.Normal fault)) h = let e : program_fault t ≡ Some fault = h in cc
generated_only t o none exact (Refused (cause.NoCert x)) h = exact (Refused (cause.NoCert x)) h.1
generated_only t o none exact (Refused (cause.Bundle x)) h = exact (Refused (cause.Bundle x)) h.1
generated_only t o none exact (Refused (cause.Verify x)) h = exact (Refused (cause.Verify x)) h.1

pub generated_exact : (t : Typing) (p : Code) (o : Option Compiled) → p ≡ compiled t → program_fault t ≡ None
    → ((answer : Compiled) → IsCertified p answer → Answers o answer) → (answer : Compiled) → IsGenerated t answer → Answers o answer
generated_exact t p o e none exact answer h = generated_only t o none (subst (λ q. (answer : Compiled) → IsCertified q answer → Answers o answer) e exact) answer h

pub generated_stands : (t : Typing) (p : Code) (o : Option Compiled) → p ≡ compiled t → Stands o p → Stands o (compiled t)
generated_stands t p o e h = subst (Stands o) e h

pub ungenerated_found : (A : Type 0) (t : Typing) (stop : Stop NormalFault) (x : Stop Cause) → x ≡ normal_fault stop → normal_answers.Finds {A = A} (Err stop) (program_fault t) → IsSo (IsGenerated t) (compiled_of (Err x))
ungenerated_found A t stop x e finds = subst (λ y. IsSo (IsGenerated t) (compiled_of (Err y))) (sym e) (by_stop stop finds)
  where
    by_stop : (stop : Stop NormalFault) → normal_answers.Finds {A = A} (Err stop) (program_fault t) → IsSo (IsGenerated t) (compiled_of (Err (normal_fault stop)))
    by_stop (Fault fault) finds = finds
    by_stop Memory finds = tt

one_normal : (t : Typing) (fault : NormalFault) → (program_fault t ≡ None → Fault fault ≡ Memory) → ((f : NormalFault) → program_fault t ≡ Some f → fault ≡ f)
    → (answer : Compiled) → IsGenerated t answer → Refused (cause.Normal fault) ≡ answer
one_normal t fault takes refuses (Bundled code cert) h = let e : Fault fault ≡ Memory = takes h.0 in cc
one_normal t fault takes refuses (Refused (cause.Parse x)) h = let e : Fault fault ≡ Memory = takes h.0 in cc
one_normal t fault takes refuses (Refused (cause.Types x)) h = let e : Fault fault ≡ Memory = takes h.0 in cc
one_normal t fault takes refuses (Refused (cause.Uses x)) h = let e : Fault fault ≡ Memory = takes h.0 in cc
one_normal t fault takes refuses (Refused (cause.Normal f)) h = ap (λ g. Refused (cause.Normal g)) (refuses f h)
one_normal t fault takes refuses (Refused (cause.NoCert x)) h = let e : Fault fault ≡ Memory = takes h.0 in cc
one_normal t fault takes refuses (Refused (cause.Bundle x)) h = let e : Fault fault ≡ Memory = takes h.0 in cc
one_normal t fault takes refuses (Refused (cause.Verify x)) h = let e : Fault fault ≡ Memory = takes h.0 in cc

pub ungenerated_exact : (A : Type 0) (t : Typing) (stop : Stop NormalFault) (x : Stop Cause) → x ≡ normal_fault stop → (program_fault t ≡ None → stop ≡ Memory) → ((f : NormalFault) → program_fault t ≡ Some f → normal_answers.Refuses {A = A} f (Err stop))
    → (answer : Compiled) → IsGenerated t answer → Answers (compiled_of (Err x)) answer
ungenerated_exact A t stop x e takes refuses answer h = subst (λ y. Answers (compiled_of (Err y)) answer) (sym e) (by_stop stop takes refuses)
  where
    by_stop : (stop : Stop NormalFault) → (program_fault t ≡ None → stop ≡ Memory) → ((f : NormalFault) → program_fault t ≡ Some f → normal_answers.Refuses {A = A} f (Err stop)) → Answers (compiled_of (Err (normal_fault stop))) answer
    by_stop (Fault fault) takes refuses = one_normal t fault takes refuses answer h
    by_stop Memory takes refuses = tt

pub unfounded_normal : (p : Code) (stop : Stop NormalFault) (x : Stop Cause) → x ≡ normal_fault stop → Stands (compiled_of (Err x)) p
unfounded_normal p stop x e = subst (λ y. Stands (compiled_of (Err y)) p) (sym e) (by_stop stop)
  where
    by_stop : (stop : Stop NormalFault) → Stands (compiled_of (Err (normal_fault stop))) p
    by_stop (Fault fault) = tt
    by_stop Memory = tt

-- ---- the rule of use

linear_so : (t : Typing) → KeepsRule t → (o : Option Compiled) → IsSo (IsGenerated t) o → IsSo (IsLinear t) o
linear_so t rule None h = tt
linear_so t rule (Some (Bundled code cert)) h = (rule, h)
linear_so t rule (Some (Refused (cause.Parse x))) h = (rule, h)
linear_so t rule (Some (Refused (cause.Types x))) h = (rule, h)
linear_so t rule (Some (Refused (cause.Uses x))) h = absurd h.1
linear_so t rule (Some (Refused (cause.Normal x))) h = (rule, h)
linear_so t rule (Some (Refused (cause.NoCert x))) h = (rule, h)
linear_so t rule (Some (Refused (cause.Bundle x))) h = (rule, h)
linear_so t rule (Some (Refused (cause.Verify x))) h = (rule, h)

pub linear_found : (t u : Typing) (o : Option Compiled) → u ≡ t → KeepsRule u → IsSo (IsGenerated u) o → IsSo (IsLinear t) o
linear_found t u o e rule h = subst (λ v. IsSo (IsLinear v) o) e (linear_so u rule o h)

linear_only : (t : Typing) (o : Option Compiled) → ((f : UseFault) → first (faults_of t) ≡ Some f → ⊥)
    → ((answer : Compiled) → IsGenerated t answer → Answers o answer) → (answer : Compiled) → IsLinear t answer → Answers o answer
linear_only t o refuses exact (Bundled code cert) h = exact (Bundled code cert) h.1
linear_only t o refuses exact (Refused (cause.Parse x)) h = exact (Refused (cause.Parse x)) h.1
linear_only t o refuses exact (Refused (cause.Types x)) h = exact (Refused (cause.Types x)) h.1
linear_only t o refuses exact (Refused (cause.Uses fault)) h = absurd (refuses fault h)
linear_only t o refuses exact (Refused (cause.Normal x)) h = exact (Refused (cause.Normal x)) h.1
linear_only t o refuses exact (Refused (cause.NoCert x)) h = exact (Refused (cause.NoCert x)) h.1
linear_only t o refuses exact (Refused (cause.Bundle x)) h = exact (Refused (cause.Bundle x)) h.1
linear_only t o refuses exact (Refused (cause.Verify x)) h = exact (Refused (cause.Verify x)) h.1

pub linear_exact : (t u : Typing) (o : Option Compiled) → u ≡ t → ((f : UseFault) → first (faults_of t) ≡ Some f → ⊥)
    → ((answer : Compiled) → IsGenerated u answer → Answers o answer) → (answer : Compiled) → IsLinear t answer → Answers o answer
linear_exact t u o e refuses exact answer h = linear_only t o refuses (subst (λ v. (answer : Compiled) → IsGenerated v answer → Answers o answer) e exact) answer h

pub linear_stands : (t u : Typing) (o : Option Compiled) → u ≡ t → Stands o (compiled u) → Stands o (compiled t)
linear_stands t u o e h = subst (λ v. Stands o (compiled v)) e h

pub unlinear_found : (t : Typing) (stop : Stop UseFault) (x : Stop Cause) → x ≡ use_fault stop → IsFirst (faults_of t) stop
    → IsSo (IsLinear t) (compiled_of (Err x))
unlinear_found t stop x e h = subst (λ y. IsSo (IsLinear t) (compiled_of (Err y))) (sym e) (by_stop stop h)
  where
    by_stop : (stop : Stop UseFault) → IsFirst (faults_of t) stop → IsSo (IsLinear t) (compiled_of (Err (use_fault stop)))
    by_stop (Fault fault) h = h
    by_stop Memory h = tt

one_use : (t : Typing) (fault : UseFault) → (KeepsRule t → Fault fault ≡ Memory) → ((f : UseFault) → first (faults_of t) ≡ Some f → fault ≡ f)
    → (answer : Compiled) → IsLinear t answer → Refused (cause.Uses fault) ≡ answer
one_use t fault takes refuses (Bundled code cert) h = let e : Fault fault ≡ Memory = takes h.0 in cc
one_use t fault takes refuses (Refused (cause.Parse x)) h = let e : Fault fault ≡ Memory = takes h.0 in cc
one_use t fault takes refuses (Refused (cause.Types x)) h = let e : Fault fault ≡ Memory = takes h.0 in cc
one_use t fault takes refuses (Refused (cause.Uses f)) h = ap (λ g. Refused (cause.Uses g)) (refuses f h)
one_use t fault takes refuses (Refused (cause.Normal x)) h = let e : Fault fault ≡ Memory = takes h.0 in cc
one_use t fault takes refuses (Refused (cause.NoCert x)) h = let e : Fault fault ≡ Memory = takes h.0 in cc
one_use t fault takes refuses (Refused (cause.Bundle x)) h = let e : Fault fault ≡ Memory = takes h.0 in cc
one_use t fault takes refuses (Refused (cause.Verify x)) h = let e : Fault fault ≡ Memory = takes h.0 in cc

pub unlinear_exact : (A : Type 0) (t : Typing) (stop : Stop UseFault) (x : Stop Cause) → x ≡ use_fault stop → (KeepsRule t → stop ≡ Memory) → ((f : UseFault) → first (faults_of t) ≡ Some f → use_answers.Refuses {A = A} f (Err stop))
    → (answer : Compiled) → IsLinear t answer → Answers (compiled_of (Err x)) answer
unlinear_exact A t stop x e takes refuses answer h = subst (λ y. Answers (compiled_of (Err y)) answer) (sym e) (by_stop stop takes refuses)
  where
    by_stop : (stop : Stop UseFault) → (KeepsRule t → stop ≡ Memory) → ((f : UseFault) → first (faults_of t) ≡ Some f → use_answers.Refuses {A = A} f (Err stop)) → Answers (compiled_of (Err (use_fault stop))) answer
    by_stop (Fault fault) takes refuses = one_use t fault takes refuses answer h
    by_stop Memory takes refuses = tt

pub unfounded_use : (p : Code) (stop : Stop UseFault) (x : Stop Cause) → x ≡ use_fault stop → Stands (compiled_of (Err x)) p
unfounded_use p stop x e = subst (λ y. Stands (compiled_of (Err y)) p) (sym e) (by_stop stop)
  where
    by_stop : (stop : Stop UseFault) → Stands (compiled_of (Err (use_fault stop))) p
    by_stop (Fault fault) = tt
    by_stop Memory = tt
