-- What stands behind an answer, clause by clause.
use Rattle.std.proofs.Common.{◌≡◌, ℕ, List, Result, Ok, Err, subst}
use Rattle.std.specs.Prelude.{IfOk}
use Rattle.stops.specs.declared.stop.Stop.{Stop}
use Rattle.stops.specs.declared.stop.Stop.TheVariants.{Fault}
use Rattle.cause_texts.specs.declared.cause.Cause.{Cause}
use Rattle.camelot_grammar.specs.Parsing.{HasProgram}
use Rattle.camelot_typing.specs.Typed.{Typing, IsTyping}
use Rattle.camelot_typing.specs.Settled.{IsSettled}
use Rattle.code_gen.specs.Generated.{compiled}
use Rattle.lp_constraints.specs.declared.fault.NoCert.TheVariants as no_cert
use Rattle.cause_texts.specs.declared.cause.Cause.TheVariants as cause
use Rattle.grail_bundle.specs.Bundles.{Bundle}
use Rattle.camelot_compiler.specs.Compiled.{compiled_of, OfCode, HasCertificate, NoneGrants}
use Rattle.camelot_compiler.specs.Stages.{Stands}

module _ (text : List ℕ) where
  pub certified : (r : Result Bundle (Stop Cause))
      → ((t : Typing) → HasProgram text t.source → IsTyping t → IsSettled t → Stands (compiled_of r) (compiled t))
      → IfOk r (λ b. OfCode text (HasCertificate b.code b.cert))
  certified (Ok b) h = λ t is typed settled. h t is typed settled
  certified (Err x) h = tt

  pub no_bound : (r : Result Bundle (Stop Cause)) → ((t : Typing) → HasProgram text t.source → IsTyping t → IsSettled t → Stands (compiled_of r) (compiled t))
      → r ≡ Err (Fault (cause.NoCert no_cert.NoBound)) → OfCode text NoneGrants
  no_bound r h e = λ t is typed settled. subst (λ q. Stands (compiled_of q) (compiled t)) e (h t is typed settled)
