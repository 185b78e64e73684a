-- What stands behind what a source is compiled to, from the definitions alone.
use Rattle.std.proofs.Common.{◌≡◌, ℕ, ◌≤◌, List, length, None, IsTrue, refl, sym, subst}
use Rattle.text_scan.specs.declared.tokens.Token.{Token}
use Rattle.text_scan.specs.Reading.{AreTokensOf}
use Rattle.camelot_tree.specs.Tree.{Source}
use Rattle.camelot_tree.specs.Shape.{is_whole}
use Rattle.camelot_grammar.specs.declared.lexeme.Lexeme.{Lexeme}
use Rattle.camelot_grammar.specs.Lexemes.{lexemes}
use Rattle.camelot_grammar.specs.Parsing.{HasProgram, IsProgram}
use Rattle.camelot_typing.specs.Typed.{Typing, IsTyping}
use Rattle.camelot_typing.specs.Settled.{IsSettled}
use Rattle.linear_use.specs.Answers.{KeepsRule}
use Rattle.normal_form.specs.Answers.{program_fault}
use Rattle.code_gen.specs.Generated.{compiled}
use Rattle.grail_code.specs.Code.{Code}
use Rattle.grail_code.specs.Limits.{IsWithinLimits, IsNamed}
use Rattle.grail_code.specs.Spelling.{Second, spelling}
use Rattle.grail_code.specs.RangeLaws.{fits_second}
use Rattle.grail_code.specs.WellFormed.{IsWellFormed}
use Rattle.certificate.specs.Certificates.{Cert, IsFormed}
use Rattle.certificate.specs.Text.{text_of}
use Rattle.licence.specs.Fitting.{Grants}
use Rattle.licence.specs.Licensed.{Licensed}
use Rattle.dual_simplex.specs.Systems.{Inequalities, IsProper}
use Rattle.dual_simplex.specs.Run.{Outcome, IsOutcome, Least, Nothing}
use Rattle.dual_simplex.specs.Feasible.{IsFeasible, IsLeast}
use Rattle.dual_simplex.specs.Promises.{SaysLeast, SaysNothing}
use Rattle.lp_system.specs.Unknowns.{unknowns_of}
use Rattle.lp_system.specs.Forms.{rows_of, system_of}
use Rattle.lp_system.specs.Found.{certificate_of, IsLeastCertificate}
use Rattle.lp_constraints.specs.declared.fault.NoCert.TheVariants as no_cert
use Rattle.lp_constraints.specs.Inference.{IsSmall, IsSolution}
use Rattle.grail_verifier.specs.Accepted.{IsAccepted}
use Rattle.cause_texts.specs.declared.cause.Cause.TheVariants as cause
use Rattle.camelot_compiler.specs.Compiled.{Bundled, Refused, IsBundle, IsCompiled, OfCode, NoneGrants}
use Rattle.camelot_compiler.specs.Licences.{IsCertifiedFor}
use Rattle.camelot_compiler.proofs.Named.{fits_named}

-- The laws of the stages, and what a run of the solver and a solution say.
pub record Laws : Type 0 where
  pub tokens : (text : List ℕ) (one other : List Token) → AreTokensOf text one → AreTokensOf text other → one ≡ other
  pub program : (tokens : List Lexeme) (one other : Source) → IsProgram tokens one → IsProgram tokens other → one ≡ other
  pub whole : (tokens : List Lexeme) (source : Source) → IsProgram tokens source → IsTrue (is_whole source)
  pub typing : (t u : Typing) → t.source ≡ u.source → IsTyping t → IsSettled t → IsTyping u → IsSettled u → t ≡ u
  pub well_formed : (t : Typing) → IsTyping t → KeepsRule t → IsWellFormed (compiled t)
  pub within : (t : Typing) → IsTyping t → IsTrue (is_whole t.source) → program_fault t ≡ None → IsWithinLimits (compiled t)
  pub size : (p : Code) → IsWellFormed p → IsWithinLimits p → length (unknowns_of p) ≤ 512 → length (rows_of p) ≤ 1536 → IsProper (system_of p)
  pub run_least : (system : Inequalities) (o : Outcome) → IsProper system → IsOutcome system o → SaysLeast system o
  pub run_nothing : (system : Inequalities) (o : Outcome) → IsProper system → IsOutcome system o → SaysNothing system o
  pub least : (p : Code) (unit : ℕ) (values : List ℕ) → IsWellFormed p → IsWithinLimits p → IsLeast (system_of p) unit values
      → IsLeastCertificate p (certificate_of p unit values)
  pub none : (p : Code) → IsWellFormed p → IsWithinLimits p → ((unit : ℕ) (values : List ℕ) → IsFeasible (system_of p) unit values → ⊥) → (c : Cert)
      → Grants p c → ⊥
  pub formed : (p : Code) (unit : ℕ) (values : List ℕ) → IsWellFormed p → IsWithinLimits p → IsNamed p → 1 ≤ unit → IsFormed (certificate_of p unit values)

-- what is known of the code of a program
record Coded (p : Code) : Type 0 where
  well : IsWellFormed p
  within : IsWithinLimits p

coded : Laws → (text : List ℕ) (t : Typing) → HasProgram text t.source → IsTyping t → KeepsRule t → program_fault t ≡ None → Coded (compiled t)
coded laws text t is typing rule none = record {
  well = laws.well_formed t typing rule;
  within = laws.within t typing (laws.whole (lexemes text is.tokens) t.source is.program) none;
}

proper : Laws → (p : Code) → Coded p → IsSmall p → IsProper (system_of p)
proper laws p c small = laws.size p c.well c.within small.unknowns small.rows

-- the values of a solution are least
least_values : Laws → (p : Code) (c : Cert) → Coded p → IsSmall p → (s : IsSolution p c) → IsLeast (system_of p) s.unit s.values
least_values laws p c coded small s = laws.run_least (system_of p) (Least s.unit s.values s.price_unit s.prices) (proper laws p coded small) s.outcome

least_of : Laws → (p : Code) (c : Cert) → Coded p → IsSmall p → IsSolution p c → IsLeastCertificate p c
least_of laws p c coded small s = subst (IsLeastCertificate p) (sym s.is) (laws.least p s.unit s.values coded.well coded.within (least_values laws p c coded small s))

formed_of : Laws → (p : Code) (c : Cert) → Coded p → IsNamed p → IsSmall p → IsSolution p c → IsFormed c
formed_of laws p c coded named small s =
    subst IsFormed (sym s.is) (laws.formed p s.unit s.values coded.well coded.within named (least_values laws p c coded small s).feasible.unit_positive)

accepted_of : Laws → (p : Code) (code cert : List ℕ) → Coded p → (b : IsBundle p code cert) → IsAccepted code cert (record { code = p; cert = b.certificate })
accepted_of laws p code cert coded b = record {
  spelled = record { format = Second; fits = b.spelled.fits; is = b.spelled.is };
  well = coded.well;
  formed = record { formed = formed_of laws p b.certificate coded (fits_named p b.spelled.fits) b.inferred.0 b.inferred.1; within = b.inferred.2 };
  text = b.text;
  granted = (least_of laws p b.certificate coded b.inferred.0 b.inferred.1).grants;
}

-- the same of the texts that `compile` writes for the licence
as_written : (code cert : List ℕ) (l : Licensed) → IsAccepted code cert l → IsAccepted (spelling Second l.code) (text_of l.cert) l
as_written code cert l said = record { spelled = record { format = Second; fits = fits_second said.spelled.format l.code said.spelled.fits; is = refl }; well = said.well; formed = said.formed; text = refl; granted = said.granted }

pub certified_for : Laws → (text code cert : List ℕ) → IsCompiled text (Bundled code cert) → IsCertifiedFor text code cert
certified_for laws text code cert h =
    let t : Typing = h.says.typing in
    let has : HasProgram text t.source = subst (HasProgram text) (sym h.says.source) h.program in
    let rule : KeepsRule t = h.says.says.0 in
    let none : program_fault t ≡ None = h.says.says.1.0 in
    let b : IsBundle (compiled t) code cert = h.says.says.1.1 in
    let known : Coded (compiled t) = coded laws text t has h.says.typed rule none in
    let l : Licensed = record { code = compiled t; cert = b.certificate } in
    let said : IsAccepted code cert l = accepted_of laws (compiled t) code cert known b in
    record {
      licence = l;
      is = record {
        typing = t;
        has = record { program = has; typed = h.says.typed; settled = h.says.settled; rule = rule; fits = none; code = refl; spelled = b.spelled.fits; inferred = b.inferred };
        accepted = as_written code cert l said;
      };
      accepted = said;
      least = least_of laws (compiled t) b.certificate known b.inferred.0 b.inferred.1;
    }

-- ---- no bound

same_source : Laws → (text : List ℕ) (p q : Source) → HasProgram text p → HasProgram text q → p ≡ q
same_source laws text p q h k =
    let same : h.tokens ≡ k.tokens = laws.tokens text h.tokens k.tokens h.are k.are in
    laws.program (lexemes text k.tokens) p q (subst (λ ts. IsProgram (lexemes text ts) p) same h.program) k.program

pub none_grants : Laws → (text : List ℕ) → IsCompiled text (Refused (cause.NoCert no_cert.NoBound)) → OfCode text NoneGrants
none_grants laws text h = λ u is typed settled.
    let t : Typing = h.says.typing in
    let has : HasProgram text t.source = subst (HasProgram text) (sym h.says.source) h.program in
    let known : Coded (compiled t) = coded laws text t has h.says.typed h.says.says.0 h.says.says.1.0 in
    let run = h.says.says.1.1 in
    let nothing : NoneGrants (compiled t) =
    laws.none (compiled t) known.well known.within (laws.run_nothing (system_of (compiled t)) (Nothing run.1.0) (proper laws (compiled t) known run.0) run.1.1) in
    let same : t ≡ u = laws.typing t u (same_source laws text t.source u.source has is) h.says.typed h.says.settled typed settled in
    subst (λ x. NoneGrants (compiled x)) same nothing
