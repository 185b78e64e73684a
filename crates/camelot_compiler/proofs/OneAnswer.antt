-- Compiling has one answer, stage by stage, by the laws of the stages.
use Rattle.std.proofs.Common.{◌≡◌, ◌⊎◌, ◌↔◌, ℕ, ◌≤◌, List, [], length, Option, Some, None, IsTrue, refl, sym, ap, ◌∙◌, subst, inl, inr}
use Rattle.stops.specs.declared.stop.Stop.TheVariants.{Fault, Memory}
use Rattle.text_scan.specs.declared.tokens.Token.{Token}
use Rattle.text_scan.specs.declared.fault.ScanFault.{ScanFault}
use Rattle.text_scan.specs.Reading.{AreTokensOf, IsFaultOf}
use Rattle.camelot_tree.specs.Tree.{Source}
use Rattle.camelot_tree.specs.Shape.{is_whole}
use Rattle.camelot_grammar.specs.declared.lexeme.Lexeme.{Lexeme}
use Rattle.camelot_grammar.specs.declared.fault.ParseFault.{ParseFault}
use Rattle.camelot_grammar.specs.declared.fault.ParseFault.TheVariants as parse
use Rattle.camelot_grammar.specs.Lexemes.{lexemes}
use Rattle.camelot_grammar.specs.Parsing as grammar
use Rattle.camelot_grammar.specs.Parsing.{HasProgram, IsProgram, IsFaultAmong, last_line}
use Rattle.camelot_typing.specs.Typing as rules
use Rattle.camelot_typing.specs.Typing.{Signature, IsWithinLimits}
use Rattle.camelot_typing.specs.Typed.{Typing, IsTyping}
use Rattle.camelot_typing.specs.Settled.{IsSettled}
use Rattle.camelot_types.specs.declared.fault.TypeFault.{TypeFault}
use Rattle.camelot_types.specs.Walk as walk
use Rattle.linear_use.specs.declared.fault.UseFault.{UseFault}
use Rattle.linear_use.specs.Answers.{KeepsRule, faults_of, first}
use Rattle.normal_form.specs.declared.fault.NormalFault.{NormalFault}
use Rattle.normal_form.specs.Answers.{program_fault}
use Rattle.code_gen.specs.Generated.{compiled}
use Rattle.grail_code.specs.Code.{Code}
use Rattle.grail_code.specs.Limits as limits
use Rattle.grail_code.specs.WellFormed.{IsWellFormed}
use Rattle.grail_code.specs.Spelling.{Second, spelling}
use Rattle.certificate.specs.Certificates.{Cert}
use Rattle.certificate.specs.Text.{text_of}
use Rattle.licence.specs.Licensed.{Licensed}
use Rattle.dual_simplex.specs.Run.{HasOneRun}
use Rattle.dual_simplex.specs.Systems.{Inequalities, IsProper}
use Rattle.lp_system.specs.Unknowns.{unknowns_of}
use Rattle.lp_system.specs.Forms.{rows_of, system_of}
use Rattle.lp_constraints.specs.declared.fault.NoCert.TheVariants as no_cert
use Rattle.lp_constraints.specs.Inference as inference
use Rattle.lp_constraints.specs.Inference.{Inferred, Infers}
use Rattle.cause_texts.specs.declared.cause.Cause.{Cause}
use Rattle.cause_texts.specs.declared.cause.Cause.TheVariants as cause
use Rattle.camelot_compiler.specs.Compiled.{Compiled, Bundled, Refused, IsCertified, IsGenerated, IsLinear, OfTyping, IsTyped, OfProgram, IsCompiled}
use Rattle.camelot_compiler.specs.Licences.{HasLicence}
use Rattle.camelot_compiler.proofs.OneInference.{one_inferred}
use Rattle.camelot_compiler.proofs.Accepting.{refused_accepts}

-- The laws of the stages: each has one answer, and small code is solved in one run.
pub record Laws : Type 0 where
  pub tokens_or_fault : (text : List ℕ) (tokens : List Token) (fault : ScanFault) → AreTokensOf text tokens → IsFaultOf text fault → ⊥
  pub tokens : (text : List ℕ) (one other : List Token) → AreTokensOf text one → AreTokensOf text other → one ≡ other
  pub scan_fault : (text : List ℕ) (one other : ScanFault) → IsFaultOf text one → IsFaultOf text other → one ≡ other
  pub program_or_fault : (tokens : List Lexeme) (last : ℕ) (source : Source) (fault : ParseFault) → IsProgram tokens source → IsFaultAmong tokens last fault → ⊥
  pub program : (tokens : List Lexeme) (one other : Source) → IsProgram tokens one → IsProgram tokens other → one ≡ other
  pub parse_fault : (tokens : List Lexeme) (last : ℕ) (one other : ParseFault) → IsFaultAmong tokens last one → IsFaultAmong tokens last other → one ≡ other
  pub whole : (tokens : List Lexeme) (source : Source) → IsProgram tokens source → IsTrue (is_whole source)
  pub typed_or_fault : (p : Source) (fault : TypeFault) (sigs : List Signature) → walk.HasFault p fault → rules.IsTyped p sigs → IsWithinLimits p → ⊥
  pub type_fault : (p : Source) (one other : TypeFault) → walk.HasFault p one → walk.HasFault p other → one ≡ other
  pub typing : (t u : Typing) → t.source ≡ u.source → IsTyping t → IsSettled t → IsTyping u → IsSettled u → t ≡ u
  pub rule : (t : Typing) → rules.IsTyped t.source t.signatures → KeepsRule t ↔ (faults_of t ≡ [])
  pub well_formed : (t : Typing) → IsTyping t → KeepsRule t → IsWellFormed (compiled t)
  pub within : (t : Typing) → IsTyping t → IsTrue (is_whole t.source) → program_fault t ≡ None → limits.IsWithinLimits (compiled t)
  pub size : (p : Code) → IsWellFormed p → limits.IsWithinLimits p → length (unknowns_of p) ≤ 512 → length (rows_of p) ≤ 1536 → IsProper (system_of p)
  pub one_run : (system : Inequalities) → IsProper system → HasOneRun system

-- ---- a stage

-- a stage stops for a fault, or this is said of the answer
abbrev IsAnswer : (Broken : Type 0) → (Broken → Compiled) → (Broken → Type 0) → (Compiled → Type 0) → Compiled → Type 0
IsAnswer Broken wrap Faulty Says a = ((fault : Broken) × (a ≡ wrap fault) × Faulty fault) ⊎ Says a

-- A stage has one answer where it has one fault, none where it goes on, and one answer there.
one_of : (Broken : Type 0) (wrap : Broken → Compiled) (Faulty : Broken → Type 0) (Says : Compiled → Type 0)
    → ((f g : Broken) → Faulty f → Faulty g → f ≡ g)
    → ((f : Broken) (x : Compiled) → Faulty f → Says x → ⊥)
    → ((x y : Compiled) → Says x → Says y → x ≡ y)
    → (a b : Compiled) → IsAnswer Broken wrap Faulty Says a → IsAnswer Broken wrap Faulty Says b → a ≡ b
one_of Broken wrap Faulty Says fault apart next a b (inl (f, is, h)) (inl (g, also, k)) = is ∙ ap wrap (fault f g h k) ∙ sym also
one_of Broken wrap Faulty Says fault apart next a b (inl (f, is, h)) (inr k) = absurd (apart f b h k)
one_of Broken wrap Faulty Says fault apart next a b (inr h) (inl (g, is, k)) = absurd (apart g a k h)
one_of Broken wrap Faulty Says fault apart next a b (inr h) (inr k) = next a b h k

same_some : {A : Type 0} (o : Option A) (x y : A) → o ≡ Some x → o ≡ Some y → x ≡ y
same_some o x y h k = cc

not_both : {A : Type 0} (o : Option A) (x : A) → o ≡ None → o ≡ Some x → ⊥
not_both o x h k = cc

-- ---- of code: a certificate

-- what is answered of code, of which this is inferred
abbrev answer_of : Code → Inferred → Compiled
answer_of p (inference.Found c) = Bundled (spelling Second p) (text_of c)
answer_of p (inference.TooMany unknowns rows) = Refused (cause.NoCert (no_cert.TooMany unknowns rows))
answer_of p inference.NoBound = Refused (cause.NoCert no_cert.NoBound)
answer_of p inference.Wide = Refused (cause.NoCert no_cert.Wide)
answer_of p inference.Spent = Refused (cause.NoCert no_cert.Spent)

record OfInference (p : Code) (a : Compiled) : Type 0 where
  pub inferred : Inferred
  pub infers : Infers p inferred
  pub is : a ≡ answer_of p inferred

of_inference : (p : Code) (a : Compiled) → IsCertified p a → OfInference p a
of_inference p (Bundled code cert) h =
    record { inferred = inference.Found h.certificate; infers = h.inferred; is = ap (λ x. Bundled x cert) h.spelled.is ∙ ap (Bundled (spelling Second p)) (sym h.text) }
of_inference p (Refused (cause.NoCert (no_cert.TooMany unknowns rows))) h = record { inferred = inference.TooMany unknowns rows; infers = h; is = refl }
of_inference p (Refused (cause.NoCert no_cert.NoBound)) h = record { inferred = inference.NoBound; infers = h; is = refl }
of_inference p (Refused (cause.NoCert no_cert.Wide)) h = record { inferred = inference.Wide; infers = h; is = refl }
of_inference p (Refused (cause.NoCert no_cert.Spent)) h = record { inferred = inference.Spent; infers = h; is = refl }
of_inference p (Refused x) h = absurd h

-- inference has one answer for this code
abbrev InfersOnce : Code → Type 0
InfersOnce p = (a b : Inferred) → Infers p a → Infers p b → a ≡ b

one_certified : (p : Code) → InfersOnce p → (a b : Compiled) → IsCertified p a → IsCertified p b → a ≡ b
one_certified p once a b h k =
    let x = of_inference p a h in
    let y = of_inference p b k in
    x.is ∙ ap (answer_of p) (once x.inferred y.inferred x.infers y.infers) ∙ sym y.is

-- ---- of a typed program that keeps the rule of use: code

abbrev GoesToCode : Typing → Compiled → Type 0
GoesToCode t a = (program_fault t ≡ None) × IsCertified (compiled t) a

generated_parts : (t : Typing) (a : Compiled) → IsGenerated t a
    → IsAnswer NormalFault (λ f. Refused (cause.Normal f)) (λ f. program_fault t ≡ Some f) (GoesToCode t) a
generated_parts t (Refused (cause.Normal fault)) h = inl (fault, refl, h)
generated_parts t a h = inr h

one_generated : (t : Typing) → (program_fault t ≡ None → InfersOnce (compiled t)) → (a b : Compiled) → IsGenerated t a → IsGenerated t b → a ≡ b
one_generated t once a b h k =
    one_of NormalFault (λ f. Refused (cause.Normal f)) (λ f. program_fault t ≡ Some f) (GoesToCode t)
    (λ f g x y. same_some (program_fault t) f g x y)
    (λ f c x y. not_both (program_fault t) f y.0 x)
    (λ c d x y. one_certified (compiled t) (once x.0) c d x.1 y.1)
    a b (generated_parts t a h) (generated_parts t b k)

-- ---- of a typed program: the rule of use

abbrev KeepsAndGoes : Typing → Compiled → Type 0
KeepsAndGoes t a = KeepsRule t × IsGenerated t a

linear_parts : (t : Typing) (a : Compiled) → IsLinear t a
    → IsAnswer UseFault (λ f. Refused (cause.Uses f)) (λ f. first (faults_of t) ≡ Some f) (KeepsAndGoes t) a
linear_parts t (Refused (cause.Uses fault)) h = inl (fault, refl, h)
linear_parts t a h = inr h

one_linear : (t : Typing) → (KeepsRule t → faults_of t ≡ []) → (KeepsRule t → program_fault t ≡ None → InfersOnce (compiled t))
    → (a b : Compiled) → IsLinear t a → IsLinear t b → a ≡ b
one_linear t faultless once a b h k =
    one_of UseFault (λ f. Refused (cause.Uses f)) (λ f. first (faults_of t) ≡ Some f) (KeepsAndGoes t)
    (λ f g x y. same_some (first (faults_of t)) f g x y)
    (λ f c x y. not_both (first (faults_of t)) f (ap first (faultless y.0)) x)
    (λ c d x y. one_generated t (once x.0) c d x.1 y.1)
    a b (linear_parts t a h) (linear_parts t b k)

-- ---- of a program: its types

abbrev HasTyping : Source → Compiled → Type 0
HasTyping p a = OfTyping p (λ t. IsLinear t a)

typed_parts : (p : Source) (a : Compiled) → IsTyped p a → IsAnswer TypeFault (λ f. Refused (cause.Types f)) (walk.HasFault p) (HasTyping p) a
typed_parts p (Refused (cause.Types fault)) h = inl (fault, refl, h)
typed_parts p a h = inr h

-- where the rule of use is kept and no function is too large, inference has one answer for the code of this typing
abbrev CodeInfersOnce : Typing → Type 0
CodeInfersOnce t = KeepsRule t → program_fault t ≡ None → InfersOnce (compiled t)

is_typed : (p : Source) (t : Typing) → t.source ≡ p → IsTyping t → rules.IsTyped p t.signatures
is_typed p t e h = subst (λ q. rules.IsTyped q t.signatures) e h.typed

one_typed : Laws → (p : Source) → ((t : Typing) → t.source ≡ p → IsTyping t → CodeInfersOnce t) → (a b : Compiled) → IsTyped p a → IsTyped p b → a ≡ b
one_typed laws p once a b h k =
    one_of TypeFault (λ f. Refused (cause.Types f)) (walk.HasFault p) (HasTyping p)
    (laws.type_fault p)
    (λ f c x y. laws.typed_or_fault p f y.typing.signatures x (is_typed p y.typing y.source y.typed) (subst IsWithinLimits y.source y.typed.within))
    (λ c d x y.
    let same : x.typing ≡ y.typing = laws.typing x.typing y.typing (x.source ∙ sym y.source) x.typed x.settled y.typed y.settled in
    one_linear y.typing (λ kept. (laws.rule y.typing y.typed.typed).0 kept) (once y.typing y.source y.typed) c d (subst (λ t. IsLinear t c) same x.says) y.says)
    a b (typed_parts p a h) (typed_parts p b k)

-- ---- of a text: its program

-- a fault of the text is one of its reading, or one of its tokens
abbrev IsReadingFault : List ℕ → ParseFault → Type 0
IsReadingFault text f = ((fault : ScanFault) × (f ≡ parse.Scan fault) × IsFaultOf text fault) ⊎ grammar.HasFault text f

reading_fault : (text : List ℕ) (f : ParseFault) → grammar.HasCause text f → IsReadingFault text f
reading_fault text (parse.Scan fault) h = inl (fault, refl, h)
reading_fault text f h = inr h

one_reading_fault : Laws → (text : List ℕ) (f g : ParseFault) → IsReadingFault text f → IsReadingFault text g → f ≡ g
one_reading_fault laws text f g (inl (x, is, h)) (inl (y, also, k)) = is ∙ ap parse.Scan (laws.scan_fault text x y h k) ∙ sym also
one_reading_fault laws text f g (inl (x, is, h)) (inr k) = absurd (laws.tokens_or_fault text k.tokens x k.are h)
one_reading_fault laws text f g (inr h) (inl (y, is, k)) = absurd (laws.tokens_or_fault text h.tokens y h.are k)
one_reading_fault laws text f g (inr h) (inr k) =
    let same : h.tokens ≡ k.tokens = laws.tokens text h.tokens k.tokens h.are k.are in
    laws.parse_fault (lexemes text k.tokens) (last_line text) f g (subst (λ ts. IsFaultAmong (lexemes text ts) (last_line text) f) same h.among) k.among

no_program : Laws → (text : List ℕ) (f : ParseFault) (p : Source) → IsReadingFault text f → HasProgram text p → ⊥
no_program laws text f p (inl (x, is, h)) k = laws.tokens_or_fault text k.tokens x k.are h
no_program laws text f p (inr h) k =
    let same : h.tokens ≡ k.tokens = laws.tokens text h.tokens k.tokens h.are k.are in
    laws.program_or_fault (lexemes text k.tokens) (last_line text) p f k.program (subst (λ ts. IsFaultAmong (lexemes text ts) (last_line text) f) same h.among)

one_program : Laws → (text : List ℕ) (p q : Source) → HasProgram text p → HasProgram text q → p ≡ q
one_program laws text p q h k =
    let same : h.tokens ≡ k.tokens = laws.tokens text h.tokens k.tokens h.are k.are in
    laws.program (lexemes text k.tokens) p q (subst (λ ts. IsProgram (lexemes text ts) p) same h.program) k.program

-- the code of a program that a text is comes within the solver's sizes, so that it has one run
infers_once : Laws → (text : List ℕ) (t : Typing) → HasProgram text t.source → IsTyping t → CodeInfersOnce t
infers_once laws text t is typing rule none =
    one_inferred (compiled t) (λ small.
    laws.one_run (system_of (compiled t)) (laws.size (compiled t) (laws.well_formed t typing rule) (laws.within t typing (laws.whole (lexemes text is.tokens) t.source is.program) none) small.unknowns small.rows))

abbrev IsSourceWith : List ℕ → Compiled → Type 0
IsSourceWith text a = OfProgram text (λ p. IsTyped p a)

compiled_parts : (text : List ℕ) (a : Compiled) → IsCompiled text a
    → IsAnswer ParseFault (λ f. Refused (cause.Parse f)) (grammar.HasCause text) (IsSourceWith text) a
compiled_parts text (Refused (cause.Parse fault)) h = inl (fault, refl, h)
compiled_parts text a h = inr h

pub one_compiled : Laws → (text : List ℕ) (a b : Compiled) → IsCompiled text a → IsCompiled text b → a ≡ b
one_compiled laws text a b h k =
    one_of ParseFault (λ f. Refused (cause.Parse f)) (grammar.HasCause text) (IsSourceWith text)
    (λ f g x y. one_reading_fault laws text f g (reading_fault text f x) (reading_fault text g y))
    (λ f c x y. no_program laws text f y.source (reading_fault text f x) y.program)
    (λ c d x y.
    let same : x.source ≡ y.source = one_program laws text x.source y.source x.program y.program in
    one_typed laws y.source (λ t e typing. infers_once laws text t (subst (HasProgram text) (sym e) y.program) typing) c d (subst (λ p. IsTyped p c) same x.says) y.says)
    a b (compiled_parts text a h) (compiled_parts text b k)

-- ---- licences

same_found : (c d : Cert) → inference.Found c ≡ inference.Found d → c ≡ d
same_found c d h = cc

same_licensed : (l m : Licensed) → l.code ≡ m.code → l.cert ≡ m.cert → l ≡ m
same_licensed l m code cert = λ i. record { code = code i; cert = cert i }

pub one_licence : Laws → (text : List ℕ) (t u : Typing) (l m : Licensed) → HasLicence text t l → HasLicence text u m → (t ≡ u) × (l ≡ m)
one_licence laws text t u l m h k =
    let same : t ≡ u = laws.typing t u (one_program laws text t.source u.source h.program k.program) h.typed h.settled k.typed k.settled in
    let code : l.code ≡ m.code = h.code ∙ ap compiled same ∙ sym k.code in
    let there : Infers (compiled u) (inference.Found l.cert) = subst (λ p. Infers p (inference.Found l.cert)) (code ∙ k.code) h.inferred in
    let here : Infers (compiled u) (inference.Found m.cert) = subst (λ p. Infers p (inference.Found m.cert)) k.code k.inferred in
    let cert : inference.Found l.cert ≡ inference.Found m.cert = infers_once laws text u k.program k.typed k.rule k.fits (inference.Found l.cert) (inference.Found m.cert) there here in
    (same, same_licensed l m code (same_found l.cert m.cert cert))

-- what has a licence is not refused
pub not_refused : Laws → (text : List ℕ) (t : Typing) (l : Licensed) (cause : Cause) → HasLicence text t l → IsCompiled text (Refused cause) → ⊥
not_refused laws text t l cause h refused =
    let e : Fault cause ≡ Memory = refused_accepts text (Fault cause) (λ answer is. one_compiled laws text (Refused cause) answer refused is) t l h in
    cc
