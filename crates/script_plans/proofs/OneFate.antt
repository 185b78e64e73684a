-- What comes of a program and of a job is determined: compiling has one answer, a bundle one licence or one cause, and
-- a text of values one reading.
use Rattle.std.proofs.Common.{◌≡◌, ℕ, List, [], ◌∷◌, Some, None, refl, sym, ap, ◌∙◌, subst}
use Rattle.std.specs.Prelude.{slice_get, Option}
use Rattle.camelot_values.specs.Value.{Value}
use Rattle.camelot_values.specs.Names.{place_among}
use Rattle.camelot_values.specs.Kinds.{DataType}
use Rattle.camelot_values.specs.declared.kinds.Kind.{Kind}
use Rattle.camelot_typing.specs.Kinds.{types_of}
use Rattle.camelot_typing.specs.Typed.{IsTyping, Typing}
use Rattle.linear_use.specs.Answers.{KeepsRule}
use Rattle.grail_code.specs.Code.{Code}
use Rattle.grail_code.specs.Spelling.{Second, FitsCode}
use Rattle.grail_code.specs.WellFormed.{IsWellFormed}
use Rattle.value_text.specs.Grammar.{AreNamed, DistinctNames, IsTextOf, IsRead, IsTooLong, IsBadShape}
use Rattle.code_gen.specs.Generated.{compiled}
use Rattle.licence.specs.Licensed.{Licensed}
use Rattle.cause_texts.specs.declared.cause.Cause.{Cause}
use Rattle.camelot_compiler.specs.Compiled.{Compiled, IsCompiled}
use Rattle.camelot_compiler.specs.Compiled as compiler
use Rattle.camelot_compiler.specs.Licences.{HasLicence}
use Rattle.bundle_licence.specs.Bundled as bundle
use Rattle.job_script.specs.Scripts.{Entry, AProgram, AJob}
use Rattle.run_reports.specs.declared.outcome.ProgramLine.{ProgramLine}
use Rattle.run_reports.specs.declared.outcome.ProgramLine.TheVariants as program
use Rattle.run_reports.specs.declared.outcome.JobCause.TheVariants as job_cause
use Rattle.script_plans.specs.Programs.{ProgramText, CamelotText, GrailText, Meaning, OfSource, OfCode, program_of, program_named, function_names, function_params, value_types, IsLicenceOf, IsRefusedFor}
use Rattle.script_plans.specs.Fates.{Call, Fate, Unfit, Calls, IsProgramLine, IsRefused, HasNoEntry, OfEntry, IsCall, IsFate}
use Rattle.script_plans.specs.Lines.{AreProgramLines, AreFates}
use Rattle.script_plans.proofs.Naming.{code_named}

-- the laws of texts of values
pub record OfTexts : Type 0 where
  pub reading : (types : List DataType) (kinds : List Kind) (text : List ℕ) (vs ws : List Value) → AreNamed types → DistinctNames types
      → IsTextOf types kinds text vs → IsTextOf types kinds text ws → vs ≡ ws
  pub long : (types : List DataType) (kinds : List Kind) (text : List ℕ) (m n : ℕ) → AreNamed types → DistinctNames types
      → IsTooLong types kinds text m → IsTooLong types kinds text n → m ≡ n
  pub bad : (types : List DataType) (kinds : List Kind) (text : List ℕ) (m n : ℕ) → IsBadShape types kinds text m → IsBadShape types kinds text n → m ≡ n
  pub never_both : (types : List DataType) (kinds : List Kind) (text : List ℕ) (vs : List Value) (n : ℕ) → AreNamed types → DistinctNames types
      → IsRead types kinds text vs → IsTooLong types kinds text n → ⊥

-- the laws of this program: it has one licence, with one meaning, or it is refused for one cause; its constructors have
-- upper names, all different
pub record OfProgram (p : ProgramText) : Type 0 where
  pub licence : (l k : Licensed) (m n : Meaning) → IsLicenceOf p l m → IsLicenceOf p k n → (l ≡ k) × (m ≡ n)
  pub apart : (l : Licensed) (m : Meaning) (cause : Cause) → IsLicenceOf p l m → IsRefusedFor p cause → ⊥
  pub one : (c d : Cause) → IsRefusedFor p c → IsRefusedFor p d → c ≡ d
  pub named : (l : Licensed) (m : Meaning) → IsLicenceOf p l m → AreNamed (value_types m)
  pub distinct : (l : Licensed) (m : Meaning) → IsLicenceOf p l m → DistinctNames (value_types m)

-- the laws of compiling
pub record OfSources : Type 0 where
  pub one : (text : List ℕ) (first second : Compiled) → IsCompiled text first → IsCompiled text second → first ≡ second
  pub licence : (text : List ℕ) (t u : Typing) (l m : Licensed) → HasLicence text t l → HasLicence text u m → (t ≡ u) × (l ≡ m)
  pub apart : (text : List ℕ) (t : Typing) (l : Licensed) (cause : Cause) → HasLicence text t l → IsCompiled text (compiler.Refused cause) → ⊥
  pub well_formed : (t : Typing) → IsTyping t → KeepsRule t → IsWellFormed (compiled t)

of_source : OfSources → (text : List ℕ) → OfProgram (CamelotText text)
of_source S text = record {
  licence = λ l k m n a b.
      let s = S.licence text a.is.typing b.is.typing l k a.is.has b.is.has in
      (s.1, a.means ∙ ap OfSource s.0 ∙ sym b.means);
  apart = λ l m cause a r. S.apart text a.is.typing l cause a.is.has r;
  one = λ c d a b.
      let e : compiler.Refused c ≡ compiler.Refused d = S.one text (compiler.Refused c) (compiler.Refused d) a b in
      let s : c ≡ d = cc in s;
  named = λ l m a. subst (λ (m : Meaning). AreNamed (value_types m)) (sym a.means) (names_of a.is.typing l a.is.has.code a.is.has.spelled);
  distinct = λ l m a. subst (λ (m : Meaning). DistinctNames (value_types m)) (sym a.means) (S.well_formed a.is.typing a.is.has.typed a.is.has.rule).con_names;
}
  where
    names_of : (t : Typing) (l : Licensed) → l.code ≡ compiled t → FitsCode Second l.code → AreNamed (types_of t.source)
    names_of t l e fits = subst AreNamed (ap (λ (p : Code). p.types) e) (code_named l.code fits)

-- the laws of licences of bundles
pub record OfBundles : Type 0 where
  pub one : (text : List ℕ) (l m : Licensed) → bundle.HasLicence text l → bundle.HasLicence text m → l ≡ m
  pub cause : (text : List ℕ) (c d : Cause) → bundle.IsRefusedFor text c → bundle.IsRefusedFor text d → c ≡ d
  pub apart : (text : List ℕ) (l : Licensed) (c : Cause) → bundle.HasLicence text l → bundle.IsRefusedFor text c → ⊥

of_bundle : OfBundles → (text : List ℕ) → OfProgram (GrailText text)
of_bundle B text = record {
  licence = λ l k m n a b.
      let s = B.one text l k a.has b.has in
      (s, a.means ∙ ap (λ (l : Licensed). OfCode l.code) s ∙ sym b.means);
  apart = λ l m cause a r. B.apart text l cause a.has r;
  one = B.cause text;
  named = λ l m a. subst (λ (m : Meaning). AreNamed (value_types m)) (sym a.means) (code_named l.code a.has.accepted.spelled.fits);
  distinct = λ l m a. subst (λ (m : Meaning). DistinctNames (value_types m)) (sym a.means) a.has.accepted.well.con_names;
}

-- the laws of both languages
pub record Laws : Type 0 where
  pub texts : OfTexts
  pub sources : OfSources
  pub bundles : OfBundles

pub of_program : Laws → (p : ProgramText) → OfProgram p
of_program L (CamelotText text) = of_source L.sources text
of_program L (GrailText text) = of_bundle L.bundles text

-- ---- programs

pub one_line : (p : ProgramText) → OfProgram p → (first second : ProgramLine) → IsProgramLine p first → IsProgramLine p second → first ≡ second
one_line p P (program.Accepted m) (program.Accepted n) a b =
    let s = P.licence a.licence b.licence a.meaning b.meaning a.is b.is in
    ap program.Accepted (a.units ∙ ap (λ (l : Licensed). l.cert.unit) s.0 ∙ sym b.units)
one_line p P (program.Accepted m) (program.Refused d) a b = absurd (P.apart a.licence a.meaning d a.is b)
one_line p P (program.Refused c) (program.Accepted n) a b = absurd (P.apart b.licence b.meaning c b.is a)
one_line p P (program.Refused c) (program.Refused d) a b = ap program.Refused (P.one c d a b)

pub all_lines : Laws → (entries : List Entry) (first second : List ProgramLine) → AreProgramLines entries first → AreProgramLines entries second
    → first ≡ second
all_lines L [] [] [] a b = refl
all_lines L [] (x ∷ xs) second a b = absurd a
all_lines L [] [] (y ∷ ys) a b = absurd b
all_lines L (AProgram p ∷ entries) [] second a b = absurd a
all_lines L (AProgram p ∷ entries) (x ∷ xs) [] a b = absurd b
all_lines L (AProgram p ∷ entries) (x ∷ xs) (y ∷ ys) a b =
    ap (λ l. l ∷ xs) (one_line (program_of p) (of_program L (program_of p)) x y a.0 b.0) ∙ ap (λ l. y ∷ l) (all_lines L entries xs ys a.1 b.1)
all_lines L (AJob j ∷ entries) first second a b = all_lines L entries first second a b

-- ---- one entry

-- what is said of one entry is said together
both_said : (p : ProgramText) → OfProgram p → (name : List ℕ) (P Q : Meaning → Licensed → (entry : ℕ) → List Kind → Type 0) → OfEntry p name P
    → OfEntry p name Q → OfEntry p name (λ m l n ks. P m l n ks × Q m l n ks)
both_said p L name P Q a b = record {
  meaning = a.meaning;
  licence = a.licence;
  has = a.has;
  entry = a.entry;
  named = a.named;
  params = a.params;
  is = a.is;
  says = (a.says, moved);
}
  where
    same : (a.licence ≡ b.licence) × (a.meaning ≡ b.meaning)
    same = L.licence a.licence b.licence a.meaning b.meaning a.has b.has

    entries : Some a.entry ≡ Some b.entry
    entries = sym a.named ∙ ap (λ (m : Meaning). place_among (function_names m) name) same.1 ∙ b.named

    entry : a.entry ≡ b.entry
    entry = let e : Some a.entry ≡ Some b.entry = entries in cc

    all_params : Some a.params ≡ Some b.params
    all_params = sym a.is ∙ ap (λ (m : Meaning). slice_get (function_params m) a.entry) same.1 ∙ ap (slice_get (function_params b.meaning)) entry ∙ b.is

    params : a.params ≡ b.params
    params = let e : Some a.params ≡ Some b.params = all_params in cc

    moved : Q a.meaning a.licence a.entry a.params
    moved =
        subst (λ m. Q m a.licence a.entry a.params) (sym same.1)
        (subst (λ l. Q b.meaning l a.entry a.params) (sym same.0)
        (subst (λ n. Q b.meaning b.licence n a.params) (sym entry)
        (subst (λ ks. Q b.meaning b.licence b.entry ks) (sym params) b.says)))

-- ---- jobs

-- what is said of a fate by its entry and its arguments
data IsSaid (args : List ℕ) (fate : Fate) (m : Meaning) (l : Licensed) (entry : ℕ) (params : List Kind) : Type 0 where
  Bad : (at : ℕ) → fate ≡ Unfit (job_cause.Argument at) → IsBadShape (value_types m) params args at → IsSaid args fate m l entry params
  Long : (items : ℕ) → fate ≡ Unfit (job_cause.Long items) → IsTooLong (value_types m) params args items → IsSaid args fate m l entry params
  Read : (c : Call) → fate ≡ Calls c → IsCall args c m l entry params → IsSaid args fate m l entry params

-- the ways in which a program leads to a fate
data Way (p : ProgramText) (name args : List ℕ) (fate : Fate) : Type 0 where
  NoLicence : fate ≡ Unfit job_cause.ProgramRefused → IsRefused p → Way p name args fate
  NoEntry : fate ≡ Unfit job_cause.NoEntry → HasNoEntry p name → Way p name args fate
  Here : OfEntry p name (IsSaid args fate) → Way p name args fate

-- the same is said of one entry in other words
said : (p : ProgramText) (name : List ℕ) (P Q : Meaning → Licensed → (entry : ℕ) → List Kind → Type 0)
    → ((m : Meaning) (l : Licensed) (n : ℕ) (ks : List Kind) → P m l n ks → Q m l n ks) → OfEntry p name P → OfEntry p name Q
said p name P Q f a =
    record { meaning = a.meaning; licence = a.licence; has = a.has; entry = a.entry; named = a.named; params = a.params; is = a.is; says = f a.meaning a.licence a.entry a.params a.says }

way_of : (p : ProgramText) (name args : List ℕ) (fate : Fate) → IsFate (Some p) name args fate → Way p name args fate
way_of p name args (Unfit job_cause.NoProgram) h = absurd h
way_of p name args (Unfit job_cause.ProgramRefused) h = NoLicence refl h
way_of p name args (Unfit job_cause.NoEntry) h = NoEntry refl h
way_of p name args (Unfit (job_cause.Argument at)) h =
    Here (said p name (λ m l n ks. IsBadShape (value_types m) ks args at) (IsSaid args (Unfit (job_cause.Argument at))) (λ m l n ks b. Bad at refl b) h)
way_of p name args (Unfit (job_cause.Long items)) h =
    Here (said p name (λ m l n ks. IsTooLong (value_types m) ks args items) (IsSaid args (Unfit (job_cause.Long items))) (λ m l n ks b. Long items refl b) h)
way_of p name args (Calls c) h = Here (said p name (IsCall args c) (IsSaid args (Calls c)) (λ m l n ks b. Read c refl b) h)

one_said : OfTexts → (args : List ℕ) (f g : Fate) (m : Meaning) (l : Licensed) (n : ℕ) (ks : List Kind) → AreNamed (value_types m)
    → DistinctNames (value_types m) → IsSaid args f m l n ks → IsSaid args g m l n ks → f ≡ g
one_said T args f g m l n ks named distinct (Bad i e a) (Bad j d b) = e ∙ ap (λ x. Unfit (job_cause.Argument x)) (T.bad (value_types m) ks args i j a b) ∙ sym d
one_said T args f g m l n ks named distinct (Bad i e a) (Long j d b) = absurd (a.none b.values b.text_of)
one_said T args f g m l n ks named distinct (Bad i e a) (Read c d b) = absurd (a.none b.args b.read.text_of)
one_said T args f g m l n ks named distinct (Long i e a) (Bad j d b) = absurd (b.none a.values a.text_of)
one_said T args f g m l n ks named distinct (Long i e a) (Long j d b) = e ∙ ap (λ x. Unfit (job_cause.Long x)) (T.long (value_types m) ks args i j named distinct a b) ∙ sym d
one_said T args f g m l n ks named distinct (Long i e a) (Read c d b) = absurd (T.never_both (value_types m) ks args b.args i named distinct b.read a)
one_said T args f g m l n ks named distinct (Read c e a) (Bad j d b) = absurd (b.none a.args a.read.text_of)
one_said T args f g m l n ks named distinct (Read c e a) (Long j d b) = absurd (T.never_both (value_types m) ks args a.args j named distinct a.read b)
one_said T args f g m l n ks named distinct (Read c e a) (Read x d b) =
    let v = T.reading (value_types m) ks args a.args b.args named distinct a.read.text_of b.read.text_of in
    e ∙ ap Calls (a.is ∙ ap (λ (vs : List Value). call_of m l n vs) v ∙ sym b.is) ∙ sym d
  where
    call_of : Meaning → Licensed → ℕ → List Value → Call
    call_of m l n vs = record { meaning = m; licence = l; entry = n; args = vs }

one_way : OfTexts → (p : ProgramText) → OfProgram p → (name args : List ℕ) (f g : Fate) → Way p name args f → Way p name args g → f ≡ g
one_way T p L name args f g (NoLicence e a) (NoLicence d b) = e ∙ sym d
one_way T p L name args f g (NoLicence e a) (NoEntry d b) = absurd (L.apart b.licence b.meaning a.cause b.has a.is)
one_way T p L name args f g (NoLicence e a) (Here b) = absurd (L.apart b.licence b.meaning a.cause b.has a.is)
one_way T p L name args f g (NoEntry e a) (NoLicence d b) = absurd (L.apart a.licence a.meaning b.cause a.has b.is)
one_way T p L name args f g (NoEntry e a) (NoEntry d b) = e ∙ sym d
one_way T p L name args f g (NoEntry e a) (Here b) =
    let s = L.licence a.licence b.licence a.meaning b.meaning a.has b.has in
    let c : None ≡ Some b.entry = sym a.none ∙ ap (λ (m : Meaning). place_among (function_names m) name) s.1 ∙ b.named in absurd cc
one_way T p L name args f g (Here a) (NoLicence d b) = absurd (L.apart a.licence a.meaning b.cause a.has b.is)
one_way T p L name args f g (Here a) (NoEntry d b) =
    let s = L.licence b.licence a.licence b.meaning a.meaning b.has a.has in
    let c : None ≡ Some a.entry = sym b.none ∙ ap (λ (m : Meaning). place_among (function_names m) name) s.1 ∙ a.named in absurd cc
one_way T p L name args f g (Here a) (Here b) =
    let c = both_said p L name (IsSaid args f) (IsSaid args g) a b in
    one_said T args f g c.meaning c.licence c.entry c.params (L.named c.licence c.meaning c.has) (L.distinct c.licence c.meaning c.has) c.says.0 c.says.1

no_fate : (name args : List ℕ) (fate : Fate) → IsFate None name args fate → fate ≡ Unfit job_cause.NoProgram
no_fate name args (Unfit job_cause.NoProgram) h = refl
no_fate name args (Unfit job_cause.ProgramRefused) h = absurd h
no_fate name args (Unfit job_cause.NoEntry) h = absurd h
no_fate name args (Unfit (job_cause.Argument at)) h = absurd h
no_fate name args (Unfit (job_cause.Long items)) h = absurd h
no_fate name args (Calls c) h = absurd h

pub one_fate : Laws → (p : Option ProgramText) (name args : List ℕ) (f g : Fate) → IsFate p name args f → IsFate p name args g → f ≡ g
one_fate L None name args f g a b = no_fate name args f a ∙ sym (no_fate name args g b)
one_fate L (Some p) name args f g a b = one_way L.texts p (of_program L p) name args f g (way_of p name args f a) (way_of p name args g b)

pub all_fates : Laws → (script entries : List Entry) (first second : List Fate) → AreFates script entries first → AreFates script entries second
    → first ≡ second
all_fates L script [] [] [] a b = refl
all_fates L script [] (x ∷ xs) second a b = absurd a
all_fates L script [] [] (y ∷ ys) a b = absurd b
all_fates L script (AProgram p ∷ entries) first second a b = all_fates L script entries first second a b
all_fates L script (AJob j ∷ entries) [] second a b = absurd a
all_fates L script (AJob j ∷ entries) (x ∷ xs) [] a b = absurd b
all_fates L script (AJob j ∷ entries) (x ∷ xs) (y ∷ ys) a b =
    ap (λ f. f ∷ xs) (one_fate L (program_named script j.program) j.entry j.args x y a.0 b.0) ∙ ap (λ fs. y ∷ fs) (all_fates L script entries xs ys a.2 b.2)
