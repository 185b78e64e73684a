-- The verifier has one verdict on bytes, by the laws of its stages: what bytes spell, the walk over code, the texts of
-- certificates.
use Rattle.std.proofs.Common.{◌≡◌, ◌⊎◌, ℕ, List, [], ◌∷◌, ◌++◌, Option, Some, None, Result, Ok, Err, refl, sym, ap, ◌∙◌, subst, arith, inl, inr}
use Rattle.std.specs.Prelude.{ℤ, pos}
use Rattle.std.proofs.lemmas.Int.{ints}
use Rattle.grail_code.specs.Code.{Code}
use Rattle.grail_code.specs.Spelling.{IsSpelling, Decoded, Spelled, Front, Broken, Means}
use Rattle.grail_code.specs.Decoding.{IsFault as IsCodeFault}
use Rattle.grail_code.specs.WellFormed.{IsWellFormed}
use Rattle.grail_code.specs.declared.fault.DecodeFault.{DecodeFault}
use Rattle.grail_code.specs.declared.fault.DecodeFault.TheVariants as code_fault
use Rattle.grail_check.specs.Walk.{FirstFault, walk}
use Rattle.grail_check.specs.declared.fault.CodeFault.{CodeFault}
use Rattle.certificate.specs.Certificates.{Cert, IsCert}
use Rattle.certificate.specs.Answers.{IsFault as IsCertFault}
use Rattle.certificate.specs.Text.{text_of, IsLineFault, IsNumberFault}
use Rattle.certificate.specs.declared.reading.CertFault.{CertFault}
use Rattle.certificate.specs.declared.reading.CertFault.TheVariants as cert_fault
use Rattle.certificate_fit.specs.ShapeLaws.{not_both, same_func, same_block}
use Rattle.licence.specs.Books.{book_of}
use Rattle.licence.specs.Checks.{Check, Holds, AllHold}
use Rattle.licence.specs.CheckLaws.{pays_by_checks}
use Rattle.licence.specs.Fitting.{IsMisfit, Grants}
use Rattle.licence.specs.Licensed.{Licensed}
use Rattle.grail_verifier.specs.declared.refusal.Refusal.{Refusal}
use Rattle.grail_verifier.specs.declared.refusal.Refusal.TheVariants as refusal
use Rattle.grail_verifier.specs.Verdicts.{in_numbers, IsShort, IsRefused, IsJudged, OfCert, IsRead, IsChecked, OfCode, IsVerdict}

-- the laws of the stages
pub record Stages : Type 0 where
  -- bytes have one meaning: the code that they spell, or why they spell none
  pub meaning : (bytes : List ℕ) (first second : Decoded) → Means bytes first → Means bytes second → first ≡ second
  -- code is well formed or has a fault, and has one
  pub well_or_fault : (p : Code) (fault : CodeFault) → IsWellFormed p → FirstFault (walk p) fault → ⊥
  pub fault : (p : Code) (first second : CodeFault) → FirstFault (walk p) first → FirstFault (walk p) second → first ≡ second
  -- a text is one certificate's, or has one wrong line, or one number above its limit
  pub cert : (c d : Cert) → IsCert c → IsCert d → text_of c ≡ text_of d → c ≡ d
  pub line : (text : List ℕ) (m n : ℕ) → IsLineFault text m → IsLineFault text n → m ≡ n
  pub number : (text : List ℕ) (m n : ℕ) → IsNumberFault text m → IsNumberFault text n → m ≡ n
  pub line_or_number : (text : List ℕ) (m n : ℕ) → IsLineFault text m → IsNumberFault text n → ⊥
  pub cert_or_line : (text : List ℕ) (n : ℕ) (c : Cert) → IsCert c → text_of c ≡ text → IsLineFault text n → ⊥
  pub cert_or_number : (text : List ℕ) (n : ℕ) (c : Cert) → IsCert c → text_of c ≡ text → IsNumberFault text n → ⊥

abbrev Verdict : Type 0
Verdict = Result Licensed Refusal

-- ---- a stage

-- a stage stops for a fault, or this is said of the verdict
abbrev Stops : (Fault : Type 0) → (Fault → Refusal) → (Fault → Type 0) → (Verdict → Type 0) → Verdict → Type 0
Stops Fault wrap Faulty Says v = ((fault : Fault) × (v ≡ Err (wrap fault)) × Faulty fault) ⊎ Says v

-- A stage has one verdict where it has one fault, none where it goes on, and one verdict there.
one_of : (Fault : Type 0) (wrap : Fault → Refusal) (Faulty : Fault → Type 0) (Says : Verdict → Type 0)
    → ((f g : Fault) → Faulty f → Faulty g → f ≡ g)
    → ((f : Fault) (v : Verdict) → Faulty f → Says v → ⊥)
    → ((v w : Verdict) → Says v → Says w → v ≡ w)
    → (v w : Verdict) → Stops Fault wrap Faulty Says v → Stops Fault wrap Faulty Says w → v ≡ w
one_of Fault wrap Faulty Says fault apart next v w (inl (f, is, h)) (inl (g, also, k)) = is ∙ ap (λ x. Err (wrap x)) (fault f g h k) ∙ sym also
one_of Fault wrap Faulty Says fault apart next v w (inl (f, is, h)) (inr k) = absurd (apart f w h k)
one_of Fault wrap Faulty Says fault apart next v w (inr h) (inl (g, is, k)) = absurd (apart g v k h)
one_of Fault wrap Faulty Says fault apart next v w (inr h) (inr k) = next v w h k

-- ---- of well-formed code and a certificate

-- the refusal of a check that fails
abbrev told : Option ℕ → (func block place have need : ℕ) → Refusal
told None func block place have need = refusal.Need func block place have need
told (Some con) func block place have need = refusal.Weak func block place con have need

abbrev told_of : Check ℕ → Refusal
told_of k = told k.con k.func k.block k.place k.have k.need

-- a certificate doesn't fit, or it fits and a check fails
abbrev Way : Code → Cert → Refusal → Type 0
Way p c r = ((func : ℕ) × (block : ℕ) × (r ≡ refusal.Shape func block) × IsMisfit p c func block) ⊎ ((k : Check ℕ) × (r ≡ told_of k) × IsShort p c k)

way : (p : Code) (c : Cert) (r : Refusal) → IsRefused p c r → Way p c r
way p c (refusal.Shape func block) h = inl (func, block, refl, h)
way p c (refusal.Need func block place have need) h = inr (record { func = func; block = block; place = place; con = None; have = have; need = need }, refl, h)
way p c (refusal.Weak func block place con have need) h = inr (record { func = func; block = block; place = place; con = Some con; have = have; need = need }, refl, h)
way p c (refusal.Code x) h = absurd h
way p c (refusal.Kinds x) h = absurd h
way p c (refusal.Cert x) h = absurd h

-- a list has one first check that fails, and none where all hold
one_first : (before after others rest : List (Check ℤ)) (c d : Check ℤ) → before ++ c ∷ after ≡ others ++ d ∷ rest → AllHold before → (Holds c → ⊥)
    → AllHold others → (Holds d → ⊥) → c ≡ d
one_first [] after [] rest c d e g w h x = cc
one_first [] after (y ∷ others) rest c d e g w h x = let same : c ≡ y = cc in absurd (w (subst Holds (sym same) h.0))
one_first (y ∷ before) after [] rest c d e g w h x = let same : y ≡ d = cc in absurd (x (subst Holds same g.0))
one_first (y ∷ before) after (z ∷ others) rest c d e g w h x = one_first before after others rest c d (cc) g.1 w h.1 x

none_fails : (before after : List (Check ℤ)) (c : Check ℤ) → AllHold (before ++ c ∷ after) → (Holds c → ⊥) → ⊥
none_fails [] after c h w = w h.0
none_fails (y ∷ before) after c h w = none_fails before after c h.1 w

same_number : (m n : ℕ) → pos m ≡ pos n → m ≡ n
same_number m n e = omega (arith, ints, e)

told_same : (k l : Check ℕ) → in_numbers k ≡ in_numbers l → told_of k ≡ told_of l
told_same k l e =
    let func : k.func ≡ l.func = ap (λ c. c.func) e in
    let block : k.block ≡ l.block = ap (λ c. c.block) e in
    let place : k.place ≡ l.place = ap (λ c. c.place) e in
    let con : k.con ≡ l.con = ap (λ c. c.con) e in
    let have : k.have ≡ l.have = same_number k.have l.have (ap (λ c. c.have) e) in
    let need : k.need ≡ l.need = same_number k.need l.need (ap (λ c. c.need) e) in
    λ i. told (con i) (func i) (block i) (place i) (have i) (need i)

one_short : (p : Code) (c : Cert) (k l : Check ℕ) → IsShort p c k → IsShort p c l → told_of k ≡ told_of l
one_short p c k l h m = told_same k l (one_first h.first.before h.first.after m.first.before m.first.after (in_numbers k) (in_numbers l) (sym h.first.parts ∙ m.first.parts) h.first.good h.first.wrong m.first.good m.first.wrong)

one_misfit : (p : Code) (c : Cert) (f b g d : ℕ) → IsMisfit p c f b → IsMisfit p c g d → refusal.Shape f b ≡ refusal.Shape g d
one_misfit p c f b g d h k =
    let func : f ≡ g = same_func p c f b g d h k in
    let block : b ≡ d = same_block p c f b g d h k in
    λ i. refusal.Shape (func i) (block i)

one_way : (p : Code) (c : Cert) (r q : Refusal) → Way p c r → Way p c q → r ≡ q
one_way p c r q (inl (f, b, is, h)) (inl (g, d, also, k)) = is ∙ one_misfit p c f b g d h k ∙ sym also
one_way p c r q (inl (f, b, is, h)) (inr (l, also, k)) = absurd (not_both p c f b k.fits h)
one_way p c r q (inr (m, is, h)) (inl (g, d, also, k)) = absurd (not_both p c g d h.fits k)
one_way p c r q (inr (m, is, h)) (inr (l, also, k)) = is ∙ one_short p c m l h k ∙ sym also

no_way : (p : Code) (c : Cert) (r : Refusal) → Grants p c → Way p c r → ⊥
no_way p c r granted (inl (f, b, is, h)) = not_both p c f b granted.fits h
no_way p c r granted (inr (k, is, h)) = none_fails h.first.before h.first.after (in_numbers k) (subst AllHold h.first.parts ((pays_by_checks p (book_of c)).0 granted.pays).2) h.first.wrong

one_judged : (p : Code) (c : Cert) (v w : Verdict) → IsJudged p c v → IsJudged p c w → v ≡ w
one_judged p c (Ok l) (Ok m) h k = ap Ok (h.0 ∙ sym k.0)
one_judged p c (Ok l) (Err q) h k = absurd (no_way p c q h.1 (way p c q k))
one_judged p c (Err r) (Ok m) h k = absurd (no_way p c r k.1 (way p c r h))
one_judged p c (Err r) (Err q) h k = ap Err (one_way p c r q (way p c r h) (way p c q k))

-- ---- of well-formed code and the bytes of a certificate

one_cert_fault : Stages → (bytes : List ℕ) (f g : CertFault) → IsCertFault bytes f → IsCertFault bytes g → f ≡ g
one_cert_fault S bytes (cert_fault.Line m) (cert_fault.Line n) h k = ap cert_fault.Line (S.line bytes m n h k)
one_cert_fault S bytes (cert_fault.Line m) (cert_fault.Number n) h k = absurd (S.line_or_number bytes m n h k)
one_cert_fault S bytes (cert_fault.Number m) (cert_fault.Line n) h k = absurd (S.line_or_number bytes n m k h)
one_cert_fault S bytes (cert_fault.Number m) (cert_fault.Number n) h k = ap cert_fault.Number (S.number bytes m n h k)

cert_or_fault : Stages → (bytes : List ℕ) (f : CertFault) (c : Cert) → IsCertFault bytes f → IsCert c → text_of c ≡ bytes → ⊥
cert_or_fault S bytes (cert_fault.Line n) c h right is = S.cert_or_line bytes n c right is h
cert_or_fault S bytes (cert_fault.Number n) c h right is = S.cert_or_number bytes n c right is h

read_parts : (p : Code) (bytes : List ℕ) (v : Verdict) → IsRead p bytes v
    → Stops CertFault refusal.Cert (IsCertFault bytes) (λ x. OfCert bytes (λ c. IsJudged p c x)) v
read_parts p bytes (Err (refusal.Cert f)) h = inl (f, refl, h)
read_parts p bytes v h = inr h

one_read : Stages → (p : Code) (bytes : List ℕ) (v w : Verdict) → IsRead p bytes v → IsRead p bytes w → v ≡ w
one_read S p bytes v w h k =
    one_of CertFault refusal.Cert (IsCertFault bytes) (λ x. OfCert bytes (λ c. IsJudged p c x))
    (one_cert_fault S bytes)
    (λ f x a b. cert_or_fault S bytes f b.cert a b.right b.text)
    (λ x y a b.
    let same : a.cert ≡ b.cert = S.cert a.cert b.cert a.right b.right (a.text ∙ sym b.text) in
    one_judged p b.cert x y (subst (λ c. IsJudged p c x) same a.says) b.says)
    v w (read_parts p bytes v h) (read_parts p bytes w k)

-- ---- of code and the bytes of a certificate

checked_parts : (p : Code) (cert : List ℕ) (v : Verdict) → IsChecked p cert v
    → Stops CodeFault refusal.Kinds (FirstFault (walk p)) (λ x. IsWellFormed p × IsRead p cert x) v
checked_parts p cert (Err (refusal.Kinds f)) h = inl (f, refl, h)
checked_parts p cert v h = inr h

one_checked : Stages → (p : Code) (cert : List ℕ) (v w : Verdict) → IsChecked p cert v → IsChecked p cert w → v ≡ w
one_checked S p cert v w h k =
    one_of CodeFault refusal.Kinds (FirstFault (walk p)) (λ x. IsWellFormed p × IsRead p cert x)
    (S.fault p)
    (λ f x a b. S.well_or_fault p f b.0 a)
    (λ x y a b. one_read S p cert x y a.1 b.1)
    v w (checked_parts p cert v h) (checked_parts p cert w k)

-- ---- of bytes

-- what bytes are that have this fault
abbrev meaning_of : DecodeFault → Decoded
meaning_of code_fault.Short = Front
meaning_of (code_fault.Bad at) = Broken at

means : (bytes : List ℕ) (f : DecodeFault) → IsCodeFault bytes f → Means bytes (meaning_of f)
means bytes code_fault.Short h = h
means bytes (code_fault.Bad at) h = h

one_code_fault : Stages → (bytes : List ℕ) (f g : DecodeFault) → IsCodeFault bytes f → IsCodeFault bytes g → f ≡ g
one_code_fault S bytes code_fault.Short code_fault.Short h k = refl
one_code_fault S bytes code_fault.Short (code_fault.Bad n) h k = let e : Front ≡ Broken n = S.meaning bytes Front (Broken n) h k in absurd cc
one_code_fault S bytes (code_fault.Bad m) code_fault.Short h k = let e : Broken m ≡ Front = S.meaning bytes (Broken m) Front h k in absurd cc
one_code_fault S bytes (code_fault.Bad m) (code_fault.Bad n) h k = let e : Broken m ≡ Broken n = S.meaning bytes (Broken m) (Broken n) h k in let same : m ≡ n = cc in ap code_fault.Bad same

code_or_fault : Stages → (bytes : List ℕ) (f : DecodeFault) (p : Code) → IsCodeFault bytes f → IsSpelling p bytes → ⊥
code_or_fault S bytes code_fault.Short p h is = let e : Front ≡ Spelled p = S.meaning bytes Front (Spelled p) h is in cc
code_or_fault S bytes (code_fault.Bad n) p h is = let e : Broken n ≡ Spelled p = S.meaning bytes (Broken n) (Spelled p) h is in cc

one_code : Stages → (bytes : List ℕ) (p q : Code) → IsSpelling p bytes → IsSpelling q bytes → p ≡ q
one_code S bytes p q h k = let e : Spelled p ≡ Spelled q = S.meaning bytes (Spelled p) (Spelled q) h k in cc

verdict_parts : (code cert : List ℕ) (v : Verdict) → IsVerdict code cert v
    → Stops DecodeFault refusal.Code (IsCodeFault code) (λ x. OfCode code (λ p. IsChecked p cert x)) v
verdict_parts code cert (Err (refusal.Code f)) h = inl (f, refl, h)
verdict_parts code cert v h = inr h

pub one_verdict : Stages → (code cert : List ℕ) (v w : Verdict) → IsVerdict code cert v → IsVerdict code cert w → v ≡ w
one_verdict S code cert v w h k =
    one_of DecodeFault refusal.Code (IsCodeFault code) (λ x. OfCode code (λ p. IsChecked p cert x))
    (one_code_fault S code)
    (λ f x a b. code_or_fault S code f b.code a b.spelled)
    (λ x y a b.
    let same : a.code ≡ b.code = one_code S code a.code b.code a.spelled b.spelled in
    one_checked S b.code cert x y (subst (λ p. IsChecked p cert x) same a.says) b.says)
    v w (verdict_parts code cert v h) (verdict_parts code cert w k)
