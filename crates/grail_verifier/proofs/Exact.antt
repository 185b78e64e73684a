-- From bytes to verdicts: what the readers and the check of code answer, put together.
use Rattle.std.proofs.Common.{◌≡◌, ℕ, List, Result, Ok, Err, refl, sym, ap, subst}
use Rattle.stops.specs.declared.stop.Stop.{Stop}
use Rattle.stops.specs.declared.stop.Stop.TheVariants.{Fault}
use Rattle.grail_code.specs.Code.{Code, code_of}
use Rattle.grail_code.specs.declared.code.Code.{Code as DeclaredCode}
use Rattle.grail_code.specs.Decoding.{Says}
use Rattle.grail_code.specs.Spelling.{IsSpelling, Decoded, Spelled, Front, Broken, Means}
use Rattle.grail_code.specs.WellFormed.{IsWellFormed}
use Rattle.grail_code.specs.declared.fault.DecodeFault.{DecodeFault}
use Rattle.grail_code.specs.declared.fault.DecodeFault.TheVariants as code_fault
use Rattle.grail_check.specs.Walk.{FirstFault, walk}
use Rattle.grail_check.specs.declared.fault.CodeFault.{CodeFault}
use Rattle.certificate.specs.Certificates.{Cert, IsCert}
use Rattle.certificate.specs.Text.{text_of, IsLineFault, IsNumberFault}
use Rattle.certificate.specs.Answers.{IsMemory, IsLineAt, IsNumberAt}
use Rattle.certificate.specs.declared.reading.CertFault.{CertFault}
use Rattle.certificate.specs.declared.reading.CertFault.TheVariants as cert_fault
use Rattle.licence.specs.Licensed.{Licensed}
use Rattle.licence.specs.Fitting.{Grants}
use Rattle.grail_verifier.specs.declared.refusal.Refusal.{Refusal}
use Rattle.grail_verifier.specs.declared.refusal.Refusal.TheVariants as refusal
use Rattle.grail_verifier.specs.Verdicts.{OfCert, IsJudged, IsRead, OfCode, IsChecked, IsVerdict, IsThisVerdict}

-- ---- the text of a certificate

-- a text that was read has no fault, and is of one certificate
module _ (p : Code) (bytes : List ℕ) (c : Cert) (r : Result Licensed (Stop Refusal)) (read : (d : Cert) → IsCert d → text_of d ≡ bytes → c ≡ d)
    (line : (n : ℕ) → IsLineFault bytes n → ⊥) (number : (n : ℕ) → IsNumberFault bytes n → ⊥)
    (exact : (v : Result Licensed Refusal) → IsJudged p c v → IsThisVerdict v r) where
  of_cert : (v : Result Licensed Refusal) → OfCert bytes (λ d. IsJudged p d v) → IsThisVerdict v r
  of_cert v h = exact v (subst (λ d. IsJudged p d v) (sym (read h.cert h.right h.text)) h.says)

  pub cert_exact : (v : Result Licensed Refusal) → IsRead p bytes v → IsThisVerdict v r
  cert_exact (Ok l) h = of_cert (Ok l) h
  cert_exact (Err (refusal.Code x)) h = of_cert (Err (refusal.Code x)) h
  cert_exact (Err (refusal.Kinds x)) h = of_cert (Err (refusal.Kinds x)) h
  cert_exact (Err (refusal.Cert (cert_fault.Line n))) h = absurd (line n h)
  cert_exact (Err (refusal.Cert (cert_fault.Number n))) h = absurd (number n h)
  cert_exact (Err (refusal.Shape f b)) h = of_cert (Err (refusal.Shape f b)) h
  cert_exact (Err (refusal.Need f b l x n)) h = of_cert (Err (refusal.Need f b l x n)) h
  cert_exact (Err (refusal.Weak f b l o x n)) h = of_cert (Err (refusal.Weak f b l o x n)) h

-- one that wasn't has this fault alone
module _ (p : Code) (bytes : List ℕ) (fault : CertFault) (read : (d : Cert) → IsCert d → text_of d ≡ bytes → ⊥)
    (line : (n : ℕ) → IsLineFault bytes n → IsLineAt n (Fault fault)) (number : (n : ℕ) → IsNumberFault bytes n → IsNumberAt n (Fault fault)) where
  abbrev refused : Result Licensed (Stop Refusal)
  refused = Err (Fault (refusal.Cert fault))

  at_line : (n : ℕ) → IsLineAt n (Fault fault) → IsThisVerdict (Err (refusal.Cert (cert_fault.Line n))) refused
  at_line n m = by_fault fault m
    where
      by_fault : (fault : CertFault) → IsLineAt n (Fault fault) → IsThisVerdict (Err (refusal.Cert (cert_fault.Line n))) (Err (Fault (refusal.Cert fault)))
      by_fault (cert_fault.Line k) m = ap (λ i. Err (refusal.Cert (cert_fault.Line i))) m
      by_fault (cert_fault.Number k) m = absurd m

  at_number : (n : ℕ) → IsNumberAt n (Fault fault) → IsThisVerdict (Err (refusal.Cert (cert_fault.Number n))) refused
  at_number n m = by_fault fault m
    where
      by_fault : (fault : CertFault) → IsNumberAt n (Fault fault) → IsThisVerdict (Err (refusal.Cert (cert_fault.Number n))) (Err (Fault (refusal.Cert fault)))
      by_fault (cert_fault.Line k) m = absurd m
      by_fault (cert_fault.Number k) m = ap (λ i. Err (refusal.Cert (cert_fault.Number i))) m

  unread : (v : Result Licensed Refusal) → IsRead p bytes v → IsThisVerdict v refused
  unread (Ok l) h = absurd (read h.cert h.right h.text)
  unread (Err (refusal.Code x)) h = absurd h.says
  unread (Err (refusal.Kinds x)) h = absurd h.says
  unread (Err (refusal.Cert (cert_fault.Line n))) h = at_line n (line n h)
  unread (Err (refusal.Cert (cert_fault.Number n))) h = at_number n (number n h)
  unread (Err (refusal.Shape f b)) h = absurd (read h.cert h.right h.text)
  unread (Err (refusal.Need f b l x n)) h = absurd (read h.cert h.right h.text)
  unread (Err (refusal.Weak f b l o x n)) h = absurd (read h.cert h.right h.text)

pub cert_unread : (p : Code) (bytes : List ℕ) (s : Stop CertFault) (fault : CertFault) → s ≡ Fault fault
    → ((d : Cert) → IsCert d → text_of d ≡ bytes → IsMemory s)
    → ((n : ℕ) → IsLineFault bytes n → IsLineAt n s) → ((n : ℕ) → IsNumberFault bytes n → IsNumberAt n s)
    → (v : Result Licensed Refusal) → IsRead p bytes v → IsThisVerdict v (Err (Fault (refusal.Cert fault)))
cert_unread p bytes s fault is read line number v h =
    unread p bytes fault (λ d right text. subst IsMemory is (read d right text)) (λ n m. subst (IsLineAt n) is (line n m)) (λ n m. subst (IsNumberAt n) is (number n m)) v h

-- ---- code and the text of a certificate

module _ (p : Code) (cert : List ℕ) (r : Result Licensed (Stop Refusal)) (well : IsWellFormed p) (apart : (q : Code) (fault : CodeFault) → IsWellFormed q → FirstFault (walk q) fault → ⊥)
    (exact : (v : Result Licensed Refusal) → IsRead p cert v → IsThisVerdict v r) where
  pub checked_exact : (v : Result Licensed Refusal) → IsChecked p cert v → IsThisVerdict v r
  checked_exact (Ok l) h = exact (Ok l) h.1
  checked_exact (Err (refusal.Code x)) h = exact (Err (refusal.Code x)) h.1
  checked_exact (Err (refusal.Kinds x)) h = absurd (apart p x well h)
  checked_exact (Err (refusal.Cert x)) h = exact (Err (refusal.Cert x)) h.1
  checked_exact (Err (refusal.Shape f b)) h = exact (Err (refusal.Shape f b)) h.1
  checked_exact (Err (refusal.Need f b l x n)) h = exact (Err (refusal.Need f b l x n)) h.1
  checked_exact (Err (refusal.Weak f b l o x n)) h = exact (Err (refusal.Weak f b l o x n)) h.1

-- ---- the bytes of code

module _ (code cert : List ℕ) (q : DeclaredCode) (says : (o : Decoded) → Means code o → Says (Ok q) o) (r : Result Licensed (Stop Refusal)) (exact : (v : Result Licensed Refusal) → IsChecked (code_of q) cert v → IsThisVerdict v r) where
  of_code : (v : Result Licensed Refusal) → OfCode code (λ p. IsChecked p cert v) → IsThisVerdict v r
  of_code v h = exact v (subst (λ p. IsChecked p cert v) (sym (says (Spelled h.code) h.spelled)) h.says)

  pub code_exact : (v : Result Licensed Refusal) → IsVerdict code cert v → IsThisVerdict v r
  code_exact (Ok l) h = of_code (Ok l) h
  code_exact (Err (refusal.Code code_fault.Short)) h = absurd (says Front h)
  code_exact (Err (refusal.Code (code_fault.Bad n))) h = absurd (says (Broken n) h)
  code_exact (Err (refusal.Kinds x)) h = of_code (Err (refusal.Kinds x)) h
  code_exact (Err (refusal.Cert x)) h = of_code (Err (refusal.Cert x)) h
  code_exact (Err (refusal.Shape f b)) h = of_code (Err (refusal.Shape f b)) h
  code_exact (Err (refusal.Need f b l x n)) h = of_code (Err (refusal.Need f b l x n)) h
  code_exact (Err (refusal.Weak f b l o x n)) h = of_code (Err (refusal.Weak f b l o x n)) h

module _ (code cert : List ℕ) (fault : DecodeFault) (says : (o : Decoded) → Means code o → Says (Err (Fault fault)) o) where
  abbrev unspelling : Result Licensed (Stop Refusal)
  unspelling = Err (Fault (refusal.Code fault))

  unspelled : (v : Result Licensed Refusal) (p : Code) → Says (Err (Fault fault)) (Spelled p) → IsThisVerdict v unspelling
  unspelled v p m = by_fault fault m
    where
      by_fault : (fault : DecodeFault) → Says (Err (Fault fault)) (Spelled p) → IsThisVerdict v (Err (Fault (refusal.Code fault)))
      by_fault code_fault.Short m = absurd m
      by_fault (code_fault.Bad n) m = absurd m

  is_short : Says (Err (Fault fault)) Front → IsThisVerdict (Err (refusal.Code code_fault.Short)) unspelling
  is_short m = by_fault fault m
    where
      by_fault : (fault : DecodeFault) → Says (Err (Fault fault)) Front → IsThisVerdict (Err (refusal.Code code_fault.Short)) (Err (Fault (refusal.Code fault)))
      by_fault code_fault.Short m = refl
      by_fault (code_fault.Bad n) m = absurd m

  is_bad : (n : ℕ) → Says (Err (Fault fault)) (Broken n) → IsThisVerdict (Err (refusal.Code (code_fault.Bad n))) unspelling
  is_bad n m = by_fault fault m
    where
      by_fault : (fault : DecodeFault) → Says (Err (Fault fault)) (Broken n)
          → IsThisVerdict (Err (refusal.Code (code_fault.Bad n))) (Err (Fault (refusal.Code fault)))
      by_fault code_fault.Short m = absurd m
      by_fault (code_fault.Bad k) m = ap (λ i. Err (refusal.Code (code_fault.Bad i))) m

  undecoded : (v : Result Licensed Refusal) → IsVerdict code cert v → IsThisVerdict v unspelling
  undecoded (Ok l) h = unspelled (Ok l) h.code (says (Spelled h.code) h.spelled)
  undecoded (Err (refusal.Code code_fault.Short)) h = is_short (says Front h)
  undecoded (Err (refusal.Code (code_fault.Bad n))) h = is_bad n (says (Broken n) h)
  undecoded (Err (refusal.Kinds x)) h = unspelled (Err (refusal.Kinds x)) h.code (says (Spelled h.code) h.spelled)
  undecoded (Err (refusal.Cert x)) h = unspelled (Err (refusal.Cert x)) h.code (says (Spelled h.code) h.spelled)
  undecoded (Err (refusal.Shape f b)) h = unspelled (Err (refusal.Shape f b)) h.code (says (Spelled h.code) h.spelled)
  undecoded (Err (refusal.Need f b l x n)) h = unspelled (Err (refusal.Need f b l x n)) h.code (says (Spelled h.code) h.spelled)
  undecoded (Err (refusal.Weak f b l o x n)) h = unspelled (Err (refusal.Weak f b l o x n)) h.code (says (Spelled h.code) h.spelled)

pub code_undecoded : (code cert : List ℕ) (s : Stop DecodeFault) (fault : DecodeFault) → s ≡ Fault fault → ((o : Decoded) → Means code o → Says (Err s) o)
    → (v : Result Licensed Refusal) → IsVerdict code cert v → IsThisVerdict v (Err (Fault (refusal.Code fault)))
code_undecoded code cert s fault is says v h = undecoded code cert fault (λ o m. subst (λ x. Says (Err x) o) is (says o m)) v h

-- ---- the plain case

pub accepted : (code cert : List ℕ) (r : Result Licensed (Stop Refusal)) → ((v : Result Licensed Refusal) → IsVerdict code cert v → IsThisVerdict v r)
    → (p : Code) (c : Cert) → IsSpelling p code → IsWellFormed p → IsCert c → text_of c ≡ cert → Grants p c → IsThisVerdict (Ok (record { code = p; cert = c })) r
accepted code cert r exact p c spelled well right text grants =
    exact (Ok (record { code = p; cert = c })) (record { code = p; spelled = spelled; says = (well, record { cert = c; right = right; text = text; says = (refl, grants) }) })
