-- What bytes are, and that they are only one thing.
use Rattle.std.proofs.Common.{◌≡◌, ℕ, suc, ◌+◌, ◌-◌, ◌<◌, List, [], ◌∷◌, ◌++◌, length, take, Result, Ok, Err, refl, sym, ap, subst, ◌∙◌, append_assoc, append-nil, length-append, inl, inr, arith}
use Rattle.std.specs.Prelude.{◌⊎◌}
use Rattle.std.proofs.lemmas.List.{take_at, take_all}
use Rattle.std.proofs.Math.Seq.{take-append-add}
use Rattle.std.proofs.lemmas.Bool.{cases_lt}
use Rattle.grail_code.specs.declared.code.Code.{Code as DeclaredCode}
use Rattle.stops.specs.declared.stop.Stop.{Stop as WhyStop}
use Rattle.stops.specs.declared.stop.Stop.TheVariants as stop
use Rattle.grail_code.specs.declared.fault.DecodeFault.{DecodeFault}
use Rattle.grail_code.specs.declared.fault.DecodeFault.TheVariants as fault
use Rattle.grail_code.specs.Code.{Code}
use Rattle.grail_code.specs.Reader.{Read, Done, More, Stop}
use Rattle.grail_code.specs.CodeReader.{code_at, whole, Sees}
use Rattle.grail_code.specs.Decoding.{IsSo, Says, IsMigration}
use Rattle.grail_code.specs.RangeLaws.{fits_second, fits_first, first_old}
use Rattle.grail_code.specs.Spelling.{Format, First, Second, spelling, FitsCode, IsOld, Decoded, Spelled, Front, Broken, IsSpelling, BeginsCode, IsFront, IsLongestBegin, Means}
use Rattle.grail_code.proofs.SpellingParts.{Begins, Stops, Tells, one_way}
use Rattle.grail_code.proofs.SpellingCode.{FitsFormat, format_spelling, code_law}

-- ---- the laws of spellings

pub one_way_only : (f g : Format) (p q : Code) (xs ys : List ℕ)
    → FitsCode f p → FitsCode g q → spelling f p ++ xs ≡ spelling g q ++ ys → (f ≡ g) × (p ≡ q) × (xs ≡ ys)
one_way_only f g p q xs ys fp fq e =
    let one = one_way FitsFormat format_spelling code_at code_law (f, p) (g, q) xs ys fp fq e in
    (ap (λ (c : Format × Code). c.0) one.value, ap (λ (c : Format × Code). c.1) one.value, one.rest)

pub no_front : (f g : Format) (p q : Code) (b : ℕ) (rest : List ℕ) → FitsCode f p → FitsCode g q → spelling f p ++ (b ∷ rest) ≡ spelling g q → ⊥
no_front f g p q b rest fp fq e =
    let one = one_way_only f g p q (b ∷ rest) [] fp fq (e ∙ sym (append-nil (spelling g q))) in
    absurd (omega (arith, ap length one.2))

-- ---- what the bytes are

front_is : (bytes : List ℕ) → code_at bytes ≡ More → (f : Format) (p : Code) → FitsCode f p → (rest : List ℕ) → spelling f p ≡ bytes ++ rest → IsFront bytes
front_is bytes e f p fits [] is =
    let c : Format × Code = (f, p) in
    let again : code_at (spelling f p) ≡ Done c [] = ap code_at (sym (append-nil (spelling f p))) ∙ code_law.again c [] fits in
    let clash : Done c [] ≡ More = sym again ∙ ap code_at (is ∙ append-nil bytes) ∙ e in
    absurd cc
front_is bytes e f p fits (next ∷ rest) is = record { format = f; program = p; fits = fits; next = next; rest = rest; is = is }

further : (good after : List ℕ) (bad n : ℕ) → length good < n → take n (good ++ (bad ∷ after)) ≡ good ++ (bad ∷ take (n - suc (length good)) after)
further good after bad n lt =
    let e : n ≡ length good + suc (n - suc (length good)) = omega arith in
    let whole : take (length good + suc (n - suc (length good))) (good ++ (bad ∷ after)) ≡ good ++ (bad ∷ take (n - suc (length good)) after) = take-append-add good (bad ∷ after) (suc (n - suc (length good))) in
    ap (λ k. take k (good ++ (bad ∷ after))) e ∙ whole

-- the good bytes are the longest part from the left that begins code
longest_is : (bytes good after : List ℕ) (bad : ℕ) → bytes ≡ good ++ (bad ∷ after) → BeginsCode good
    → ((g : Format) (q : Code) (rest : List ℕ) → FitsCode g q → spelling g q ≡ good ++ (bad ∷ rest) → ⊥)
    → IsLongestBegin bytes (length bytes - suc (length after))
longest_is bytes good after bad parts begins never =
    let long : length bytes ≡ length good + suc (length after) = ap length parts ∙ length-append good (bad ∷ after) in
    let at : length bytes - suc (length after) ≡ length good = omega arith in
    let front : take (length good) bytes ≡ good = ap (take (length good)) parts ∙ take_at good (bad ∷ after) (length good) refl in
    let found : IsLongestBegin bytes (length good) = record {
      less = omega arith;
      begins = subst BeginsCode (sym front) begins;
      longest = λ n le k. elim (cases_lt (length good) n) [
        | inl lt ↦
            let taken : take n bytes ≡ good ++ (bad ∷ take (n - suc (length good)) after) = ap (take n) parts ∙ further good after bad n lt in
            absurd (never k.format k.program (take (n - suc (length good)) after ++ k.rest) k.fits (k.is ∙ ap (λ w. w ++ k.rest) taken ∙ append_assoc good (bad ∷ take (n - suc (length good)) after) k.rest))
        | inr ge ↦ ge
      ];
    } in
    subst (IsLongestBegin bytes) (sym at) found

begins_code : (bytes : List ℕ) → Begins FitsFormat format_spelling bytes → BeginsCode bytes
begins_code bytes h = record { format = h.value.0; program = h.value.1; fits = h.fits; rest = h.rest; is = h.is }

stops_there : (bytes : List ℕ) (left : ℕ) → Stops FitsFormat format_spelling bytes left → IsLongestBegin bytes (length bytes - left)
stops_there bytes left h =
    subst (λ k. IsLongestBegin bytes (length bytes - k)) (sym h.left_is)
    (longest_is bytes h.good h.after h.bad h.parts (begins_code h.good h.begins) (λ g q rest fits e. h.never (g, q) [] rest fits (append-nil (spelling g q) ∙ e)))

means_read : (bytes : List ℕ) (o : Read (Format × Code)) → code_at bytes ≡ o → Tells FitsFormat format_spelling bytes o → Means bytes (whole bytes o)
means_read bytes (Done (f, p) []) e h = record { format = f; fits = h.0; is = h.1 ∙ append-nil (spelling f p) }
means_read bytes (Done (f, p) (b ∷ rest)) e h =
    longest_is bytes (spelling f p) rest b h.1 (record { format = f; program = p; fits = h.0; rest = []; is = sym (append-nil (spelling f p)) })
    (λ g q x fits d. no_front f g p q b x h.0 fits (sym d))
means_read bytes More e h = front_is bytes e h.value.0 h.value.1 h.fits h.rest h.is
means_read bytes (Stop left) e h = stops_there bytes left h

-- each list of bytes means what was read
pub means_whole : (bytes : List ℕ) → Means bytes (whole bytes (code_at bytes))
means_whole bytes = means_read bytes (code_at bytes) refl (code_law.tells bytes)

-- ---- only one thing

spelled_once : (p q : Code) (bytes : List ℕ) → IsSpelling p bytes → IsSpelling q bytes → p ≡ q
spelled_once p q bytes hp hq =
    let one = one_way_only hp.format hq.format p q [] [] hp.fits hq.fits (append-nil (spelling hp.format p) ∙ sym hp.is ∙ hq.is ∙ sym (append-nil (spelling hq.format q))) in
    one.1

no_spelled_front : (p : Code) (bytes : List ℕ) → IsSpelling p bytes → IsFront bytes → ⊥
no_spelled_front p bytes hp h = no_front hp.format h.format p h.program h.next h.rest hp.fits h.fits (ap (λ w. w ++ (h.next ∷ h.rest)) (sym hp.is) ∙ sym h.is)

no_whole_begin : (bytes : List ℕ) (at : ℕ) → IsLongestBegin bytes at → BeginsCode bytes → ⊥
no_whole_begin bytes at h k =
    let all : take (length bytes) bytes ≡ bytes = take_all (length bytes) bytes (omega arith) in
    let le = h.longest (length bytes) (omega arith) (subst BeginsCode (sym all) k) in
    let less = h.less in
    absurd (omega arith)

spelled_begins : (p : Code) (bytes : List ℕ) → IsSpelling p bytes → BeginsCode bytes
spelled_begins p bytes h = record { format = h.format; program = p; fits = h.fits; rest = []; is = sym h.is ∙ sym (append-nil bytes) }

front_begins : (bytes : List ℕ) → IsFront bytes → BeginsCode bytes
front_begins bytes h = record { format = h.format; program = h.program; fits = h.fits; rest = h.next ∷ h.rest; is = h.is }

longest_once : (bytes : List ℕ) (m n : ℕ) → IsLongestBegin bytes m → IsLongestBegin bytes n → m ≡ n
longest_once bytes m n hm hn =
    let a = hm.less in
    let b = hn.less in
    let le = hn.longest m (omega arith) hm.begins in
    let ge = hm.longest n (omega arith) hn.begins in
    omega arith

pub means_one : (bytes : List ℕ) (o k : Decoded) → Means bytes o → Means bytes k → o ≡ k
means_one bytes (Spelled p) (Spelled q) h k = ap Spelled (spelled_once p q bytes h k)
means_one bytes (Spelled p) Front h k = absurd (no_spelled_front p bytes h k)
means_one bytes (Spelled p) (Broken at) h k = absurd (no_whole_begin bytes at k (spelled_begins p bytes h))
means_one bytes Front (Spelled q) h k = absurd (no_spelled_front q bytes k h)
means_one bytes Front Front h k = refl
means_one bytes Front (Broken at) h k = absurd (no_whole_begin bytes at k (front_begins bytes h))
means_one bytes (Broken at) (Spelled q) h k = absurd (no_whole_begin bytes at h (spelled_begins q bytes k))
means_one bytes (Broken at) Front h k = absurd (no_whole_begin bytes at h (front_begins bytes k))
means_one bytes (Broken m) (Broken n) h k = ap Broken (longest_once bytes m n h k)

-- ---- what decoding answers

is_so : (bytes : List ℕ) (r : Result DeclaredCode (WhyStop DecodeFault)) (o : Decoded) → Means bytes o → Sees r o → IsSo bytes r
is_so bytes (Ok code) o h e = subst (Means bytes) e h
is_so bytes (Err (stop.Fault fault.Short)) o h e = subst (Means bytes) e h
is_so bytes (Err (stop.Fault (fault.Bad at))) o h e = subst (Means bytes) e h
is_so bytes (Err stop.Memory) o h e = tt

says_same : (r : Result DeclaredCode (WhyStop DecodeFault)) (o : Decoded) → Sees r o → Says r o
says_same (Ok code) o e = subst (Says (Ok code)) (sym e) refl
says_same (Err (stop.Fault fault.Short)) o e = subst (Says (Err (stop.Fault fault.Short))) (sym e) tt
says_same (Err (stop.Fault (fault.Bad at))) o e = subst (Says (Err (stop.Fault (fault.Bad at)))) (sym e) refl
says_same (Err stop.Memory) o e = tt

-- the answer is so
pub found_so : (bytes : List ℕ) (r : Result DeclaredCode (WhyStop DecodeFault)) → Sees r (whole bytes (code_at bytes)) → IsSo bytes r
found_so bytes r e = is_so bytes r (whole bytes (code_at bytes)) (means_whole bytes) e

-- what the bytes mean is answered
pub means_said : (bytes : List ℕ) (r : Result DeclaredCode (WhyStop DecodeFault)) (o : Decoded) → Sees r (whole bytes (code_at bytes))
    → Means bytes o → Says r o
means_said bytes r o e h = subst (Says r) (means_one bytes (whole bytes (code_at bytes)) o (means_whole bytes) h) (says_same r (whole bytes (code_at bytes)) e)

pub means_some : (bytes : List ℕ) → (o : Decoded) × Means bytes o
means_some bytes = (whole bytes (code_at bytes), means_whole bytes)

-- ---- which spellings a code has

pub spelled_within : (p : Code) (bytes : List ℕ) → IsSpelling p bytes → FitsCode Second p
spelled_within p bytes h = fits_second h.format p h.fits

pub spelled_second : (p : Code) → FitsCode Second p → IsSpelling p (spelling Second p)
spelled_second p fits = record { format = Second; fits = fits; is = refl }

pub spelled_first : (p : Code) → FitsCode Second p → IsOld p → IsSpelling p (spelling First p)
spelled_first p fits undivided = record { format = First; fits = fits_first p fits undivided; is = refl }

by_format : (f : Format) (p : Code) (bytes : List ℕ) → FitsCode f p → bytes ≡ spelling f p
    → (bytes ≡ spelling Second p) ⊎ ((bytes ≡ spelling First p) × IsOld p)
by_format First p bytes fits is = inr (is, first_old p fits)
by_format Second p bytes fits is = inl is

pub spelled_only : (p : Code) (bytes : List ℕ) → IsSpelling p bytes → (bytes ≡ spelling Second p) ⊎ ((bytes ≡ spelling First p) × IsOld p)
spelled_only p bytes h = by_format h.format p bytes h.fits h.is

-- ---- migrating

-- what was migrated spells the code that was there
migrated_is : (p : Code) (bytes migrated : List ℕ) → IsSpelling p bytes → IsMigration bytes migrated → migrated ≡ spelling Second p
migrated_is p bytes migrated h m = m.is ∙ ap (spelling Second) (spelled_once m.program p bytes m.means h)

pub migration_keeps : (p : Code) (bytes migrated : List ℕ) → IsSpelling p bytes → IsMigration bytes migrated → IsSpelling p migrated
migration_keeps p bytes migrated h m = subst (IsSpelling p) (sym (migrated_is p bytes migrated h m)) (spelled_second p (spelled_within p bytes h))

pub migration_again : (bytes migrated further : List ℕ) → IsMigration bytes migrated → IsMigration migrated further → further ≡ migrated
migration_again bytes migrated further m n = migrated_is m.program migrated further (migration_keeps m.program bytes migrated m.means m) n ∙ sym m.is

pub migration_of_second : (p : Code) (migrated : List ℕ) → FitsCode Second p → IsMigration (spelling Second p) migrated → migrated ≡ spelling Second p
migration_of_second p migrated fits m = migrated_is p (spelling Second p) migrated (spelled_second p fits) m
