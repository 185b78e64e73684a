-- What is due for a bundle that is migrated.
use Rattle.std.proofs.Common.{◌≡◌, ℕ, ◌≤◌, List, length, sym, subst, ap, arith, ◌∙◌}
use Rattle.std.specs.Prelude.{take}
use Rattle.grail_code.specs.Spelling.{Second, spelling, Decoded, Spelled, Front, Broken, Means, IsSpelling}
use Rattle.grail_code.specs.RangeLaws.{fits_second}
use Rattle.licence.specs.Licensed.{Licensed}
use Rattle.grail_verifier.specs.Accepted.{IsAccepted}
use Rattle.grail_code.specs.Decoding.{IsMigration, IsFault as IsDecodeFault}
use Rattle.grail_code.specs.Code.{Code}
use Rattle.grail_code.specs.declared.fault.DecodeFault.{DecodeFault}
use Rattle.grail_code.specs.declared.fault.DecodeFault.TheVariants as code_fault
use Rattle.grail_bundle.specs.Bundles.{Bundle, IsBundle, HasParts, first_line, bundle_text}
use Rattle.grail_bundle.specs.Faults.{IsFault}
use Rattle.hex.specs.Hex.{IsBytes}
use Rattle.cause_texts.specs.declared.cause.Cause.{Cause}
use Rattle.cause_texts.specs.declared.cause.Cause.TheVariants as cause
use Rattle.grail_verifier.specs.declared.refusal.Refusal.TheVariants as refusal
use Rattle.camelot_host.specs.Due.{IsMigrationOf, HasWrongCode, IsUnmigratedFor, IsUnmigrated, refused_line}
use Rattle.camelot_host.specs.Migrating.{IsMigratedAs}

-- ---- the function that migrates

-- a bundle has parts once its code is migrated
some_code : (p : Code) → 1 ≤ length (spelling Second p)
some_code p = omega arith

pub has_parts : (b : Bundle) (code cert migrated : List ℕ) → HasParts b → code ≡ b.code → cert ≡ b.cert → IsMigration code migrated
    → HasParts (record { code = migrated; cert = cert })
has_parts b code cert migrated parts is also m = record {
  code = subst (λ xs. 1 ≤ length xs) (sym m.is) (some_code m.program);
  cert = ap (take (length first_line)) also ∙ parts.cert;
}

pub is_migrated : (input : List ℕ) (b : Bundle) (code cert migrated : List ℕ) → HasParts b → IsBytes b.code → input ≡ bundle_text b.code b.cert
    → code ≡ b.code → cert ≡ b.cert → IsMigration code migrated
    → IsMigratedAs input (record { code = migrated; cert = cert })
is_migrated input b code cert migrated parts bytes is e f m = record {
  bundle = b;
  of = record { right = record { parts = parts; bytes = bytes }; is = is };
  code = subst (λ xs. IsMigration xs migrated) e m;
  cert = f;
}

pub wrong_code : (input : List ℕ) (b : Bundle) (code : List ℕ) (fault : DecodeFault) → HasParts b → IsBytes b.code → input ≡ bundle_text b.code b.cert
    → code ≡ b.code → IsDecodeFault code fault → HasWrongCode input fault
wrong_code input b code fault parts bytes is e wrong = record {
  bundle = b;
  of = record { right = record { parts = parts; bytes = bytes }; is = is };
  wrong = subst (λ xs. IsDecodeFault xs fault) e wrong;
}

-- ---- what is due

pub is_migration : (input output : List ℕ) (b : Bundle) → IsMigratedAs input b → output ≡ bundle_text b.code b.cert → IsMigrationOf input output
is_migration input output b h is = record {
  bundle = h.bundle;
  of = h.of;
  code = b.code;
  migrated = h.code;
  is = is ∙ ap (bundle_text b.code) h.cert;
}

pub is_unmigrated : (input output : List ℕ) (cause : Cause) → IsUnmigratedFor input cause → output ≡ refused_line cause → IsUnmigrated input output
is_unmigrated input output cause refused is = record { cause = cause; refused = refused; is = is }

-- ---- what the verifier accepts

-- each list of bytes is one of the three alone
abbrev OneMeaning : Type 0
OneMeaning = (bytes : List ℕ) (first second : Decoded) → Means bytes first → Means bytes second → first ≡ second

-- a text that spells this code is accepted as another one is that spells it
accepted_as : (bytes other cert : List ℕ) (l : Licensed) → IsSpelling l.code other → IsAccepted bytes cert l → IsAccepted other cert l
accepted_as bytes other cert l spelled h = record { spelled = spelled; well = h.well; formed = h.formed; text = h.text; granted = h.granted }

same_code : OneMeaning → (bytes : List ℕ) (p q : Code) → Means bytes (Spelled p) → Means bytes (Spelled q) → p ≡ q
same_code one bytes p q h k = let e : Spelled p ≡ Spelled q = one bytes (Spelled p) (Spelled q) h k in cc

-- the code's spelling in the second format
in_second : (p : Code) (bytes migrated : List ℕ) → IsSpelling p bytes → migrated ≡ spelling Second p → IsSpelling p migrated
in_second p bytes migrated h is = record { format = Second; fits = fits_second h.format p h.fits; is = is }

pub accepted_behind : OneMeaning → (bytes migrated cert : List ℕ) (l : Licensed) → IsMigration bytes migrated → IsAccepted bytes cert l → IsAccepted migrated cert l
accepted_behind one bytes migrated cert l m h =
    let same : m.program ≡ l.code = same_code one bytes m.program l.code m.means h.spelled in
    accepted_as bytes migrated cert l (in_second l.code bytes migrated h.spelled (m.is ∙ ap (spelling Second) same)) h

pub accepted_before : OneMeaning → (bytes migrated cert : List ℕ) (l : Licensed) → IsMigration bytes migrated → IsAccepted migrated cert l → IsAccepted bytes cert l
accepted_before one bytes migrated cert l m h =
    let same : m.program ≡ l.code = same_code one migrated m.program l.code (in_second m.program bytes migrated m.means m.is) h.spelled in
    accepted_as migrated bytes cert l (subst (λ p. IsSpelling p bytes) same m.means) h

-- ---- what is migrated isn't refused

-- the bytes of one bundle's code aren't both a spelling and none
apart_code : ((bytes : List ℕ) (first second : Decoded) → Means bytes first → Means bytes second → first ≡ second)
    → (bytes : List ℕ) (p : Code) (fault : DecodeFault) → Means bytes (Spelled p) → IsDecodeFault bytes fault → ⊥
apart_code one bytes p code_fault.Short is h = let e : Spelled p ≡ Front = one bytes (Spelled p) Front is h in absurd cc
apart_code one bytes p (code_fault.Bad n) is h = let e : Spelled p ≡ Broken n = one bytes (Spelled p) (Broken n) is h in absurd cc

pub migrated_or_refused : ((b c : Bundle) → IsBundle b → IsBundle c → bundle_text b.code b.cert ≡ bundle_text c.code c.cert → b ≡ c)
    → ((text : List ℕ) (n : ℕ) (b : Bundle) → IsFault text n → IsBundle b → text ≡ bundle_text b.code b.cert → ⊥)
    → ((bytes : List ℕ) (first second : Decoded) → Means bytes first → Means bytes second → first ≡ second)
    → (input output : List ℕ) → IsMigrationOf input output → (c : Cause) → IsUnmigratedFor input c → ⊥
migrated_or_refused bundles lines codes input output done (cause.Bundle line) h = lines input line done.bundle h done.of.right done.of.is
migrated_or_refused bundles lines codes input output done (cause.Verify (refusal.Code fault)) h =
    let same : done.bundle ≡ h.bundle = bundles done.bundle h.bundle done.of.right h.of.right (sym done.of.is ∙ h.of.is) in
    apart_code codes h.bundle.code done.migrated.program fault (subst (λ (b : Bundle). Means b.code (Spelled done.migrated.program)) same done.migrated.means) h.wrong
migrated_or_refused bundles lines codes input output done (cause.Verify (refusal.Kinds fault)) h = h
migrated_or_refused bundles lines codes input output done (cause.Verify (refusal.Cert fault)) h = h
migrated_or_refused bundles lines codes input output done (cause.Verify (refusal.Shape f b)) h = h
migrated_or_refused bundles lines codes input output done (cause.Verify (refusal.Need f b p x n)) h = h
migrated_or_refused bundles lines codes input output done (cause.Verify (refusal.Weak f b p c x n)) h = h
migrated_or_refused bundles lines codes input output done (cause.Parse x) h = h
migrated_or_refused bundles lines codes input output done (cause.Types x) h = h
migrated_or_refused bundles lines codes input output done (cause.Uses x) h = h
migrated_or_refused bundles lines codes input output done (cause.Normal x) h = h
migrated_or_refused bundles lines codes input output done (cause.NoCert x) h = h
