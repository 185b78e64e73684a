-- The licence of a bundle, or the cause for which its text has none.
use Rattle.std.proofs.Common.{◌≡◌, ℕ, zero, suc, ◌+◌, ◌*◌, ◌<◌, ◌≤◌, List, [], ◌∷◌, length, Result, Ok, Err, refl, sym, ap, subst, arith, length-append}
use Rattle.std.specs.Prelude.{MatchResult}
use Rattle.hex.specs.Hex.{encode_lower, lower_digits}
use Rattle.hex.proofs.HexLemmas.{length-encode_with}
use Rattle.stops.specs.declared.stop.Stop.{Stop}
use Rattle.stops.specs.declared.stop.Stop.TheVariants.{Fault, Memory}
use Rattle.stops.specs.Stopping.{IsFault}
use Rattle.licence.specs.Licensed.{Licensed}
use Rattle.grail_bundle.specs.Bundles.{Bundle, IsBundle, wrapped, digit_lines, bundle_text}
use Rattle.grail_bundle.specs.Faults as wrong
use Rattle.grail_bundle.specs.Answers as bundles
use Rattle.grail_bundle.specs.declared.fault.BundleFault.{BundleFault}
use Rattle.grail_verifier.specs.AcceptedLaws.{accepted_of, verdict_of}
use Rattle.grail_verifier.specs.Verdicts.{IsVerdict, VerdictIs, IsThisVerdict}
use Rattle.grail_verifier.specs.declared.refusal.Refusal.{Refusal}
use Rattle.cause_texts.specs.declared.cause.Cause.{Cause}
use Rattle.cause_texts.specs.declared.cause.Cause.TheVariants as cause
use Rattle.bundle_licence.specs.Bundled.{IsTextOf, HasLicence, IsRefusedBy, IsRefusedFor, IsLicensedOr}
use Rattle.bundle_licence.specs.Refusing.{for_cause}

-- ---- a bundle is no longer than its text

wrapped_more : (room : ℕ) (bytes : List ℕ) → length bytes ≤ length (wrapped room bytes)
wrapped_more room [] = omega arith
wrapped_more zero (b ∷ bytes) = omega (arith, wrapped_more 63 bytes)
wrapped_more (suc room) (b ∷ bytes) = omega (arith, wrapped_more room bytes)

pub both_shorter : (code cert : List ℕ) → length code + length cert ≤ length (bundle_text code cert)
unfolding bundle_text digit_lines
both_shorter code cert =
    let digits : length (encode_lower code) ≡ 2 * length code = length-encode_with lower_digits code in
    omega (arith, digits, wrapped_more 64 (encode_lower code), length-append (digit_lines (encode_lower code)) cert)

pub code_short : (text code cert : List ℕ) → text ≡ bundle_text code cert → length text < 4294967296 → length code < 4294967296
code_short text code cert is few = omega (arith, both_shorter code cert, ap length is, few)

pub cert_short : (text code cert : List ℕ) → text ≡ bundle_text code cert → length text < 4294967296 → length cert < 4294967296
cert_short text code cert is few = omega (arith, both_shorter code cert, ap length is, few)

-- ---- what is answered is so

pub found_yes : (text : List ℕ) (b : Bundle) (l : Licensed) → IsBundle b → text ≡ bundle_text b.code b.cert
    → VerdictIs (IsVerdict b.code b.cert) (Ok l) → HasLicence text l
found_yes text b l right is verdict = record { bundle = b; of = record { right = right; is = is }; accepted = accepted_of b.code b.cert l verdict }

refused_by : (text : List ℕ) (b : Bundle) (r : Refusal) → IsBundle b → text ≡ bundle_text b.code b.cert → IsVerdict b.code b.cert (Err r) → IsRefusedBy text r
refused_by text b r right is verdict = record { bundle = b; of = record { right = right; is = is }; verdict = verdict }

pub found_no : (text : List ℕ) (b : Bundle) (stop : Stop Refusal) → IsBundle b → text ≡ bundle_text b.code b.cert
    → VerdictIs (IsVerdict b.code b.cert) (Err stop) → IsLicensedOr text (Err (for_cause stop))
found_no text b (Fault r) right is verdict = refused_by text b r right is verdict
found_no text b Memory right is verdict = tt

-- ---- what is so is answered

-- a text is read as its bundle
abbrev pub ReadsAs : List ℕ → Result Bundle (Stop BundleFault) → Type 0
ReadsAs text r = (b : Bundle) → IsBundle b → text ≡ bundle_text b.code b.cert → MatchResult r (λ found. found ≡ b) (λ e. bundles.IsMemory e)

-- what is so of the bytes is the verifier's answer
abbrev pub Verifies : Bundle → Result Licensed (Stop Refusal) → Type 0
Verifies b r = (v : Result Licensed Refusal) → IsVerdict b.code b.cert v → IsThisVerdict v r

abbrev Same : (v w : Result Licensed Refusal) → Type 0
Same v w = v ≡ w

-- the verdict on the text's bundle is one on the bundle that was read
same_verdict : (text : List ℕ) (b c : Bundle) (v : Result Licensed Refusal) → ReadsAs text (Ok b) → IsTextOf text c → IsVerdict c.code c.cert v
    → IsVerdict b.code b.cert v
same_verdict text b c v reads of h = subst (λ (x : Bundle). IsVerdict x.code x.cert v) (sym (reads c of.right of.is)) h

verdict_yes : (text : List ℕ) (b : Bundle) (l : Licensed) → ReadsAs text (Ok b) → HasLicence text l → IsVerdict b.code b.cert (Ok l)
verdict_yes text b l reads has = same_verdict text b has.bundle (Ok l) reads has.of (verdict_of has.bundle.code has.bundle.cert l has.accepted)

pub yes_yes : (text : List ℕ) (b : Bundle) (m l : Licensed) → ReadsAs text (Ok b) → Verifies b (Ok m) → HasLicence text l → m ≡ l
yes_yes text b m l reads exact has = let e : Ok m ≡ Ok l = exact (Ok l) (verdict_yes text b l reads has) in cc

pub yes_no : (text : List ℕ) (b : Bundle) (stop : Stop Refusal) (l : Licensed) → ReadsAs text (Ok b) → Verifies b (Err stop) → HasLicence text l
    → for_cause stop ≡ Memory
yes_no text b (Fault r) l reads exact has = let e : Same (Err r) (Ok l) = exact (Ok l) (verdict_yes text b l reads has) in absurd cc
yes_no text b Memory l reads exact has = refl

-- a text with a wrong line is told so
abbrev pub Tells : List ℕ → Result Bundle (Stop BundleFault) → Type 0
Tells text r = (line : ℕ) → wrong.IsFault text line → MatchResult r (λ found. ⊥) (λ e. bundles.IsAt line e)

pub no_yes : (text : List ℕ) (b : Bundle) (m : Licensed) (c : Cause) → ReadsAs text (Ok b) → Tells text (Ok b) → Verifies b (Ok m) → IsRefusedFor text c → ⊥
no_yes text b m (cause.Bundle line) reads tells exact h = tells line h
no_yes text b m (cause.Verify r) reads tells exact h = let e : Ok m ≡ Err r = exact (Err r) (same_verdict text b h.bundle (Err r) reads h.of h.verdict) in cc
no_yes text b m (cause.Parse x) reads tells exact h = h
no_yes text b m (cause.Types x) reads tells exact h = h
no_yes text b m (cause.Uses x) reads tells exact h = h
no_yes text b m (cause.Normal x) reads tells exact h = h
no_yes text b m (cause.NoCert x) reads tells exact h = h

same_refusal : (stop : Stop Refusal) (r : Refusal) → IsThisVerdict (Err r) (Err stop) → IsFault (cause.Verify r) (for_cause stop)
same_refusal (Fault x) r e = let same : x ≡ r = cc in ap cause.Verify same
same_refusal Memory r e = tt

pub no_no : (text : List ℕ) (b : Bundle) (stop : Stop Refusal) (c : Cause) → ReadsAs text (Ok b) → Tells text (Ok b) → Verifies b (Err stop)
    → IsRefusedFor text c → IsFault c (for_cause stop)
no_no text b stop (cause.Bundle line) reads tells exact h = absurd (tells line h)
no_no text b stop (cause.Verify r) reads tells exact h = same_refusal stop r (exact (Err r) (same_verdict text b h.bundle (Err r) reads h.of h.verdict))
no_no text b stop (cause.Parse y) reads tells exact h = absurd h
no_no text b stop (cause.Types y) reads tells exact h = absurd h
no_no text b stop (cause.Uses y) reads tells exact h = absurd h
no_no text b stop (cause.Normal y) reads tells exact h = absurd h
no_no text b stop (cause.NoCert y) reads tells exact h = absurd h
