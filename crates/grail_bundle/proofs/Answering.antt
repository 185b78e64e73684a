-- The answers of the reader, from the law that a text has one bundle or one fault.
use Rattle.std.proofs.Common.{◌≡◌, ℕ, List, Result, Ok, Err, inl, inr, refl, sym, ap, ◌∙◌, subst}
use Rattle.grail_bundle.specs.Bundles.{Bundle, IsBundle, bundle_text}
use Rattle.grail_bundle.specs.Faults.{IsFault}
use Rattle.grail_bundle.specs.Lines.{IsRead}
use Rattle.grail_bundle.specs.Answers.{HasCause, IsMemory, IsAt, IsAnswer, IsThis}
use Rattle.grail_bundle.specs.declared.fault.BundleFault.{BundleFault}
use Rattle.stops.specs.declared.stop.Stop.{Stop}
use Rattle.stops.specs.declared.stop.Stop.TheVariants.{Fault, Memory}
use Rattle.grail_bundle.proofs.Judging.{bundles_one, faults_one, no_fault}

abbrev pub made : (code cert : List ℕ) → Bundle
made code cert = record { code = code; cert = cert }

found_right : (text code rest cert : List ℕ) (found : Bundle) → IsRead text code rest → cert ≡ rest → found ≡ made code cert
    → IsBundle found × (text ≡ bundle_text found.code found.cert)
found_right text code rest cert found r e f =
    let right : IsBundle (made code rest) = record { parts = r.parts; bytes = r.bytes } in
    let is : made code rest ≡ found = ap (made code) (sym e) ∙ sym f in
    (subst IsBundle is right, r.is ∙ ap (λ (b : Bundle). bundle_text b.code b.cert) is)

pub found_same : (text code rest cert : List ℕ) (found : Bundle) → IsRead text code rest → cert ≡ rest → found ≡ made code cert → (b : Bundle)
    → IsBundle b → text ≡ bundle_text b.code b.cert → found ≡ b
found_same text code rest cert found r e f b h g =
    let q = found_right text code rest cert found r e f in
    bundles_one found b q.0 h (sym q.1 ∙ g)

pub found_no_fault : (text code rest cert : List ℕ) (found : Bundle) → IsRead text code rest → cert ≡ rest → found ≡ made code cert → (line : ℕ)
    → IsFault text line → ⊥
found_no_fault text code rest cert found r e f line fault =
    let q = found_right text code rest cert found r e f in
    no_fault text line found fault q.0 q.1

pub error_memory : (text : List ℕ) (s : Stop BundleFault) (b : Bundle) → HasCause text s → IsBundle b → text ≡ bundle_text b.code b.cert → IsMemory s
error_memory text (Fault fault) b h k e = no_fault text fault.line b h k e
error_memory text Memory b h k e = tt

pub error_at : (text : List ℕ) (s : Stop BundleFault) (n : ℕ) → HasCause text s → IsFault text n → IsAt n s
error_at text (Fault fault) n h f = faults_one text fault.line n h f
error_at text Memory n h f = tt

-- ---- there and back

pub written_read : (b : Bundle) (answer : Result Bundle (Stop BundleFault)) → IsBundle b → IsAnswer (bundle_text b.code b.cert) answer → IsThis b answer
written_read b (Ok found) right h = inl (ap Ok (bundles_one found b h.0 right (sym h.1)))
written_read b (Err (Fault fault)) right h = absurd (no_fault (bundle_text b.code b.cert) fault.line b h right refl)
written_read b (Err Memory) right h = inr refl

pub read_written : (text : List ℕ) (b : Bundle) → IsAnswer text (Ok b) → bundle_text b.code b.cert ≡ text
read_written text b h = sym h.1
