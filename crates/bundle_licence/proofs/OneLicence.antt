-- A text has one licence or one cause at most, and not both, by the laws of bundles and of the verifier.
use Rattle.std.proofs.Common.{◌≡◌, ◌⊎◌, ℕ, List, Result, Ok, Err, refl, sym, ap, ◌∙◌, subst, inl, inr}
use Rattle.licence.specs.Licensed.{Licensed}
use Rattle.grail_bundle.specs.Bundles.{Bundle, IsBundle, bundle_text}
use Rattle.grail_bundle.specs.Faults.{IsFault}
use Rattle.grail_verifier.specs.AcceptedLaws.{verdict_of}
use Rattle.grail_verifier.specs.Verdicts.{IsVerdict}
use Rattle.grail_verifier.specs.declared.refusal.Refusal.{Refusal}
use Rattle.cause_texts.specs.declared.cause.Cause.{Cause}
use Rattle.cause_texts.specs.declared.cause.Cause.TheVariants as cause
use Rattle.bundle_licence.specs.Bundled.{IsTextOf, HasLicence, IsRefusedBy, IsRefusedFor}

-- the laws of bundles, and of the verifier
pub record Laws : Type 0 where
  pub bundle : (b c : Bundle) → IsBundle b → IsBundle c → bundle_text b.code b.cert ≡ bundle_text c.code c.cert → b ≡ c
  pub line : (text : List ℕ) (m n : ℕ) → IsFault text m → IsFault text n → m ≡ n
  pub bundle_or_line : (text : List ℕ) (n : ℕ) (b : Bundle) → IsFault text n → IsBundle b → text ≡ bundle_text b.code b.cert → ⊥
  pub verdict : (code cert : List ℕ) (v w : Result Licensed Refusal) → IsVerdict code cert v → IsVerdict code cert w → v ≡ w

-- the text is this bundle's, and this is the verifier's verdict on it
record Judged (text : List ℕ) (v : Result Licensed Refusal) : Type 0 where
  bundle : Bundle
  of : IsTextOf text bundle
  verdict : IsVerdict bundle.code bundle.cert v

accepted : (text : List ℕ) (l : Licensed) → HasLicence text l → Judged text (Ok l)
accepted text l h = record { bundle = h.bundle; of = h.of; verdict = verdict_of h.bundle.code h.bundle.cert l h.accepted }

refused : (text : List ℕ) (r : Refusal) → IsRefusedBy text r → Judged text (Err r)
refused text r h = record { bundle = h.bundle; of = h.of; verdict = h.verdict }

one_judged : Laws → (text : List ℕ) (v w : Result Licensed Refusal) → Judged text v → Judged text w → v ≡ w
one_judged L text v w h k =
    let same : h.bundle ≡ k.bundle = L.bundle h.bundle k.bundle h.of.right k.of.right (sym h.of.is ∙ k.of.is) in
    L.verdict k.bundle.code k.bundle.cert v w (subst (λ (b : Bundle). IsVerdict b.code b.cert v) same h.verdict) k.verdict

no_bundle : Laws → (text : List ℕ) (n : ℕ) (v : Result Licensed Refusal) → IsFault text n → Judged text v → ⊥
no_bundle L text n v fault h = L.bundle_or_line text n h.bundle fault h.of.right h.of.is

pub one_licence : Laws → (text : List ℕ) (l m : Licensed) → HasLicence text l → HasLicence text m → l ≡ m
one_licence L text l m h k = let e : Ok l ≡ Ok m = one_judged L text (Ok l) (Ok m) (accepted text l h) (accepted text m k) in cc

pub not_both : Laws → (text : List ℕ) (l : Licensed) (c : Cause) → HasLicence text l → IsRefusedFor text c → ⊥
not_both L text l (cause.Bundle n) h k = no_bundle L text n (Ok l) k (accepted text l h)
not_both L text l (cause.Verify r) h k = let e : Ok l ≡ Err r = one_judged L text (Ok l) (Err r) (accepted text l h) (refused text r k) in cc
not_both L text l (cause.Parse x) h k = k
not_both L text l (cause.Types x) h k = k
not_both L text l (cause.Uses x) h k = k
not_both L text l (cause.Normal x) h k = k
not_both L text l (cause.NoCert x) h k = k

-- what a cause says, in two ways
abbrev Way : List ℕ → Cause → Type 0
Way text c = ((n : ℕ) × (c ≡ cause.Bundle n) × IsFault text n) ⊎ ((r : Refusal) × (c ≡ cause.Verify r) × Judged text (Err r))

way : (text : List ℕ) (c : Cause) → IsRefusedFor text c → Way text c
way text (cause.Bundle n) h = inl (n, refl, h)
way text (cause.Verify r) h = inr (r, refl, refused text r h)
way text (cause.Parse x) h = absurd h
way text (cause.Types x) h = absurd h
way text (cause.Uses x) h = absurd h
way text (cause.Normal x) h = absurd h
way text (cause.NoCert x) h = absurd h

one_way : Laws → (text : List ℕ) (c d : Cause) → Way text c → Way text d → c ≡ d
one_way L text c d (inl (m, is, h)) (inl (n, also, k)) = is ∙ ap cause.Bundle (L.line text m n h k) ∙ sym also
one_way L text c d (inl (m, is, h)) (inr (r, also, k)) = absurd (no_bundle L text m (Err r) h k)
one_way L text c d (inr (q, is, h)) (inl (n, also, k)) = absurd (no_bundle L text n (Err q) k h)
one_way L text c d (inr (q, is, h)) (inr (r, also, k)) =
    let e : Err q ≡ Err r = one_judged L text (Err q) (Err r) h k in
    let same : q ≡ r = cc in
    is ∙ ap cause.Verify same ∙ sym also

pub one_cause : Laws → (text : List ℕ) (c d : Cause) → IsRefusedFor text c → IsRefusedFor text d → c ≡ d
one_cause L text c d h k = one_way L text c d (way text c h) (way text d k)
