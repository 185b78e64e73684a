-- What decoding a line of digits says of it.
use Rattle.std.proofs.Common.{◌≡◌, ℕ, ◌*◌, ◌/◌, ◌<◌, ◌≤◌, Bool, true, false, List, length, take, Result, Ok, Err, is_err, not, OnOk, MatchBool, MatchResult, bytes_eq, refl, sym, ap, ◌∙◌, subst, arith}
use Rattle.std.specs.Prelude.{◌==◌}
use Rattle.std.proofs.lemmas.Bool.Decides.{nat_tests}
use Rattle.std.proofs.lemmas.Slice.Eq.{bytes_eq-Decides}
use Rattle.hex.specs.Hex.{encode_lower, decode_sized, IsBytes}
use Rattle.hex.specs.declared.error.FromHexError.{FromHexError}
use Rattle.hex.proofs.HexLemmas.{decode_sized-encode_lower}
use Rattle.grail_bundle.specs.Bundles.{HasParts, first_line}
use Rattle.grail_bundle.specs.Lines.{IsNoLine, IsOther}
use Rattle.grail_bundle.proofs.Digits.{digits_twice}

-- ---- the size of a line

line_size : (line bytes : List ℕ) → encode_lower bytes ≡ line → length line ≡ 2 * length bytes
line_size line bytes e = sym (ap length e) ∙ digits_twice bytes

pub none_small : (line : List ℕ) → length line / 2 ≡ 0 → IsNoLine line
none_small line h bytes is = omega (arith, h, line_size line bytes is.is, is.some)

pub none_large : (line : List ℕ) → 32 < length line / 2 → IsNoLine line
none_large line h bytes is = omega (arith, h, line_size line bytes is.is, is.few)

pub none_other : (line : List ℕ) (n : ℕ) → n ≡ length line / 2 → IsOther n line → IsNoLine line
none_other line n e other bytes is = other bytes is.fits (omega (arith, e, line_size line bytes is.is)) is.is

-- ---- decoded

-- what decoding wrote and answered
abbrev pub Wrote : (line : List ℕ) → (size : ℕ) → Result Unit FromHexError → List ℕ → Type 0
Wrote line size r out = MatchResult (decode_sized line size) (λ bytes. (r ≡ Ok tt) × (out ≡ bytes)) (λ e. r ≡ Err e)

wrote : (line bytes : List ℕ) (size : ℕ) (r : Result Unit FromHexError) (out : List ℕ) → Wrote line size r out → IsBytes bytes → length bytes ≡ size
    → encode_lower bytes ≡ line → (r ≡ Ok tt) × (out ≡ bytes)
wrote line bytes size r out h fits len e =
    let d : decode_sized line size ≡ Ok bytes = ap (λ l. decode_sized l size) (sym e) ∙ decode_sized-encode_lower bytes size len fits in
    subst (λ d. MatchResult d (λ bytes. (r ≡ Ok tt) × (out ≡ bytes)) (λ e. r ≡ Err e)) d h

pub other_long : (line : List ℕ) (size : ℕ) → size ≤ 32 → 64 < length line → IsOther size line
other_long line size few many bytes fits len e = omega (arith, few, many, len, line_size line bytes e)

pub other_refused : (line : List ℕ) (size : ℕ) (r : Result Unit FromHexError) (out : List ℕ) → Wrote line size r out → is_err r ≡ true → IsOther size line
other_refused line size r out h e bytes fits len is =
    let f : is_err r ≡ false = ap is_err (wrote line bytes size r out h fits len is).0 in
    let g : true ≡ false = sym e ∙ f in
    absurd cc

pub on_ok : (r : Result Unit FromHexError) (P : Type 0) → OnOk r P → is_err r ≡ false → P
on_ok (Ok x) P h e = h
on_ok (Err x) P h e = absurd cc

-- the digits that are written for the bytes are compared with the line
pub compared : (line : List ℕ) (size : ℕ) (r : Result Unit FromHexError) (out written : List ℕ) (t : Bool) → Wrote line size r out
    → written ≡ encode_lower out → t ≡ bytes_eq written line → MatchBool t (encode_lower out ≡ line) (IsOther size line)
compared line size r out written true h e f = sym e ∙ (bytes_eq-Decides written line).0 (sym f)
compared line size r out written false h e f = λ bytes fits len is.
    let same : written ≡ line = e ∙ ap encode_lower (wrote line bytes size r out h fits len is).1 ∙ is in
    let g : false ≡ true = f ∙ (bytes_eq-Decides written line).1 same in
    absurd cc

-- ---- the first lines

not_false : (t : Bool) → not t ≡ false → t ≡ true
not_false true h = refl
not_false false h = absurd cc

pub same_text : (line word text : List ℕ) (t : Bool) → t ≡ not (bytes_eq line word) → t ≡ false → word ≡ text → line ≡ text
same_text line word text t e f g = (bytes_eq-Decides line word).0 (not_false (bytes_eq line word) (sym e ∙ f)) ∙ g

pub end_none : (code rest : List ℕ) → (length code == 0) ≡ true → HasParts (record { code = code; cert = rest }) → ⊥
end_none code rest none p = let e : length code ≡ 0 = grind (arith, nat_tests, none) in omega (arith, e, p.code)

pub end_is : (code rest : List ℕ) (t : Bool) → (length code == 0) ≡ false → t ≡ bytes_eq first_line (take (length first_line) rest) → MatchBool t (HasParts (record { code = code; cert = rest })) (HasParts (record { code = code; cert = rest }) → ⊥)
end_is code rest true some e = record { code = grind (arith, nat_tests, some); cert = sym ((bytes_eq-Decides first_line (take (length first_line) rest)).0 (sym e)) }
end_is code rest false some e = λ p. let g : false ≡ true = e ∙ (bytes_eq-Decides first_line (take (length first_line) rest)).1 (sym p.cert) in absurd cc
