-- Lines that lead to a bundle.
use Rattle.std.proofs.Common.{◌≡◌, ℕ, ◌<◌, ◌≤◌, Bool, true, false, List, [], ◌∷◌, ◌++◌, length, take, drop, refl, sym, ap, ◌∙◌, subst, arith, append_assoc, append-nil, length-append, take-append-drop}
use Rattle.std.specs.Prelude.{codes}
use Rattle.std.specs.List.{AllByRecursion}
use Rattle.std.proofs.lemmas.List.{append_cancel_left}
use Rattle.hex.specs.Hex.{encode_lower, IsBytes}
use Rattle.text_lines.specs.Lines.{text_of_lines, IsOneLine, HasLine}
use Rattle.text_lines.specs.FrontLaws as laws
use Rattle.grail_bundle.specs.Bundles.{Bundle, IsBundle, first_line, digit_lines, bundle_text}
use Rattle.grail_bundle.specs.Faults.{Begins}
use Rattle.grail_bundle.specs.Lines.{IsLineOf, hex_lines, Left, Leads}
use Rattle.grail_bundle.proofs.Digits.{no_bytes, zero_byte, bytes_left, bytes_right, bytes_both, digits_twice, digits_one, digits_line, short_line, full_line, Cut, cut_of}

-- the certificate's first line, and what is behind it
abbrev pub cert_line : List ℕ
cert_line = codes "grail certificate 1"

pub cert_parts : (cert : List ℕ) → take (length first_line) cert ≡ first_line → HasLine cert cert_line (drop (length first_line) cert)
cert_parts cert h = record { parts = sym (take-append-drop (length first_line) cert) ∙ ap (λ l. l ++ drop (length first_line) cert) h; one = refl }

pub cert_starts : (cert rest : List ℕ) → cert ≡ cert_line ++ 10 ∷ rest → take (length first_line) cert ≡ first_line
cert_starts cert rest e = ap (take (length first_line)) e

-- ---- lines

pub line_behind : (before : List (List ℕ)) (line rest : List ℕ) → text_of_lines (before ++ line ∷ []) ++ rest ≡ text_of_lines before ++ (line ++ 10 ∷ rest)
line_behind [] line rest = laws.first_line line [] rest
line_behind (l ∷ before) line rest = laws.first_line l (before ++ line ∷ []) rest ∙ ap (λ x. l ++ 10 ∷ x) (line_behind before line rest) ∙ sym (laws.first_line l before (line ++ 10 ∷ rest))

pub one_more : (before : List (List ℕ)) (line : List ℕ) → AllByRecursion IsOneLine before → IsOneLine line → AllByRecursion IsOneLine (before ++ line ∷ [])
one_more [] line h k = (k, tt)
one_more (l ∷ before) line h k = (h.0, one_more before line h.1 k)

-- ---- the first line

abbrev pub code_line : List ℕ
code_line = codes "grail code"

abbrev pub one_before : List (List ℕ)
one_before = code_line ∷ []

text_on : (code cert : List ℕ) → 1 ≤ length code → bundle_text code cert ≡ text_of_lines one_before ++ (hex_lines code ++ cert)
unfolding bundle_text
text_on [] cert h = absurd (omega arith)
text_on (b ∷ code) cert h = append_assoc (codes "grail code\n") (digit_lines (encode_lower (b ∷ code))) cert

text_only : (code cert rest : List ℕ) → 1 ≤ length code → bundle_text code cert ≡ text_of_lines one_before ++ rest → rest ≡ hex_lines code ++ cert
text_only code cert rest h e = append_cancel_left (text_of_lines one_before) rest (hex_lines code ++ cert) (sym e ∙ text_on code cert h)

pub start : Leads one_before true []
start = record {
  each = (refl, tt);
  bytes = no_bytes;
  some = λ e. absurd cc;
  on = λ more cert closed some. text_on more cert some;
  only = λ b rest right is. record { more = b.code; closed = λ e. absurd cc; whole = refl; left = text_only b.code b.cert rest right.parts.code is };
}

-- each bundle's text begins with it
pub first_is : (b : Bundle) → IsBundle b → HasLine (bundle_text b.code b.cert) code_line (hex_lines b.code ++ b.cert)
first_is b right = record { parts = text_on b.code b.cert right.parts.code; one = refl }

-- ---- one line more

longer_text : (before : List (List ℕ)) (line code bytes more cert : List ℕ)
    → bundle_text (code ++ (bytes ++ more)) cert ≡ text_of_lines before ++ (hex_lines (bytes ++ more) ++ cert)
    → hex_lines (bytes ++ more) ≡ line ++ 10 ∷ hex_lines more
    → bundle_text (code ++ bytes ++ more) cert ≡ text_of_lines (before ++ line ∷ []) ++ (hex_lines more ++ cert)
longer_text before line code bytes more cert e f =
    ap (λ l. bundle_text l cert) (append_assoc code bytes more) ∙ e ∙ ap (λ l. text_of_lines before ++ (l ++ cert)) f
    ∙ ap (λ l. text_of_lines before ++ l) (append_assoc line (10 ∷ hex_lines more) cert) ∙ sym (line_behind before line (hex_lines more ++ cert))

lines_on : (line bytes more : List ℕ) (going : Bool) → IsLineOf line bytes → (going ≡ true → length bytes ≡ 32) → (going ≡ false → more ≡ [])
    → hex_lines (bytes ++ more) ≡ line ++ 10 ∷ hex_lines more
lines_on line bytes more true is full closed = full_line bytes more (full refl) ∙ ap (λ l. l ++ 10 ∷ hex_lines more) is.is
lines_on line bytes more false is full closed = subst (λ more. hex_lines (bytes ++ more) ≡ line ++ 10 ∷ hex_lines more) (sym (closed refl)) (ap hex_lines (append-nil bytes) ∙ short_line bytes is.some is.few ∙ ap (λ l. l ++ 10 ∷ []) is.is)

-- what was left began with this line, and goes on behind it
left_on : (line code bytes rest : List ℕ) (going : Bool) (b : Bundle) → IsLineOf line bytes → (going ≡ false → length bytes < 32) → IsBundle b
    → Left true code b (line ++ 10 ∷ rest) → Left going (code ++ bytes) b rest
left_on line code bytes rest going b is short right left = by_more left.more left.whole left.left
  where
    one : IsOneLine line
    one = subst IsOneLine is.is (digits_line bytes is.fits)

    by_cut : (more : List ℕ) → b.code ≡ code ++ more → (c : Cut more) → line ++ 10 ∷ rest ≡ hex_lines more ++ b.cert → Left going (code ++ bytes) b rest
    by_cut more e c f =
        let whole : b.code ≡ code ++ (c.front ++ c.rest) = e ∙ ap (λ l. code ++ l) c.is in
        let good : IsBytes c.front = bytes_left c.front c.rest (bytes_right code (c.front ++ c.rest) (subst IsBytes whole right.bytes)) in
        let same = laws.one_line line (encode_lower c.front) rest (hex_lines c.rest ++ b.cert) one (digits_line c.front good) (f ∙ ap (λ l. l ++ b.cert) c.lines ∙ append_assoc (encode_lower c.front) (10 ∷ hex_lines c.rest) b.cert) in
        let front : bytes ≡ c.front = digits_one bytes c.front is.fits good (is.is ∙ same.0) in
        record {
          more = c.rest;
          closed = λ o. c.short (subst (λ l. length l < 32) front (short o));
          whole = whole ∙ sym (append_assoc code c.front c.rest) ∙ ap (λ l. code ++ l ++ c.rest) (sym front);
          left = same.1;
        }

    by_more : (more : List ℕ) → b.code ≡ code ++ more → line ++ 10 ∷ rest ≡ hex_lines more ++ b.cert → Left going (code ++ bytes) b rest
    by_more [] e f =
        let cert = cert_parts b.cert right.parts.cert in
        let same : line ≡ cert_line = (laws.one_line line cert_line rest _ one refl (f ∙ cert.parts)).0 in
        absurd (omega (arith, ap length same, ap length is.is, digits_twice bytes))
    by_more (m ∷ more) e f = by_cut (m ∷ more) e (cut_of (m ∷ more) (omega arith)) f

pub step : (before : List (List ℕ)) (line code bytes : List ℕ) (going : Bool) → Leads before true code → IsLineOf line bytes
    → (going ≡ true → length bytes ≡ 32) → (going ≡ false → length bytes < 32) → Leads (before ++ line ∷ []) going (code ++ bytes)
step before line code bytes going leads is full short = record {
  each = one_more before line leads.each (subst IsOneLine is.is (digits_line bytes is.fits));
  bytes = bytes_both code bytes leads.bytes is.fits;
  some = λ e. omega (arith, length-append code bytes, is.some);
  on = λ more cert closed some.
      longer_text before line code bytes more cert
      (leads.on (bytes ++ more) cert (λ e. absurd cc) (omega (arith, length-append code (bytes ++ more), length-append bytes more, is.some)))
      (lines_on line bytes more going is full closed);
  only = λ b rest right e. left_on line code bytes rest going b is short right (leads.only b (line ++ 10 ∷ rest) right (e ∙ line_behind before line rest));
}

-- ---- to a bundle

-- the least bundle that goes on so
pub begins : (before : List (List ℕ)) (going : Bool) (code : List ℕ) → Leads before going code → Begins before
begins before true code leads = record {
  bundle = record { code = code ++ 0 ∷ []; cert = first_line };
  rest = hex_lines (0 ∷ []) ++ first_line;
  right = record { parts = record { code = omega (arith, length-append code (0 ∷ [])); cert = refl }; bytes = bytes_both code (0 ∷ []) leads.bytes zero_byte };
  is = leads.on (0 ∷ []) first_line (λ e. absurd cc) (omega (arith, length-append code (0 ∷ [])));
}
begins before false code leads = record {
  bundle = record { code = code; cert = first_line };
  rest = first_line;
  right = record { parts = record { code = leads.some refl; cert = refl }; bytes = leads.bytes };
  is = ap (λ l. bundle_text l first_line) (sym (append-nil code)) ∙ leads.on [] first_line (λ e. refl) (omega (arith, leads.some refl, length-append code []));
}

-- where the certificate begins
pub done : (before : List (List ℕ)) (going : Bool) (code rest text : List ℕ) → Leads before going code → 1 ≤ length code
    → text ≡ text_of_lines before ++ rest → text ≡ bundle_text code rest
done before going code rest text leads some parts = parts ∙ sym (ap (λ l. bundle_text l rest) (sym (append-nil code)) ∙ leads.on [] rest (λ e. refl) (omega (arith, some, length-append code [])))
