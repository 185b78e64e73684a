-- Each text is one bundle's, or has one first wrong line.
use Rattle.std.proofs.Common.{◌≡◌, ℕ, zero, suc, ◌+◌, ◌<◌, ◌≤◌, Bool, true, false, List, [], ◌∷◌, ◌++◌, length, take, drop, Result, Ok, Err, inl, inr, refl, sym, ap, ◌∙◌, subst, arith, append_assoc, append-nil, length-append, Decides, bytes_eq}
use Rattle.std.specs.Prelude.{codes, ◌⊎◌, ◌==◌}
use Rattle.std.specs.List.{AllByRecursion}
use Rattle.std.proofs.lemmas.Bool.{cases_lt}
use Rattle.std.proofs.lemmas.Bool.Decides.{nat_tests}
use Rattle.std.proofs.lemmas.Slice.Eq.{bytes_eq-Decides}
use Rattle.hex.specs.Hex.{encode_lower, decode_of, IsBytes}
use Rattle.hex.specs.declared.error.FromHexError.{FromHexError}
use Rattle.hex.proofs.HexLemmas.{decode_of-encode_lower, decode_of-ok, decode_of-same}
use Rattle.text_lines.specs.Lines.{text_of_lines, IsOneLine, HasLine}
use Rattle.text_lines.specs.FrontLaws as laws
use Rattle.grail_bundle.specs.Bundles.{Bundle, HasParts, IsBundle, first_line, bundle_text}
use Rattle.grail_bundle.specs.Faults.{Begins, IsFault}
use Rattle.grail_bundle.specs.Lines.{IsLineOf, IsNoLine, hex_lines, Reading}
use Rattle.grail_bundle.proofs.Digits.{bytes_left, bytes_right, digits_line, digits_one, digits_twice, Cut, cut_of}
use Rattle.text_lines.specs.FrontLaws.{line_or_none}
use Rattle.grail_bundle.proofs.Leading.{cert_line, cert_parts, first_is, done, code_line}
use Rattle.grail_bundle.proofs.Stopping.{first_early, first_wrong, first_read, closed_stop, early_stop, line_stop, line_read}

-- ---- one bundle

abbrev Starts : List ℕ → Type 0
Starts cert = take (length first_line) cert ≡ first_line

-- a line of digits isn't the certificate's
other_line : (front : List ℕ) → cert_line ≡ encode_lower front → ⊥
other_line front e = omega (arith, ap length e, digits_twice front)

record Same (xs ys c d : List ℕ) : Type 0 where
  digits : xs ≡ ys
  cert : c ≡ d

same_parts : (fuel : ℕ) (xs ys c d : List ℕ) → length xs ≤ fuel → IsBytes xs → IsBytes ys → Starts c → Starts d
    → hex_lines xs ++ c ≡ hex_lines ys ++ d → Same xs ys c d
same_parts fuel [] [] c d few h k s t e = record { digits = refl; cert = e }
same_parts fuel [] (y ∷ ys) c d few h k s t e =
    let cut = cut_of (y ∷ ys) (omega arith) in
    let good : IsBytes cut.front = bytes_left cut.front cut.rest (subst IsBytes cut.is k) in
    absurd (other_line cut.front (laws.one_line cert_line (encode_lower cut.front) (drop (length first_line) c) (hex_lines cut.rest ++ d) refl (digits_line cut.front good)
    (sym (cert_parts c s).parts ∙ e ∙ ap (λ l. l ++ d) cut.lines ∙ append_assoc (encode_lower cut.front) (10 ∷ hex_lines cut.rest) d)).0)
same_parts fuel (x ∷ xs) [] c d few h k s t e =
    let cut = cut_of (x ∷ xs) (omega arith) in
    let good : IsBytes cut.front = bytes_left cut.front cut.rest (subst IsBytes cut.is h) in
    absurd (other_line cut.front (laws.one_line cert_line (encode_lower cut.front) (drop (length first_line) d) (hex_lines cut.rest ++ c) refl (digits_line cut.front good)
    (sym (cert_parts d t).parts ∙ sym e ∙ ap (λ l. l ++ c) cut.lines ∙ append_assoc (encode_lower cut.front) (10 ∷ hex_lines cut.rest) c)).0)
same_parts zero (x ∷ xs) (y ∷ ys) c d few h k s t e = absurd (omega arith)
same_parts (suc fuel) (x ∷ xs) (y ∷ ys) c d few h k s t e = by_cuts (cut_of (x ∷ xs) (omega arith)) (cut_of (y ∷ ys) (omega arith)) (same_parts fuel)
  where
    by_cuts : (a : Cut (x ∷ xs)) (b : Cut (y ∷ ys))
        → ((xs ys c d : List ℕ) → length xs ≤ fuel → IsBytes xs → IsBytes ys → Starts c → Starts d → hex_lines xs ++ c ≡ hex_lines ys ++ d → Same xs ys c d) → Same (x ∷ xs) (y ∷ ys) c d
    by_cuts a b again =
        let good : IsBytes (a.front ++ a.rest) = subst IsBytes a.is h in
        let right : IsBytes (b.front ++ b.rest) = subst IsBytes b.is k in
        let left_a : IsBytes a.front = bytes_left a.front a.rest good in
        let left_b : IsBytes b.front = bytes_left b.front b.rest right in
        let same = laws.one_line (encode_lower a.front) (encode_lower b.front) (hex_lines a.rest ++ c) (hex_lines b.rest ++ d) (digits_line a.front left_a) (digits_line b.front left_b)
        (sym (append_assoc (encode_lower a.front) (10 ∷ hex_lines a.rest) c) ∙ sym (ap (λ l. l ++ c) a.lines) ∙ e ∙ ap (λ l. l ++ d) b.lines ∙ append_assoc (encode_lower b.front) (10 ∷ hex_lines b.rest) d) in
        let front : a.front ≡ b.front = digits_one a.front b.front left_a left_b same.0 in
        let rest = again a.rest b.rest c d (omega (arith, few, a.some, ap length a.is, length-append a.front a.rest)) (bytes_right a.front a.rest good) (bytes_right b.front b.rest right) s t same.1 in
        record { digits = a.is ∙ ap (λ l. l ++ a.rest) front ∙ ap (λ l. b.front ++ l) rest.digits ∙ sym b.is; cert = rest.cert }

pub bundles_one : (a b : Bundle) → IsBundle a → IsBundle b → bundle_text a.code a.cert ≡ bundle_text b.code b.cert → a ≡ b
bundles_one a b h k e =
    let behind = laws.one_line code_line code_line (hex_lines a.code ++ a.cert) (hex_lines b.code ++ b.cert) refl refl (sym (first_is a h).parts ∙ e ∙ (first_is b k).parts) in
    let same = same_parts (length a.code) a.code b.code a.cert b.cert (omega arith) h.bytes k.bytes h.parts.cert k.parts.cert behind.1 in
    λ i. record { code = same.digits i; cert = same.cert i }

-- ---- one wrong line

shorter : (xs zs : List (List ℕ)) (z : List ℕ) → Begins (xs ++ z ∷ zs) → Begins (xs ++ z ∷ [])
shorter xs zs z b = record {
  bundle = b.bundle;
  rest = text_of_lines zs ++ b.rest;
  right = b.right;
  is = b.is ∙ behind xs;
}
  where
    behind : (xs : List (List ℕ)) → text_of_lines (xs ++ z ∷ zs) ++ b.rest ≡ text_of_lines (xs ++ z ∷ []) ++ (text_of_lines zs ++ b.rest)
    behind [] = laws.first_line z zs b.rest ∙ sym (laws.first_line z [] (text_of_lines zs ++ b.rest))
    behind (x ∷ xs) = laws.first_line x (xs ++ z ∷ zs) b.rest ∙ ap (λ l. x ++ 10 ∷ l) (behind xs) ∙ sym (laws.first_line x (xs ++ z ∷ []) (text_of_lines zs ++ b.rest))

feed : (xs zs : List (List ℕ)) (z : List ℕ) → AllByRecursion IsOneLine (xs ++ z ∷ zs) → IsOneLine z
feed [] zs z h = h.0
feed (x ∷ xs) zs z h = feed xs zs z h.1

-- reading goes no further than where it stops
no_further : (text : List ℕ) (m n : ℕ) (f : IsFault text m) (g : IsFault text n) → laws.Further f.before g.before f.rest g.rest → f.before ≡ g.before
no_further text m n f g d = by_more d.more d.is d.rest
  where
    by_more : (more : List (List ℕ)) → g.before ≡ f.before ++ more → f.rest ≡ text_of_lines more ++ g.rest → f.before ≡ g.before
    by_more [] e r = sym (append-nil f.before) ∙ sym e
    by_more (z ∷ zs) e r = absurd (f.wrong z (text_of_lines zs ++ g.rest) (feed f.before zs z (subst (AllByRecursion IsOneLine) e g.each)) (r ∙ laws.first_line z zs g.rest) (shorter f.before zs z (subst Begins e g.good)))

pub faults_one : (text : List ℕ) (m n : ℕ) → IsFault text m → IsFault text n → m ≡ n
faults_one text m n f g = f.count ∙ ap (λ l. suc (length l)) (by_case (laws.fronts f.before g.before f.rest g.rest f.each g.each (sym f.parts ∙ g.parts))) ∙ sym g.count
  where
    by_case : laws.Further f.before g.before f.rest g.rest ⊎ laws.Further g.before f.before g.rest f.rest → f.before ≡ g.before
    by_case (inl d) = no_further text m n f g d
    by_case (inr d) = sym (no_further text n m g f d)

-- ---- one of both

pub record Judged (text : List ℕ) : Type 0 where
  pub is : ((b : Bundle) × IsBundle b × (text ≡ bundle_text b.code b.cert)) ⊎ ((n : ℕ) × IsFault text n)

fault : (text : List ℕ) (n : ℕ) → IsFault text n → Judged text
fault text n f = record { is = inr (n, f) }

decided : (t : Bool) (P : Type 0) → Decides t P → P ⊎ (P → ⊥)
decided true P d = inl (d.0 refl)
decided false P d = inr (λ p. let e : false ≡ true = d.1 p in absurd cc)

same_bytes : (xs ys : List ℕ) → (xs ≡ ys) ⊎ (xs ≡ ys → ⊥)
same_bytes xs ys = decided (bytes_eq xs ys) (xs ≡ ys) (bytes_eq-Decides xs ys)

ends : (code rest : List ℕ) → HasParts (record { code = code; cert = rest }) ⊎ (HasParts (record { code = code; cert = rest }) → ⊥)
ends code rest = by_both (cases_lt 0 (length code)) (same_bytes (take (length first_line) rest) first_line)
  where
    by_both : (0 < length code) ⊎ (length code ≤ 0) → (Starts rest) ⊎ (Starts rest → ⊥) → HasParts (record { code = code; cert = rest }) ⊎ (HasParts (record { code = code; cert = rest }) → ⊥)
    by_both (inl h) (inl k) = inl (record { code = omega (arith, h); cert = k })
    by_both (inl h) (inr k) = inr (λ p. k p.cert)
    by_both (inr h) k = inr (λ p. omega (arith, h, p.code))

line_is : (line : List ℕ) → ((bytes : List ℕ) × IsLineOf line bytes) ⊎ IsNoLine line
line_is line = by_result (decode_of line) refl
  where
    read : (bytes : List ℕ) → IsLineOf line bytes → decode_of line ≡ Ok bytes
    read bytes is = ap decode_of (sym is.is) ∙ decode_of-encode_lower bytes is.fits

    by_tests : (bytes : List ℕ) → decode_of line ≡ Ok bytes → (0 < length bytes) ⊎ (length bytes ≤ 0) → (32 < length bytes) ⊎ (length bytes ≤ 32)
        → (encode_lower bytes ≡ line) ⊎ (encode_lower bytes ≡ line → ⊥) → ((bytes : List ℕ) × IsLineOf line bytes) ⊎ IsNoLine line
    by_tests bytes e (inl some) (inr few) (inl is) = inl (bytes, record { fits = (decode_of-ok line bytes e).3; some = omega (arith, some); few = few; is = is })
    by_tests bytes e (inr none) few is = inr (λ other o. omega (arith, none, o.some, ap length (decode_of-same line bytes other e (read other o))))
    by_tests bytes e some (inl many) is = inr (λ other o. omega (arith, many, o.few, ap length (decode_of-same line bytes other e (read other o))))
    by_tests bytes e some few (inr bad) = inr (λ other o. bad (ap encode_lower (decode_of-same line bytes other e (read other o)) ∙ o.is))

    by_result : (r : Result (List ℕ) FromHexError) → decode_of line ≡ r → ((bytes : List ℕ) × IsLineOf line bytes) ⊎ IsNoLine line
    by_result (Ok bytes) e = by_tests bytes e (cases_lt 0 (length bytes)) (cases_lt 32 (length bytes)) (same_bytes (encode_lower bytes) line)
    by_result (Err x) e = inr (λ other o. let f : Ok other ≡ Err x = sym (read other o) ∙ e in absurd cc)

-- from a line on, where it is known from each later line on
judged_line : (text : List ℕ) (n : ℕ) (going : Bool) (code rest : List ℕ) → Reading text n going code rest
    → ((m : ℕ) (full : Bool) (new behind : List ℕ) → length behind < length rest → Reading text m full new behind → Judged text) → Judged text
judged_line text n going code rest r again = by_end (ends code rest)
  where
    by_line : (HasParts (record { code = code; cert = rest }) → ⊥) → going ≡ true → (line behind : List ℕ) → HasLine rest line behind → ((bytes : List ℕ) × IsLineOf line bytes) ⊎ IsNoLine line → Judged text
    by_line end o line behind h (inr bad) = fault text n (line_stop text n going code rest line behind r end h bad)
    by_line end o line behind h (inl (bytes, is)) =
        again (n + 1) (length line == 64) (code ++ bytes) behind (omega (arith, ap length h.parts, length-append line (10 ∷ behind)))
        (line_read text n going (length line == 64) code (code ++ bytes) rest line behind r o h (record { bytes = bytes; is = is; all = refl }) (λ e. grind (arith, nat_tests, e)) (λ e s. let t : (length line == 64) ≡ true = grind (arith, nat_tests, s) in let u : true ≡ false = sym t ∙ e in absurd cc))

    by_split : (HasParts (record { code = code; cert = rest }) → ⊥) → going ≡ true → IsOneLine rest ⊎ ((line : List ℕ) × (behind : List ℕ) × HasLine rest line behind) → Judged text
    by_split end o (inl one) = fault text n (early_stop text n going code rest r end one)
    by_split end o (inr (line, behind, h)) = by_line end o line behind h (line_is line)

    by_open : (HasParts (record { code = code; cert = rest }) → ⊥) → (t : Bool) → going ≡ t → Judged text
    by_open end true o = by_split end o (line_or_none rest)
    by_open end false o = fault text n (closed_stop text n going code rest r o end)

    by_end : HasParts (record { code = code; cert = rest }) ⊎ (HasParts (record { code = code; cert = rest }) → ⊥) → Judged text
    by_end (inl p) = record { is = inl (record { code = code; cert = rest }, record { parts = p; bytes = r.leads.bytes }, done r.before going code rest text r.leads p.code r.parts) }
    by_end (inr end) = by_open end going refl

judged_from : (fuel : ℕ) (text : List ℕ) (n : ℕ) (going : Bool) (code rest : List ℕ) → length rest ≤ fuel → Reading text n going code rest → Judged text
judged_from zero text n going code rest few r = judged_line text n going code rest r (λ m full new behind less q. absurd (omega (arith, few, less)))
judged_from (suc fuel) text n going code rest few r = judged_line text n going code rest r (λ m full new behind less q. judged_from fuel text m full new behind (omega (arith, few, less)) q)

pub judged : (text : List ℕ) → Judged text
judged text = by_split (line_or_none text)
  where
    by_first : (line rest : List ℕ) → HasLine text line rest → (line ≡ codes "grail code") ⊎ (line ≡ codes "grail code" → ⊥) → Judged text
    by_first line rest h (inl e) = judged_from (length rest) text 2 true [] rest (omega arith) (first_read text line rest h e)
    by_first line rest h (inr other) = fault text 1 (first_wrong text line rest h other)

    by_split : IsOneLine text ⊎ ((line : List ℕ) × (rest : List ℕ) × HasLine text line rest) → Judged text
    by_split (inl one) = fault text 1 (first_early text one)
    by_split (inr (line, rest, h)) = by_first line rest h (same_bytes line (codes "grail code"))

-- ---- the laws

pub fault_there : (text : List ℕ) → ((b : Bundle) → IsBundle b → text ≡ bundle_text b.code b.cert → ⊥) → (n : ℕ) × IsFault text n
fault_there text none = by_case (judged text).is
  where
    by_case : ((b : Bundle) × IsBundle b × (text ≡ bundle_text b.code b.cert)) ⊎ ((n : ℕ) × IsFault text n) → (n : ℕ) × IsFault text n
    by_case (inl (b, right, e)) = absurd (none b right e)
    by_case (inr f) = f

pub no_fault : (text : List ℕ) (n : ℕ) (b : Bundle) → IsFault text n → IsBundle b → text ≡ bundle_text b.code b.cert → ⊥
no_fault text n b f right e = f.none b right e
