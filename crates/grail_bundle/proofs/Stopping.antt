-- Where a text is no bundle's: its first wrong line.
use Rattle.std.proofs.Common.{◌≡◌, ℕ, suc, ◌+◌, ◌*◌, ◌^◌, ◌<◌, ◌≤◌, Bool, true, false, List, [], ◌∷◌, ◌++◌, length, drop, inl, inr, refl, sym, ap, ◌∙◌, subst, arith, append_assoc, append-nil, length-append}
use Rattle.std.specs.Prelude.{codes, ◌⊎◌, ◌==◌, MatchBool}
use Rattle.std.specs.List.{AllByRecursion}
use Rattle.std.proofs.lemmas.Bool.{cases_lt}
use Rattle.std.proofs.lemmas.Bool.Decides.{nat_tests}
use Rattle.hex.specs.Hex.{encode_lower, IsBytes}
use Rattle.text_lines.specs.Lines.{text_of_lines, IsOneLine, HasLine}
use Rattle.text_lines.specs.FrontLaws as laws
use Rattle.grail_bundle.specs.Bundles.{Bundle, HasParts, IsBundle, first_line, bundle_text}
use Rattle.grail_bundle.specs.Faults.{Begins, IsFault}
use Rattle.grail_bundle.specs.Lines.{IsLineOf, IsNoLine, IsPushed, hex_lines, Left, Leads, Reading, IsRead}
use Rattle.grail_bundle.proofs.Digits.{zero_byte, bytes_left, bytes_right, digits_line, Cut, cut_of, digits_twice}
use Rattle.text_lines.specs.FrontLaws.{line_shorter, same_line}
use Rattle.grail_bundle.proofs.Leading.{cert_line, cert_parts, cert_starts, code_line, one_before, first_is, line_behind, start, step, begins, done}

-- a line in front, of which this holds
record Next (rest : List ℕ) (Is : List ℕ → Type 0) : Type 0 where
  line : List ℕ
  more : List ℕ
  has : HasLine rest line more
  is : Is line

-- no bundle's text goes on with another line
abbrev GoOn : List (List ℕ) → (List ℕ → Type 0) → Type 0
GoOn before Is = (b : Bundle) (rest : List ℕ) → IsBundle b → bundle_text b.code b.cert ≡ text_of_lines before ++ rest → Next rest Is

stop : (text : List ℕ) (before : List (List ℕ)) (rest : List ℕ) (Is : List ℕ → Type 0) → text ≡ text_of_lines before ++ rest
    → AllByRecursion IsOneLine before → Begins before → GoOn before Is → ((line more : List ℕ) → HasLine rest line more → Is line → ⊥)
    → IsFault text (suc (length before))
stop text before rest Is parts each good go none = record {
  before = before;
  rest = rest;
  parts = parts;
  each = each;
  count = refl;
  good = good;
  wrong = λ line more one e b.
      let next = go b.bundle (line ++ 10 ∷ b.rest) b.right (b.is ∙ line_behind before line b.rest) in
      let same = same_line (line ++ 10 ∷ b.rest) next.line line next.more b.rest next.has one refl in
      none line more (record { parts = e; one = one }) (subst Is same.0 next.is);
  none = λ b right e.
      let next = go b rest right (sym e ∙ parts) in
      none next.line next.more next.has next.is;
}

-- ---- the first line

any_bundle : IsBundle (record { code = 0 ∷ []; cert = first_line })
any_bundle = record { parts = record { code = omega arith; cert = refl }; bytes = zero_byte }

first_stop : (text : List ℕ) → ((line more : List ℕ) → HasLine text line more → line ≡ code_line → ⊥) → IsFault text 1
first_stop text none =
    stop text [] text (λ line. line ≡ code_line) refl tt
    (record { bundle = record { code = 0 ∷ []; cert = first_line }; rest = bundle_text (0 ∷ []) first_line; right = any_bundle; is = refl })
    (λ b rest right e. record { line = code_line; more = hex_lines b.code ++ b.cert; has = subst (λ t. HasLine t code_line (hex_lines b.code ++ b.cert)) e (first_is b right); is = refl })
    none

feedless : (rest line more : List ℕ) → IsOneLine rest → HasLine rest line more → ⊥
feedless rest line more one h = laws.has_feed line more (subst IsOneLine h.parts one)

pub first_early : (text : List ℕ) → IsOneLine text → IsFault text 1
first_early text one = first_stop text (λ line more h e. feedless text line more one h)

pub first_wrong : (text line rest : List ℕ) → HasLine text line rest → (line ≡ codes "grail code" → ⊥) → IsFault text 1
first_wrong text line rest h other = first_stop text (λ l more k e. other ((same_line text line l rest more h k.one k.parts).0 ∙ e))

pub first_read : (text line rest : List ℕ) → HasLine text line rest → line ≡ codes "grail code" → Reading text 2 true [] rest
first_read text line rest h e =
    let parts : text ≡ code_line ++ 10 ∷ rest = h.parts ∙ ap (λ l. l ++ 10 ∷ rest) e in
    record { before = one_before; parts = parts; count = refl; few = omega (arith, ap length parts); leads = start }

-- ---- the lines behind it

-- the next line of a bundle: its certificate's first, or a line of digits
abbrev IsNext : Bool → List ℕ → List ℕ → Type 0
IsNext going code line = ((1 ≤ length code) × (line ≡ cert_line)) ⊎ ((going ≡ true) × (bytes : List ℕ) × IsLineOf line bytes)

next_of : (going : Bool) (code : List ℕ) (b : Bundle) (rest : List ℕ) → IsBundle b → Left going code b rest → Next rest (IsNext going code)
next_of going code b rest right left = by_more left.more left.closed left.whole left.left
  where
    by_cut : (m : ℕ) (ms : List ℕ) → (going ≡ false → m ∷ ms ≡ []) → b.code ≡ code ++ m ∷ ms → rest ≡ hex_lines (m ∷ ms) ++ b.cert
        → (c : Cut (m ∷ ms)) → Next rest (IsNext going code)
    by_cut m ms closed e f c =
        let whole : b.code ≡ code ++ (c.front ++ c.rest) = e ∙ ap (λ l. code ++ l) c.is in
        let good : IsBytes c.front = bytes_left c.front c.rest (bytes_right code (c.front ++ c.rest) (subst IsBytes whole right.bytes)) in
        record {
          line = encode_lower c.front;
          more = hex_lines c.rest ++ b.cert;
          has = record { parts = f ∙ ap (λ l. l ++ b.cert) c.lines ∙ append_assoc (encode_lower c.front) (10 ∷ hex_lines c.rest) b.cert; one = digits_line c.front good };
          is = inr (is_open going closed, c.front, record { fits = good; some = c.some; few = c.few; is = refl });
        }
      where
        is_open : (going : Bool) → (going ≡ false → m ∷ ms ≡ []) → going ≡ true
        is_open true h = refl
        is_open false h = absurd (omega (arith, ap length (h refl)))

    by_more : (more : List ℕ) → (going ≡ false → more ≡ []) → b.code ≡ code ++ more → rest ≡ hex_lines more ++ b.cert → Next rest (IsNext going code)
    by_more [] closed e f = record {
      line = cert_line;
      more = drop (length first_line) b.cert;
      has = subst (λ l. HasLine l cert_line (drop (length first_line) b.cert)) (sym f) (cert_parts b.cert right.parts.cert);
      is = inl (omega (arith, right.parts.code, ap length e, ap length (append-nil code)), refl);
    }
    by_more (m ∷ ms) closed e f = by_cut m ms closed e f (cut_of (m ∷ ms) (omega arith))

-- neither the certificate nor a line of digits follows
stop_at : (text : List ℕ) (n : ℕ) (going : Bool) (code rest : List ℕ) → Reading text n going code rest → (HasParts (record { code = code; cert = rest }) → ⊥) → (going ≡ true → (line more : List ℕ) → HasLine rest line more → IsNoLine line) → IsFault text n
stop_at text n going code rest r end none =
    subst (IsFault text) (sym r.count)
    (stop text r.before rest (IsNext going code) r.parts r.leads.each (begins r.before going code r.leads)
    (λ b left right e. next_of going code b left right (r.leads.only b left right e)) by_next)
  where
    by_next : (line more : List ℕ) → HasLine rest line more → IsNext going code line → ⊥
    by_next line more h (inl (some, e)) = end (record { code = some; cert = cert_starts rest more (h.parts ∙ ap (λ l. l ++ 10 ∷ more) e) })
    by_next line more h (inr (o, bytes, is)) = none o line more h bytes is

-- the last line of digits is read
pub closed_stop : (text : List ℕ) (n : ℕ) (going : Bool) (code rest : List ℕ) → Reading text n going code rest → going ≡ false → (HasParts (record { code = code; cert = rest }) → ⊥) → IsFault text n
closed_stop text n going code rest r e end = stop_at text n going code rest r end (λ o line more h bytes is. let f : true ≡ false = sym o ∙ e in absurd cc)

-- no line is left
pub early_stop : (text : List ℕ) (n : ℕ) (going : Bool) (code rest : List ℕ) → Reading text n going code rest → (HasParts (record { code = code; cert = rest }) → ⊥) → IsOneLine rest → IsFault text n
early_stop text n going code rest r end one = stop_at text n going code rest r end (λ o line more h bytes is. feedless rest line more one h)

-- another line follows
pub line_stop : (text : List ℕ) (n : ℕ) (going : Bool) (code rest line behind : List ℕ) → Reading text n going code rest → (HasParts (record { code = code; cert = rest }) → ⊥) → HasLine rest line behind → IsNoLine line → IsFault text n
line_stop text n going code rest line behind r end h other =
    stop_at text n going code rest r end
    (λ o l more k bytes is. other bytes (record { fits = is.fits; some = is.some; few = is.few; is = is.is ∙ sym (same_line rest line l behind more h k.one k.parts).0 }))

-- a line of digits was read
pub line_read : (text : List ℕ) (n : ℕ) (going full : Bool) (code new rest line behind : List ℕ) → Reading text n going code rest → going ≡ true
    → HasLine rest line behind → IsPushed code new line → (full ≡ true → length line ≡ 64) → (full ≡ false → length line ≡ 64 → ⊥)
    → Reading text (n + 1) full new behind
line_read text n going full code new rest line behind r o h p is_full is_short =
    let size : length line ≡ 2 * length p.bytes = sym (ap length p.is.is) ∙ digits_twice p.bytes in
    let few = p.is.few in
    record {
      before = r.before ++ line ∷ [];
      parts = r.parts ∙ ap (λ l. text_of_lines r.before ++ l) h.parts ∙ sym (line_behind r.before line behind);
      count = omega (arith, r.count, length-append r.before (line ∷ []));
      few = omega (arith, r.few, ap length h.parts, length-append line (10 ∷ behind));
      leads = subst (Leads (r.before ++ line ∷ []) full) (sym p.all)
          (step r.before line code p.bytes full (subst (λ o. Leads r.before o code) o r.leads) p.is
          (λ e. let s = is_full e in omega (arith, size, s)) (λ e. short (is_short e) size few));
    }
  where
    short : (length line ≡ 64 → ⊥) → length line ≡ 2 * length p.bytes → length p.bytes ≤ 32 → length p.bytes < 32
    short h e f = by_size (cases_lt (length p.bytes) 32)
      where
        by_size : (length p.bytes < 32) ⊎ (32 ≤ length p.bytes) → length p.bytes < 32
        by_size (inl k) = k
        by_size (inr k) = absurd (h (omega arith))

pub line_next : (text : List ℕ) (n : ℕ) (going full : Bool) (code new rest line behind : List ℕ) → Reading text n going code rest → going ≡ true
    → HasLine rest line behind → IsPushed code new line → full ≡ (length line == 64) → Reading text (n + 1) full new behind
line_next text n going full code new rest line behind r o h p e =
    line_read text n going full code new rest line behind r o h p
    (λ t. let u : (length line == 64) ≡ true = sym e ∙ t in grind (arith, nat_tests, u))
    (λ f s. let t : (length line == 64) ≡ true = grind (arith, nat_tests, s) in let u : true ≡ false = sym t ∙ sym e ∙ f in absurd cc)

-- nothing is read yet
pub start_read : (text first code : List ℕ) → Reading text 2 true [] first → code ≡ [] → Reading text 2 true code first
start_read text first code r e = subst (λ code. Reading text 2 true code first) (sym e) r

-- all is read
pub all_read : (text : List ℕ) (n : ℕ) (going : Bool) (code rest : List ℕ) → Reading text n going code rest → HasParts (record { code = code; cert = rest }) → IsRead text code rest
all_read text n going code rest r p = record { parts = p; bytes = r.leads.bytes; is = done r.before going code rest text r.leads p.code r.parts }

-- there are fewer lines than bytes
pub few_lines : (text : List ℕ) (n : ℕ) (going : Bool) (code rest line behind : List ℕ) → Reading text n going code rest → length text < 2 ^ 32
    → HasLine rest line behind → n + 1 < 2 ^ 32
few_lines text n going code rest line behind r short h = omega (arith, r.few, short, line_shorter rest line behind h)

-- ---- what the loop's tests say

pub no_end : (slice code rest : List ℕ) → slice ≡ code → (HasParts (record { code = slice; cert = rest }) → ⊥) → HasParts (record { code = code; cert = rest }) → ⊥
no_end slice code rest e end p = end (subst (λ l. HasParts (record { code = l; cert = rest })) (sym e) p)

pub not_fits : (fits : Bool) (old new line : List ℕ) → MatchBool fits (IsPushed old new line) (IsNoLine line) → fits ≡ false → IsNoLine line
not_fits true old new line h e = absurd cc
not_fits false old new line h e = h

pub does_fit : (fits : Bool) (old new line : List ℕ) → MatchBool fits (IsPushed old new line) (IsNoLine line) → fits ≡ true → IsPushed old new line
does_fit true old new line h e = h
does_fit false old new line h e = absurd cc
