-- Which kind of token bytes are, by their first byte, and which front of some bytes is the longest token.
use Rattle.std.proofs.Common.{◌≡◌, ℕ, suc, zero, ◌+◌, ◌-◌, ◌<◌, ◌≤◌, Bool, true, false, cond, not, List, [], ◌∷◌, ◌++◌, length, get_or, take, drop, Some, None, sym, refl, ap, ◌∙◌, subst, ⊎_elim, arith, length-append}
use Rattle.std.specs.Prelude.{◌&&◌, ◌||◌, ◌==◌, nat_le}
use Rattle.std.specs.List.{list_any, list_all, prefix_len}
use Rattle.std.specs.Char.{is_ascii_lowercase, is_ascii_uppercase, is_ascii_digit}
use Rattle.std.specs.Str.{bytes_eq}
use Rattle.std.proofs.lemmas.Bool.{and_parts, and_left, and_right, and_from, or_cases, or_parts, false_from_ne_true, false≢true, ne_eqb, not-true, eqb-true}
use Rattle.std.proofs.lemmas.Bool.Decides.{nat_tests}
use Rattle.std.proofs.lemmas.Slice.Eq.{bytes_eq-Decides}
use Rattle.std.proofs.Math.Seq.{take-append-add}
use Rattle.std.proofs.lemmas.List.Sums.{prefix_len-le-length}
use Rattle.text_scan.specs.declared.tokens.TokenKind.{TokenKind}
use Rattle.text_scan.specs.declared.tokens.TokenKind.TheVariants.{Lower, Upper, TypeVar, Number, Keyword, Symbol}
use Rattle.text_scan.specs.Forms.{words, symbols, is_word, is_symbol, is_white, is_name_part, is_name, is_type_variable, is_number_token, token_kind, HasForm}
use Rattle.text_scan.specs.Comments.{opens_comment}
use Rattle.text_scan.specs.Steps.{name_run, digit_run}
use Rattle.text_scan.specs.Reading.{IsNextToken, BeginsNoToken}

-- what each entry of a table passes, whatever is in the table passes
among : (test : List ℕ → Bool) (table : List (List ℕ)) (bytes : List ℕ) → list_all test table ≡ true
    → list_any (λ entry. bytes_eq entry bytes) table ≡ true → test bytes ≡ true
among test [] bytes all any = absurd (false≢true any)
among test (x ∷ table) bytes all any =
    let parts = and_parts (test x) (list_all test table) all in
    ⊎_elim (λ here. subst (λ b. test b ≡ true) ((bytes_eq-Decides x bytes).0 here) parts.0) (λ there. among test table bytes parts.1 there) (or_cases (bytes_eq x bytes) _ any)

pub word_is_name : (bytes : List ℕ) → is_word bytes ≡ true → is_name is_ascii_lowercase bytes ≡ true
unfolding is_word words
word_is_name bytes word = among (is_name is_ascii_lowercase) words bytes refl word

-- words have two bytes to five
word_length : (bytes : List ℕ) → is_word bytes ≡ true → (nat_le 2 (length bytes) && nat_le (length bytes) 5) ≡ true
unfolding is_word words
word_length bytes word = among (λ b. nat_le 2 (length b) && nat_le (length b) 5) words bytes refl word

pub no_short_word : (bytes : List ℕ) → length bytes < 2 → is_word bytes ≡ false
no_short_word bytes h = false_from_ne_true _ (λ word. let i : nat_le 2 (length bytes) ≡ true = (and_parts _ _ (word_length bytes word)).0 in grind (arith, h, i))

pub no_long_word : (bytes : List ℕ) → 5 < length bytes → is_word bytes ≡ false
no_long_word bytes h = false_from_ne_true _ (λ word. let i : nat_le (length bytes) 5 ≡ true = (and_parts (nat_le 2 (length bytes)) _ (word_length bytes word)).1 in grind (arith, h, i))

-- the second byte of a sign that has two
abbrev ends_pair : List ℕ → Bool
ends_pair (a ∷ b ∷ []) = b == 61 || b == 62 || b == 38 || b == 124
ends_pair bytes = true

pair_ends : (bytes : List ℕ) → is_symbol bytes ≡ true → ends_pair bytes ≡ true
unfolding is_symbol symbols
pair_ends bytes symbol = among ends_pair symbols bytes refl symbol

pub no_pair : (a b : ℕ) → ¬ (b ≡ 61) → ¬ (b ≡ 62) → ¬ (b ≡ 38) → ¬ (b ≡ 124) → is_symbol (a ∷ b ∷ []) ≡ false
no_pair a b h i j k = false_from_ne_true _ (λ symbol. let e = pair_ends (a ∷ b ∷ []) symbol in grind (arith, h, i, j, k, e))

-- the first byte of some other token, or white space
abbrev is_taken : ℕ → Bool
is_taken b = is_white b || (is_ascii_lowercase b || (is_ascii_uppercase b || (is_ascii_digit b || b == 39)))

-- one byte or two, the first of them of no other token
abbrev is_symbol_like : List ℕ → Bool
is_symbol_like [] = false
is_symbol_like (a ∷ []) = not (is_taken a)
is_symbol_like (a ∷ b ∷ []) = not (is_taken a)
is_symbol_like (a ∷ b ∷ c ∷ bytes) = false

symbol_is_like : (bytes : List ℕ) → is_symbol bytes ≡ true → is_symbol_like bytes ≡ true
unfolding is_symbol symbols
symbol_is_like bytes symbol = among is_symbol_like symbols bytes refl symbol

no_symbol : (bytes : List ℕ) → is_symbol_like bytes ≡ false → is_symbol bytes ≡ false
no_symbol bytes unlike = false_from_ne_true _ (λ symbol. absurd (false≢true (sym unlike ∙ symbol_is_like bytes symbol)))

taken_is_unlike : (a : ℕ) (bytes : List ℕ) → is_taken a ≡ true → is_symbol_like (a ∷ bytes) ≡ false
taken_is_unlike a [] taken = ap not taken
taken_is_unlike a (b ∷ []) taken = ap not taken
taken_is_unlike a (b ∷ c ∷ bytes) taken = refl

no_word : (bytes : List ℕ) → is_name is_ascii_lowercase bytes ≡ false → is_word bytes ≡ false
no_word bytes unlike = false_from_ne_true _ (λ word. absurd (false≢true (sym unlike ∙ word_is_name bytes word)))

-- the kind, from the six tests
kind_from : (bytes : List ℕ) (w l u t n s : Bool) → is_word bytes ≡ w → is_name is_ascii_lowercase bytes ≡ l → is_name is_ascii_uppercase bytes ≡ u
    → is_type_variable bytes ≡ t → is_number_token bytes ≡ n → is_symbol bytes ≡ s
    → token_kind bytes ≡ cond w (Some Keyword) (cond l (Some Lower) (cond u (Some Upper) (cond t (Some TypeVar) (cond n (Some Number) (cond s (Some Symbol) None)))))
unfolding token_kind
kind_from bytes w l u t n s ew el eu et en es = cc

pub empty_kind : token_kind [] ≡ None
empty_kind = kind_from [] false false false false false false (no_word [] refl) refl refl refl refl (no_symbol [] refl)

lower_first : (b : ℕ) (bytes : List ℕ) → is_ascii_lowercase b ≡ true
    → token_kind (b ∷ bytes) ≡ cond (is_word (b ∷ bytes)) (Some Keyword) (cond (list_all is_name_part bytes) (Some Lower) None)
lower_first b bytes first =
    let upper : is_ascii_uppercase b ≡ false = grind (arith, nat_tests) in
    let quote : (b == 39) ≡ false = grind (arith, nat_tests) in
    let digit : is_ascii_digit b ≡ false = grind (arith, nat_tests) in
    let taken : is_taken b ≡ true = grind (arith, nat_tests) in
    kind_from (b ∷ bytes) (is_word (b ∷ bytes)) (list_all is_name_part bytes) false false false false refl (ap (λ x. x && list_all is_name_part bytes) first) (and_left _ _ upper) (and_left _ _ quote) (and_left _ _ digit) (no_symbol _ (taken_is_unlike b bytes taken))

upper_first : (b : ℕ) (bytes : List ℕ) → is_ascii_uppercase b ≡ true → token_kind (b ∷ bytes) ≡ cond (list_all is_name_part bytes) (Some Upper) None
upper_first b bytes first =
    let lower : is_ascii_lowercase b ≡ false = grind (arith, nat_tests) in
    let quote : (b == 39) ≡ false = grind (arith, nat_tests) in
    let digit : is_ascii_digit b ≡ false = grind (arith, nat_tests) in
    let taken : is_taken b ≡ true = grind (arith, nat_tests) in
    kind_from (b ∷ bytes) false false (list_all is_name_part bytes) false false false (no_word _ (and_left _ _ lower)) (and_left _ _ lower) (ap (λ x. x && list_all is_name_part bytes) first) (and_left _ _ quote) (and_left _ _ digit) (no_symbol _ (taken_is_unlike b bytes taken))

digit_first : (b : ℕ) (bytes : List ℕ) → is_ascii_digit b ≡ true → token_kind (b ∷ bytes) ≡ cond (list_all is_ascii_digit bytes) (Some Number) None
digit_first b bytes first =
    let lower : is_ascii_lowercase b ≡ false = grind (arith, nat_tests) in
    let upper : is_ascii_uppercase b ≡ false = grind (arith, nat_tests) in
    let quote : (b == 39) ≡ false = grind (arith, nat_tests) in
    let taken : is_taken b ≡ true = grind (arith, nat_tests) in
    kind_from (b ∷ bytes) false false false false (list_all is_ascii_digit bytes) false (no_word _ (and_left _ _ lower)) (and_left _ _ lower) (and_left _ _ upper) (and_left _ _ quote) (ap (λ x. x && list_all is_ascii_digit bytes) first) (no_symbol _ (taken_is_unlike b bytes taken))

quote_first : (bytes : List ℕ) → token_kind (39 ∷ bytes) ≡ cond (is_name is_ascii_lowercase bytes) (Some TypeVar) None
quote_first bytes = kind_from (39 ∷ bytes) false false false (is_name is_ascii_lowercase bytes) false false (no_word _ refl) refl refl refl refl (no_symbol _ (taken_is_unlike 39 bytes refl))

other_first : (b : ℕ) (bytes : List ℕ) → is_ascii_lowercase b ≡ false → is_ascii_uppercase b ≡ false → is_ascii_digit b ≡ false → (b == 39) ≡ false
    → token_kind (b ∷ bytes) ≡ cond (is_symbol (b ∷ bytes)) (Some Symbol) None
other_first b bytes lower upper digit quote =
    kind_from (b ∷ bytes) false false false false false (is_symbol (b ∷ bytes)) (no_word _ (and_left _ _ lower)) (and_left _ _ lower) (and_left _ _ upper) (and_left _ _ quote) (and_left _ _ digit) refl

-- white space begins no token
pub white_first : (b : ℕ) (bytes : List ℕ) → is_white b ≡ true → token_kind (b ∷ bytes) ≡ None
white_first b bytes white =
    let lower : is_ascii_lowercase b ≡ false = grind (arith, nat_tests) in
    let upper : is_ascii_uppercase b ≡ false = grind (arith, nat_tests) in
    let digit : is_ascii_digit b ≡ false = grind (arith, nat_tests) in
    let quote : (b == 39) ≡ false = grind (arith, nat_tests) in
    let taken : is_taken b ≡ true = grind (arith, nat_tests) in
    other_first b bytes lower upper digit quote ∙ ap (λ s. cond s (Some Symbol) None) (no_symbol _ (taken_is_unlike b bytes taken))

one_more : (n : ℕ) → 1 + n ≡ suc n
one_more n = omega arith

-- the front that passes a test passes it
run_passes_by : (p : ℕ → Bool) (b : ℕ) (bytes : List ℕ) (t : Bool) → p b ≡ t → list_all p (take (prefix_len p bytes) bytes) ≡ true
    → list_all p (take (cond t (1 + prefix_len p bytes) 0) (b ∷ bytes)) ≡ true
run_passes_by p b bytes true passes rest = subst (λ n. list_all p (take n (b ∷ bytes)) ≡ true) (sym (one_more (prefix_len p bytes))) (and_from (p b) _ passes rest)
run_passes_by p b bytes false fails rest = refl

run_passes : (p : ℕ → Bool) (bytes : List ℕ) → list_all p (take (prefix_len p bytes) bytes) ≡ true
run_passes p [] = refl
run_passes p (b ∷ bytes) = run_passes_by p b bytes (p b) refl (run_passes p bytes)

-- no longer front passes it
run_ends_by : (p : ℕ → Bool) (b : ℕ) (bytes : List ℕ) (more : ℕ) (t : Bool) → p b ≡ t
    → (prefix_len p bytes < more → list_all p (take more bytes) ≡ false) → cond t (1 + prefix_len p bytes) 0 < suc more
    → list_all p (b ∷ take more bytes) ≡ false
run_ends_by p b bytes more true passes ends longer = and_right (p b) _ (ends (omega arith))
run_ends_by p b bytes more false fails ends longer = and_left (p b) _ fails

run_ends : (p : ℕ → Bool) (bytes : List ℕ) (more : ℕ) → prefix_len p bytes < more → more ≤ length bytes → list_all p (take more bytes) ≡ false
run_ends p [] more longer within = absurd (omega arith)
run_ends p (b ∷ bytes) zero longer within = absurd (omega arith)
run_ends p (b ∷ bytes) (suc more) longer within = run_ends_by p b bytes more (p b) refl (λ above. run_ends p bytes more above (omega arith)) longer

-- A token that begins with `front` and runs on: what passes the test after the front is a token, and nothing else that
-- begins so is.
runs : (p : ℕ → Bool) (front bytes : List ℕ) (kind : TokenKind) → ((xs : List ℕ) → list_all p xs ≡ false → token_kind (front ++ xs) ≡ None)
    → token_kind (front ++ take (prefix_len p bytes) bytes) ≡ Some kind → opens_comment (front ++ bytes) ≡ false → IsNextToken (front ++ bytes) kind (length front + prefix_len p bytes)
runs p front bytes kind others whole no_comment = record {
  no_comment = no_comment;
  within = omega (arith, length-append front bytes, prefix_len-le-length p bytes);
  token = ap token_kind (take-append-add front bytes (prefix_len p bytes)) ∙ whole;
  longest = λ more longer within.
      let rest : ℕ = more - length front in
      let total : more ≡ length front + rest = omega arith in
      let above : prefix_len p bytes < rest = omega arith in
      let fits : rest ≤ length bytes = omega (arith, length-append front bytes) in
      ap token_kind (ap (λ n. take n (front ++ bytes)) total ∙ take-append-add front bytes rest) ∙ others (take rest bytes) (run_ends p bytes rest above fits);
}

-- ---- what the code finds at the first byte

lower_fails : (b : ℕ) (xs : List ℕ) → is_ascii_lowercase b ≡ true → list_all is_name_part xs ≡ false → token_kind (b ∷ xs) ≡ None
lower_fails b xs first fails =
    let no_keyword : is_word (b ∷ xs) ≡ false = no_word (b ∷ xs) (and_right (is_ascii_lowercase b) _ fails) in
    lower_first b xs first ∙ (λ i. cond (no_keyword i) (Some Keyword) (cond (fails i) (Some Lower) None))

pub lower_token : (bytes : List ℕ) (size : ℕ) → opens_comment bytes ≡ false → 0 < length bytes → is_ascii_lowercase (get_or bytes 0 0) ≡ true
    → size ≡ 1 + name_run (drop 1 bytes) → (name_test : Bool) → name_test ≡ is_word (take size bytes) → name_test ≡ false → IsNextToken bytes Lower size
unfolding name_run
lower_token [] size no_comment nonempty first is name_test name_is name_so = absurd (omega arith)
lower_token (b ∷ bytes) size no_comment nonempty first is name_test name_is name_so =
    let n : ℕ = prefix_len is_name_part bytes in
    let no_keyword : is_word (b ∷ take n bytes) ≡ false = subst (λ k. is_word (take k (b ∷ bytes)) ≡ false) (is ∙ one_more n) (sym name_is ∙ name_so) in
    let passes : list_all is_name_part (take n bytes) ≡ true = run_passes is_name_part bytes in
    subst (IsNextToken (b ∷ bytes) Lower) (sym is) (runs is_name_part (b ∷ []) bytes Lower
    (λ xs fails. lower_fails b xs first fails)
    (lower_first b _ first ∙ (λ i. cond (no_keyword i) (Some Keyword) (cond (passes i) (Some Lower) None)))
    no_comment)

pub keyword_token : (bytes : List ℕ) (size : ℕ) → opens_comment bytes ≡ false → 0 < length bytes → is_ascii_lowercase (get_or bytes 0 0) ≡ true
    → size ≡ 1 + name_run (drop 1 bytes) → (word_test : Bool) → word_test ≡ is_word (take size bytes) → word_test ≡ true → IsNextToken bytes Keyword size
unfolding name_run
keyword_token [] size no_comment nonempty first is word_test word_is word_so = absurd (omega arith)
keyword_token (b ∷ bytes) size no_comment nonempty first is word_test word_is word_so =
    let n : ℕ = prefix_len is_name_part bytes in
    let keyword : is_word (b ∷ take n bytes) ≡ true = subst (λ k. is_word (take k (b ∷ bytes)) ≡ true) (is ∙ one_more n) (sym word_is ∙ word_so) in
    subst (IsNextToken (b ∷ bytes) Keyword) (sym is) (runs is_name_part (b ∷ []) bytes Keyword
    (λ xs fails. lower_fails b xs first fails)
    (lower_first b _ first ∙ (λ i. cond (keyword i) (Some Keyword) (cond (list_all is_name_part (take n bytes)) (Some Lower) None)))
    no_comment)

pub upper_token : (bytes : List ℕ) (size : ℕ) → opens_comment bytes ≡ false → 0 < length bytes → (first_test : Bool)
    → first_test ≡ is_ascii_uppercase (get_or bytes 0 0) → first_test ≡ true
    → size ≡ 1 + name_run (drop 1 bytes) → IsNextToken bytes Upper size
unfolding name_run
upper_token [] size no_comment nonempty first_test first_is first_so is = absurd (omega arith)
upper_token (b ∷ bytes) size no_comment nonempty first_test first_is first_so is =
    let passes = run_passes is_name_part bytes in
    subst (IsNextToken (b ∷ bytes) Upper) (sym is) (runs is_name_part (b ∷ []) bytes Upper
    (λ xs fails. upper_first b xs (sym first_is ∙ first_so) ∙ ap (λ t. cond t (Some Upper) None) fails)
    (upper_first b _ (sym first_is ∙ first_so) ∙ ap (λ t. cond t (Some Upper) None) passes)
    no_comment)

pub number_token : (bytes : List ℕ) (size : ℕ) → opens_comment bytes ≡ false → 0 < length bytes → (first_test : Bool)
    → first_test ≡ is_ascii_digit (get_or bytes 0 0) → first_test ≡ true
    → size ≡ 1 + digit_run (drop 1 bytes) → IsNextToken bytes Number size
unfolding digit_run
number_token [] size no_comment nonempty first_test first_is first_so is = absurd (omega arith)
number_token (b ∷ bytes) size no_comment nonempty first_test first_is first_so is =
    let passes = run_passes is_ascii_digit bytes in
    subst (IsNextToken (b ∷ bytes) Number) (sym is) (runs is_ascii_digit (b ∷ []) bytes Number
    (λ xs fails. digit_first b xs (sym first_is ∙ first_so) ∙ ap (λ t. cond t (Some Number) None) fails)
    (digit_first b _ (sym first_is ∙ first_so) ∙ ap (λ t. cond t (Some Number) None) passes)
    no_comment)

pub type_variable_token : (bytes : List ℕ) (size : ℕ) → opens_comment bytes ≡ false → 1 < length bytes → get_or bytes 0 0 ≡ 39 → (first_test : Bool)
    → first_test ≡ is_ascii_lowercase (get_or bytes 1 0) → first_test ≡ true
    → size ≡ 2 + name_run (drop 2 bytes) → IsNextToken bytes TypeVar size
unfolding name_run
type_variable_token [] size no_comment long quote first_test first_is first_so is = absurd (omega arith)
type_variable_token (a ∷ []) size no_comment long quote first_test first_is first_so is = absurd (omega arith)
type_variable_token (a ∷ b ∷ bytes) size no_comment long quote first_test first_is first_so is =
    let passes = run_passes is_name_part bytes in
    let named : (xs : List ℕ) (t : Bool) → list_all is_name_part xs ≡ t → token_kind (a ∷ b ∷ xs) ≡ cond t (Some TypeVar) None = λ xs t e. ap (λ q. token_kind (q ∷ b ∷ xs)) quote ∙ quote_first (b ∷ xs) ∙ (λ i. cond ((sym first_is ∙ first_so) i && e i) (Some TypeVar) None) in
    subst (IsNextToken (a ∷ b ∷ bytes) TypeVar) (sym is) (runs is_name_part (a ∷ b ∷ []) bytes TypeVar
    (λ xs fails. named xs false fails)
    (named _ true passes)
    no_comment)

quote_end : (size : ℕ) → cond (is_name is_ascii_lowercase (take size [])) (Some TypeVar) None ≡ None
quote_end zero = refl
quote_end (suc size) = refl

quote_fronts : (bytes : List ℕ) (size : ℕ) → 0 < length bytes → get_or bytes 0 0 ≡ 39
    → (1 < length bytes → is_ascii_lowercase (get_or bytes 1 0) ≡ false) → token_kind (take size bytes) ≡ None
quote_fronts [] size nonempty quote next = absurd (omega arith)
quote_fronts (a ∷ bytes) zero nonempty quote next = empty_kind
quote_fronts (a ∷ []) (suc size) nonempty quote next = ap (λ q. token_kind (q ∷ take size [])) quote ∙ quote_first (take size []) ∙ quote_end size
quote_fronts (a ∷ b ∷ bytes) (suc zero) nonempty quote next = ap (λ q. token_kind (q ∷ [])) quote ∙ quote_first []
quote_fronts (a ∷ b ∷ bytes) (suc (suc size)) nonempty quote next =
    let fails : is_ascii_lowercase b ≡ false = next (omega arith) in
    ap (λ q. token_kind (q ∷ b ∷ take size bytes)) quote ∙ quote_first (b ∷ take size bytes) ∙ ap (λ t. cond t (Some TypeVar) None) (and_left (is_ascii_lowercase b) _ fails)

-- a quote that no lower-case letter follows begins no token
pub quote_alone : (bytes : List ℕ) → 0 < length bytes → get_or bytes 0 0 ≡ 39 → (1 < length bytes → is_ascii_lowercase (get_or bytes 1 0) ≡ false)
    → BeginsNoToken bytes
quote_alone bytes nonempty quote next = record { none = λ size. quote_fronts bytes size nonempty quote next }

-- the first byte is none of another token
record IsOther (a : ℕ) : Type 0 where
  lower : is_ascii_lowercase a ≡ false
  upper : is_ascii_uppercase a ≡ false
  digit : is_ascii_digit a ≡ false
  quote : (a == 39) ≡ false

other_kind : (a : ℕ) (bytes : List ℕ) (t : Bool) → IsOther a → is_symbol (a ∷ bytes) ≡ t → token_kind (a ∷ bytes) ≡ cond t (Some Symbol) None
other_kind a bytes t other e = other_first a bytes other.lower other.upper other.digit other.quote ∙ ap (λ s. cond s (Some Symbol) None) e

longer_symbol : (a b : ℕ) (bytes : List ℕ) (more : ℕ) → IsOther a → 2 < more → more ≤ suc (suc (length bytes)) → token_kind (take more (a ∷ b ∷ bytes)) ≡ None
longer_symbol a b bytes zero other longer within = absurd (omega arith)
longer_symbol a b bytes (suc zero) other longer within = absurd (omega arith)
longer_symbol a b bytes (suc (suc zero)) other longer within = absurd (omega arith)
longer_symbol a b [] (suc (suc (suc more))) other longer within = absurd (omega arith)
longer_symbol a b (c ∷ bytes) (suc (suc (suc more))) other longer within = other_kind a (b ∷ c ∷ take more bytes) false other (no_symbol _ refl)

double_at : (bytes : List ℕ) → opens_comment bytes ≡ false → 1 < length bytes → IsOther (get_or bytes 0 0) → is_symbol (take 2 bytes) ≡ true
    → IsNextToken bytes Symbol 2
double_at [] no_comment long other symbol = absurd (omega arith)
double_at (a ∷ []) no_comment long other symbol = absurd (omega arith)
double_at (a ∷ b ∷ bytes) no_comment long other symbol = record {
  no_comment = no_comment;
  within = omega arith;
  token = other_kind a (b ∷ []) true other symbol;
  longest = λ more longer within. longer_symbol a b bytes more other longer within;
}

beyond_single : (a : ℕ) (bytes : List ℕ) (more : ℕ) → IsOther a → (1 < length (a ∷ bytes) → is_symbol (take 2 (a ∷ bytes)) ≡ false) → 1 < more
    → more ≤ suc (length bytes) → token_kind (take more (a ∷ bytes)) ≡ None
beyond_single a bytes zero other alone longer within = absurd (omega arith)
beyond_single a bytes (suc zero) other alone longer within = absurd (omega arith)
beyond_single a [] (suc (suc more)) other alone longer within = absurd (omega arith)
beyond_single a (b ∷ bytes) (suc (suc zero)) other alone longer within = other_kind a (b ∷ []) false other (alone (omega arith))
beyond_single a (b ∷ bytes) (suc (suc (suc more))) other alone longer within = longer_symbol a b bytes (suc (suc (suc more))) other (omega arith) within

single_at : (bytes : List ℕ) → opens_comment bytes ≡ false → 0 < length bytes → IsOther (get_or bytes 0 0) → is_symbol (take 1 bytes) ≡ true
    → (1 < length bytes → is_symbol (take 2 bytes) ≡ false) → IsNextToken bytes Symbol 1
single_at [] no_comment nonempty other symbol alone = absurd (omega arith)
single_at (a ∷ bytes) no_comment nonempty other symbol alone = record {
  no_comment = no_comment;
  within = omega arith;
  token = other_kind a [] true other symbol;
  longest = λ more longer within. beyond_single a bytes more other alone longer within;
}

other_fronts : (bytes : List ℕ) (size : ℕ) → 0 < length bytes → IsOther (get_or bytes 0 0) → is_symbol (take 1 bytes) ≡ false
    → (1 < length bytes → is_symbol (take 2 bytes) ≡ false) → token_kind (take size bytes) ≡ None
other_fronts [] size nonempty other single alone = absurd (omega arith)
other_fronts (a ∷ bytes) zero nonempty other single alone = empty_kind
other_fronts (a ∷ []) (suc zero) nonempty other single alone = other_kind a [] false other single
other_fronts (a ∷ []) (suc (suc size)) nonempty other single alone = other_kind a [] false other single
other_fronts (a ∷ b ∷ bytes) (suc zero) nonempty other single alone = other_kind a [] false other single
other_fronts (a ∷ b ∷ bytes) (suc (suc zero)) nonempty other single alone = other_kind a (b ∷ []) false other (alone (omega arith))
other_fronts (a ∷ b ∷ []) (suc (suc (suc size))) nonempty other single alone = other_kind a (b ∷ []) false other (alone (omega arith))
other_fronts (a ∷ b ∷ c ∷ bytes) (suc (suc (suc size))) nonempty other single alone = other_kind a (b ∷ c ∷ take size bytes) false other (no_symbol _ refl)

no_symbol_at : (bytes : List ℕ) → 0 < length bytes → IsOther (get_or bytes 0 0) → is_symbol (take 1 bytes) ≡ false
    → (1 < length bytes → is_symbol (take 2 bytes) ≡ false) → BeginsNoToken bytes
no_symbol_at bytes nonempty other single alone = record { none = λ size. other_fronts bytes size nonempty other single alone }

other_from : (a : ℕ) → is_ascii_lowercase a ≡ false → is_ascii_uppercase a ≡ false → is_ascii_digit a ≡ false → (a ≡ 39 → ⊥) → IsOther a
other_from a lower upper digit quote = record { lower = lower; upper = upper; digit = digit; quote = ne_eqb a 39 quote }

pub double_symbol : (bytes : List ℕ) → opens_comment bytes ≡ false → 1 < length bytes
    → is_ascii_lowercase (get_or bytes 0 0) ≡ false → is_ascii_uppercase (get_or bytes 0 0) ≡ false → is_ascii_digit (get_or bytes 0 0) ≡ false → (get_or bytes 0 0 ≡ 39 → ⊥)
    → is_symbol (take 2 bytes) ≡ true → IsNextToken bytes Symbol 2
double_symbol bytes no_comment long lower upper digit quote symbol = double_at bytes no_comment long (other_from _ lower upper digit quote) symbol

pub single_symbol : (bytes : List ℕ) → opens_comment bytes ≡ false → 0 < length bytes
    → is_ascii_lowercase (get_or bytes 0 0) ≡ false → is_ascii_uppercase (get_or bytes 0 0) ≡ false → is_ascii_digit (get_or bytes 0 0) ≡ false → (get_or bytes 0 0 ≡ 39 → ⊥)
    → is_symbol (take 1 bytes) ≡ true → (1 < length bytes → is_symbol (take 2 bytes) ≡ false) → IsNextToken bytes Symbol 1
single_symbol bytes no_comment nonempty lower upper digit quote symbol alone = single_at bytes no_comment nonempty (other_from _ lower upper digit quote) symbol alone

pub no_symbol_token : (bytes : List ℕ) → 0 < length bytes
    → is_ascii_lowercase (get_or bytes 0 0) ≡ false → is_ascii_uppercase (get_or bytes 0 0) ≡ false → is_ascii_digit (get_or bytes 0 0) ≡ false → (get_or bytes 0 0 ≡ 39 → ⊥)
    → is_symbol (take 1 bytes) ≡ false → (1 < length bytes → is_symbol (take 2 bytes) ≡ false) → BeginsNoToken bytes
no_symbol_token bytes nonempty lower upper digit quote single alone = no_symbol_at bytes nonempty (other_from _ lower upper digit quote) single alone

-- ---- the kinds are the rows of the table

-- the six tests, of which the first that holds gives the kind
abbrev row_of : Bool → Bool → Bool → Bool → Bool → Bool → TokenKind → Type 0
row_of w l u t n s Lower = (l ≡ true) × (w ≡ false)
row_of w l u t n s Upper = u ≡ true
row_of w l u t n s TypeVar = t ≡ true
row_of w l u t n s Number = n ≡ true
row_of w l u t n s Keyword = w ≡ true
row_of w l u t n s Symbol = s ≡ true

some_kind : (a b : TokenKind) → Some a ≡ Some b → a ≡ b
some_kind a b same = cc

row_from : (w l u t n s : Bool) (k : TokenKind)
    → cond w (Some Keyword) (cond l (Some Lower) (cond u (Some Upper) (cond t (Some TypeVar) (cond n (Some Number) (cond s (Some Symbol) None))))) ≡ Some k → row_of w l u t n s k
row_from true l u t n s k kind = subst (row_of true l u t n s) (some_kind Keyword k kind) refl
row_from false true u t n s k kind = subst (row_of false true u t n s) (some_kind Lower k kind) (refl, refl)
row_from false false true t n s k kind = subst (row_of false false true t n s) (some_kind Upper k kind) refl
row_from false false false true n s k kind = subst (row_of false false false true n s) (some_kind TypeVar k kind) refl
row_from false false false false true s k kind = subst (row_of false false false false true s) (some_kind Number k kind) refl
row_from false false false false false true k kind = subst (row_of false false false false false true) (some_kind Symbol k kind) refl
row_from false false false false false false k kind = absurd cc

form_by : (bytes : List ℕ) (k : TokenKind)
    → row_of (is_word bytes) (is_name is_ascii_lowercase bytes) (is_name is_ascii_uppercase bytes) (is_type_variable bytes) (is_number_token bytes) (is_symbol bytes) k → HasForm k bytes
form_by bytes Lower row = row
form_by bytes Upper row = row
form_by bytes TypeVar row = row
form_by bytes Number row = row
form_by bytes Keyword row = row
form_by bytes Symbol row = row

pub form_from_kind : (bytes : List ℕ) (k : TokenKind) → token_kind bytes ≡ Some k → HasForm k bytes
form_from_kind bytes k kind =
    form_by bytes k (row_from _ _ _ _ _ _ k (sym (kind_from bytes (is_word bytes) (is_name is_ascii_lowercase bytes) (is_name is_ascii_uppercase bytes) (is_type_variable bytes) (is_number_token bytes) (is_symbol bytes) refl refl refl refl refl refl) ∙ kind))

untaken : (a : ℕ) (bytes : List ℕ) → is_symbol_like (a ∷ bytes) ≡ true → is_taken a ≡ false
untaken a [] like = not-true (is_taken a) like
untaken a (b ∷ []) like = not-true (is_taken a) like
untaken a (b ∷ c ∷ bytes) like = absurd (false≢true like)

pub kind_from_form : (bytes : List ℕ) (k : TokenKind) → HasForm k bytes → token_kind bytes ≡ Some k
kind_from_form [] Lower form = absurd (false≢true form.0)
kind_from_form (b ∷ bytes) Lower form =
    let parts = and_parts (is_ascii_lowercase b) (list_all is_name_part bytes) form.0 in
    lower_first b bytes parts.0 ∙ (λ i. cond (form.1 i) (Some Keyword) (cond (parts.1 i) (Some Lower) None))
kind_from_form [] Upper form = absurd (false≢true form)
kind_from_form (b ∷ bytes) Upper form =
    let parts = and_parts (is_ascii_uppercase b) (list_all is_name_part bytes) form in
    upper_first b bytes parts.0 ∙ ap (λ t. cond t (Some Upper) None) parts.1
kind_from_form [] TypeVar form = absurd (false≢true form)
kind_from_form (b ∷ bytes) TypeVar form =
    let parts = and_parts (b == 39) (is_name is_ascii_lowercase bytes) form in
    ap (λ q. token_kind (q ∷ bytes)) (eqb-true b 39 parts.0) ∙ quote_first bytes ∙ ap (λ t. cond t (Some TypeVar) None) parts.1
kind_from_form [] Number form = absurd (false≢true form)
kind_from_form (b ∷ bytes) Number form =
    let parts = and_parts (is_ascii_digit b) (list_all is_ascii_digit bytes) form in
    digit_first b bytes parts.0 ∙ ap (λ t. cond t (Some Number) None) parts.1
kind_from_form bytes Keyword form = kind_from bytes true (is_name is_ascii_lowercase bytes) (is_name is_ascii_uppercase bytes) (is_type_variable bytes) (is_number_token bytes) (is_symbol bytes) form refl refl refl refl refl
kind_from_form [] Symbol form = absurd (false≢true (symbol_is_like [] form))
kind_from_form (b ∷ bytes) Symbol form =
    let free = untaken b bytes (symbol_is_like (b ∷ bytes) form) in
    let others = or_parts (is_white b) _ free in
    let after_lower = or_parts (is_ascii_lowercase b) _ others.1 in
    let after_upper = or_parts (is_ascii_uppercase b) _ after_lower.1 in
    let after_digit = or_parts (is_ascii_digit b) _ after_upper.1 in
    other_first b bytes after_lower.0 after_upper.0 after_digit.0 after_digit.1 ∙ ap (λ t. cond t (Some Symbol) None) form

-- a number token is a number
pub number_kind : (bytes : List ℕ) → token_kind bytes ≡ Some Number → is_number_token bytes ≡ true
number_kind bytes kind = form_from_kind bytes Number kind

-- for the functions that find a token by its first byte
pub ruleset lower_answers = (lower_token, keyword_token)

pub ruleset variable_answers = (type_variable_token, quote_alone)

pub ruleset symbol_answers = (double_symbol, single_symbol, no_symbol_token)

pub ruleset token_answers = (upper_token, number_token)
