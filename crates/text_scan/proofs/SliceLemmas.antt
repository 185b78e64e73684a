-- The tokens of a text are slices of it, in order.
use Rattle.std.proofs.Common.{◌≡◌, ℕ, ◌+◌, ◌-◌, ◌≤◌, true, List, [], ◌∷◌, length, take, drop, sym, refl, ap, ◌∙◌, subst, arith, length-drop}
use Rattle.std.specs.Prelude.{Result, Ok, Err, IfOk}
use Rattle.std.specs.List.{All, AllByRecursion}
use Rattle.std.proofs.lemmas.List.Elements.{All-from_recursion}
use Rattle.std.proofs.lemmas.Bool.{false≢true}
use Rattle.text_scan.specs.declared.tokens.TokenKind.{TokenKind}
use Rattle.text_scan.specs.declared.tokens.Token.{Token}
use Rattle.text_scan.specs.declared.tokens.Piece.{Piece}
use Rattle.text_scan.specs.declared.tokens.Piece.TheVariants.{White, Comment, Lexeme}
use Rattle.text_scan.specs.Forms.{token_kind, is_long_number, is_long_name}
use Rattle.text_scan.specs.Reading.{begins_white, IsNextLexeme, StandsAt, size_of, Reads, line_at, tokens_of, AreTokensOf, IsSliceOf, AreInOrder}
use Rattle.text_scan.proofs.FormLemmas.{form_from_kind}
use Rattle.text_scan.proofs.ScanLemmas.{token_nonempty}

white_within : (bytes : List ℕ) → begins_white bytes ≡ true → 1 ≤ length bytes
white_within [] white = absurd (false≢true white)
white_within (b ∷ bytes) white = omega arith

piece_within : (bytes : List ℕ) (p : Piece) → StandsAt bytes p → size_of p ≤ length bytes
piece_within bytes White stands = white_within bytes stands
piece_within bytes (Comment size) stands = stands.within
piece_within bytes (Lexeme kind size) stands = stands.next.within

next_within : (text : List ℕ) (p : Piece) (at : ℕ) → at ≤ length text → StandsAt (drop at text) p → at + size_of p ≤ length text
next_within text p at within stands = omega (arith, piece_within (drop at text) p stands, length-drop at text)

lexeme_slice : (text : List ℕ) (kind : TokenKind) (size at : ℕ) → at ≤ length text → IsNextLexeme (drop at text) kind size
    → IsSliceOf text (record { kind = kind; start = at; end = at + size; line = line_at text at })
lexeme_slice text kind size at within stands =
    let nonempty = token_nonempty (drop at text) kind size stands.next in
    let part : at + size - at ≡ size = omega arith in
    record {
      nonempty = omega (arith, nonempty);
      within = omega (arith, stands.next.within, length-drop at text);
      form = form_from_kind (take (at + size - at) (drop at text)) kind (ap (λ n. token_kind (take n (drop at text))) part ∙ stands.next.token);
      line = refl;
      no_long_number = ap (λ n. is_long_number kind (take n (drop at text))) part ∙ stands.no_long_number;
      no_long_name = ap (λ n. is_long_name kind (take n (drop at text))) part ∙ stands.no_long_name;
    }

slices_by : (text : List ℕ) (pieces : List Piece) (at end : ℕ) → at ≤ length text → Reads text pieces at end
    → AllByRecursion (IsSliceOf text) (tokens_of text pieces at)
slices_by text [] at end within reads = tt
slices_by text (White ∷ pieces) at end within reads = slices_by text pieces (at + 1) end (next_within text White at within reads.0) reads.1
slices_by text (Comment size ∷ pieces) at end within reads = slices_by text pieces (at + size) end (next_within text (Comment size) at within reads.0) reads.1
slices_by text (Lexeme kind size ∷ pieces) at end within reads =
    (lexeme_slice text kind size at within reads.0, slices_by text pieces (at + size) end (next_within text (Lexeme kind size) at within reads.0) reads.1)

-- the first token begins at the place or after it
abbrev BeginFrom : ℕ → List Token → Type 0
BeginFrom at [] = Unit {0}
BeginFrom at (t ∷ tokens) = at ≤ t.start

later_begin : (at n : ℕ) (tokens : List Token) → BeginFrom (at + n) tokens → BeginFrom at tokens
later_begin at n [] later = tt
later_begin at n (t ∷ tokens) later = omega (arith, later)

begin_from : (text : List ℕ) (pieces : List Piece) (at : ℕ) → BeginFrom at (tokens_of text pieces at)
begin_from text [] at = tt
begin_from text (White ∷ pieces) at = later_begin at 1 (tokens_of text pieces (at + 1)) (begin_from text pieces (at + 1))
begin_from text (Comment size ∷ pieces) at = later_begin at size (tokens_of text pieces (at + size)) (begin_from text pieces (at + size))
begin_from text (Lexeme kind size ∷ pieces) at = omega arith

order_cons : (t : Token) (tokens : List Token) → BeginFrom t.end tokens → AreInOrder tokens → AreInOrder (t ∷ tokens)
order_cons t [] begins order = tt
order_cons t (u ∷ tokens) begins order = (begins, order)

order_by : (text : List ℕ) (pieces : List Piece) (at : ℕ) → AreInOrder (tokens_of text pieces at)
order_by text [] at = tt
order_by text (White ∷ pieces) at = order_by text pieces (at + 1)
order_by text (Comment size ∷ pieces) at = order_by text pieces (at + size)
order_by text (Lexeme kind size ∷ pieces) at = order_cons (record { kind = kind; start = at; end = at + size; line = line_at text at }) (tokens_of text pieces (at + size)) (begin_from text pieces (at + size)) (order_by text pieces (at + size))

slices : (text : List ℕ) (tokens : List Token) → AreTokensOf text tokens → All (IsSliceOf text) tokens
slices text tokens read =
    subst (All (IsSliceOf text)) (sym read.are) (All-from_recursion (IsSliceOf text) (tokens_of text read.pieces 0) (slices_by text read.pieces 0 (length text) (omega arith) read.reads))

in_order : (text : List ℕ) (tokens : List Token) → AreTokensOf text tokens → AreInOrder tokens
in_order text tokens read = subst AreInOrder (sym read.are) (order_by text read.pieces 0)

-- each token takes up a byte at least
count_by_end : (text : List ℕ) (pieces : List Piece) (at end : ℕ) → Reads text pieces at end → length (tokens_of text pieces at) + at ≤ end
count_by_end text [] at end reads = omega (arith, reads)
count_by_end text (White ∷ pieces) at end reads = let rest = count_by_end text pieces (at + 1) end reads.1 in omega (arith, rest)
count_by_end text (Comment size ∷ pieces) at end reads = let rest = count_by_end text pieces (at + size) end reads.1 in omega (arith, rest)
count_by_end text (Lexeme kind size ∷ pieces) at end reads =
    let rest = count_by_end text pieces (at + size) end reads.1 in
    let nonempty = token_nonempty (drop at text) kind size reads.0.next in
    omega (arith, rest, nonempty)

few : (text : List ℕ) (tokens : List Token) → AreTokensOf text tokens → length tokens ≤ length text
few text tokens read = let counted = count_by_end text read.pieces 0 (length text) read.reads in omega (arith, counted, ap length read.are)

-- the same of an answer
pub answered_count : {V E : Type 0} (items : V → List Token) (text : List ℕ) (r : Result V E) → IfOk r (λ v. AreTokensOf text (items v))
    → IfOk r (λ v. length (items v) ≤ length text)
answered_count items text (Ok v) right = few text (items v) right
answered_count items text (Err e) right = tt

pub answered_slices : {V E : Type 0} (items : V → List Token) (text : List ℕ) (r : Result V E) → IfOk r (λ v. AreTokensOf text (items v))
    → IfOk r (λ v. All (IsSliceOf text) (items v))
answered_slices items text (Ok v) right = slices text (items v) right
answered_slices items text (Err e) right = tt

pub answered_order : {V E : Type 0} (items : V → List Token) (text : List ℕ) (r : Result V E) → IfOk r (λ v. AreTokensOf text (items v))
    → IfOk r (λ v. AreInOrder (items v))
answered_order items text (Ok v) right = in_order text (items v) right
answered_order items text (Err e) right = tt
