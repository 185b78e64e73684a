-- What the scanner finds at one place, and how a reading goes on by one piece.
use Rattle.std.proofs.Common.{◌≡◌, ℕ, suc, zero, ◌+◌, ◌-◌, ◌<◌, ◌≤◌, Bool, true, false, cond, List, [], ◌∷◌, ◌++◌, length, take, drop, sym, refl, ap, ◌∙◌, subst, arith, append-nil, append_assoc, length-take-le, length-drop}
use Rattle.std.specs.Prelude.{◌==◌}
use Rattle.std.proofs.lemmas.Bool.{false≢true}
use Rattle.std.proofs.lemmas.List.Sums.{sum_by-append, count_by-le-length}
use Rattle.std.proofs.lemmas.List.{take_rest}
use Rattle.std.proofs.Math.Seq.{take-add}
use Rattle.text_scan.specs.declared.tokens.TokenKind.{TokenKind}
use Rattle.text_scan.specs.declared.tokens.Token.{Token}
use Rattle.text_scan.specs.declared.tokens.Piece.{Piece}
use Rattle.text_scan.specs.declared.fault.ScanFault.{ScanFault}
use Rattle.text_scan.specs.declared.fault.ScanFault.TheVariants.{BadCharacter, OpenComment, LongNumber, LongName}
use Rattle.text_scan.specs.Forms.{is_long_number, is_long_name}
use Rattle.text_scan.specs.Comments.{opens_comment}
use Rattle.text_scan.specs.Reading.{begins_white, IsNextComment, BeginsNoComment, IsNextToken, BeginsNoToken, IsNextLexeme, StandsAt, size_of, Reads, line_feeds, line_at, tokens_in, tokens_of, AreTokensOf, Stops, IsFaultOf}
use Rattle.text_scan.specs.Steps.{StopsAt}
use Rattle.text_scan.proofs.FormLemmas.{empty_kind}
use Rattle.text_scan.proofs.ReadingLemmas.{none_is_some}

pub lexeme_stands : (bytes : List ℕ) (kind : TokenKind) (size : ℕ) → IsNextToken bytes kind size
    → (number : Bool) → number ≡ is_long_number kind (take size bytes) → number ≡ false → (name : Bool) → name ≡ is_long_name kind (take size bytes)
    → name ≡ false → IsNextLexeme bytes kind size
lexeme_stands bytes kind size next number number_is no_number name name_is no_name = record { next = next; no_long_number = sym number_is ∙ no_number; no_long_name = sym name_is ∙ no_name }

pub long_number_stops : (bytes : List ℕ) (kind : TokenKind) (size at : ℕ) → IsNextToken bytes kind size → (number : Bool)
    → number ≡ is_long_number kind (take size bytes) → number ≡ true → StopsAt bytes at (LongNumber at)
long_number_stops bytes kind size at next number is long = record { place = refl; stops = record { kind = kind; size = size; next = next; long = sym is ∙ long } }

pub long_name_stops : (bytes : List ℕ) (kind : TokenKind) (size at : ℕ) → IsNextToken bytes kind size → (name : Bool)
    → name ≡ is_long_name kind (take size bytes) → name ≡ true → StopsAt bytes at (LongName at)
long_name_stops bytes kind size at next name is long = record { place = refl; stops = record { kind = kind; size = size; next = next; long = sym is ∙ long } }

pub bad_character_stops : (bytes : List ℕ) (at : ℕ) → 0 < length bytes → begins_white bytes ≡ false → opens_comment bytes ≡ false
    → BeginsNoToken bytes → StopsAt bytes at (BadCharacter at)
bad_character_stops bytes at nonempty no_white no_comment no_token = record { place = refl; stops = record { no_end = nonempty; no_white = no_white; no_comment = no_comment; no_token = no_token } }

pub open_comment_stops : (bytes : List ℕ) (at : ℕ) → (opens : Bool) → opens ≡ opens_comment bytes → opens ≡ true → BeginsNoComment bytes
    → StopsAt bytes at (OpenComment at)
open_comment_stops bytes at opens is so unclosed = record { place = refl; stops = record { opens = sym is ∙ so; unclosed = unclosed } }

pub token_nonempty : (bytes : List ℕ) (kind : TokenKind) (size : ℕ) → IsNextToken bytes kind size → 0 < size
token_nonempty bytes kind zero next = absurd (none_is_some kind _ empty_kind next.token)
token_nonempty bytes kind (suc size) next = omega arith

pub comment_nonempty : (bytes : List ℕ) (size : ℕ) → IsNextComment bytes size → 0 < size
comment_nonempty bytes zero comment = absurd (false≢true comment.comment)
comment_nonempty bytes (suc size) comment = omega arith

-- ---- the reading of a text

-- up to `at`, in this line, the text is read, and these are its tokens
pub record TextRead (text : List ℕ) (tokens : List Token) (at line : ℕ) : Type 0 where
  pub pieces : List Piece
  pub reads : Reads text pieces 0 at
  pub are : tokens ≡ tokens_of text pieces 0
  pub line_is : line ≡ line_at text at
  pub line_small : line ≤ at + 1
  pub within : at ≤ length text

-- the same as one word, which tactics don't look into
unfoldable pub ReadSoFar : List ℕ → List Token → ℕ → ℕ → Type 0
ReadSoFar text tokens at line = TextRead text tokens at line

no_feeds : line_feeds [] ≡ 0
unfolding line_feeds
no_feeds = refl

pub read_begins : (text : List ℕ) → ReadSoFar text [] 0 1
unfolding ReadSoFar
read_begins text = record { pieces = []; reads = refl; are = refl; line_is = ap (λ n. 1 + n) (sym no_feeds); line_small = omega arith; within = omega arith }

-- one piece more at the end of a reading
reads_on : (text : List ℕ) (pieces : List Piece) (piece : Piece) (start at : ℕ) → Reads text pieces start at → StandsAt (drop at text) piece
    → Reads text (pieces ++ piece ∷ []) start (at + size_of piece)
reads_on text [] piece start at reads stands = (subst (λ i. StandsAt (drop i text) piece) (sym reads) stands, ap (λ i. i + size_of piece) reads)
reads_on text (p ∷ pieces) piece start at reads stands = (reads.0, reads_on text pieces piece (start + size_of p) at reads.1 stands)

tokens_on : (text : List ℕ) (pieces : List Piece) (piece : Piece) (start at : ℕ) → Reads text pieces start at
    → tokens_of text (pieces ++ piece ∷ []) start ≡ tokens_of text pieces start ++ tokens_in piece at (line_at text at)
tokens_on text [] piece start at reads = append-nil _ ∙ ap (λ i. tokens_in piece i (line_at text i)) reads
tokens_on text (p ∷ pieces) piece start at reads =
    ap (λ ts. tokens_in p start (line_at text start) ++ ts) (tokens_on text pieces piece (start + size_of p) at reads.1)
    ∙ sym (append_assoc (tokens_in p start (line_at text start)) (tokens_of text pieces (start + size_of p)) (tokens_in piece at (line_at text at)))

feeds_append : (xs ys : List ℕ) → line_feeds (xs ++ ys) ≡ line_feeds xs + line_feeds ys
unfolding line_feeds
feeds_append xs ys = sum_by-append (λ b. cond (b == 10) 1 0) xs ys

feeds_within : (xs : List ℕ) → line_feeds xs ≤ length xs
unfolding line_feeds
feeds_within xs = count_by-le-length (λ b. b == 10) xs

line_on : (text : List ℕ) (at size : ℕ) → line_at text (at + size) ≡ line_at text at + line_feeds (take size (drop at text))
line_on text at size =
    let parts = ap line_feeds (take-add at size text) ∙ feeds_append (take at text) (take size (drop at text)) in
    omega (arith, parts)

read_on_by : (text : List ℕ) (tokens more : List Token) (at line feeds : ℕ) (piece : Piece) → TextRead text tokens at line
    → StandsAt (drop at text) piece → size_of piece ≤ length text - at
    → more ≡ tokens ++ tokens_in piece at line → feeds ≡ line_feeds (take (size_of piece) (drop at text)) → TextRead text more (at + size_of piece) (line + feeds)
read_on_by text tokens more at line feeds piece far stands fits are count =
    let few = feeds_within (take (size_of piece) (drop at text)) in
    let size = length-take-le (size_of piece) (drop at text) (omega (arith, length-drop at text)) in
    record {
      pieces = far.pieces ++ piece ∷ [];
      reads = reads_on text far.pieces piece 0 at far.reads stands;
      are = are ∙ (λ i. far.are i ++ tokens_in piece at (far.line_is i)) ∙ sym (tokens_on text far.pieces piece 0 at far.reads);
      line_is = (λ i. far.line_is i + count i) ∙ sym (line_on text at (size_of piece));
      line_small = omega (arith, far.line_small, few, size, count);
      within = omega (arith, far.within, fits);
    }

pub read_on : (text : List ℕ) (tokens more : List Token) (at line size feeds : ℕ) (piece : Piece) → ReadSoFar text tokens at line
    → StandsAt (take (length text - at) (drop at text)) piece → size_of piece ≤ length (take (length text - at) (drop at text))
    → size ≡ size_of piece → more ≡ tokens ++ tokens_in piece at line → feeds ≡ line_feeds (take (at + size - at) (drop at text)) → ReadSoFar text more (at + size) (line + feeds)
unfolding ReadSoFar
read_on text tokens more at line size feeds piece far stands fits size_is are count =
    let rest = take_rest text at in
    let left = ap length rest ∙ length-drop at text in
    let part : at + size - at ≡ size_of piece = omega (arith, size_is) in
    subst (λ n. TextRead text more (at + n) (line + feeds)) (sym size_is)
    (read_on_by text tokens more at line feeds piece far (subst (λ xs. StandsAt xs piece) rest stands) (omega (arith, left, fits)) are (count ∙ ap (λ n. line_feeds (take n (drop at text))) part))

pub read_ends : (text : List ℕ) (tokens : List Token) (at line : ℕ) → ReadSoFar text tokens at line → length text ≤ at → AreTokensOf text tokens
unfolding ReadSoFar
read_ends text tokens at line far past =
    let all : at ≡ length text = omega (arith, far.within) in
    record { pieces = far.pieces; reads = subst (Reads text far.pieces 0) all far.reads; are = far.are }

pub read_stops : (text : List ℕ) (tokens : List Token) (at line : ℕ) (fault : ScanFault) → ReadSoFar text tokens at line
    → StopsAt (take (length text - at) (drop at text)) at fault → IsFaultOf text fault
unfolding ReadSoFar
read_stops text tokens at line fault far found =
    record {
      pieces = far.pieces;
      reads = subst (Reads text far.pieces 0) (sym found.place) far.reads;
      stops = subst (λ i. Stops (drop i text) fault) (sym found.place) (subst (λ xs. Stops xs fault) (take_rest text at) found.stops);
    }

-- for the loop over a text, and for one place of it
pub ruleset text_turns = (read_begins, read_on, read_ends, read_stops)

pub ruleset lexeme_answers = (lexeme_stands, long_number_stops, long_name_stops, bad_character_stops, token_nonempty)

pub ruleset piece_answers = (open_comment_stops, comment_nonempty)
