-- Each text has a reading: at each place a piece is found, or a fault, by looking at all fronts.
use Rattle.std.proofs.Common.{◌≡◌, ℕ, suc, zero, ◌+◌, ◌-◌, ◌<◌, ◌≤◌, Bool, true, false, List, [], ◌∷◌, length, take, drop, Option, Some, None, sym, refl, ◌∙◌, subst, inl, inr, ⊎_elim, arith, length-drop}
use Rattle.std.specs.Prelude.{◌⊎◌}
use Rattle.std.proofs.lemmas.Bool.{cases_lt}
use Rattle.std.proofs.lemmas.List.{take_all}
use Rattle.text_scan.specs.declared.tokens.TokenKind.{TokenKind}
use Rattle.text_scan.specs.declared.tokens.Token.{Token}
use Rattle.text_scan.specs.declared.tokens.Piece.{Piece}
use Rattle.text_scan.specs.declared.tokens.Piece.TheVariants.{White, Comment, Lexeme}
use Rattle.text_scan.specs.declared.fault.ScanFault.{ScanFault}
use Rattle.text_scan.specs.declared.fault.ScanFault.TheVariants.{BadCharacter, OpenComment, LongNumber, LongName}
use Rattle.text_scan.specs.Forms.{token_kind, is_long_number, is_long_name}
use Rattle.text_scan.specs.Comments.{opens_comment, is_comment}
use Rattle.text_scan.specs.Reading.{begins_white, IsNextComment, BeginsNoComment, IsNextToken, StandsAt, size_of, Reads, tokens_of, AreTokensOf, Stops, IsFaultOf, place_of}
use Rattle.text_scan.specs.Steps.{StopsAt}
use Rattle.text_scan.proofs.ScanLemmas.{token_nonempty, comment_nonempty}

-- what holds of no front up to the length holds of no front at all
none_beyond : (P : List ℕ → Type 0) (bytes : List ℕ) → ((size : ℕ) → size ≤ length bytes → P (take size bytes)) → (size : ℕ) → P (take size bytes)
none_beyond P bytes here size =
    ⊎_elim (λ less. here size (omega arith))
    (λ more. subst P (take_all (length bytes) bytes (omega arith) ∙ sym (take_all size bytes more)) (here (length bytes) (omega arith)))
    (cases_lt size (length bytes))

data Tokens (bytes : List ℕ) (most : ℕ) : Type 0 where
  Found : (kind : TokenKind) (size : ℕ) → size ≤ length bytes → token_kind (take size bytes) ≡ Some kind
      → ((more : ℕ) → size < more → more ≤ length bytes → token_kind (take more bytes) ≡ None) → Tokens bytes most
  Missing : ((size : ℕ) → size ≤ length bytes → token_kind (take size bytes) ≡ None) → Tokens bytes most

at_most_or_more : (P : List ℕ → Type 0) (bytes : List ℕ) (n : ℕ) → P (take n bytes)
    → ((more : ℕ) → n < more → more ≤ length bytes → P (take more bytes)) → (more : ℕ) → n ≤ more → more ≤ length bytes → P (take more bytes)
at_most_or_more P bytes n here above more least within =
    ⊎_elim (λ less. above more less within) (λ most. let same : n ≡ more = omega arith in subst (λ i. P (take i bytes)) same here) (cases_lt n more)

abbrev IsNoToken : List ℕ → Type 0
IsNoToken xs = token_kind xs ≡ None

search_token : (bytes : List ℕ) (n : ℕ) → n ≤ length bytes → ((more : ℕ) → n < more → more ≤ length bytes → IsNoToken (take more bytes))
    → (o : Option TokenKind) → token_kind (take n bytes) ≡ o
    → (((more : ℕ) → n ≤ more → more ≤ length bytes → IsNoToken (take more bytes)) → Tokens bytes n) → Tokens bytes n
search_token bytes n within above (Some kind) found below = Found kind n within found above
search_token bytes n within above None found below = below (at_most_or_more IsNoToken bytes n found above)

widen : (bytes : List ℕ) (n : ℕ) → Tokens bytes n → Tokens bytes (suc n)
widen bytes n (Found kind size within token longest) = Found kind size within token longest
widen bytes n (Missing none) = Missing none

find_token : (bytes : List ℕ) (n : ℕ) → n ≤ length bytes → ((more : ℕ) → n < more → more ≤ length bytes → IsNoToken (take more bytes)) → Tokens bytes n
find_token bytes zero within above = search_token bytes zero within above (token_kind (take zero bytes)) refl (λ none. Missing (λ size fits. none size (omega arith) fits))
find_token bytes (suc n) within above =
    search_token bytes (suc n) within above (token_kind (take (suc n) bytes)) refl
    (λ none. widen bytes n (find_token bytes n (omega arith) (λ more longer fits. none more (omega arith) fits)))

data Comments (bytes : List ℕ) : Type 0 where
  Closed : (size : ℕ) → IsNextComment bytes size → Comments bytes
  Open : BeginsNoComment bytes → Comments bytes

abbrev IsNoComment : List ℕ → Type 0
IsNoComment xs = is_comment xs ≡ false

search_comment : (bytes : List ℕ) (n : ℕ) → n ≤ length bytes → ((more : ℕ) → n < more → more ≤ length bytes → IsNoComment (take more bytes))
    → (t : Bool) → is_comment (take n bytes) ≡ t
    → (((more : ℕ) → n ≤ more → more ≤ length bytes → IsNoComment (take more bytes)) → Comments bytes) → Comments bytes
search_comment bytes n within above true found below = Closed n (record { within = within; comment = found })
search_comment bytes n within above false found below = below (at_most_or_more IsNoComment bytes n found above)

find_comment : (bytes : List ℕ) (n : ℕ) → n ≤ length bytes → ((more : ℕ) → n < more → more ≤ length bytes → IsNoComment (take more bytes)) → Comments bytes
find_comment bytes zero within above = search_comment bytes zero within above (is_comment (take zero bytes)) refl (λ none. Open (record { none = none_beyond IsNoComment bytes (λ size fits. none size (omega arith) fits) }))
find_comment bytes (suc n) within above =
    search_comment bytes (suc n) within above (is_comment (take (suc n) bytes)) refl (λ none. find_comment bytes n (omega arith) (λ more longer fits. none more (omega arith) fits))

-- what is found at a place that isn't the end
data Front (bytes : List ℕ) (at : ℕ) : Type 0 where
  Piece_here : (p : Piece) → StandsAt bytes p → 0 < size_of p → size_of p ≤ length bytes → Front bytes at
  Fault_here : (f : ScanFault) → StopsAt bytes at f → Front bytes at

lexeme_front : (bytes : List ℕ) (at size : ℕ) (kind : TokenKind) → IsNextToken bytes kind size → (number name : Bool)
    → is_long_number kind (take size bytes) ≡ number → is_long_name kind (take size bytes) ≡ name → Front bytes at
lexeme_front bytes at size kind next true name is_number_token is_name = Fault_here (LongNumber at) (record { place = refl; stops = record { kind = kind; size = size; next = next; long = is_number_token } })
lexeme_front bytes at size kind next false true is_number_token is_name = Fault_here (LongName at) (record { place = refl; stops = record { kind = kind; size = size; next = next; long = is_name } })
lexeme_front bytes at size kind next false false is_number_token is_name =
    Piece_here (Lexeme kind size) (record { next = next; no_long_number = is_number_token; no_long_name = is_name }) (token_nonempty bytes kind size next) next.within

token_front : (bytes : List ℕ) (at n : ℕ) → 0 < length bytes → begins_white bytes ≡ false → opens_comment bytes ≡ false → Tokens bytes n → Front bytes at
token_front bytes at n nonempty no_white no_comment (Found kind size within token longest) =
    lexeme_front bytes at size kind (record { no_comment = no_comment; within = within; token = token; longest = longest }) _ _ refl refl
token_front bytes at n nonempty no_white no_comment (Missing none) =
    Fault_here (BadCharacter at) (record { place = refl; stops = record { no_end = nonempty; no_white = no_white; no_comment = no_comment; no_token = record { none = none_beyond IsNoToken bytes none } } })

comment_front : (bytes : List ℕ) (at : ℕ) → opens_comment bytes ≡ true → Comments bytes → Front bytes at
comment_front bytes at opens (Closed size comment) = Piece_here (Comment size) comment (comment_nonempty bytes size comment) comment.within
comment_front bytes at opens (Open none) = Fault_here (OpenComment at) (record { place = refl; stops = record { opens = opens; unclosed = none } })

front_by : (bytes : List ℕ) (at : ℕ) → 0 < length bytes → (white opens : Bool) → begins_white bytes ≡ white → opens_comment bytes ≡ opens → Front bytes at
front_by bytes at nonempty true opens is_white is_open = Piece_here White is_white (omega arith) (omega arith)
front_by bytes at nonempty false true is_white is_open = comment_front bytes at is_open (find_comment bytes (length bytes) (omega arith) (λ more longer fits. absurd (omega arith)))
front_by bytes at nonempty false false is_white is_open = token_front bytes at (length bytes) nonempty is_white is_open (find_token bytes (length bytes) (omega arith) (λ more longer fits. absurd (omega arith)))

-- the reading from a place on
data Whole (text : List ℕ) (at : ℕ) : Type 0 where
  Through : (pieces : List Piece) → Reads text pieces at (length text) → Whole text at
  Stopped : (pieces : List Piece) (f : ScanFault) → Reads text pieces at (place_of f) → Stops (drop (place_of f) text) f → Whole text at

with_piece : (text : List ℕ) (at : ℕ) (p : Piece) → StandsAt (drop at text) p → Whole text (at + size_of p) → Whole text at
with_piece text at p stands (Through pieces reads) = Through (p ∷ pieces) (stands, reads)
with_piece text at p stands (Stopped pieces f reads stops) = Stopped (p ∷ pieces) f (stands, reads) stops

from_front : (text : List ℕ) (at : ℕ) → at ≤ length text → Front (drop at text) at → ((n : ℕ) → 0 < n → at + n ≤ length text → Whole text (at + n))
    → Whole text at
from_front text at within (Piece_here p stands nonempty fits) rest = with_piece text at p stands (rest (size_of p) nonempty (omega (arith, fits, length-drop at text)))
from_front text at within (Fault_here f found) rest = Stopped [] f (sym found.place) (subst (λ i. Stops (drop i text) f) (sym found.place) found.stops)

read_all : (fuel : ℕ) (text : List ℕ) (at : ℕ) → at ≤ length text → length text - at ≤ fuel → Whole text at
read_all zero text at within enough = Through [] (omega arith)
read_all (suc fuel) text at within enough =
    ⊎_elim
    (λ inside. from_front text at within (front_by (drop at text) at (omega (arith, length-drop at text)) _ _ refl refl) (λ n nonempty fits. read_all fuel text (at + n) fits (omega arith)))
    (λ past. Through [] (omega arith))
    (cases_lt at (length text))

outcome : (text : List ℕ) → Whole text 0 → ((tokens : List Token) × AreTokensOf text tokens) ⊎ ((fault : ScanFault) × IsFaultOf text fault)
outcome text (Through pieces reads) = inl (tokens_of text pieces 0, record { pieces = pieces; reads = reads; are = refl })
outcome text (Stopped pieces f reads stops) = inr (f, record { pieces = pieces; reads = reads; stops = stops })

pub every_text : (text : List ℕ) → ((tokens : List Token) × AreTokensOf text tokens) ⊎ ((fault : ScanFault) × IsFaultOf text fault)
every_text text = outcome text (read_all (length text) text 0 (omega arith) (omega arith))
