-- Cited by contracts.
-- How a text is read: as white space, comments and tokens, one after the other, and each token the longest that begins
-- at its place (the rule of the longest match; Aho, Lam, Sethi and Ullman 2006, section 3.5.3). The code goes through
-- the text once and looks at the first bytes of each place; the definitions say what a reading is, and not how it is
-- found.
use Rattle.std.specs.Prelude.{◌≡◌, ℕ, ◌+◌, ◌<◌, ◌≤◌, Bool, true, false, ◌==◌, List, [], ◌∷◌, ◌++◌, length, take, drop, count_by, slice_range, Some, None}
use Rattle.text_scan.specs.declared.tokens.TokenKind.{TokenKind}
use Rattle.text_scan.specs.declared.tokens.Token.{Token}
use Rattle.text_scan.specs.declared.tokens.Piece.{Piece}
use Rattle.text_scan.specs.declared.tokens.Piece.TheVariants.{White, Comment, Lexeme}
use Rattle.text_scan.specs.declared.fault.ScanFault.{ScanFault}
use Rattle.text_scan.specs.declared.fault.ScanFault.TheVariants.{BadCharacter, OpenComment, LongNumber, LongName}
use Rattle.text_scan.specs.Forms.{token_kind, is_white, is_long_number, is_long_name, HasForm}
use Rattle.text_scan.specs.Comments.{opens_comment, is_comment}

-- whether the first byte is white space
abbrev pub begins_white : List ℕ → Bool
begins_white [] = false
begins_white (b ∷ bytes) = is_white b

-- the first `size` bytes are a whole comment
pub record IsNextComment (bytes : List ℕ) (size : ℕ) : Type 0 where
  pub within : size ≤ length bytes
  pub comment : is_comment (take size bytes) ≡ true

-- no front of the bytes is a whole comment
pub record BeginsNoComment (bytes : List ℕ) : Type 0 where
  pub none : (size : ℕ) → is_comment (take size bytes) ≡ false

-- The first `size` bytes are a token of this kind, and no longer front of the bytes is a token. Where a comment begins,
-- no token does.
pub record IsNextToken (bytes : List ℕ) (kind : TokenKind) (size : ℕ) : Type 0 where
  pub no_comment : opens_comment bytes ≡ false
  pub within : size ≤ length bytes
  pub token : token_kind (take size bytes) ≡ Some kind
  pub longest : (more : ℕ) → size < more → more ≤ length bytes → token_kind (take more bytes) ≡ None

-- no front of the bytes is a token
pub record BeginsNoToken (bytes : List ℕ) : Type 0 where
  pub none : (size : ℕ) → token_kind (take size bytes) ≡ None

-- the next token, within its limits
pub record IsNextLexeme (bytes : List ℕ) (kind : TokenKind) (size : ℕ) : Type 0 where
  pub next : IsNextToken bytes kind size
  pub no_long_number : is_long_number kind (take size bytes) ≡ false
  pub no_long_name : is_long_name kind (take size bytes) ≡ false

-- the piece stands at the front of the bytes
abbrev pub StandsAt : List ℕ → Piece → Type 0
StandsAt bytes White = begins_white bytes ≡ true
StandsAt bytes (Comment size) = IsNextComment bytes size
StandsAt bytes (Lexeme kind size) = IsNextLexeme bytes kind size

-- how many bytes a piece has
abbrev pub size_of : Piece → ℕ
size_of White = 1
size_of (Comment size) = size
size_of (Lexeme kind size) = size

-- from the place `at` on the text has these pieces, one after the other, up to the place `end`
abbrev pub Reads : List ℕ → List Piece → ℕ → ℕ → Type 0
Reads text [] at end = at ≡ end
Reads text (piece ∷ pieces) at end = StandsAt (drop at text) piece × Reads text pieces (at + size_of piece) end

-- how many of the bytes are line feeds
unfoldable pub line_feeds : List ℕ → ℕ
line_feeds bytes = count_by (λ b. b == 10) bytes

-- the line of a place, counted from 1: one more than the line feeds before it
abbrev pub line_at : List ℕ → ℕ → ℕ
line_at text at = 1 + line_feeds (take at text)

-- the token, if the piece is one, where the piece begins at the place `at` in this line
abbrev pub tokens_in : Piece → ℕ → ℕ → List Token
tokens_in White at line = []
tokens_in (Comment size) at line = []
tokens_in (Lexeme kind size) at line = record { kind = kind; start = at; end = at + size; line = line } ∷ []

-- the tokens among the pieces, the first of which begins at the place `at`
abbrev pub tokens_of : List ℕ → List Piece → ℕ → List Token
tokens_of text [] at = []
tokens_of text (piece ∷ pieces) at = tokens_in piece at (line_at text at) ++ tokens_of text pieces (at + size_of piece)

-- the whole text is white space, comments and these tokens
pub record AreTokensOf (text : List ℕ) (tokens : List Token) : Type 0 where
  pub pieces : List Piece
  pub reads : Reads text pieces 0 (length text)
  pub are : tokens ≡ tokens_of text pieces 0

-- neither white space nor a comment nor a token begins here
pub record IsBadCharacter (bytes : List ℕ) : Type 0 where
  pub no_end : 0 < length bytes
  pub no_white : begins_white bytes ≡ false
  pub no_comment : opens_comment bytes ≡ false
  pub no_token : BeginsNoToken bytes

-- a comment begins here, and isn't closed
pub record IsOpenComment (bytes : List ℕ) : Type 0 where
  pub opens : opens_comment bytes ≡ true
  pub unclosed : BeginsNoComment bytes

-- the next token is too long
pub record IsLongToken (is_long : TokenKind → List ℕ → Bool) (bytes : List ℕ) : Type 0 where
  pub kind : TokenKind
  pub size : ℕ
  pub next : IsNextToken bytes kind size
  pub long : is_long kind (take size bytes) ≡ true

-- the reading stops at these bytes, for this fault
abbrev pub Stops : List ℕ → ScanFault → Type 0
Stops bytes (BadCharacter at) = IsBadCharacter bytes
Stops bytes (OpenComment at) = IsOpenComment bytes
Stops bytes (LongNumber at) = IsLongToken is_long_number bytes
Stops bytes (LongName at) = IsLongToken is_long_name bytes

-- the place that a fault names
abbrev pub place_of : ScanFault → ℕ
place_of (BadCharacter at) = at
place_of (OpenComment at) = at
place_of (LongNumber at) = at
place_of (LongName at) = at

-- up to the fault's place the text is white space, comments and tokens, and there the reading stops for this fault
pub record IsFaultOf (text : List ℕ) (fault : ScanFault) : Type 0 where
  pub pieces : List Piece
  pub reads : Reads text pieces 0 (place_of fault)
  pub stops : Stops (drop (place_of fault) text) fault

-- the token is a slice of the text that has the form of its kind, with the line of its first byte, and isn't too long
pub record IsSliceOf (text : List ℕ) (token : Token) : Type 0 where
  pub nonempty : token.start < token.end
  pub within : token.end ≤ length text
  pub form : HasForm token.kind (slice_range text token.start token.end)
  pub line : token.line ≡ line_at text token.start
  pub no_long_number : is_long_number token.kind (slice_range text token.start token.end) ≡ false
  pub no_long_name : is_long_name token.kind (slice_range text token.start token.end) ≡ false

-- each token ends before the next one begins
abbrev pub AreInOrder : List Token → Type 0
AreInOrder [] = Unit {0}
AreInOrder (t ∷ []) = Unit {0}
AreInOrder (t ∷ u ∷ tokens) = (t.end ≤ u.start) × AreInOrder (u ∷ tokens)
