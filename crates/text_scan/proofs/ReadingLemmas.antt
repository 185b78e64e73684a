-- A text has one reading: at each place one piece stands, or the text ends there, or one fault stops the reading.
use Rattle.std.proofs.Common.{◌≡◌, ℕ, suc, zero, ◌+◌, Bool, true, false, List, [], ◌∷◌, length, take, drop, Option, Some, None, sym, refl, ap, ◌∙◌, subst, inl, inr, ⊎_elim, arith}
use Rattle.std.specs.Prelude.{◌⊎◌, Result, Ok, Err, IfOk, IfErr, MatchResult}
use Rattle.std.proofs.lemmas.Bool.{false≢true, cases_order, and_parts}
use Rattle.std.proofs.lemmas.Bool.Decides.{nat_tests}
use Rattle.std.proofs.lemmas.List.{drop_all}
use Rattle.text_scan.specs.declared.tokens.TokenKind.{TokenKind}
use Rattle.text_scan.specs.declared.tokens.TokenKind.TheVariants.{Lower, Upper, TypeVar, Number, Keyword, Symbol}
use Rattle.text_scan.specs.declared.tokens.Token.{Token}
use Rattle.text_scan.specs.declared.tokens.Piece.{Piece}
use Rattle.text_scan.specs.declared.tokens.Piece.TheVariants.{White, Comment, Lexeme}
use Rattle.text_scan.specs.declared.fault.ScanFault.{ScanFault}
use Rattle.text_scan.specs.declared.fault.ScanFault.TheVariants.{BadCharacter, OpenComment, LongNumber, LongName}
use Rattle.stops.specs.declared.stop.Stop.{Stop}
use Rattle.stops.specs.declared.stop.Stop.TheVariants.{Fault, Memory}
use Rattle.stops.specs.Stopping.{FaultIs}
use Rattle.text_scan.specs.Forms.{token_kind, is_long_number, is_long_name}
use Rattle.text_scan.specs.Comments.{is_opening, opens_comment, is_comment}
use Rattle.text_scan.specs.Reading.{begins_white, IsNextToken, StandsAt, size_of, Reads, tokens_of, AreTokensOf, IsBadCharacter, IsOpenComment, IsLongToken, Stops, place_of, IsFaultOf}
use Rattle.text_scan.proofs.FormLemmas.{empty_kind, white_first}
use Rattle.text_scan.proofs.CommentLemmas.{one_comment}

-- ---- what begins at one place

comment_opens : (bytes : List ℕ) (size : ℕ) → is_comment (take size bytes) ≡ true → opens_comment bytes ≡ true
comment_opens bytes zero comment = absurd (false≢true comment)
comment_opens [] (suc size) comment = absurd (false≢true comment)
comment_opens (a ∷ bytes) (suc zero) comment = absurd (false≢true comment)
comment_opens (a ∷ []) (suc (suc size)) comment = absurd (false≢true comment)
comment_opens (a ∷ b ∷ bytes) (suc (suc size)) comment = (and_parts (is_opening a b) _ comment).0

white_opens_none : (bytes : List ℕ) → begins_white bytes ≡ true → opens_comment bytes ≡ true → ⊥
white_opens_none [] white opens = absurd (false≢true white)
white_opens_none (a ∷ []) white opens = absurd (false≢true opens)
white_opens_none (a ∷ b ∷ bytes) white opens = absurd (grind (arith, nat_tests))

pub none_is_some : {A : Type 0} (x : A) (o : Option A) → o ≡ None → o ≡ Some x → ⊥
none_is_some x o none some = absurd cc

white_is_no_token : (bytes : List ℕ) (size : ℕ) (kind : TokenKind) → begins_white bytes ≡ true → token_kind (take size bytes) ≡ Some kind → ⊥
white_is_no_token bytes zero kind white token = none_is_some kind _ empty_kind token
white_is_no_token [] (suc size) kind white token = absurd (false≢true white)
white_is_no_token (a ∷ bytes) (suc size) kind white token = none_is_some kind _ (white_first a (take size bytes) white) token

opens_no_token : (bytes : List ℕ) (size : ℕ) (kind : TokenKind) → opens_comment bytes ≡ true → IsNextToken bytes kind size → ⊥
opens_no_token bytes size kind opens next = false≢true (sym next.no_comment ∙ opens)

-- the next token has one size
same_size : (bytes : List ℕ) (n m : ℕ) (k l : TokenKind) → IsNextToken bytes k n → IsNextToken bytes l m → n ≡ m
same_size bytes n m k l first second =
    ⊎_elim (λ same. same)
    (λ apart. ⊎_elim (λ less. absurd (none_is_some l _ (first.longest m less second.within) second.token)) (λ more. absurd (none_is_some k _ (second.longest n more first.within) first.token)) apart)
    (cases_order n m)

same_some : {A : Type 0} (x y : A) → Some x ≡ Some y → x ≡ y
same_some x y same = cc

-- and one kind
same_kind : (bytes : List ℕ) (n m : ℕ) (k l : TokenKind) → IsNextToken bytes k n → IsNextToken bytes l m → k ≡ l
same_kind bytes n m k l first second =
    let size = same_size bytes n m k l first second in
    same_some k l (sym first.token ∙ ap (λ i. token_kind (take i bytes)) size ∙ second.token)

long_and_short : (test : TokenKind → List ℕ → Bool) (bytes : List ℕ) (n m : ℕ) (k l : TokenKind) → IsNextToken bytes k n → IsNextToken bytes l m
    → test k (take n bytes) ≡ true → test l (take m bytes) ≡ false → ⊥
long_and_short test bytes n m k l first second long short =
    let size = same_size bytes n m k l first second in
    let kind = same_kind bytes n m k l first second in
    false≢true (sym short ∙ sym (λ i. test (kind i) (take (size i) bytes)) ∙ long)

-- two pieces at one place are the same
same_piece : (bytes : List ℕ) (p q : Piece) → StandsAt bytes p → StandsAt bytes q → p ≡ q
same_piece bytes White White first second = refl
same_piece bytes White (Comment m) first second = absurd (white_opens_none bytes first (comment_opens bytes m second.comment))
same_piece bytes White (Lexeme l m) first second = absurd (white_is_no_token bytes m l first second.next.token)
same_piece bytes (Comment n) White first second = absurd (white_opens_none bytes second (comment_opens bytes n first.comment))
same_piece bytes (Comment n) (Comment m) first second = ap Comment (one_comment bytes n m first second)
same_piece bytes (Comment n) (Lexeme l m) first second = absurd (opens_no_token bytes m l (comment_opens bytes n first.comment) second.next)
same_piece bytes (Lexeme k n) White first second = absurd (white_is_no_token bytes n k second first.next.token)
same_piece bytes (Lexeme k n) (Comment m) first second = absurd (opens_no_token bytes n k (comment_opens bytes m second.comment) first.next)
same_piece bytes (Lexeme k n) (Lexeme l m) first second =
    let size = same_size bytes n m k l first.next second.next in
    let kind = same_kind bytes n m k l first.next second.next in
    λ i. Lexeme (kind i) (size i)

-- where a fault stops the reading, no piece stands
no_piece : (bytes : List ℕ) (fault : ScanFault) (p : Piece) → Stops bytes fault → StandsAt bytes p → ⊥
no_piece bytes (BadCharacter at) White stops stands = false≢true (sym stops.no_white ∙ stands)
no_piece bytes (BadCharacter at) (Comment m) stops stands = false≢true (sym stops.no_comment ∙ comment_opens bytes m stands.comment)
no_piece bytes (BadCharacter at) (Lexeme l m) stops stands = none_is_some l _ (stops.no_token.none m) stands.next.token
no_piece bytes (OpenComment at) White stops stands = white_opens_none bytes stands stops.opens
no_piece bytes (OpenComment at) (Comment m) stops stands = false≢true (sym (stops.unclosed.none m) ∙ stands.comment)
no_piece bytes (OpenComment at) (Lexeme l m) stops stands = opens_no_token bytes m l stops.opens stands.next
no_piece bytes (LongNumber at) White stops stands = white_is_no_token bytes stops.size stops.kind stands stops.next.token
no_piece bytes (LongNumber at) (Comment m) stops stands = opens_no_token bytes stops.size stops.kind (comment_opens bytes m stands.comment) stops.next
no_piece bytes (LongNumber at) (Lexeme l m) stops stands = long_and_short is_long_number bytes stops.size m stops.kind l stops.next stands.next stops.long stands.no_long_number
no_piece bytes (LongName at) White stops stands = white_is_no_token bytes stops.size stops.kind stands stops.next.token
no_piece bytes (LongName at) (Comment m) stops stands = opens_no_token bytes stops.size stops.kind (comment_opens bytes m stands.comment) stops.next
no_piece bytes (LongName at) (Lexeme l m) stops stands = long_and_short is_long_name bytes stops.size m stops.kind l stops.next stands.next stops.long stands.no_long_name

-- no token is both a long number and a long name
one_long : (kind : TokenKind) (bytes : List ℕ) → is_long_number kind bytes ≡ true → is_long_name kind bytes ≡ true → ⊥
unfolding is_long_number is_long_name
one_long Lower bytes number name = false≢true number
one_long Upper bytes number name = false≢true number
one_long TypeVar bytes number name = false≢true number
one_long Number bytes number name = false≢true name
one_long Keyword bytes number name = false≢true number
one_long Symbol bytes number name = false≢true number

two_longs : (bytes : List ℕ) → IsLongToken is_long_number bytes → IsLongToken is_long_name bytes → ⊥
two_longs bytes first second =
    let size = same_size bytes first.size second.size first.kind second.kind first.next second.next in
    let kind = same_kind bytes first.size second.size first.kind second.kind first.next second.next in
    one_long second.kind (take second.size bytes) (sym (λ i. is_long_number (kind i) (take (size i) bytes)) ∙ first.long) second.long

bad_and_long : (test : TokenKind → List ℕ → Bool) (bytes : List ℕ) → IsBadCharacter bytes → IsLongToken test bytes → ⊥
bad_and_long test bytes bad long = none_is_some long.kind _ (bad.no_token.none long.size) long.next.token

open_and_long : (test : TokenKind → List ℕ → Bool) (bytes : List ℕ) → IsOpenComment bytes → IsLongToken test bytes → ⊥
open_and_long test bytes unclosed long = opens_no_token bytes long.size long.kind unclosed.opens long.next

bad_and_open : (bytes : List ℕ) → IsBadCharacter bytes → IsOpenComment bytes → ⊥
bad_and_open bytes bad unclosed = false≢true (sym bad.no_comment ∙ unclosed.opens)

-- two faults that stop the reading at one place are the same
same_fault : (bytes : List ℕ) (f g : ScanFault) → Stops bytes f → Stops bytes g → place_of f ≡ place_of g → f ≡ g
same_fault bytes (BadCharacter a) (BadCharacter b) first second place = ap BadCharacter place
same_fault bytes (BadCharacter a) (OpenComment b) first second place = absurd (bad_and_open bytes first second)
same_fault bytes (BadCharacter a) (LongNumber b) first second place = absurd (bad_and_long is_long_number bytes first second)
same_fault bytes (BadCharacter a) (LongName b) first second place = absurd (bad_and_long is_long_name bytes first second)
same_fault bytes (OpenComment a) (BadCharacter b) first second place = absurd (bad_and_open bytes second first)
same_fault bytes (OpenComment a) (OpenComment b) first second place = ap OpenComment place
same_fault bytes (OpenComment a) (LongNumber b) first second place = absurd (open_and_long is_long_number bytes first second)
same_fault bytes (OpenComment a) (LongName b) first second place = absurd (open_and_long is_long_name bytes first second)
same_fault bytes (LongNumber a) (BadCharacter b) first second place = absurd (bad_and_long is_long_number bytes second first)
same_fault bytes (LongNumber a) (OpenComment b) first second place = absurd (open_and_long is_long_number bytes second first)
same_fault bytes (LongNumber a) (LongNumber b) first second place = ap LongNumber place
same_fault bytes (LongNumber a) (LongName b) first second place = absurd (two_longs bytes first second)
same_fault bytes (LongName a) (BadCharacter b) first second place = absurd (bad_and_long is_long_name bytes second first)
same_fault bytes (LongName a) (OpenComment b) first second place = absurd (open_and_long is_long_name bytes second first)
same_fault bytes (LongName a) (LongNumber b) first second place = absurd (two_longs bytes second first)
same_fault bytes (LongName a) (LongName b) first second place = ap LongName place

-- at the end of a text no piece stands, and no fault stops the reading
no_piece_at_end : (p : Piece) → StandsAt [] p → ⊥
no_piece_at_end White stands = false≢true stands
no_piece_at_end (Comment size) stands = false≢true (comment_opens [] size stands.comment)
no_piece_at_end (Lexeme kind zero) stands = none_is_some kind _ empty_kind stands.next.token
no_piece_at_end (Lexeme kind (suc size)) stands = none_is_some kind _ empty_kind stands.next.token

no_long_at_end : (test : TokenKind → List ℕ → Bool) (kind : TokenKind) (size : ℕ) → token_kind (take size []) ≡ Some kind → ⊥
no_long_at_end test kind zero token = none_is_some kind _ empty_kind token
no_long_at_end test kind (suc size) token = none_is_some kind _ empty_kind token

no_fault_at_end : (f : ScanFault) → Stops [] f → ⊥
no_fault_at_end (BadCharacter at) stops = absurd (omega (arith, stops.no_end))
no_fault_at_end (OpenComment at) stops = false≢true stops.opens
no_fault_at_end (LongNumber at) stops = no_long_at_end is_long_number stops.kind stops.size stops.next.token
no_fault_at_end (LongName at) stops = no_long_at_end is_long_name stops.kind stops.size stops.next.token

-- ---- whole readings

-- readings that go as far as they can are the same
pub record SameReading (first second : List Piece) (a b : ℕ) : Type 0 where
  pub pieces : first ≡ second
  pub ends : a ≡ b

same_reading : (text : List ℕ) (first second : List Piece) (at a b : ℕ) → Reads text first at a → Reads text second at b
    → ((p : Piece) → StandsAt (drop a text) p → ⊥) → ((p : Piece) → StandsAt (drop b text) p → ⊥) → SameReading first second a b
same_reading text [] [] at a b one two no_one no_two = record { pieces = refl; ends = sym one ∙ two }
same_reading text [] (q ∷ second) at a b one two no_one no_two = absurd (no_one q (subst (λ i. StandsAt (drop i text) q) one two.0))
same_reading text (p ∷ first) [] at a b one two no_one no_two = absurd (no_two p (subst (λ i. StandsAt (drop i text) p) two one.0))
same_reading text (p ∷ first) (q ∷ second) at a b one two no_one no_two =
    let piece : p ≡ q = same_piece (drop at text) p q one.0 two.0 in
    let rest = same_reading text first second (at + size_of p) a b one.1 (subst (λ x. Reads text second (at + size_of x) b) (sym piece) two.1) no_one no_two in
    record { pieces = λ i. piece i ∷ rest.pieces i; ends = rest.ends }

no_piece_past : (text : List ℕ) (p : Piece) → StandsAt (drop (length text) text) p → ⊥
no_piece_past text p stands = no_piece_at_end p (subst (λ xs. StandsAt xs p) (drop_all (length text) text (omega arith)) stands)

pub one_token_list : (text : List ℕ) (ts us : List Token) → AreTokensOf text ts → AreTokensOf text us → ts ≡ us
one_token_list text ts us first second =
    let same = same_reading text first.pieces second.pieces 0 (length text) (length text) first.reads second.reads (no_piece_past text) (no_piece_past text) in
    first.are ∙ ap (λ ps. tokens_of text ps 0) same.pieces ∙ sym second.are

pub one_fault : (text : List ℕ) (f g : ScanFault) → IsFaultOf text f → IsFaultOf text g → f ≡ g
one_fault text f g first second =
    let same = same_reading text first.pieces second.pieces 0 (place_of f) (place_of g) first.reads second.reads
    (λ p stands. no_piece (drop (place_of f) text) f p first.stops stands) (λ p stands. no_piece (drop (place_of g) text) g p second.stops stands) in
    same_fault (drop (place_of f) text) f g first.stops (subst (λ i. Stops (drop i text) g) (sym same.ends) second.stops) same.ends

pub tokens_or_fault : (text : List ℕ) (ts : List Token) (f : ScanFault) → AreTokensOf text ts → IsFaultOf text f → ⊥
tokens_or_fault text ts f read refused =
    let same = same_reading text read.pieces refused.pieces 0 (length text) (place_of f) read.reads refused.reads
    (no_piece_past text) (λ p stands. no_piece (drop (place_of f) text) f p refused.stops stands) in
    no_fault_at_end f (subst (λ xs. Stops xs f) (drop_all (length text) text (omega arith)) (subst (λ i. Stops (drop i text) f) (sym same.ends) refused.stops))

-- ---- what an answer says of the text

pub takes : {V : Type 0} (items : V → List Token) (text : List ℕ) (r : Result V (Stop ScanFault)) → IfOk r (λ v. AreTokensOf text (items v))
    → IfErr r (FaultIs (IsFaultOf text))
    → (tokens : List Token) → AreTokensOf text tokens → MatchResult r (λ v. items v ≡ tokens) (λ s. s ≡ Memory)
takes items text (Ok v) right cause tokens read = one_token_list text (items v) tokens right read
takes items text (Err (Fault f)) right cause tokens read = absurd (tokens_or_fault text tokens f read cause)
takes items text (Err Memory) right cause tokens read = refl

pub refuses : {V : Type 0} (items : V → List Token) (text : List ℕ) (r : Result V (Stop ScanFault)) → IfOk r (λ v. AreTokensOf text (items v))
    → IfErr r (FaultIs (IsFaultOf text))
    → (fault : ScanFault) → IsFaultOf text fault → MatchResult r (λ _. ⊥) (λ s. (s ≡ Fault fault) ⊎ (s ≡ Memory))
refuses items text (Ok v) right cause fault refused = tokens_or_fault text (items v) fault right refused
refuses items text (Err (Fault f)) right cause fault refused = inl (ap Fault (one_fault text f fault cause refused))
refuses items text (Err Memory) right cause fault refused = inr refl
