-- Cited by contracts.
-- What one token looks like. The rules are those of the lexical conventions of ML languages (as in the manual of
-- Caml Light, Leroy 1997), cut down to ASCII. They speak of a token's bytes alone; the code looks at its first byte
-- and then runs on.
use Rattle.std.specs.Prelude.{ℕ, ◌+◌, ◌-◌, ◌*◌, ◌^◌, Bool, false, ◌&&◌, ◌||◌, ◌==◌, nat_lt, IsTrue, IsFalse, List, [], ◌∷◌, length, Option, Some, None, if◌then◌else◌, codes}
use Rattle.std.specs.Char.{is_ascii_lowercase, is_ascii_uppercase, is_ascii_digit, is_ascii_alphanumeric}
use Rattle.std.specs.List.{list_any, list_all}
use Rattle.std.specs.Str.{bytes_eq, byte}
use Rattle.text_scan.specs.declared.tokens.TokenKind.{TokenKind}
use Rattle.text_scan.specs.declared.tokens.TokenKind.TheVariants.{Lower, Upper, TypeVar, Number, Keyword, Symbol}

-- the words that the grammar keeps for itself
unfoldable pub words : List (List ℕ)
words =
    codes "type" ∷ codes "of" ∷ codes "let" ∷ codes "in" ∷ codes "if" ∷ codes "then" ∷ codes "else"
    ∷ codes "match" ∷ codes "with" ∷ codes "end" ∷ codes "true" ∷ codes "false" ∷ codes "not"
    ∷ codes "int" ∷ codes "bool" ∷ codes "read" ∷ codes "mod" ∷ []

-- the signs of the grammar
unfoldable pub symbols : List (List ℕ)
symbols =
    codes "(" ∷ codes ")" ∷ codes "," ∷ codes ":" ∷ codes "@" ∷ codes "_" ∷ codes "="
    ∷ codes "<>" ∷ codes "<" ∷ codes "<=" ∷ codes ">" ∷ codes ">=" ∷ codes "+" ∷ codes "-" ∷ codes "*" ∷ codes "/"
    ∷ codes "&&" ∷ codes "||" ∷ codes "|" ∷ codes "!" ∷ codes "->" ∷ []

unfoldable pub is_word : List ℕ → Bool
is_word bytes = list_any (λ word. bytes_eq word bytes) words

unfoldable pub is_symbol : List ℕ → Bool
is_symbol bytes = list_any (λ symbol. bytes_eq symbol bytes) symbols

-- space, tab, line feed and carriage return
abbrev pub is_white : ℕ → Bool
is_white b = b == 32 || b == 9 || b == 10 || b == 13

-- a letter, a digit or `_`
abbrev pub is_name_part : ℕ → Bool
is_name_part b = is_ascii_alphanumeric b || b == byte "_"

-- a letter that may begin the name, and then letters, digits or `_`
abbrev pub is_name : (ℕ → Bool) → List ℕ → Bool
is_name may_begin [] = false
is_name may_begin (b ∷ bytes) = may_begin b && list_all is_name_part bytes

-- a quote and what has the form of a lower name, also where that is a word
abbrev pub is_type_variable : List ℕ → Bool
is_type_variable [] = false
is_type_variable (b ∷ bytes) = b == byte "'" && is_name is_ascii_lowercase bytes

-- one digit or more
abbrev pub is_number_token : List ℕ → Bool
is_number_token [] = false
is_number_token (b ∷ bytes) = is_ascii_digit b && list_all is_ascii_digit bytes

-- The kind of the token that these bytes are as a whole; None where they aren't one token. A word is a keyword and no
-- name.
unfoldable pub token_kind : List ℕ → Option TokenKind
token_kind bytes =
    if is_word bytes then Some Keyword
    else (if is_name is_ascii_lowercase bytes then Some Lower
    else (if is_name is_ascii_uppercase bytes then Some Upper
    else (if is_type_variable bytes then Some TypeVar
    else (if is_number_token bytes then Some Number
    else (if is_symbol bytes then Some Symbol
    else None)))))

-- the value of decimal digits: each digit counts for the power of ten that its place has
abbrev pub number_value : List ℕ → ℕ
number_value [] = 0
number_value (digit ∷ digits) = (digit - byte "0") * 10 ^ length digits + number_value digits

-- a number above 2147483648
unfoldable pub is_long_number : TokenKind → List ℕ → Bool
is_long_number Number bytes = nat_lt 2147483648 (number_value bytes)
is_long_number kind bytes = false

-- a name of more than 64 bytes; the quote of a type variable isn't counted
unfoldable pub is_long_name : TokenKind → List ℕ → Bool
is_long_name Lower bytes = nat_lt 64 (length bytes)
is_long_name Upper bytes = nat_lt 64 (length bytes)
is_long_name TypeVar bytes = nat_lt (1 + 64) (length bytes)
is_long_name kind bytes = false

-- The row of each kind in the table of tokens. Bytes have a kind exactly where they have its form, in whatever order
-- the forms are tried (the law `kinds_are_rows`).
abbrev pub HasForm : TokenKind → List ℕ → Type 0
HasForm Lower bytes = IsTrue (is_name is_ascii_lowercase bytes) × IsFalse (is_word bytes)
HasForm Upper bytes = IsTrue (is_name is_ascii_uppercase bytes)
HasForm TypeVar bytes = IsTrue (is_type_variable bytes)
HasForm Number bytes = IsTrue (is_number_token bytes)
HasForm Keyword bytes = IsTrue (is_word bytes)
HasForm Symbol bytes = IsTrue (is_symbol bytes)
