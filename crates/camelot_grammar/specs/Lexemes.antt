-- Cited by contracts. The tokens of a text as the grammar sees them: words and signs by their texts, numbers by their
-- values, names with their bytes. The code looks a word up in a table.
use Rattle.std.specs.Prelude.{ℕ, ◌≤◌, ◌<◌, ◌==◌, List, [], ◌∷◌, ◌++◌, map, length, slice_range, if◌then◌else◌, codes}
use Rattle.std.specs.Str.{bytes_eq}
use Rattle.text_scan.specs.Forms.{HasForm, number_value}
use Rattle.text_scan.specs.declared.tokens.TokenKind.{TokenKind}
use Rattle.text_scan.specs.declared.tokens.TokenKind.TheVariants as kind
use Rattle.text_scan.specs.declared.tokens.Token.{Token}
use Rattle.camelot_grammar.specs.declared.lexeme.Mark.{Mark}
use Rattle.camelot_grammar.specs.declared.lexeme.Mark.TheVariants as mark
use Rattle.camelot_grammar.specs.declared.lexeme.Lexeme.{Lexeme}
use Rattle.camelot_grammar.specs.declared.lexeme.Lexeme.TheVariants as lexeme

-- a word or sign with its text
pub record Written : Type 0 where
  pub text : List ℕ
  pub mark : Mark

abbrev written : List ℕ → Mark → Written
written text m = record { text = text; mark = m }

abbrev pub word_marks : List Written
word_marks =
    written (codes "type") mark.Type ∷ written (codes "of") mark.Of ∷ written (codes "let") mark.Let ∷ written (codes "in") mark.In
    ∷ written (codes "if") mark.If ∷ written (codes "then") mark.Then ∷ written (codes "else") mark.Else
    ∷ written (codes "match") mark.Match ∷ written (codes "with") mark.With ∷ written (codes "end") mark.End
    ∷ written (codes "true") mark.True ∷ written (codes "false") mark.False ∷ written (codes "not") mark.Not
    ∷ written (codes "int") mark.Int ∷ written (codes "bool") mark.Bool ∷ written (codes "read") mark.Read ∷ written (codes "mod") mark.Mod ∷ []

abbrev pub sign_marks : List Written
sign_marks =
    written (codes "(") mark.Open ∷ written (codes ")") mark.Close ∷ written (codes ",") mark.Comma ∷ written (codes ":") mark.Colon
    ∷ written (codes "@") mark.At ∷ written (codes "_") mark.Blank ∷ written (codes "=") mark.Equal ∷ written (codes "<>") mark.Diamond
    ∷ written (codes "<") mark.Less ∷ written (codes "<=") mark.LessEqual ∷ written (codes ">") mark.Greater ∷ written (codes ">=") mark.GreaterEqual
    ∷ written (codes "+") mark.Plus ∷ written (codes "-") mark.Minus ∷ written (codes "*") mark.Star ∷ written (codes "/") mark.Slash
    ∷ written (codes "&&") mark.AndAnd ∷ written (codes "||") mark.OrOr ∷ written (codes "|") mark.Bar ∷ written (codes "!") mark.Bang
    ∷ written (codes "->") mark.Arrow ∷ []

unfoldable pub marks : List Written
marks = word_marks ++ sign_marks

-- the mark of a text among these; no token of a text is the end of the text
abbrev pub mark_in : List Written → List ℕ → Mark
mark_in [] text = mark.EndOfText
mark_in (w ∷ ws) text = if bytes_eq w.text text then w.mark else mark_in ws text

unfoldable pub mark_of : List ℕ → Mark
mark_of text = mark_in marks text

-- the token of these bytes, in this line
unfoldable pub lexeme_of : TokenKind → List ℕ → ℕ → Lexeme
lexeme_of kind.Lower bytes line = lexeme.Lower (record { word = bytes; line = line })
lexeme_of kind.Upper bytes line = lexeme.Upper (record { word = bytes; line = line })
lexeme_of kind.TypeVar bytes line = lexeme.Variable line
lexeme_of kind.Number bytes line = if number_value bytes == 2147483648 then lexeme.Greatest line else lexeme.Number (number_value bytes) line
lexeme_of kind.Keyword bytes line = lexeme.Mark (mark_of bytes) line
lexeme_of kind.Symbol bytes line = lexeme.Mark (mark_of bytes) line

abbrev pub lexeme_at : List ℕ → Token → Lexeme
lexeme_at text token = lexeme_of token.kind (slice_range text token.start token.end) token.line

abbrev pub lexemes : List ℕ → List Token → List Lexeme
lexemes text tokens = map (lexeme_at text) tokens

-- what a token of some text may be: names have their form and at most 64 bytes, and a number is below the greatest one
abbrev pub IsReal : Lexeme → Type 0
IsReal (lexeme.Lower n) = HasForm kind.Lower n.word × (length n.word ≤ 64)
IsReal (lexeme.Upper n) = HasForm kind.Upper n.word × (length n.word ≤ 64)
IsReal (lexeme.Number n l) = n < 2147483648
IsReal (lexeme.Mark mark.EndOfText l) = ⊥
IsReal t = Unit {0}
