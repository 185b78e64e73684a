-- The code's table of words and signs is that of the definitions, and a number token fits.
use Rattle.std.proofs.Common.{◌≡◌, ◌≤◌, ℕ, false, slice_range, List, map, refl, subst, arith}
use Rattle.text_scan.specs.Forms.{number_value, is_long_number}
use Rattle.text_scan.specs.Reading.{IsSliceOf}
use Rattle.text_scan.specs.declared.tokens.TokenKind.TheVariants as kind
use Rattle.text_scan.specs.declared.tokens.Token.{Token}
use Rattle.camelot_syntax.specs.declared.words.TheConstants.{MARKS}
use Rattle.camelot_grammar.specs.Lexemes.{marks, mark_in, mark_of}

pub entries_is : (text : List ℕ) → mark_in (map (λ e. record { text = e.0.now; mark = e.1 }) MARKS) text ≡ mark_of text
unfolding mark_of marks
entries_is text = refl

pub short_number : (text : List ℕ) (token : Token) → IsSliceOf text token → token.kind ≡ kind.Number
    → number_value (slice_range text token.start token.end) ≤ 2147483648
unfolding is_long_number
short_number text token s e =
    let h : is_long_number kind.Number (slice_range text token.start token.end) ≡ false =
    subst (λ k. is_long_number k (slice_range text token.start token.end) ≡ false) e s.no_long_number in
    grind (arith, h)
