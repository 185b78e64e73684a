-- The tables of the code are those of the definitions.
use Rattle.std.proofs.Common.{◌≡◌, ℕ, Bool, List, refl, ◌∙◌}
use Rattle.std.specs.List.{list_any}
use Rattle.std.specs.Str.{bytes_eq}
use Rattle.text_scan.specs.declared.lexeme.TheConstants.{WORDS, SYMBOLS}
use Rattle.text_scan.specs.Forms.{words, symbols, is_word, is_symbol}

in_words_is : (name : List ℕ) → list_any (λ word. bytes_eq word.now name) WORDS ≡ is_word name
unfolding is_word words
in_words_is name = refl

in_symbols_is : (bytes : List ℕ) → list_any (λ symbol. bytes_eq symbol.now bytes) SYMBOLS ≡ is_symbol bytes
unfolding is_symbol symbols
in_symbols_is bytes = refl

pub in_words : (name : List ℕ) (r : Bool) → r ≡ list_any (λ word. bytes_eq word.now name) WORDS → r ≡ is_word name
in_words name r found = found ∙ in_words_is name

pub in_symbols : (bytes : List ℕ) (r : Bool) → r ≡ list_any (λ symbol. bytes_eq symbol.now bytes) SYMBOLS → r ≡ is_symbol bytes
in_symbols bytes r found = found ∙ in_symbols_is bytes
