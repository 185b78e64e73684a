-- Cited by contracts. Which tokens are a program, and where tokens stop being one: the first token that no program goes
-- on with, or whose level is above the limit. A program goes on behind some tokens where these and some more are what a
-- tree of the grammar spells.
use Rattle.std.specs.Prelude.{◌≡◌, ℕ, ◌-◌, ◌<◌, ◌≤◌, ◌⊎◌, List, [], ◌∷◌, ◌++◌, length, take, get_or}
use Rattle.std.specs.List.{AllByRecursion}
use Rattle.text_scan.specs.declared.tokens.Token.{Token}
use Rattle.text_scan.specs.Reading.{AreTokensOf, IsFaultOf, line_at}
use Rattle.camelot_grammar.specs.declared.lexeme.Lexeme.{Lexeme}
use Rattle.camelot_grammar.specs.declared.lexeme.Lexeme.TheVariants as lexeme
use Rattle.camelot_grammar.specs.declared.fault.ParseFault.{ParseFault}
use Rattle.camelot_grammar.specs.declared.fault.ParseFault.TheVariants.{Scan, Unexpected, TooDeep, TypeParameter}
use Rattle.camelot_grammar.specs.Lexemes.{lexemes, IsReal}
use Rattle.camelot_tree.specs.Tree.{Source}
use Rattle.camelot_grammar.specs.Grammar.{Decls, spell_decls}
use Rattle.camelot_grammar.specs.Program.{source_of}
use Rattle.camelot_grammar.specs.Levels.{levels_decls}

-- the highest level that a token may have
abbrev pub limit : ℕ
limit = 200

abbrev pub AreWithin : List ℕ → Type 0
AreWithin levels = AllByRecursion (λ k. k ≤ limit) levels

-- the tokens are this program, and none is above the limit
pub record IsProgram (tokens : List Lexeme) (source : Source) : Type 0 where
  pub decls : Decls
  pub spells : spell_decls decls [] ≡ tokens
  pub within : AreWithin (levels_decls decls [])
  pub is : source_of decls ≡ source

-- some program begins with these tokens, and none of them is above the limit
pub record BeginsProgram (tokens : List Lexeme) : Type 0 where
  pub decls : Decls
  pub rest : List Lexeme
  pub real : AllByRecursion IsReal rest
  pub spells : spell_decls decls [] ≡ tokens ++ rest
  pub within : AreWithin (take (length tokens) (levels_decls decls []))

-- no program goes on with the first of these tokens, or ends here where there is none
abbrev pub NoneGoesOn : List Lexeme → List Lexeme → Type 0
NoneGoesOn before [] = (decls : Decls) → spell_decls decls [] ≡ before → ⊥
NoneGoesOn before (token ∷ rest) = (decls : Decls) (after : List Lexeme) → spell_decls decls [] ≡ before ++ token ∷ after → ⊥

-- some program goes on with this token, and its level there is above the limit
pub record GoesTooDeep (before : List Lexeme) (token : Lexeme) : Type 0 where
  pub decls : Decls
  pub after : List Lexeme
  pub real : AllByRecursion IsReal after
  pub spells : spell_decls decls [] ≡ before ++ token ∷ after
  pub deep : limit < get_or (levels_decls decls []) (length before) 0

abbrev pub line_of : Lexeme → ℕ
line_of (lexeme.Lower n) = n.line
line_of (lexeme.Upper n) = n.line
line_of (lexeme.Variable l) = l
line_of (lexeme.Number v l) = l
line_of (lexeme.Greatest l) = l
line_of (lexeme.Mark m l) = l

-- the line of the first of these tokens, or that of the text's last byte where there is none
abbrev pub first_line : List Lexeme → ℕ → ℕ
first_line [] last = last
first_line (token ∷ rest) last = line_of token

-- the fault at the first of these tokens, with which no program goes on
abbrev pub stop_fault : List Lexeme → (token line : ℕ) → ParseFault
stop_fault (lexeme.Variable l ∷ rest) token line = TypeParameter token line
stop_fault rest token line = Unexpected token line

-- no program goes on here
pub record Stops (tokens : List Lexeme) (last : ℕ) (fault : ParseFault) : Type 0 where
  pub before : List Lexeme
  pub rest : List Lexeme
  pub parts : before ++ rest ≡ tokens
  pub begins : BeginsProgram before
  pub none : NoneGoesOn before rest
  pub is : fault ≡ stop_fault rest (length before) (first_line rest last)

-- a program goes on here, and is too deep
pub record Sinks (tokens : List Lexeme) (fault : ParseFault) : Type 0 where
  pub before : List Lexeme
  pub token : Lexeme
  pub rest : List Lexeme
  pub parts : before ++ token ∷ rest ≡ tokens
  pub begins : BeginsProgram before
  pub deep : GoesTooDeep before token
  pub is : fault ≡ TooDeep (length before) (line_of token)

-- the tokens aren't a program within the limit, for this reason
abbrev pub IsFaultAmong : List Lexeme → ℕ → ParseFault → Type 0
IsFaultAmong tokens last fault = Stops tokens last fault ⊎ Sinks tokens fault

-- the line of the last byte of a text
abbrev pub last_line : List ℕ → ℕ
last_line text = line_at text (length text - 1)

-- the tokens of the text have this fault
pub record HasFault (text : List ℕ) (fault : ParseFault) : Type 0 where
  pub tokens : List Token
  pub are : AreTokensOf text tokens
  pub among : IsFaultAmong (lexemes text tokens) (last_line text) fault

-- the tokens of the text are this program
pub record HasProgram (text : List ℕ) (source : Source) : Type 0 where
  pub tokens : List Token
  pub are : AreTokensOf text tokens
  pub program : IsProgram (lexemes text tokens) source

-- why a text has a fault: its reading stops for it, or its tokens have it
abbrev pub HasCause : List ℕ → ParseFault → Type 0
HasCause text (Scan fault) = IsFaultOf text fault
HasCause text fault = HasFault text fault

-- the place of a fault among the tokens
abbrev pub place_of : ParseFault → ℕ
place_of (Scan fault) = 0
place_of (Unexpected token line) = token
place_of (TooDeep token line) = token
place_of (TypeParameter token line) = token
